use Rattle.std.proofs.Common.{◌≡◌, ◌++◌, drop, nat_cmp}
use Rattle.plane_graphs.specs.Ascending.{place}
use Rattle.mirror_observer.specs.Tables.{numbers_in}
use Rattle.mirror_observer.specs.Lists.{placed_from}
use Rattle.mirror_observer.proofs.curves.with_curve.Given as goal

abbrev pub invariant-loop-next : goal.invariant-loop-next
invariant-loop-next l = numbers_in l.more ++ placed_from l.curve.0 l.come (numbers_in (drop l.next-index l.curves)) ≡ place nat_cmp l.curve.0 (numbers_in l.curves)

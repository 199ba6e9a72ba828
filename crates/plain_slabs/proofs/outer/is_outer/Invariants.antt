use Rattle.std.proofs.Common.{◌≡◌, take}
use Rattle.std.specs.Prelude.{◌==◌, ◌%◌}
use Rattle.std.specs.List.{count_by}
use Rattle.slab_laws.specs.SpansDrawn.{drawn}
use Rattle.slab_laws.specs.Rows.{dart_list, dart_at}
use Rattle.plain_slabs.proofs.Oddness.{counts}
use Rattle.plain_slabs.proofs.outer.is_outer.Given as goal

abbrev pub invariant-loop-place : goal.invariant-loop-place
invariant-loop-place l =
    let g = drawn l.fn.points l.fn.edges in
    l.is_odd ≡ (count_by (counts g (dart_at g l.fn.lead)) (take l.place (dart_list g)) % 2 == 1)

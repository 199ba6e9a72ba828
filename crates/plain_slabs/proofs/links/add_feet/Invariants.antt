use Rattle.std.proofs.Common.{◌≡◌, ◌++◌, take}
use Rattle.plain_slabs.proofs.Loops.{gathered}
use Rattle.plain_slabs.proofs.Gathered.{is_passing, foot_of}
use Rattle.plain_slabs.proofs.links.add_feet.Given as goal

abbrev pub invariant-loop-k : goal.invariant-loop-k
invariant-loop-k l = l.list.items ≡ l.fn.list.items ++ gathered (is_passing l.wall) (foot_of l.points l.edges l.wall) (take l.k l.edges)

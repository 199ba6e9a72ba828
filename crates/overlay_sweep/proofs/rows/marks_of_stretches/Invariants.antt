use Rattle.std.proofs.Common.{◌≡◌, map, take}
use Rattle.present_graphs.specs.Marks.{mark_of}
use Rattle.slab_laws.specs.Pieces.{present_of}
use Rattle.sweep_graphs.specs.Edges.{mark_along}
use Rattle.overlay_sweep.proofs.rows.marks_of_stretches.Given as goal

abbrev pub invariant-loop-stretch : goal.invariant-loop-stretch
invariant-loop-stretch l = map mark_of l.marks.items ≡ map (mark_along (present_of l.present) l.points) (take l.stretch-index l.stretches)

use Rattle.std.proofs.Common.{◌≡◌, ◌++◌, map, take}
use Rattle.plane_graphs.specs.Graph.{mark}
use Rattle.slab_laws.specs.declared.names.CurveId.{CurveId}
use Rattle.present_graphs.specs.Marks.{mark_of}
use Rattle.plain_slabs.proofs.names.add_marks.Given as goal

abbrev pub invariant-loop-curve : goal.invariant-loop-curve
invariant-loop-curve g l = map mark_of l.marks.items ≡ map mark_of l.fn.marks.items ++ map (λ (c : CurveId). mark l.dart.source l.dart.target c.0) (take l.curve-index l.curve-items)

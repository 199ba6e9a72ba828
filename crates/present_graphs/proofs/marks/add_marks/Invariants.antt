use Rattle.std.proofs.Common.{◌≡◌, ◌++◌, map}
use Rattle.slab_laws.specs.Pieces.{piece_of}
use Rattle.present_graphs.specs.Marks.{mark_of}
use Rattle.present_graphs.proofs.Chains.{chain_of, left}
use Rattle.present_graphs.proofs.marks.add_marks.Given as goal

abbrev pub invariant-loop-point : goal.invariant-loop-point
invariant-loop-point l = map mark_of l.marks.items ++ left (piece_of l.piece) l.last l.points l.point-index ≡ map mark_of l.fn.marks.items ++ chain_of l.points (piece_of l.piece)

use Rattle.std.proofs.Common.{◌≡◌, map, take}
use Rattle.std.specs.List.{flat_map}
use Rattle.slab_laws.specs.Pieces.{piece_of}
use Rattle.present_graphs.specs.Marks.{mark_of}
use Rattle.present_graphs.proofs.Chains.{chain_of}
use Rattle.present_graphs.proofs.marks.marks_of.Given as goal

abbrev pub invariant-loop-piece : goal.invariant-loop-piece
invariant-loop-piece l = map mark_of l.marks.items ≡ flat_map (chain_of l.points) (take l.piece-index (map piece_of l.piece-items))

use Rattle.std.proofs.Common.{◌≡◌, ◌++◌, map, take}
use Rattle.std.specs.List.{flat_map}
use Rattle.plane_graphs.specs.Graph.{ends}
use Rattle.slab_laws.specs.Pieces.{piece_of}
use Rattle.present_graphs.proofs.vertices.add_ends.Given as goal

abbrev pub invariant-loop-piece : goal.invariant-loop-piece
invariant-loop-piece l = l.points.items ≡ l.fn.points.items ++ flat_map ends (take l.piece-index (map piece_of l.pieces))

use Rattle.std.proofs.Common.{◌≡◌, map, take}
use Rattle.std.specs.List.{filter}
use Rattle.slab_laws.specs.declared.present.Piece.{Piece}
use Rattle.slab_laws.specs.Overlay.{runs_along}
use Rattle.slab_laws.specs.Pieces.{piece_of}
use Rattle.slab_laws.specs.SpansDrawn.{edge_of}
use Rattle.plain_slabs.proofs.layer_table.curves_among.Given as goal

abbrev pub invariant-loop-piece : goal.invariant-loop-piece
invariant-loop-piece l = l.curves.items ≡ map (λ (k : Piece). k.curve) (filter (λ (k : Piece). runs_along (edge_of l.edge) (piece_of k)) (take l.piece-index l.pieces))

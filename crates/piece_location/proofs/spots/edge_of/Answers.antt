use Rattle.std.specs.Prelude.{ℕ}
use Rattle.plane_graphs.proofs.Lines.{point_is_proper}
use Rattle.plane_graphs.proofs.Lists.{in_map}
use Rattle.slab_laws.specs.declared.present.Piece.{Piece as PieceInMemory}
use Rattle.piece_location.proofs.Layers.{fit_rows, never_none, told}
use Rattle.piece_location.proofs.spots.edge_of.Goals as goal

pub piece-piece-requires : goal.piece-piece-requires
piece-piece-requires c = in_map (λ (z : ℕ × PieceInMemory). z.0) (c.args.name, c.requires.name.0) c.args.history.now.rows c.requires.name.1

pub edge_at-requires-clause-told : goal.edge_at-requires-clause-told
edge_at-requires-clause-told c = told c.args.records.now.graph c.args.history.now c.requires.past c.row_laws.ensures.pieces

pub edge_at-requires-clause-side : goal.edge_at-requires-clause-side
edge_at-requires-clause-side c = (fit_rows c.args.records.now.graph c.args.history.now c.requires.past c.row_laws.ensures.pieces (c.args.name, c.piece-piece.result.now) c.piece-piece.ensures).last_side

pub unreachable-requires : goal.unreachable-requires
unreachable-requires c =
    never_none c.args.records.now.graph c.args.history.now c.requires.past c.row_laws.ensures.pieces c.args.point.now (point_is_proper c.args.point.now c.laws.ensures)
    c.row_laws.ensures.once c.requires.free c.args.name c.requires.name c.piece-piece.result.now c.piece-piece.ensures c.in-None.ensures.none

use Rattle.curve_pieces.specs.PiecesInMemory.{rows_from}
use Rattle.curve_pieces.proofs.Changed.{has_row, same_curve, exchanged, order_set, kept_set, piece_set, pieces_unset}
use Rattle.curve_pieces.proofs.Indexed.{row_is, row_was}
use Rattle.curve_pieces.proofs.pieces.Pieces.set.Goals as goal

pub index-requires : goal.index-requires
index-requires c = has_row c.self.inside.rows c.self.inside.ends c.self.inside.heads _ c.self.view_is c.self.invariant.sound c.args.name c.requires.has

pub index_mut-requires : goal.index_mut-requires
index_mut-requires c = has_row c.self.inside.rows c.self.inside.ends c.self.inside.heads _ c.self.view_is c.self.invariant.sound c.args.name c.requires.has

pub invariant_of-self : goal.invariant_of-self
invariant_of-self c =
    let was = c.index_mut.ensures.value in
    let same = same_curve c.self.inside.rows c.self.inside.ends c.self.inside.heads _ c.self.view_is c.self.invariant.sound c.args.name c.args.piece.curve c.requires.curve _ was in
    let agree = pieces_unset c.self.inside.rows c.args.name _ was c.args.piece same in
    let has = piece_set c.self.inside.rows c.args.name _ was c.args.piece same in
    let order = order_set c.self.inside.rows c.args.name _ was c.args.piece same c.self.inside.ends c.self.invariant.sound.order in
    record {
      sound = kept_set c.self.inside.rows c.args.name _ was c.args.piece same c.self.inside.ends c.self.invariant.sound.order c.self.inside.heads c.self.invariant.sound.curves;
      boxes = c.exchange.ensures.rows (rows_from c.self.inside.rows c.self.inside.ends.first) _ _ c.self.invariant.boxes
          (row_was c.self.inside.rows _ c.self.inside.ends c.self.invariant.sound.order c.args.name agree c.index.result.now c.index.ensures c.args.piece has order)
          (row_is c.self.inside.rows _ c.self.inside.ends c.self.invariant.sound.order c.args.name agree c.index.result.now c.index.ensures c.args.piece has order);
    }

pub returns-clause-rows : goal.returns-clause-rows
returns-clause-rows c =
    let same = same_curve c.self.inside.rows c.self.inside.ends c.self.inside.heads _ c.self.view_is c.self.invariant.sound c.args.name c.args.piece.curve c.requires.curve _ c.index_mut.ensures.value in
    exchanged c.self.inside.rows c.self.inside.ends c.self.inside.heads _ c.self.view_is c.self.invariant.sound _ c.args.name c.args.piece (pieces_unset c.self.inside.rows c.args.name _ c.index_mut.ensures.value c.args.piece same) (piece_set c.self.inside.rows c.args.name _ c.index_mut.ensures.value c.args.piece same) (order_set c.self.inside.rows c.args.name _ c.index_mut.ensures.value c.args.piece same c.self.inside.ends c.self.invariant.sound.order)

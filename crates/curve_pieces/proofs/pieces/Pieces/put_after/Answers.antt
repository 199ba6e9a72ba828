use Rattle.std.proofs.Common.{Some, None, is_some, refl, sym, ap, subst, ◌≡◌, ◌∙◌}
use Rattle.std.specs.Option.{option_copied_mut}
use Rattle.plane_graphs.proofs.Lists.{some_mapped}
use Rattle.slab_laws.specs.Tables.{row_at}
use Rattle.linked_chains.proofs.Heads.{head_written}
use Rattle.linked_chains.proofs.Reading.{row_lookup}
use Rattle.curve_pieces.specs.PieceRows.{HasPiece}
use Rattle.curve_pieces.specs.PiecesInMemory.{curve_nodes, rows_from, with_head}
use Rattle.curve_pieces.proofs.Changed.{added_after, curve_headed, has_room, has_row}
use Rattle.curve_pieces.proofs.Heads.{as_head, found_now, headed_as, same_heads}
use Rattle.curve_pieces.proofs.pieces.Pieces.put_after.Goals as goal

pub unwrap-head-requires : goal.unwrap-head-requires
unwrap-head-requires c = sym (some_mapped _ c.get_mut.result) ∙ ap is_some (c.get_mut.ensures.value ∙ sym (row_lookup c.self.inside.heads.entries c.args.piece.curve.0)) ∙ curve_headed c.self.inside.rows c.self.inside.ends c.self.inside.heads _ c.self.view_is c.self.invariant.sound c.args.place c.args.piece.curve c.requires.has c.requires.curve

pub put_row-name-requires-clause-place : goal.put_row-name-requires-clause-place
put_row-name-requires-clause-place c = λ n (e : Some c.args.place ≡ Some n). has_row c.self.inside.rows c.self.inside.ends c.self.inside.heads _ c.self.view_is c.self.invariant.sound n (let q : c.args.place ≡ n = cc in subst (HasPiece c.args.self.now) q c.requires.has)

pub put_row-name-requires-clause-head : goal.put_row-name-requires-clause-head
put_row-name-requires-clause-head c = (row_at c.self.inside.heads.entries, as_head (curve_nodes c.self.inside.rows) c.args.piece.curve.0 c.unwrap-head.result.now (row_at c.self.inside.heads.entries) (found_now c.self.inside.heads c.args.piece.curve.0 c.unwrap-head.result.now (sym c.get_mut.ensures.value ∙ ap option_copied_mut c.unwrap-head.ensures)) c.self.invariant.sound.curves)

pub put_row-name-requires-clause-room : goal.put_row-name-requires-clause-room
put_row-name-requires-clause-room c = has_room c.self.inside.rows c.self.inside.ends c.self.inside.heads _ c.self.view_is c.self.invariant.sound c.requires.room

pub invariant_of-self : goal.invariant_of-self
invariant_of-self c = record {
  sound = record {
    order = c.put_row-name.ensures.order;
    curves = same_heads (curve_nodes c.put_row-name.new.rows) c.args.piece.curve.0 (with_head c.args.piece.curve.0 (Some c.put_row-name.result) (row_at c.self.inside.heads.entries)) (row_at (c.get_mut.follows.lender (Some c.put_row-name.result)).entries)
        (headed_as c.self.inside.heads (c.get_mut.follows.lender (Some c.put_row-name.result)) c.args.piece.curve.0 (Some c.put_row-name.result) (head_written c.self.inside.heads _ c.args.piece.curve.0 None (Some c.put_row-name.result) refl (curve_headed c.self.inside.rows c.self.inside.ends c.self.inside.heads _ c.self.view_is c.self.invariant.sound c.args.place c.args.piece.curve c.requires.has c.requires.curve) (c.get_mut.follows.holds (Some c.put_row-name.result))))
        (c.put_row-name.ensures.curves (row_at c.self.inside.heads.entries) (as_head (curve_nodes c.self.inside.rows) c.args.piece.curve.0 c.unwrap-head.result.now (row_at c.self.inside.heads.entries) (found_now c.self.inside.heads c.args.piece.curve.0 c.unwrap-head.result.now (sym c.get_mut.ensures.value ∙ ap option_copied_mut c.unwrap-head.ensures)) c.self.invariant.sound.curves));
  };
  boxes = c.put.ensures (rows_from c.self.inside.rows c.self.inside.ends.first) (rows_from c.put_row-name.new.rows c.put_row-name.new.ends.first) c.self.invariant.boxes c.put_row-name.ensures.more;
}

pub returns-clause-rows : goal.returns-clause-rows
returns-clause-rows c = added_after c.self.inside.rows c.self.inside.ends c.self.inside.heads _ c.self.view_is c.self.invariant.sound c.put_row-name.new.rows c.put_row-name.new.ends c.put_row-name.result c.args.piece c.put_row-name.ensures.vacant c.put_row-name.ensures.piece c.put_row-name.ensures.others c.args.place c.put_row-name.ensures.names

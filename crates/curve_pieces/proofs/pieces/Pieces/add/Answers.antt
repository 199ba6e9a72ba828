use Rattle.std.proofs.Common.{Some, subst, sym, ◌∙◌}
use Rattle.slab_laws.specs.Tables.{row_at}
use Rattle.chain_laws.specs.Links.{AreListed}
use Rattle.curve_pieces.specs.PiecesInMemory.{curve_nodes, rows_from, with_head}
use Rattle.curve_pieces.proofs.Changed.{added_last, last_there}
use Rattle.curve_pieces.proofs.Heads.{as_head, found_first, put_in, same_heads, told}
use Rattle.linked_chains.proofs.Seen.{succeeded}
use Rattle.curve_pieces.proofs.pieces.Pieces.add.Goals as goal

pub put_row-name-requires-clause-place : goal.put_row-name-requires-clause-place
put_row-name-requires-clause-place c = last_there c.self.inside.rows c.self.inside.ends c.self.inside.heads _ c.self.view_is c.self.invariant.sound

pub put_row-name-requires-clause-head : goal.put_row-name-requires-clause-head
put_row-name-requires-clause-head c = (row_at c.self.inside.heads.entries, as_head (curve_nodes c.self.inside.rows) c.args.piece.curve.0 c.first_in.result (row_at c.self.inside.heads.entries) (found_first c.self.inside.heads c.args.piece.curve.0 c.first_in.result c.unwrap-entry.result c.first_in.ensures (told _ c.insert.result c.unwrap-entry.result c.unwrap-entry.ensures c.insert.ensures.old)) c.self.invariant.sound.curves)

pub invariant_of-self : goal.invariant_of-self
invariant_of-self c = record {
  sound = record {
    order = c.put_row-name.ensures.order;
    curves = same_heads (curve_nodes c.put_row-name.new.rows) c.args.piece.curve.0 (with_head c.args.piece.curve.0 (Some c.vacant_key-name.result) (row_at c.self.inside.heads.entries)) (row_at c.insert.new.self.entries)
        (put_in c.self.inside.heads c.insert.new.self c.args.piece.curve.0 _ (succeeded c.insert.result c.unwrap-entry.result c.unwrap-entry.ensures c.insert.ensures.updates))
        (subst (λ n. AreListed (with_head c.args.piece.curve.0 (Some n) (row_at c.self.inside.heads.entries)) (curve_nodes c.put_row-name.new.rows)) (c.put_row-name.ensures.key ∙ sym c.vacant_key-name.ensures.value)
        (c.put_row-name.ensures.curves (row_at c.self.inside.heads.entries)
        (as_head (curve_nodes c.self.inside.rows) c.args.piece.curve.0 c.first_in.result (row_at c.self.inside.heads.entries) (found_first c.self.inside.heads c.args.piece.curve.0 c.first_in.result c.unwrap-entry.result c.first_in.ensures (told _ c.insert.result c.unwrap-entry.result c.unwrap-entry.ensures c.insert.ensures.old)) c.self.invariant.sound.curves)));
  };
  boxes = c.put.ensures (rows_from c.self.inside.rows c.self.inside.ends.first) (rows_from c.put_row-name.new.rows c.put_row-name.new.ends.first) c.self.invariant.boxes c.put_row-name.ensures.more;
}

pub returns-clause-rows : goal.returns-clause-rows
returns-clause-rows c = added_last c.self.inside.rows c.self.inside.ends c.self.inside.heads _ c.self.view_is c.self.invariant.sound c.put_row-name.new.rows c.put_row-name.new.ends c.put_row-name.result c.args.piece c.put_row-name.ensures.vacant c.put_row-name.ensures.piece c.put_row-name.ensures.others c.put_row-name.ensures.names

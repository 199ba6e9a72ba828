use Rattle.std.proofs.Common.{ap, ◌∙◌}
use Rattle.std.specs.List.{filter}
use Rattle.slab_laws.specs.Tables.{row_at}
use Rattle.curve_pieces.specs.PiecesInMemory.{curve_nodes, with_head}
use Rattle.curve_pieces.proofs.Changed.{rows_seen}
use Rattle.curve_pieces.proofs.Emptied.{is_other}
use Rattle.curve_pieces.proofs.Heads.{as_head, found_first, no_head, same_heads, taken_out}
use Rattle.curve_pieces.proofs.pieces.Pieces.remove_curve.Goals as goal

pub take_curve-requires-clause-head : goal.take_curve-requires-clause-head
take_curve-requires-clause-head c = (row_at c.swap_remove.new.self.entries, same_heads (curve_nodes c.self.inside.rows) c.args.curve.0 (with_head c.args.curve.0 c.first_in-first.result (row_at c.self.inside.heads.entries)) (with_head c.args.curve.0 c.first_in-first.result (row_at c.swap_remove.new.self.entries)) ((taken_out c.self.inside.heads c.swap_remove.new.self c.args.curve.0 c.swap_remove.ensures.updates).1 c.first_in-first.result) (as_head (curve_nodes c.self.inside.rows) c.args.curve.0 c.first_in-first.result (row_at c.self.inside.heads.entries) (found_first c.self.inside.heads c.args.curve.0 c.first_in-first.result c.swap_remove.result c.first_in-first.ensures c.swap_remove.ensures.value) c.self.invariant.sound.curves))

pub invariant_of-self : goal.invariant_of-self
invariant_of-self c = record {
  sound = record {
    order = c.take_curve.ensures.order;
    curves = no_head (curve_nodes c.take_curve.new.rows) c.args.curve.0 (row_at c.swap_remove.new.self.entries) (taken_out c.self.inside.heads c.swap_remove.new.self c.args.curve.0 c.swap_remove.ensures.updates).0
        (c.take_curve.ensures.curves (row_at c.swap_remove.new.self.entries) (same_heads (curve_nodes c.self.inside.rows) c.args.curve.0 (with_head c.args.curve.0 c.first_in-first.result (row_at c.self.inside.heads.entries)) (with_head c.args.curve.0 c.first_in-first.result (row_at c.swap_remove.new.self.entries)) ((taken_out c.self.inside.heads c.swap_remove.new.self c.args.curve.0 c.swap_remove.ensures.updates).1 c.first_in-first.result) (as_head (curve_nodes c.self.inside.rows) c.args.curve.0 c.first_in-first.result (row_at c.self.inside.heads.entries) (found_first c.self.inside.heads c.args.curve.0 c.first_in-first.result c.swap_remove.result c.first_in-first.ensures c.swap_remove.ensures.value) c.self.invariant.sound.curves)));
  };
  boxes = c.take_curve.ensures.index;
}

pub returns-clause-rows : goal.returns-clause-rows
returns-clause-rows c = c.take_curve.ensures.rows ∙ ap (filter (is_other c.args.curve.0)) (rows_seen c.self.inside.rows c.self.inside.ends c.self.inside.heads _ c.self.view_is c.self.invariant.sound)

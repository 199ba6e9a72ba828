use Rattle.slab_laws.specs.Tables.{row_at}
use Rattle.curve_pieces.specs.PiecesInMemory.{rows_from}
use Rattle.curve_pieces.proofs.Changed.{has_row, lost, own_head}
use Rattle.curve_pieces.proofs.pieces.Pieces.remove.Goals as goal

pub take_row-gone-requires-clause-has : goal.take_row-gone-requires-clause-has
take_row-gone-requires-clause-has c = has_row c.self.inside.rows c.self.inside.ends c.self.inside.heads _ c.self.view_is c.self.invariant.sound c.args.name c.requires

pub take_row-gone-requires-clause-curves : goal.take_row-gone-requires-clause-curves
take_row-gone-requires-clause-curves c = (row_at c.self.inside.heads.entries, c.self.invariant.sound.curves)

pub set_head-requires : goal.set_head-requires
set_head-requires c = own_head c.self.inside.rows c.self.inside.ends c.self.inside.heads _ c.self.view_is c.self.invariant.sound c.args.name c.take_row-gone.result c.take_row-gone.ensures.value

pub invariant_of-self : goal.invariant_of-self
invariant_of-self c = record {
  sound = record { order = c.take_row-gone.ensures.order; curves = c.take_row-gone.ensures.curves _ (row_at c.set_head.new.heads.entries) c.self.invariant.sound.curves c.set_head.ensures.heads };
  boxes = c.take.ensures.rows (rows_from c.self.inside.rows c.self.inside.ends.first) (rows_from c.take_row-gone.new.rows c.take_row-gone.new.ends.first) c.self.invariant.boxes c.take_row-gone.ensures.fewer;
}

pub returns-clause-rows : goal.returns-clause-rows
returns-clause-rows c = lost c.self.inside.rows c.self.inside.ends c.self.inside.heads _ c.self.view_is c.self.invariant.sound c.take_row-gone.new.rows c.take_row-gone.new.ends c.args.name c.take_row-gone.ensures.others c.take_row-gone.ensures.names

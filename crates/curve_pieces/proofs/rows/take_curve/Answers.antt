use Rattle.std.proofs.Common.{arith, refl, sym, ◌∙◌}
use Rattle.curve_pieces.specs.PiecesInMemory.{order_from, rows_from, with_head}
use Rattle.curve_pieces.proofs.Emptied.{first_there, headed, others_stay, only_others}
use Rattle.curve_pieces.proofs.rows.take_curve.Goals as goal

pub each-init : goal.each-init
each-init c = record { order = c.requires.order; rows = refl; curves = λ heads l. l; len = omega arith; capacity = refl; index = c.requires.index; whole = refl }

pub take_row-gone-requires-clause-has : goal.take_row-gone-requires-clause-has
take_row-gone-requires-clause-has c = first_there c.each.rows c.args.curve c.each.at c.requires.head.0 (c.each.invariant.curves c.requires.head.0 c.requires.head.1) c.in-Some.name c.in-Some.is

pub each-preserved : goal.each-preserved
each-preserved c =
    let l = c.each.invariant.curves c.requires.head.0 c.requires.head.1 in
    record {
      order = c.take_row-gone.ensures.order;
      rows = others_stay c.each.rows c.args.curve c.each.at c.requires.head.0 l c.in-Some.name c.in-Some.is c.take_row-gone.result c.take_row-gone.ensures.value c.take_row-gone.new.rows (order_from c.each.rows c.each.ends.first) (order_from c.take_row-gone.new.rows c.take_row-gone.new.ends.first) c.take_row-gone.ensures.names c.take_row-gone.ensures.others ∙ c.each.invariant.rows;
      curves = λ heads k.
          let m = c.each.invariant.curves heads k in
          c.take_row-gone.ensures.curves (with_head c.args.curve c.each.at heads) (with_head c.args.curve c.take_row-gone.result.curve.after heads) m (headed c.each.rows c.args.curve c.each.at heads m c.in-Some.name c.in-Some.is c.take_row-gone.result c.take_row-gone.ensures.value);
      len = let h = c.each.invariant.len in let g = c.take_row-gone.ensures.len in omega arith;
      capacity = c.take_row-gone.ensures.capacity ∙ c.each.invariant.capacity;
      index = c.take.ensures.rows (rows_from c.each.rows c.each.ends.first) (rows_from c.take_row-gone.new.rows c.take_row-gone.new.ends.first) c.each.invariant.index c.take_row-gone.ensures.fewer;
      whole = c.take.ensures.whole ∙ c.each.invariant.whole;
    }

pub returns-clause-rows : goal.returns-clause-rows
returns-clause-rows c = sym (only_others c.each.rows c.args.curve c.each.at c.requires.head.0 (c.each.invariant.curves c.requires.head.0 c.requires.head.1) c.in_default.is (order_from c.each.rows c.each.ends.first)) ∙ c.each.invariant.rows

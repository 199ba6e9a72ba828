use Rattle.std.proofs.Common.{sym, ◌∙◌}
use Rattle.arrangement.proofs.PresentsRead.{no_pins}
use Rattle.arrangement.proofs.presents.pins_in_order.Goals as goal

pub pins_of-requires-clause-vertices : goal.pins_of-requires-clause-vertices
pins_of-requires-clause-vertices c = c.deref.ensures.value ∙ c.in_ok-vertices.ensures

pub returns-then-pins-eq0 : goal.returns-then-pins-eq0
returns-then-pins-eq0 c = c.new.ensures ∙ sym (no_pins c.args.records.now.graph c.requires (sym c.pins.ensures ∙ c.if-pins-eq0.true))

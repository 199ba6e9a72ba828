use Rattle.std.proofs.Common.{refl}
use Rattle.curve_history.proofs.Naming.{kept_none, held_nothing, named_none}
use Rattle.curve_history.proofs.Sides.{nothing_runs}
use Rattle.curve_history.proofs.history.History.new.Goals as goal

pub invariant_of-result : goal.invariant_of-result
invariant_of-result c = kept_none _ _ _ _ c.new.ensures.nodes c.new-2.ensures.nodes c.new.ensures.heads c.new-2.ensures.heads c.new-3.ensures.rows (c.requires, c.ranges.first.fits)

pub returns-clause-nothing : goal.returns-clause-nothing
returns-clause-nothing c = held_nothing _ c.new.result refl c.new.ensures.nodes

pub returns-clause-curves : goal.returns-clause-curves
returns-clause-curves c = nothing_runs _ (held_nothing _ c.new.result refl c.new.ensures.nodes)

pub returns-clause-names : goal.returns-clause-names
returns-clause-names c = named_none c.new-2.result c.new-2.ensures.heads

use Rattle.std.proofs.Common.{refl}
use Rattle.curve_history.proofs.Naming.{kept_none, held_nothing, named_none}
use Rattle.curve_history.proofs.Sides.{nothing_runs}
use Rattle.curve_history.proofs.history.History.clear.Goals as goal

pub invariant_of-self : goal.invariant_of-self
invariant_of-self c = kept_none _ _ _ _ c.clear.ensures.nodes c.clear-2.ensures.nodes c.clear.ensures.heads c.clear-2.ensures.heads c.clear-3.ensures.rows c.self.invariant.last

pub returns-clause-strands : goal.returns-clause-strands
returns-clause-strands c = held_nothing _ c.clear.new.self refl c.clear.ensures.nodes

pub returns-clause-curves : goal.returns-clause-curves
returns-clause-curves c = nothing_runs _ (held_nothing _ c.clear.new.self refl c.clear.ensures.nodes)

pub returns-clause-names : goal.returns-clause-names
returns-clause-names c = named_none c.clear-2.new.self c.clear-2.ensures.heads

use Rattle.std.proofs.Common.{inl, sym, ap, ◌∙◌}
use Rattle.curve_history.proofs.Placing.{put_elsewhere}
use Rattle.curve_history.proofs.Walking.{at_node, node_at}
use Rattle.linked_chains.specs.Chains.{chain, put_at}
use Rattle.curve_history.proofs.pairs.push_next.Goals as goal

pub push_after-requires-clause-has : goal.push_after-requires-clause-has
push_after-requires-clause-has c = at_node _ _ _ (c.laws.ensures.whole _) (c.requires.place _ c.in-Some.is)

pub returns-in-Some-clause-entries : goal.returns-in-Some-clause-entries
returns-in-Some-clause-entries c = c.push_after.ensures.entries _ (node_at _ _ _ (c.laws.ensures.whole _) (c.requires.place _ c.in-Some.is)).1

pub returns-in-Some-clause-here : goal.returns-in-Some-clause-here
returns-in-Some-clause-here c = c.push_after.ensures.chains _ ∙ ap (λ o. put_at o c.push_after.result (chain c.args.edges.now c.args.edge)) (sym c.in-Some.is)

pub returns-in-Some-clause-others : goal.returns-in-Some-clause-others
returns-in-Some-clause-others c = λ k ne. c.push_after.ensures.chains k ∙ put_elsewhere _ _ _ _ _ c.laws.ensures.whole (c.requires.place _ c.in-Some.is) ne

pub returns-in-Some-clause-keys : goal.returns-in-Some-clause-keys
returns-in-Some-clause-keys c = λ k h. inl ((c.push_after.ensures.keys k).1 h)

pub start-requires-clause-new : goal.start-requires-clause-new
start-requires-clause-new c = c.requires.first c.in-None.is

pub returns-in-None-clause-here : goal.returns-in-None-clause-here
returns-in-None-clause-here c = c.start.ensures.here ∙ ap (λ o. put_at o c.start.result (chain c.args.edges.now c.args.edge)) (sym c.in-None.is)

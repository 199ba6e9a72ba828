use Rattle.std.proofs.Common.{sym, ap, ◌∙◌}
use Rattle.linked_chains.specs.Chains.{chain, put_at}
use Rattle.curve_history.proofs.pairs.push_at.Goals as goal

pub push_next-requires-clause-first : goal.push_next-requires-clause-first
push_next-requires-clause-first c = λ e. let z = sym c.in-Some.is ∙ e in absurd (cc z)

pub returns-in-None-clause-here : goal.returns-in-None-clause-here
returns-in-None-clause-here c = c.push_first.ensures.here ∙ ap (λ o. put_at o c.push_first.result (chain c.args.edges.now c.args.edge)) (sym c.in-None.is)

use Rattle.std.proofs.Common.{◌∙◌, subst}
use Rattle.edit_steps.specs.EditLaws.{curve_of}
use Rattle.curve_history.specs.HistoryInMemory.{entry}
use Rattle.curve_history.proofs.Placing.{put_node}
use Rattle.curve_history.proofs.Twins.{IsNodeMore, node_more, twin_set, pair_more, pairs_more}
use Rattle.curve_history.proofs.pairs.hold_after.Goals as goal

-- the node of the edge, and its twin
of_edge : (c : goal.After-set_twin) → IsNodeMore c.args.edges.now c.set_twin.new.self c.push_at-node.result (entry c.args.edge c.args.strand c.push-twin.result)
of_edge c = twin_set _ c.push_at-node.new.edges _ _ _ _ _ _ (node_more _ _ _ _ c.push_at-node.ensures.name c.push_at-node.ensures.entries) c.set_twin.ensures.entries

of_curve : (c : goal.After-set_twin) → IsNodeMore c.args.curves.now c.push-twin.new.self c.push-twin.result (entry (curve_of c.args.strand) c.args.edge c.push_at-node.result)
of_curve c = subst (λ k. IsNodeMore c.args.curves.now c.push-twin.new.self c.push-twin.result (entry k c.args.edge c.push_at-node.result)) c.curve_of.ensures (node_more _ _ _ _ c.push-twin.ensures.name c.push-twin.ensures.entries)

pub returns-clause-pairs : goal.returns-clause-pairs
returns-clause-pairs c = pairs_more _ _ _ _ _ _ _ _ (of_edge c) (of_curve c) c.requires.new c.requires.pairs

pub returns-clause-more : goal.returns-clause-more
returns-clause-more c = pair_more _ _ _ _ _ _ (of_edge c) (λ k ne. c.set_twin.ensures.chains.chains k ∙ c.push_at-node.ensures.others k ne) (λ k h. c.push_at-node.ensures.keys k ((c.set_twin.ensures.chains.keys k).1 h))

pub returns-clause-put : goal.returns-clause-put
returns-clause-put c = put_node _ _ _ _ _ _ _ (c.laws.ensures.whole _) (of_edge c) (c.set_twin.ensures.chains.chains _ ∙ c.push_at-node.ensures.here)

use Rattle.std.proofs.Common.{◌∙◌, subst}
use Rattle.edit_steps.specs.EditLaws.{curve_of}
use Rattle.curve_history.specs.HistoryInMemory.{entry}
use Rattle.curve_history.proofs.Placing.{put_node}
use Rattle.curve_history.proofs.Reading.{node_of}
use Rattle.curve_history.proofs.Twins.{IsNodeMore, node_more, twin_set, pair_more, pairs_more}
use Rattle.curve_history.proofs.pairs.hold_beside.Goals as goal

pub push_after-twin-requires-clause-has : goal.push_after-twin-requires-clause-has
push_after-twin-requires-clause-has c = let w = c.requires.near in node_of c.args.curves.now c.args.near w.0 w.1

-- the node of the edge, and its twin
of_edge : (c : goal.After-set_twin) → IsNodeMore c.args.edges.now c.set_twin.new.self c.push_next-node.result (entry c.args.edge c.args.strand c.push_after-twin.result)
of_edge c = twin_set _ c.push_next-node.new.edges _ _ _ _ _ _ (node_more _ _ _ _ c.push_next-node.ensures.name c.push_next-node.ensures.entries) c.set_twin.ensures.entries

of_curve : (c : goal.After-set_twin) → IsNodeMore c.args.curves.now c.push_after-twin.new.self c.push_after-twin.result (entry (curve_of c.args.strand) c.args.edge c.push_next-node.result)
of_curve c =
    let w = c.requires.near in
    subst (λ k. IsNodeMore c.args.curves.now c.push_after-twin.new.self c.push_after-twin.result (entry k c.args.edge c.push_next-node.result)) w.2 (node_more _ _ _ _ c.push_after-twin.ensures.name (c.push_after-twin.ensures.entries w.0 w.1))

pub returns-clause-pairs : goal.returns-clause-pairs
returns-clause-pairs c = pairs_more _ _ _ _ _ _ _ _ (of_edge c) (of_curve c) c.requires.new c.requires.pairs

pub returns-clause-more : goal.returns-clause-more
returns-clause-more c = pair_more _ _ _ _ _ _ (of_edge c) (λ k ne. c.set_twin.ensures.chains.chains k ∙ c.push_next-node.ensures.others k ne) (λ k h. c.push_next-node.ensures.keys k ((c.set_twin.ensures.chains.keys k).1 h))

pub returns-clause-put : goal.returns-clause-put
returns-clause-put c = put_node _ _ _ _ _ _ _ (c.laws.ensures.whole _) (of_edge c) (c.set_twin.ensures.chains.chains _ ∙ c.push_next-node.ensures.here)

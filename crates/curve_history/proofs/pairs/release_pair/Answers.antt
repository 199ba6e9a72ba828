use Rattle.curve_history.specs.HistoryInMemory.{entry}
use Rattle.edit_steps.specs.EditLaws.{curve_of}
use Rattle.curve_history.proofs.Placing.{ordered_less}
use Rattle.curve_history.proofs.Reading.{node_of}
use Rattle.curve_history.proofs.Twins.{beside, IsNodeLess, node_less, pair_less, pairs_less, less_at}
use Rattle.curve_history.proofs.pairs.release_pair.Goals as goal

pub remove-requires-2 : goal.remove-requires-2
remove-requires-2 c = node_of c.args.curves.now c.entry-twin.result.twin (entry (curve_of c.entry-twin.result.item) c.entry-twin.result.key c.args.node) (beside _ _ _ _ _ _ c.requires.pairs c.entry-twin.ensures)

of_edge : (c : goal.After-remove-2) → IsNodeLess c.args.edges.now c.remove.new.self c.args.node (entry c.entry-twin.result.key c.entry-twin.result.item c.entry-twin.result.twin)
of_edge c = node_less _ _ _ _ c.entry-twin.ensures c.remove.ensures.entries

of_curve : (c : goal.After-remove-2) → IsNodeLess c.args.curves.now c.remove-2.new.self c.entry-twin.result.twin (entry (curve_of c.entry-twin.result.item) c.entry-twin.result.key c.args.node)
of_curve c = node_less _ _ _ _ (beside _ _ _ _ _ _ c.requires.pairs c.entry-twin.ensures) c.remove-2.ensures.entries

pub returns-clause-pairs : goal.returns-clause-pairs
returns-clause-pairs c = pairs_less _ _ _ _ _ _ _ _ (of_edge c) (of_curve c) c.requires.pairs

pub returns-clause-ordered : goal.returns-clause-ordered
returns-clause-ordered c = ordered_less _ _ _ _ (of_edge c) c.remove.ensures.chains c.requires.ordered

pub returns-clause-less : goal.returns-clause-less
returns-clause-less c = λ k i t h. less_at _ _ _ _ _ _ _ _ _ c.entry-twin.ensures h (pair_less _ _ _ _ _ _ (of_edge c) c.requires.pairs.once c.remove.ensures.chains (λ k h. (c.remove.ensures.keys k).1 h))

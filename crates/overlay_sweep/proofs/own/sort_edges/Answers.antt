use Rattle.std.proofs.Common.{rules, ap, is_lt}
use Rattle.std.proofs.lemmas.Fn.{always_returns_same}
use Rattle.overlay_sweep.specs.declared.own.OwnEdge.{OwnEdge}
use Rattle.overlay_sweep.specs.OwnEdges.{begin_cmp}
use Rattle.overlay_sweep.proofs.OwnOrder.{weak}
use Rattle.overlay_sweep.proofs.own.sort_edges.Goals as goal

pub returns-clause-sorted : goal.returns-clause-sorted
returns-clause-sorted c = c.sort_unstable_by.ensures.sorted (λ (k l : OwnEdge). is_lt (begin_cmp k l)) weak (always_returns_same _ _ _ (λ a r f' k. (ap is_lt (search rules), search rules)))

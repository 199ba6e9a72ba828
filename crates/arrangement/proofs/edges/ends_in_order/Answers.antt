use Rattle.std.proofs.Common.{map, ap, ◌∙◌}
use Rattle.arrangement.proofs.Ends.{if_ok, two, edges_are, edges_ascend}
use Rattle.arrangement.proofs.edges.ends_in_order.Goals as goal

pub returns-clause-edges : goal.returns-clause-edges
returns-clause-edges c =
    let ks = c.in_ok-edges.edges.items in
    let e = c.in_ok-edges.ensures in
    if_ok c.ends_of.result _ _ (λ v is. edges_are c.args.records.now.graph ks c.args.darts.now c.requires.forward e.keys e.names v.items (is ∙ ap (map two) c.deref.ensures.value)) c.ends_of.ensures

pub returns-clause-ascend : goal.returns-clause-ascend
returns-clause-ascend c =
    let ks = c.in_ok-edges.edges.items in
    if_ok c.ends_of.result _ _ (λ v is. edges_ascend ks v.items (is ∙ ap (map two) c.deref.ensures.value) c.in_ok-edges.ensures.ascend) c.ends_of.ensures

use Rattle.std.proofs.Common.{sym, ap, ◌∙◌}
use Rattle.std.proofs.lemmas.List.{map-id}
use Rattle.plane_graphs.specs.Ascending.{ascending}
use Rattle.plane_graphs.proofs.Arranged.{arranged}
use Rattle.sweep_graphs.specs.Edges.{ends_cmp}
use Rattle.sweep_graphs.proofs.EdgeOrders.{ends_cmp_total, ends_cmp_exact, ends_ties}
use Rattle.sweep_graphs.proofs.edges.arrange_edges.Goals as goal

pub returns : goal.returns
returns c =
    let old = c.args.edges.now.items in
    let out = c.dedup.new.self.items in
    sym (map-id out)
    ∙ arranged (λ x. x) ends_cmp ends_cmp_total ends_cmp_exact old c.sort_unstable.new.self.items c.sort_unstable.ensures.permutation _ out ends_ties c.sort_unstable.ensures.sorted c.dedup.ensures.filtered
    ∙ ap (ascending ends_cmp) (map-id old)

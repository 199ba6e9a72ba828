use Rattle.std.proofs.Common.{sym, ap, ◌∙◌}
use Rattle.std.proofs.lemmas.List.{map-id}
use Rattle.plane_graphs.specs.Ascending.{ascending}
use Rattle.plane_graphs.proofs.Arranged.{arranged}
use Rattle.sweep_graphs.specs.Edges.{stretch_cmp}
use Rattle.sweep_graphs.proofs.EdgeOrders.{stretch_cmp_total, stretch_cmp_exact, stretch_ties}
use Rattle.sweep_graphs.proofs.edges.arrange_stretches.Goals as goal

pub returns : goal.returns
returns c =
    let old = c.args.stretches.now.items in
    let out = c.dedup.new.self.items in
    sym (map-id out)
    ∙ arranged (λ x. x) stretch_cmp stretch_cmp_total stretch_cmp_exact old c.sort_unstable.new.self.items c.sort_unstable.ensures.permutation _ out stretch_ties c.sort_unstable.ensures.sorted c.dedup.ensures.filtered
    ∙ ap (ascending stretch_cmp) (map-id old)

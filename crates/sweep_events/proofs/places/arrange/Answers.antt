use Rattle.std.proofs.Common.{sym, ap, ◌∙◌, ℕ, nat_cmp}
use Rattle.std.proofs.lemmas.List.{map-id}
use Rattle.std.proofs.lemmas.Cmp.{nat_cmp_total}
use Rattle.plane_graphs.specs.Ascending.{ascending}
use Rattle.plane_graphs.proofs.Arranged.{arranged}
use Rattle.sweep_events.proofs.PlacesTold.{nat_ties}
use Rattle.sweep_events.proofs.places.arrange.Goals as goal
use Rattle.integers.proofs.Tests.{nat_exact}

pub returns : goal.returns
returns c =
    let old = c.args.places.now.items in
    let out = c.dedup.new.self.items in
    sym (map-id out)
    ∙ arranged (λ (i : ℕ). i) nat_cmp nat_cmp_total nat_exact old c.sort_unstable.new.self.items c.sort_unstable.ensures.permutation _ out nat_ties c.sort_unstable.ensures.sorted c.dedup.ensures.filtered
    ∙ ap (ascending nat_cmp) (map-id old)

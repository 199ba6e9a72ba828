use Rattle.std.proofs.Common.{ap, ◌∙◌}
use Rattle.std.specs.Ordering.{nat_cmp}
use Rattle.std.proofs.lemmas.Cmp.{nat_cmp_total}
use Rattle.integers.proofs.Tests.{nat_exact, number_ties}
use Rattle.plane_graphs.specs.Ascending.{ascending}
use Rattle.plane_graphs.proofs.Arranged.{arranged}
use Rattle.slab_laws.specs.declared.names.CurveId.{CurveId}
use Rattle.arrangement.proofs.arrangement.Arrangement.curves.Goals as goal

pub returns : goal.returns
returns g c = rw (← c.self.view_is) (
    arranged (λ (n : CurveId). n.0) nat_cmp nat_cmp_total nat_exact c.in_ok-curves.curves.items c.sort_unstable.new.self.items c.sort_unstable.ensures.permutation _ c.dedup.new.self.items (λ x y. number_ties x.0 y.0) c.sort_unstable.ensures.sorted c.dedup.ensures.filtered
    ∙ ap (ascending nat_cmp) c.in_ok-curves.ensures)

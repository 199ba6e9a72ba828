use Rattle.std.proofs.Common.{ap, ◌∙◌, map}
use Rattle.std.specs.List.{filter}
use Rattle.std.specs.Ordering.{nat_cmp}
use Rattle.std.proofs.lemmas.Cmp.{nat_cmp_total}
use Rattle.integers.proofs.Tests.{nat_exact, number_ties}
use Rattle.plane_graphs.specs.Ascending.{ascending}
use Rattle.plane_graphs.proofs.Arranged.{arranged}
use Rattle.plane_graphs.proofs.Lists.{map_map}
use Rattle.library_tour.specs.Parcels.{is_in}
use Rattle.library_tour.specs.declared.parcels.Land.{Land}
use Rattle.library_tour.specs.declared.parcels.ParcelId.{ParcelId}
use Rattle.library_tour.proofs.parcels.Parcels.in_face.Goals as goal

pub returns : goal.returns
returns c =
    arranged (λ (n : ParcelId). n.0) nat_cmp nat_cmp_total nat_exact c.in_ok-parcels.parcels.items c.sort_unstable.new.self.items c.sort_unstable.ensures.permutation _ c.dedup.new.self.items (λ x y. number_ties x.0 y.0) c.sort_unstable.ensures.sorted c.dedup.ensures.filtered
    ∙ ap (ascending nat_cmp) (
    ap (map (λ (n : ParcelId). n.0)) (c.in_ok-parcels.ensures ∙ ap (λ ls. map (λ (l : Land). l.parcel) (filter (is_in c.args.face) ls)) c.deref.ensures.value)
    ∙ map_map (λ (l : Land). l.parcel) (λ (n : ParcelId). n.0) (filter (is_in c.args.face) c.args.self.now.land.items))

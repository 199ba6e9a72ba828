-- The cycle that runs above an edge, and its face, by the tables of darts.
use Rattle.std.proofs.Common.{◌≡◌, ℕ, ◌<◌, true, arith, sym, ap, ◌∙◌, subst, List, length, get_or, Contains}
use Rattle.std.proofs.lemmas.List.{get_or-map, length-map}
use Rattle.plane_graphs.specs.Ascending.{IsAscending, Member}
use Rattle.plane_graphs.specs.Graph.{Edge}
use Rattle.plane_graphs.proofs.Ascending.{to_member, from_member}
use Rattle.plane_graphs.proofs.Lists.{in_filter, of_filter, IsAscending-filter}
use Rattle.slab_laws.specs.Cycles.{left_of_dart}
use Rattle.slab_laws.specs.Darts.{Dart, ahead}
use Rattle.slab_laws.specs.Meets.{SameFace}
use Rattle.slab_laws.specs.Rotation.{dart_cmp, same_dart}
use Rattle.slab_laws.specs.Rows.{dart_list, no_dart, dart_place, cycle_places, cycle_place, lead_list, least_dart_of}
use Rattle.slab_laws.specs.Skeleton.{Skeleton, IsPlaneSkeleton}
use Rattle.slab_laws.specs.Subdivision.{subdivision, rank}
use Rattle.slab_faces.proofs.DartOrder.{list_ascends, lead_lead}
use Rattle.slab_faces.proofs.FacesLemmas.{one_label}
use Rattle.slab_faces.proofs.NextLemmas.{darts_exact}
use Rattle.dart_orbits.proofs.DartCells.{lead_there}
use Rattle.dart_orbits.proofs.LeastDarts.{is_least, least_listed}
use Rattle.dart_orbits.proofs.Listed.{dart_within, dart_at_place, in_list}
use Rattle.dart_orbits.proofs.Placed.{at_place, place_within}
use Rattle.face_changes.proofs.OneMoreEdge.{one_kind_each}
use Rattle.face_roots.specs.CycleRanks.{lead_at}
use Rattle.dart_orbits.specs.declared.orbits.Orbits.{Orbits}
use Rattle.dart_orbits.specs.Orbits.{AreOrbits}
use Rattle.overlay_sweep.specs.CycleFaces.{AreCycleRanks}
use Rattle.overlay_sweep.specs.LayerLabels.{rank_beside}

module _ (g : Skeleton) (plane : IsPlaneSkeleton g) where
  pub leads_ascend : IsAscending dart_cmp (lead_list g)
  leads_ascend = subst (IsAscending dart_cmp) (least_listed g plane) (IsAscending-filter dart_cmp (is_least g) (dart_list g) (list_ascends g plane))

  -- a least dart leads its own cycle
  pub own_lead : (l : Dart) → Member l (lead_list g) → least_dart_of g l ≡ l
  own_lead l m = sym (darts_exact.path l (least_dart_of g l) (of_filter (is_least g) l (dart_list g) (subst (Member l) (sym (least_listed g plane)) m)).1)

  module _ (e : Edge) (E : Contains g.edges e) where
    -- the least dart of the cycle is listed among the least ones
    pub listed_lead : Member (least_dart_of g (ahead e)) (lead_list g)
    listed_lead =
        let l = least_dart_of g (ahead e) in
        let m = lead_there g plane (ahead e) (from_member (dart_list g) (ahead e) (in_list g plane (ahead e) E)) in
        subst (Member l) (least_listed g plane) (in_filter (is_least g) l (dart_list g) (to_member (dart_list g) l m) (subst (λ x. same_dart l x ≡ true) (sym (lead_lead g (ahead e))) (darts_exact.itself l)))

    pub cycle_within : cycle_place g (ahead e) < length (lead_list g)
    cycle_within = place_within same_dart darts_exact (lead_list g) (least_dart_of g (ahead e)) listed_lead

    pub upper : least_dart_of g (ahead e) ≡ lead_at g (cycle_place g (ahead e))
    upper = sym (at_place same_dart darts_exact (lead_list g) (least_dart_of g (ahead e)) no_dart listed_lead)

    pub lead_face : SameFace g (left_of_dart g (ahead e)) (left_of_dart g (lead_at g (cycle_place g (ahead e))))
    lead_face = subst (λ d. SameFace g (left_of_dart g (ahead e)) (left_of_dart g d)) upper (one_kind_each.face g (ahead e) (least_dart_of g (ahead e)) plane (sym (lead_lead g (ahead e))))

    pub rank_told : (ranks : List ℕ) → AreCycleRanks g ranks → get_or ranks (cycle_place g (ahead e)) 0 ≡ rank_beside g (ahead e)
    rank_told ranks r = r.each (cycle_place g (ahead e)) cycle_within ∙ ap (rank (subdivision g)) (sym (one_label g _ _ plane lead_face))

    module _ (o : Orbits) (h : AreOrbits g o) where
      pub cycle_told : get_or o.in_cycles.items (dart_place g (ahead e)) 0 ≡ cycle_place g (ahead e)
      unfolding cycle_places
      cycle_told =
          ap (λ xs. get_or xs (dart_place g (ahead e)) 0) h.in_cycles ∙ get_or-map (cycle_place g) (dart_list g) (dart_place g (ahead e)) no_dart 0 (dart_within g plane (ahead e) E) ∙ ap (cycle_place g) (dart_at_place g plane (ahead e) E)

      pub above_within : dart_place g (ahead e) < length o.in_cycles.items
      unfolding cycle_places
      above_within = let a = dart_within g plane (ahead e) E in let n = length-map (dart_list g) (cycle_place g) in let m = ap length h.in_cycles in omega arith

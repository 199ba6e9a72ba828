-- The roots of cycles, by the edges directly below their least vertices.
use Rattle.std.proofs.Common.{◌≡◌, ℕ, ◌<◌, Bool, true, false, not, arith, sym, ap, ◌∙◌, subst, List, length, get_or, Contains}
use Rattle.std.specs.Prelude.{Option, Some, None}
use Rattle.std.specs.Option.{option_map}
use Rattle.std.proofs.lemmas.List.{get_or-map, length-map}
use Rattle.integers.proofs.Tests.{is_less, not_not}
use Rattle.plane_graphs.specs.Ascending.{Member}
use Rattle.plane_graphs.proofs.Ascending.{to_member}
use Rattle.plane_graphs.proofs.Sorting.{member_at}
use Rattle.slab_laws.specs.Cycles.{left_of_dart}
use Rattle.slab_laws.specs.Darts.{Dart, source, ahead}
use Rattle.slab_laws.specs.Meets.{SameFace}
use Rattle.slab_laws.specs.Rotation.{dart_cmp, dart_below}
use Rattle.slab_laws.specs.Rows.{dart_list, no_dart, dart_at, dart_place, lead_places, cycle_place, lead_list, least_dart_of, vertex_place}
use Rattle.slab_laws.specs.Skeleton.{Skeleton, IsPlaneSkeleton, same_point}
use Rattle.slab_laws.specs.Subdivision.{first_cell}
use Rattle.slab_faces.proofs.DartOrder.{dart_cmp_total}
use Rattle.slab_faces.proofs.Places.{points_exact}
use Rattle.slab_faces.proofs.Turns.{face_trans}
use Rattle.dart_orbits.proofs.DartCells.{edge_there}
use Rattle.dart_orbits.proofs.LeastDarts.{least_there}
use Rattle.dart_orbits.proofs.Listed.{dart_within, dart_at_place, rows_length, row_at, source_in}
use Rattle.dart_orbits.proofs.Placed.{at_place, place_within, lower}
use Rattle.edge_predicates.specs.Highest.{IsHighestBelow}
use Rattle.face_changes.specs.Kinds.{is_outer}
use Rattle.face_roots.specs.CycleRanks.{lead_at}
use Rattle.face_roots.proofs.OuterRanks.{ranks_by_roots}
use Rattle.sweep_graphs.specs.declared.edges.EdgeEnds.{EdgeEnds}
use Rattle.sweep_graphs.specs.Edges.{edge_between}
use Rattle.sweep_graphs.specs.Traces.{point_at, no_point}
use Rattle.dart_orbits.specs.declared.orbits.Orbits.{Orbits}
use Rattle.dart_orbits.specs.Orbits.{AreOrbits}
use Rattle.dart_orbits.specs.Ways.{no_row, row_in}
use Rattle.overlay_sweep.specs.EdgesUnder.{AreUnder}
use Rattle.overlay_sweep.proofs.BareVertices.{highest_there}
use Rattle.overlay_sweep.proofs.EdgeCycles.{leads_ascend, own_lead, cycle_within, upper, lead_face}

module _ (g : Skeleton) (plane : IsPlaneSkeleton g) where
  module _ (o : Orbits) (h : AreOrbits g o) (c : ℕ) (inside : c < length o.cycles.items) where
    pub listed : c < length (lead_list g)
    listed = let n = length-map (lead_list g) (dart_place g) in let m = ap length h.cycles in omega arith

    in_leads : Member (lead_at g c) (lead_list g)
    in_leads = member_at (lead_list g) c no_dart listed

    there : Contains g.edges (lead_at g c).edge
    there = edge_there g plane (lead_at g c) (least_there g plane (lead_at g c) in_leads)

    lead : ℕ
    lead = get_or o.cycles.items c 0

    lead_place : lead ≡ dart_place g (lead_at g c)
    unfolding lead
    lead_place = ap (λ xs. get_or xs c 0) h.cycles ∙ get_or-map (dart_place g) (lead_list g) c no_dart 0 listed

    pub lead_within : get_or o.cycles.items c 0 < length o.darts.items
    unfolding lead
    lead_within = let a = lead_place in let b = dart_within g plane (lead_at g c) there in let n = rows_length g in let m = ap length h.darts in omega arith

    pub lead_dart : dart_at g (get_or o.cycles.items c 0) ≡ lead_at g c
    unfolding lead
    lead_dart = ap (dart_at g) lead_place ∙ dart_at_place g plane (lead_at g c) there

    -- it leads itself
    own : least_dart_of g (lead_at g c) ≡ lead_at g c
    own = own_lead g plane (lead_at g c) in_leads

    pub lead_forward : (lead_at g c).forward ≡ true
    lead_forward = subst (λ (x : Dart). x.forward ≡ true) own (ranks_by_roots.forward g (lead_at g c) plane there)

    pub leads_itself : get_or o.leads.items (get_or o.cycles.items c 0) 0 ≡ get_or o.cycles.items c 0
    unfolding lead_places lead
    leads_itself =
        let w : get_or o.cycles.items c 0 < length (dart_list g) = (let a = lead_place in let b = dart_within g plane (lead_at g c) there in omega arith) in
        ap (λ xs. get_or xs (get_or o.cycles.items c 0) 0) h.leads
        ∙ get_or-map (λ d. dart_place g (least_dart_of g d)) (dart_list g) (get_or o.cycles.items c 0) no_dart 0 w
        ∙ ap (λ d. dart_place g (least_dart_of g d)) lead_dart ∙ ap (dart_place g) own ∙ sym lead_place

    vertex : ℕ
    vertex = (row_in o.darts.items (get_or o.cycles.items c 0)).source

    vertex_is : vertex ≡ vertex_place g (source (lead_at g c))
    unfolding vertex lead
    vertex_is =
        let w : get_or o.cycles.items c 0 < length (dart_list g) = (let a = lead_place in let b = dart_within g plane (lead_at g c) there in omega arith) in
        ap (λ rs. (get_or rs (get_or o.cycles.items c 0) no_row).source) h.darts ∙ ap (λ r. r.source) (row_at g plane (get_or o.cycles.items c 0) no_row w) ∙ ap (λ d. vertex_place g (source d)) lead_dart

    at_vertex : Member (source (lead_at g c)) g.vertices
    at_vertex = to_member g.vertices (source (lead_at g c)) (source_in g plane (lead_at g c) there)

    vertex_within : vertex < length g.vertices
    vertex_within = let a = vertex_is in let b = place_within same_point points_exact g.vertices (source (lead_at g c)) at_vertex in omega arith

    point_is : point_at g.vertices vertex ≡ source (lead_at g c)
    point_is = ap (point_at g.vertices) vertex_is ∙ at_place same_point points_exact g.vertices (source (lead_at g c)) no_point at_vertex

    module _ (es : List (Option EdgeEnds)) (u : AreUnder g es) where
      pub under_within : (row_in o.darts.items (get_or o.cycles.items c 0)).source < length es
      unfolding vertex
      under_within = let a = vertex_within in let b = u.counted in omega arith

      is_under : (x : Option EdgeEnds) → x ≡ get_or es (row_in o.darts.items (get_or o.cycles.items c 0)).source None → IsHighestBelow (Contains g.edges) (source (least_dart_of g (lead_at g c))) (option_map (edge_between g.vertices) x)
      unfolding vertex
      is_under x e =
          subst (λ y. IsHighestBelow (Contains g.edges) (source (least_dart_of g (lead_at g c))) (option_map (edge_between g.vertices) y)) (sym e)
          (subst (λ p. IsHighestBelow (Contains g.edges) p (option_map (edge_between g.vertices) (get_or es vertex None))) (point_is ∙ ap source (sym own)) (u.highest vertex vertex_within))

      pub outside_root : get_or es (row_in o.darts.items (get_or o.cycles.items c 0)).source None ≡ None → is_outer g (lead_at g c) ≡ false → SameFace g (left_of_dart g (lead_at g c)) first_cell
      outside_root e inner = ranks_by_roots.face g (lead_at g c) None plane there inner (is_under None (sym e))

      module _ (e : EdgeEnds) (q : get_or es (row_in o.darts.items (get_or o.cycles.items c 0)).source None ≡ Some e) where
        pub edge_in : Contains g.edges (edge_between g.vertices e)
        edge_in = highest_there g (edge_between g.vertices e) (is_under (Some e) (sym q))

        pub earlier_cycle : cycle_place g (ahead (edge_between g.vertices e)) < c
        earlier_cycle =
            let d = ahead (edge_between g.vertices e) in
            lower dart_cmp dart_cmp_total (lead_list g) (leads_ascend g plane) (cycle_place g d) c no_dart (cycle_within g plane (edge_between g.vertices e) edge_in) listed
            (is_less _ (subst (λ x. dart_below x (lead_at g c) ≡ true) (upper g plane (edge_between g.vertices e) edge_in) (subst (λ x. dart_below (least_dart_of g d) x ≡ true) own (ranks_by_roots.lesser g (lead_at g c) (edge_between g.vertices e) plane there (is_under (Some e) (sym q))))))

        pub above_root : is_outer g (lead_at g c) ≡ false → SameFace g (left_of_dart g (lead_at g c)) (left_of_dart g (lead_at g (cycle_place g (ahead (edge_between g.vertices e)))))
        above_root inner =
            face_trans g _ _ _ (ranks_by_roots.face g (lead_at g c) (Some (edge_between g.vertices e)) plane there inner (is_under (Some e) (sym q)))
            (lead_face g plane (edge_between g.vertices e) edge_in)

    -- ---- by what the code has at hand
    pub kind_of : (l : ℕ) (b : Bool) → l ≡ get_or o.cycles.items c 0 → b ≡ not (is_outer g (dart_at g l)) → is_outer g (lead_at g c) ≡ not b
    kind_of l b e q = ap (is_outer g) (sym lead_dart ∙ ap (dart_at g) (sym e)) ∙ sym (not_not (is_outer g (dart_at g l))) ∙ ap not (sym q)

    pub under_read : (es : List (Option EdgeEnds)) (l s : ℕ) (x : Option EdgeEnds) → l ≡ get_or o.cycles.items c 0 → s ≡ (row_in o.darts.items l).source → x ≡ get_or es s None → get_or es (row_in o.darts.items (get_or o.cycles.items c 0)).source None ≡ x
    under_read es l s x e q r = ap (λ k. get_or es (row_in o.darts.items k).source None) (sym e) ∙ ap (λ k. get_or es k None) (sym q) ∙ sym r

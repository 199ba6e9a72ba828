-- A sum over the names of darts is one over edges; so the weights of the darts out of a vertex are those of the edges round it.
use Rattle.std.proofs.Common.{◌≡◌, ℕ, ◌+◌, ◌<◌, Bool, true, cond, arith, refl, sym, ap, ◌∙◌, subst, inl, inr, List, [], ◌∷◌, map}
use Rattle.std.specs.Prelude.{◌↔◌, ◌==◌}
use Rattle.std.specs.List.{Contains, sum_by, filter}
use Rattle.std.specs.declared.cmp.Ordering.TheVariants.{Equal}
use Rattle.std.proofs.lemmas.Bool.{eqb-true, eq-eqb}
use Rattle.exact_plane.specs.Point.{Point}
use Rattle.plane_graphs.specs.Ascending.{Member, ascending}
use Rattle.plane_graphs.specs.Graph.{Edge}
use Rattle.plane_graphs.proofs.Ascending.{All-member, ascending_is, to_member}
use Rattle.plane_graphs.proofs.Lists.{of_map, in_map, in_filter, of_filter, both_ways}
use Rattle.slab_laws.specs.declared.names.DartId.{DartId}
use Rattle.slab_laws.specs.declared.names.VertexId.{VertexId}
use Rattle.slab_laws.specs.Darts.{Dart, darts, source, ahead, back}
use Rattle.slab_laws.specs.FaceLists.{AreOnce}
use Rattle.slab_laws.specs.Rotation.{dart_cmp}
use Rattle.slab_laws.specs.Rows.{dart_list}
use Rattle.slab_laws.specs.Skeleton.{same_point}
use Rattle.slab_laws.specs.Sound.{skeleton_of, dart_in, edge_in, IsGraphSound}
use Rattle.slab_laws.specs.Tables.{names, NamesAscend}
use Rattle.slab_laws.specs.View.{View, dart_id, vertex_id, HasVertex, HasDart, IsOutOf, point_in, source_in}
use Rattle.slab_laws.specs.Weights.{at_end}
use Rattle.slab_faces.proofs.DartOrder.{dart_cmp_total, list_ascends}
use Rattle.slab_faces.proofs.Member.{member_in}
use Rattle.slab_faces.proofs.NextLemmas.{dart_in as dart_there}
use Rattle.slab_faces.proofs.Places.{points_exact}
use Rattle.slab_faces.proofs.Sums.{each, sum_by-same}
use Rattle.sound_views.proofs.NameTables.{has_name}
use Rattle.sound_views.proofs.NamedDarts.{edge_known, same_dart_of, dart_name, named_dart, names_are_darts, there}
use Rattle.dart_orbits.proofs.Listed.{of_list, in_list}
use Rattle.polygon_sets.proofs.OnceSummed.{numbers_once, once_filter, once_names, sum_filtered, sums_alike}
use Rattle.polygon_sets.proofs.SumsByDarts.{AreUntied, ascending_summed, sum_of_darts}
use Rattle.slab_faces.proofs.Shift.{sum_by-map}

module _ (v : View) (s : IsGraphSound v) where
  abbrev dart_of : ℕ → Dart
  dart_of c = dart_in v (dart_id c)

  has : (c : ℕ) → Member c (names v.darts) → HasDart v (dart_id c)
  has c m = named_dart v (dart_id c) (in_map dart_id c (names v.darts) m)

  untied : (ns : List ℕ) → NamesAscend ns → ((c : ℕ) → Member c ns → HasDart v (dart_id c)) → AreUntied dart_cmp dart_cmp_total (map dart_of ns)
  untied [] a h = tt
  untied (n ∷ ns) a h = (
    λ y m e. (
        let w = of_map dart_of y ns m in
        let q : dart_of n ≡ dart_of w.0 = same_dart_of v (dart_id n) (dart_id w.0) (subst (λ z. dart_cmp (dart_of n) z ≡ Equal) w.2 e) in
        let d = s.turned.differ (dart_id n) (dart_id w.0) (h n (inl refl)) (h w.0 (inr w.1)) q in
        let l = All-member (λ k. n < k) w.0 ns a.0 w.1 in
        let same : n ≡ w.0 = ap (λ (x : DartId). x.0) d in
        omega arith),
    untied ns a.1 (λ c m. h c (inr m)),
  )

  -- the names list the darts
  listed : dart_list (skeleton_of v) ≡ ascending dart_cmp (map dart_of (names v.darts))
  listed =
      ascending_is dart_cmp dart_cmp_total (map dart_of (names v.darts)) (dart_list (skeleton_of v))
      (λ x y m n e.
      let a = of_map dart_of x (names v.darts) m in
      let b = of_map dart_of y (names v.darts) n in
      a.2 ∙ same_dart_of v (dart_id a.0) (dart_id b.0) (subst (λ z. dart_cmp (dart_of a.0) z ≡ Equal) b.2 (subst (λ z. dart_cmp z y ≡ Equal) a.2 e)) ∙ sym b.2)
      (list_ascends (skeleton_of v) s.plane)
      (λ x m.
      let E = of_list (skeleton_of v) s.plane x m in
      let t = named x E in
      subst (λ z. Member z (map dart_of (names v.darts))) t.2 (in_map dart_of t.0.0 (names v.darts) (name_in t.0 t.1)))
      (λ x m. (let a = of_map dart_of x (names v.darts) m in subst (λ z. Member z (dart_list (skeleton_of v))) (sym a.2) (in_list (skeleton_of v) s.plane (dart_of a.0) (edge_known v (dart_id a.0) (has a.0 a.1)))))
    where
      name_in : (d : DartId) → HasDart v d → Member d.0 (names v.darts)
      name_in d H = let w = of_map dart_id d (names v.darts) (dart_name v d H) in subst (λ z. Member z (names v.darts)) (sym (ap (λ (x : DartId). x.0) w.2)) w.1

      named : (x : Dart) → Contains (skeleton_of v).edges x.edge → (d : DartId) × HasDart v d × (dart_in v d ≡ x)
      named x E = there v s x (member_in (darts (skeleton_of v)) x (dart_there (skeleton_of v) x.edge x.forward E))

  pub names_summed : (f : Dart → ℕ) → sum_by (λ c. f (dart_in v (dart_id c))) (names v.darts) ≡ sum_by (λ e. f (ahead e) + f (back e)) (skeleton_of v).edges
  names_summed f =
      sym (sum_by-map f dart_of (names v.darts))
      ∙ sym (ascending_summed dart_cmp dart_cmp_total f (map dart_of (names v.darts)) (untied (names v.darts) s.named.darts has))
      ∙ ap (sum_by f) (sym listed)
      ∙ sum_of_darts (skeleton_of v) s.plane f

  -- ---- round a vertex
  module _ (m : Edge → ℕ) (w : VertexId) (W : HasVertex v w) where
    abbrev p : Point
    p = point_in v w

    abbrev leaves : ℕ → Bool
    leaves c = (source_in v (dart_id c)).0 == w.0

    abbrev weight : ℕ → ℕ
    weight c = m (edge_in v (dart_id c))

    abbrev at : Dart → ℕ
    at h = cond (same_point (source h) p) (m h.edge) 0

    same_leaves : (c : ℕ) → HasDart v (dart_id c) → leaves c ≡ same_point (source (dart_of c)) p
    same_leaves c H =
        let q : source (dart_of c) ≡ point_in v (source_in v (dart_id c)) = names_are_darts.source v (dart_id c) s H in
        both_ways (leaves c) (same_point (source (dart_of c)) p)
        (λ t. let e : source_in v (dart_id c) ≡ w = ap vertex_id (eqb-true (source_in v (dart_id c)).0 w.0 t) in subst (λ z. same_point z p ≡ true) (sym (q ∙ ap (point_in v) e)) (points_exact.itself p))
        (λ t. eq-eqb (source_in v (dart_id c)).0 w.0 (ap (λ (z : VertexId). z.0) (s.drawn.points (source_in v (dart_id c)) w (s.linked.source (dart_id c) H) W (sym q ∙ points_exact.path (source (dart_of c)) p t))))

    leaving_summed : sum_by (λ c. cond (leaves c) (weight c) 0) (names v.darts) ≡ sum_by (at_end m p) (skeleton_of v).edges
    leaving_summed =
        sum_by-same (λ c. cond (leaves c) (weight c) 0) (λ c. at (dart_of c)) (names v.darts)
        (each (λ c. cond (leaves c) (weight c) 0 ≡ at (dart_of c)) (names v.darts) (λ c C. ap (λ b. cond b (weight c) 0) (same_leaves c (has c (to_member (names v.darts) c C)))))
        ∙ names_summed at

    -- the weights of the darts out of the vertex are those round it
    pub round_summed : (ds : List DartId) → AreOnce ds → ((d : DartId) → Member d ds ↔ IsOutOf v w d) → sum_by (λ d. m (edge_in v d)) ds ≡ sum_by (at_end m p) (skeleton_of v).edges
    round_summed ds once just =
        sym (sum_by-map weight (λ (d : DartId). d.0) ds)
        ∙ sums_alike weight (map (λ (d : DartId). d.0) ds) (filter leaves (names v.darts)) (numbers_once ds once) (once_filter leaves (names v.darts) (once_names (names v.darts) s.named.darts)) into back
        ∙ sum_filtered weight leaves (names v.darts)
        ∙ leaving_summed
      where
        into : (c : ℕ) → Member c (map (λ (d : DartId). d.0) ds) → Member c (filter leaves (names v.darts))
        into c k =
            let d = of_map (λ (d : DartId). d.0) c ds k in
            let o = (just d.0).0 d.1 in
            subst (λ n. Member n (filter leaves (names v.darts))) (sym d.2)
            (in_filter leaves d.0.0 (names v.darts) (has_name v.darts d.0.0 o.0) (eq-eqb (source_in v d.0).0 w.0 (ap (λ (z : VertexId). z.0) o.1)))

        back : (c : ℕ) → Member c (filter leaves (names v.darts)) → Member c (map (λ (d : DartId). d.0) ds)
        back c k =
            let f = of_filter leaves c (names v.darts) k in
            in_map (λ (d : DartId). d.0) (dart_id c) ds ((just (dart_id c)).1 (has c f.0, ap vertex_id (eqb-true (source_in v (dart_id c)).0 w.0 f.1)))

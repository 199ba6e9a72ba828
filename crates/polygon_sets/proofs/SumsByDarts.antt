-- The pieces of the darts out of a vertex are those of the edges at the vertex.
use Rattle.std.proofs.Common.{◌≡◌, ℕ, zero, suc, ◌+◌, ◌<◌, ◌≤◌, Bool, true, false, cond, arith, refl, sym, ap, ap₂, ◌∙◌, subst, inl, inr, ⊎_elim, List, [], ◌∷◌, ◌++◌, length, map, get_or, Ordering, Less, Equal, Greater}
use Rattle.std.specs.Prelude.{⊤, ◌⊎◌, ◌%◌, ◌==◌, None, Some, find}
use Rattle.std.specs.Cmp.{IsTotalOrder}
use Rattle.std.specs.List.{Contains, count_by, sum_by}
use Rattle.std.specs.Ordering.{match_ordering}
use lib.Dec.{eqb}
use Rattle.std.proofs.lemmas.Bool.{false≢true, true≢false, eqb-true, eq-eqb, ne_eqb, cases_lt}
use Rattle.std.proofs.lemmas.List.Sums.{sum_by-cons, sum_by-append}
use Rattle.exact_plane.specs.Point.{Point}
use Rattle.exact_plane.specs.PointOrder.{point_cmp}
use Rattle.exact_plane.specs.PointOrderLaws.{point_cmp_total}
use Rattle.plane_graphs.specs.Ascending.{place, ascending, Member, IsAscending}
use Rattle.plane_graphs.specs.Graph.{Edge}
use Rattle.plane_graphs.proofs.Ascending.{Member-ascending, to_member, from_member}
use Rattle.plane_graphs.proofs.Lists.{of_map, both_ways}
use Rattle.slab_laws.specs.Darts.{Dart, darts, source, ahead, back}
use Rattle.slab_laws.specs.Rotation.{dart_cmp}
use Rattle.slab_laws.specs.Rows.{dart_list, dart_row, dart_rows, vertex_place}
use Rattle.slab_laws.specs.Skeleton.{Skeleton, same_point, same_edge, IsPlaneSkeleton}
use Rattle.slab_laws.specs.Weights.{at_end}
use Rattle.slab_faces.proofs.DartOrder.{dart_cmp_total, tied_edges}
use Rattle.slab_faces.proofs.EveryFace.{passing}
use Rattle.slab_faces.proofs.Places.{points_exact, edges_exact}
use Rattle.slab_faces.proofs.Sums.{each, sum_by-same, sum_by-plus, sum_by-none}
use Rattle.dart_orbits.proofs.Listed.{of_list, source_in}
use Rattle.dart_orbits.proofs.Placed.{at_place, place_at, place_within, ascending_apart}
use Rattle.polygon_sets.specs.Borders.{no_point, point_at}
use Rattle.polygon_sets.specs.OddVertices.{out_pieces, is_odd_at, IsFirstOdd}
use Rattle.polygon_sets.specs.Weighted.{weight_by, is_odd_vertex, odd_vertex}
use Rattle.slab_faces.proofs.Shift.{sum_by-map}

-- ---- a sum over an ascending list
module _ {X : Type 0} (cmp : X → X → Ordering) (o : IsTotalOrder cmp) where
  abbrev pub AreUntied : List X → Type 0
  AreUntied [] = ⊤
  AreUntied (x ∷ xs) = ((y : X) → Member y xs → cmp x y ≡ Equal → ⊥) × AreUntied xs

  untied_append : (xs ys : List X) → AreUntied xs → AreUntied ys → ((x y : X) → Member x xs → Member y ys → cmp x y ≡ Equal → ⊥) → AreUntied (xs ++ ys)
  untied_append [] ys a b c = b
  untied_append (x ∷ xs) ys a b c = (λ y m e. ⊎_elim (λ i. a.0 y i e) (λ j. c x y (inl refl) j e) (either y xs ys m), untied_append xs ys a.1 b (λ z y m n. c z y (inr m) n))
    where
      either : (y : X) (xs ys : List X) → Member y (xs ++ ys) → Member y xs ⊎ Member y ys
      either y [] ys m = inr m
      either y (x ∷ xs) ys (inl e) = inl (inl e)
      either y (x ∷ xs) ys (inr m) = ⊎_elim (λ i. inl (inr i)) (λ j. inr j) (either y xs ys m)

  module _ (f : X → ℕ) where
    placed : (x : X) (t : Ordering) (y : X) (ys zs : List X) → cmp x y ≡ t → (cmp x y ≡ Equal → ⊥) → sum_by f zs ≡ f x + sum_by f ys → sum_by f (match_ordering t (x ∷ y ∷ ys) (y ∷ ys) (y ∷ zs)) ≡ f x + sum_by f (y ∷ ys)
    placed x Less y ys zs e n h = sum_by-cons f x (y ∷ ys)
    placed x Equal y ys zs e n h = absurd (n e)
    placed x Greater y ys zs e n h = omega (arith, sum_by-cons f y zs, sum_by-cons f y ys, h)

    place_summed : (x : X) (ys : List X) → ((y : X) → Member y ys → cmp x y ≡ Equal → ⊥) → sum_by f (place cmp x ys) ≡ f x + sum_by f ys
    unfolding place
    place_summed x [] n = sum_by-cons f x []
    place_summed x (y ∷ ys) n = placed x (cmp x y) y ys (place cmp x ys) refl (n y (inl refl)) (place_summed x ys (λ z m. n z (inr m)))

    pub ascending_summed : (xs : List X) → AreUntied xs → sum_by f (ascending cmp xs) ≡ sum_by f xs
    unfolding ascending
    ascending_summed [] a = refl
    ascending_summed (x ∷ xs) a =
        place_summed x (ascending cmp xs) (λ y m e. a.0 y (Member-ascending cmp o y xs m) e)
        ∙ ap (λ n. f x + n) (ascending_summed xs a.1)
        ∙ sym (sum_by-cons f x xs)

-- ---- the first that passes, by places
module _ {X : Type 0} (p : X → Bool) where
  pub find_at : (xs : List X) (k : ℕ) (d : X) → k < length xs → p (get_or xs k d) ≡ true → ((j : ℕ) → j < k → p (get_or xs j d) ≡ false) → find p xs ≡ Some (get_or xs k d)
  find_at [] k d l t h = absurd (omega arith)
  find_at (x ∷ xs) zero d l t h = ap (λ b. cond b (Some x) (find p xs)) t
  find_at (x ∷ xs) (suc k) d l t h = ap (λ b. cond b (Some x) (find p xs)) (h 0 (omega arith)) ∙ find_at xs k d (omega arith) t (λ j m. h (suc j) (omega arith))

  pub find_no : (xs : List X) (d : X) → ((j : ℕ) → j < length xs → p (get_or xs j d) ≡ false) → find p xs ≡ None
  find_no [] d h = refl
  find_no (x ∷ xs) d h = ap (λ b. cond b (Some x) (find p xs)) (h 0 (omega arith)) ∙ find_no xs d (λ j m. h (suc j) (omega arith))

-- ---- the darts are untied
module _ (g : Skeleton) (plane : IsPlaneSkeleton g) where
  abbrev AreOnce : List Edge → Type 0
  AreOnce es = (e : Edge) → Member e es → count_by (same_edge e) es ≤ 1

  one_more : (d e : Edge) (es : List Edge) → count_by (same_edge d) (e ∷ es) ≡ cond (same_edge d e) 1 0 + count_by (same_edge d) es
  one_more d e es = sum_by-cons (λ x. cond (same_edge d x) 1 0) e es

  none_again : (e d : Edge) (es : List Edge) → AreOnce (e ∷ es) → Member d es → e ≡ d → ⊥
  none_again e d es once m q =
      let a = once e (inl refl) in
      let b = one_more e e es in
      let c : cond {A = ℕ} (same_edge e e) 1 0 ≡ 1 = ap (λ b. cond {A = ℕ} b 1 0) (edges_exact.itself e) in
      let n = passing (same_edge e) es d (from_member es d m) (subst (λ x. same_edge e x ≡ true) q (edges_exact.itself e)) in
      omega arith

  rest_once : (e : Edge) (es : List Edge) → AreOnce (e ∷ es) → AreOnce es
  rest_once e es once d m = let a = once d (inr m) in let b = one_more d e es in omega arith

  untied_map : (f : Edge → Dart) (es : List Edge) → AreOnce es → ((d e : Edge) → Member d es → Member e es → dart_cmp (f d) (f e) ≡ Equal → d ≡ e) → AreUntied dart_cmp dart_cmp_total (map f es)
  untied_map f [] once tied = tt
  untied_map f (e ∷ es) once tied = (
    λ y m q. (let w = of_map f y es m in none_again e w.0 es once w.1 (tied e w.0 (inl refl) (inr w.1) (subst (λ z. dart_cmp (f e) z ≡ Equal) w.2 q))),
    untied_map f es (rest_once e es once) (λ c d m n. tied c d (inr m) (inr n)),
  )

  there : (e : Edge) → Member e g.edges → Contains g.edges e
  there e m = from_member g.edges e m

  all_once : AreOnce g.edges
  all_once e m = let a = plane.edge_once e (there e m) in omega arith

  untied_darts : AreUntied dart_cmp dart_cmp_total (darts g)
  untied_darts =
      untied_append dart_cmp dart_cmp_total (map ahead g.edges) (map back g.edges)
      (untied_map ahead g.edges all_once (λ d e m n q. ap (λ (x : Dart). x.edge) (tied_edges g plane (ahead d) (ahead e) (there d m) (there e n) q)))
      (untied_map back g.edges all_once (λ d e m n q. ap (λ (x : Dart). x.edge) (tied_edges g plane (back d) (back e) (there d m) (there e n) q)))
      (λ x y m n q.
      let a = of_map ahead x g.edges m in
      let b = of_map back y g.edges n in
      let t = tied_edges g plane x y (subst (λ (z : Dart). Contains g.edges z.edge) (sym a.2) (there a.0 a.1)) (subst (λ (z : Dart). Contains g.edges z.edge) (sym b.2) (there b.0 b.1)) q in
      true≢false (sym (ap (λ (z : Dart). z.forward) a.2) ∙ ap (λ (z : Dart). z.forward) t ∙ ap (λ (z : Dart). z.forward) b.2))

  -- so a sum over the list of darts is one over edges
  pub sum_of_darts : (f : Dart → ℕ) → sum_by f (dart_list g) ≡ sum_by (λ e. f (ahead e) + f (back e)) g.edges
  unfolding dart_list
  sum_of_darts f =
      ascending_summed dart_cmp dart_cmp_total f (darts g) untied_darts
      ∙ sum_by-append f (map ahead g.edges) (map back g.edges)
      ∙ ap₂ (λ a b. a + b) (sum_by-map f ahead g.edges) (sum_by-map f back g.edges)
      ∙ sym (sum_by-plus (λ e. f (ahead e)) (λ e. f (back e)) g.edges)

  module _ (ascend : IsAscending point_cmp g.vertices) (counts : List ℕ) where
    abbrev m : Edge → ℕ
    m = weight_by g counts

    by_rows : (v : ℕ) → sum_by (out_pieces counts v) (dart_rows g) ≡ sum_by (λ d. out_pieces counts v (dart_row g d)) (dart_list g)
    unfolding dart_rows
    by_rows v = sum_by-map (out_pieces counts v) (dart_row g) (dart_list g)

    out_of : (d : Dart) → Contains (dart_list g) d → Contains g.vertices (source d)
    out_of d h = source_in g plane d (of_list g plane d (to_member (dart_list g) d h))

    module _ (v : ℕ) (inside : v < length g.vertices) where
      abbrev p : Point
      p = point_at g.vertices v

      own_place : vertex_place g p ≡ v
      own_place = place_at same_point points_exact g.vertices (ascending_apart point_cmp point_cmp_total g.vertices ascend) v no_point inside

      same_place : (q : Point) → Contains g.vertices q → eqb (vertex_place g q) v ≡ same_point q p
      same_place q Q =
          both_ways (eqb (vertex_place g q) v) (same_point q p)
          (λ t. let e = eqb-true (vertex_place g q) v t in subst (λ x. same_point q x ≡ true) (sym (at_place same_point points_exact g.vertices q no_point (to_member g.vertices q Q)) ∙ ap (point_at g.vertices) e) (points_exact.itself q))
          (λ t. eq-eqb (vertex_place g q) v (ap (vertex_place g) (points_exact.path q p t) ∙ own_place))

      pub vertex_summed : sum_by (out_pieces counts v) (dart_rows g) ≡ sum_by (at_end (weight_by g counts) (point_at g.vertices v)) g.edges
      vertex_summed =
          by_rows v
          ∙ sum_by-same (λ d. out_pieces counts v (dart_row g d)) (λ d. cond (same_point (source d) p) (m d.edge) 0) (dart_list g)
          (each (λ d. out_pieces counts v (dart_row g d) ≡ cond (same_point (source d) p) (m d.edge) 0) (dart_list g) (λ d h. ap (λ b. cond b (m d.edge) 0) (same_place (source d) (out_of d h))))
          ∙ sum_of_darts (λ d. cond (same_point (source d) p) (m d.edge) 0)

      pub odd_here : is_odd_at (dart_rows g) counts v ≡ is_odd_vertex g (weight_by g counts) (point_at g.vertices v)
      odd_here = ap (λ n. n % 2 == 1) vertex_summed

    -- beyond the vertices there is nothing
    none_beyond : (v : ℕ) → length g.vertices ≤ v → is_odd_at (dart_rows g) counts v ≡ false
    none_beyond v l =
        ap (λ n. n % 2 == 1)
        (by_rows v
        ∙ sum_by-same (λ d. out_pieces counts v (dart_row g d)) (λ (d : Dart). 0) (dart_list g)
        (each (λ d. out_pieces counts v (dart_row g d) ≡ 0) (dart_list g) (λ d h.
        ap (λ b. cond b (m d.edge) 0) (ne_eqb (vertex_place g (source d)) v (λ e. let w = place_within same_point points_exact g.vertices (source d) (to_member g.vertices (source d) (out_of d h)) in absurd (omega arith)))))
        ∙ sum_by-none (dart_list g))

    within : (v : ℕ) → is_odd_at (dart_rows g) counts v ≡ true → v < length g.vertices
    within v t = elim (cases_lt v (length g.vertices)) [
      | inl a ↦ a
      | inr a ↦ absurd (false≢true (sym (none_beyond v a) ∙ t))
    ]

    pub odd_within : (v : ℕ) → IsFirstOdd (dart_rows g) counts (Some v) → v < length g.vertices
    odd_within v h = within v h.0

    pub first_is : (v : ℕ) → IsFirstOdd (dart_rows g) counts (Some v) → odd_vertex g (weight_by g counts) ≡ Some (point_at g.vertices v)
    unfolding odd_vertex
    first_is v h =
        let l = within v h.0 in
        find_at (is_odd_vertex g (weight_by g counts)) g.vertices v no_point l (sym (odd_here v l) ∙ h.0) (λ u b. sym (odd_here u (omega arith)) ∙ h.1 u b)

    pub none_is : IsFirstOdd (dart_rows g) counts None → odd_vertex g (weight_by g counts) ≡ None
    unfolding odd_vertex
    none_is h = find_no (is_odd_vertex g (weight_by g counts)) g.vertices no_point (λ u b. sym (odd_here u b) ∙ h u)

-- The darts of a plane graph in their list, and their rows.
use Rattle.std.proofs.Common.{◌≡◌, ℕ, suc, ◌+◌, ◌<◌, Bool, true, false, not, List, [], ◌∷◌, ◌++◌, map, length, get_or, take, Contains, Ordering, Less, Equal, Greater, refl, sym, ap, ◌∙◌, subst, arith, inl, inr}
use Rattle.std.specs.Prelude.{flat_map}
use Rattle.std.specs.List.{AllByRecursion, IsDistinct, position_or_len}
use Rattle.std.specs.List.Sorted.{IsPermutation, IsSorted}
use Rattle.std.specs.Ordering.{ordering_then, nat_cmp, bool_cmp, eq_by_cmp}
use Rattle.std.specs.Cmp.{nat_cmp_total}
use Rattle.std.proofs.lemmas.Cmp.{tied_itself}
use Rattle.std.proofs.lemmas.List.{get_or-map, append_assoc, length-map}
use Rattle.std.proofs.lemmas.List.Sorted.{Contains-permutation, IsPermutation-sym, IsPermutation-refl, IsPermutation-trans, IsPermutation-cons, IsPermutation-append_left, IsPermutation-append_comm}
use Rattle.exact_plane.specs.Point.{Point}
use Rattle.exact_plane.specs.Span.{Span}
use Rattle.exact_plane.specs.PointOrder.{point_cmp}
use Rattle.exact_plane.specs.PointOrderLaws.{point_cmp_total, same_point as one_point}
use Rattle.plane_graphs.specs.Ascending.{Member, IsAscending}
use Rattle.plane_graphs.specs.Graph.{Edge}
use Rattle.plane_graphs.proofs.Ascending.{to_member, from_member, ascending_unique, IsAscending-map}
use Rattle.plane_graphs.proofs.Sorting.{member_at, sorted_ascends}
use Rattle.plane_graphs.proofs.Lists.{in_map, of_map, in_flat_map, of_flat_map}
use Rattle.slab_laws.specs.declared.rows.ListedDart.{ListedDart}
use Rattle.slab_laws.specs.Skeleton.{Skeleton, IsPlaneSkeleton, same_point, same_edge}
use Rattle.slab_laws.specs.Darts.{Dart, source, target, start, darts, ahead, back}
use Rattle.slab_laws.specs.SpansDrawn.{drawn, edge_of}
use Rattle.slab_laws.specs.Rotation.{dart_cmp, same_dart, twin}
use Rattle.slab_laws.specs.Rows.{dart_list, no_dart, dart_at, vertex_place, edge_place, dart_place, dart_row, dart_rows}
use Rattle.slab_faces.proofs.Member.{member_in, in_member}
use Rattle.slab_faces.proofs.Places.{points_exact, edges_exact}
use Rattle.slab_faces.proofs.NextLemmas.{darts_exact, dart_out, dart_in}
use Rattle.slab_faces.proofs.DartOrder.{dart_cmp_total, list_ascends, listed_out, listed_in}
use Rattle.dart_orbits.specs.DartRows.{edge_rows, row_dart, twin_row, ahead_rows}
use Rattle.dart_orbits.specs.Ways.{no_row}
use Rattle.dart_orbits.proofs.Pushed.{pushed}
use Rattle.dart_orbits.proofs.Placed.{AreApart, one_place, place_at, place_within, at_place, counted_apart, ascending_apart, lower}
use Rattle.dart_orbits.proofs.RowOrder.{row_cmp, row_cmp_total, untied}
use Rattle.integers.proofs.Tests.{nat_less, not_not}

-- one row for each dart
pub rows_length : (g : Skeleton) → length (dart_rows g) ≡ length (dart_list g)
unfolding dart_rows
rows_length g = length-map (dart_list g) (dart_row g)

-- each row is one of a dart
pub row_there : (g : Skeleton) (rows : List ListedDart) → rows ≡ dart_rows g → (k : ℕ) → k < length rows → k < length (dart_list g)
row_there g rows e k l = let n = rows_length g in let m = ap length e in omega arith

module _ (g : Skeleton) (plane : IsPlaneSkeleton g) where
  -- ---- edges
  edges_apart : AreApart g.edges
  edges_apart = counted_apart same_edge g.edges edges_exact plane.edge_once

  pub edge_place_at : (k : ℕ) (d : Edge) → k < length g.edges → edge_place g (get_or g.edges k d) ≡ k
  edge_place_at k d l = place_at same_edge edges_exact g.edges edges_apart k d l

  pub edge_within : (e : Edge) → Contains g.edges e → edge_place g e < length g.edges
  edge_within e E = place_within same_edge edges_exact g.edges e (to_member g.edges e E)

  -- the row of a dart names it
  pub row_dart_is : (d : Dart) → Contains g.edges d.edge → row_dart g.edges (dart_row g d) ≡ d
  row_dart_is d E = let e = at_place same_edge edges_exact g.edges d.edge no_dart.edge (to_member g.edges d.edge E) in λ i. record { edge = e i; forward = d.forward }

  -- ---- the list
  dart_of : (d : Dart) → Member d (darts g) → Contains g.edges d.edge
  dart_of d m = dart_out g d (in_member (darts g) d (from_member (darts g) d m))

  pub of_list : (d : Dart) → Member d (dart_list g) → Contains g.edges d.edge
  of_list d m = dart_of d (listed_out g plane d m)

  pub in_list : (d : Dart) → Contains g.edges d.edge → Member d (dart_list g)
  in_list d E = listed_in g plane d (to_member (darts g) d (member_in (darts g) d (dart_in g d.edge d.forward E)))

  pub list_apart : AreApart (dart_list g)
  list_apart = ascending_apart dart_cmp dart_cmp_total (dart_list g) (list_ascends g plane)

  pub dart_there : (k : ℕ) → k < length (dart_list g) → Contains g.edges (dart_at g k).edge
  dart_there k l = of_list (dart_at g k) (member_at (dart_list g) k no_dart l)

  pub place_of_dart : (k : ℕ) → k < length (dart_list g) → dart_place g (dart_at g k) ≡ k
  place_of_dart k l = place_at same_dart darts_exact (dart_list g) list_apart k no_dart l

  pub dart_within : (d : Dart) → Contains g.edges d.edge → dart_place g d < length (dart_list g)
  dart_within d E = place_within same_dart darts_exact (dart_list g) d (in_list d E)

  pub dart_at_place : (d : Dart) → Contains g.edges d.edge → dart_at g (dart_place g d) ≡ d
  dart_at_place d E = at_place same_dart darts_exact (dart_list g) d no_dart (in_list d E)

  -- ---- rows
  pub row_at : (k : ℕ) (r : ListedDart) → k < length (dart_list g) → get_or (dart_rows g) k r ≡ dart_row g (dart_at g k)
  unfolding dart_rows
  row_at k r l = get_or-map (dart_row g) (dart_list g) k no_dart r l

  pub source_of_row : (rows : List ListedDart) → rows ≡ dart_rows g → (k : ℕ) → k < length (dart_list g) → (get_or rows k no_row).source ≡ vertex_place g (source (dart_at g k))
  source_of_row rows e k l = ap (λ rs. (get_or rs k no_row).source) e ∙ ap (λ (r : ListedDart). r.source) (row_at k no_row l)

  pub source_in : (d : Dart) → Contains g.edges d.edge → Contains g.vertices (source d)
  source_in d E = start_of d.edge d.forward E
    where
      start_of : (e : Edge) (f : Bool) → Contains g.edges e → Contains g.vertices (start e f)
      start_of e true E = plane.lower_in e E
      start_of e false E = plane.upper_in e E

  -- one place among the vertices, one point
  pub one_vertex : (p q : Point) → Contains g.vertices p → Contains g.vertices q → vertex_place g p ≡ vertex_place g q → p ≡ q
  one_vertex p q P Q e =
      sym (at_place same_point points_exact g.vertices p p (to_member g.vertices p P)) ∙ ap (λ k. get_or g.vertices k p) e ∙ at_place same_point points_exact g.vertices q p (to_member g.vertices q Q)

  module _ (ascend : IsAscending point_cmp g.vertices) where
    vertex_lower : (p q : Point) → Contains g.vertices p → Contains g.vertices q → point_cmp p q ≡ Less → vertex_place g p < vertex_place g q
    vertex_lower p q P Q e =
        let m = to_member g.vertices p P in
        let n = to_member g.vertices q Q in
        lower point_cmp point_cmp_total g.vertices ascend (vertex_place g p) (vertex_place g q) p (place_within same_point points_exact g.vertices p m) (place_within same_point points_exact g.vertices q n)
        (rw (at_place same_point points_exact g.vertices p p m, at_place same_point points_exact g.vertices q p n) e)

    rows_rise : (d e : Dart) → Contains g.edges d.edge → Contains g.edges e.edge → dart_cmp d e ≡ Less → row_cmp (dart_row g d) (dart_row g e) ≡ Less
    rows_rise d e D E h = go (point_cmp (source d) (source e)) refl h
      where
        Rest : Ordering
        Rest = ordering_then (nat_cmp (vertex_place g (target d)) (vertex_place g (target e))) (ordering_then (nat_cmp (edge_place g d.edge) (edge_place g e.edge)) (bool_cmp d.forward e.forward))

        go : (o : Ordering) → point_cmp (source d) (source e) ≡ o → ordering_then o (point_cmp (target d) (target e)) ≡ Less → row_cmp (dart_row g d) (dart_row g e) ≡ Less
        go Less s t = rw (nat_less (vertex_place g (source d)) (vertex_place g (source e)) (vertex_lower (source d) (source e) (source_in d D) (source_in e E) s)) refl
        go Equal s t =
            let p : vertex_place g (source d) ≡ vertex_place g (source e) = ap (vertex_place g) (one_point (source d) (source e) s) in
            let a : nat_cmp (vertex_place g (source d)) (vertex_place g (source e)) ≡ Equal = ap (λ k. nat_cmp k (vertex_place g (source e))) p ∙ tied_itself nat_cmp_total (vertex_place g (source e)) in
            let b : nat_cmp (vertex_place g (target d)) (vertex_place g (target e)) ≡ Less = nat_less (vertex_place g (target d)) (vertex_place g (target e)) (vertex_lower (target d) (target e) (source_in (twin d) D) (source_in (twin e) E) t) in
            rw (a, b) refl
        go Greater s t = absurd cc

    pub rows_ascend : IsAscending row_cmp (dart_rows g)
    unfolding dart_rows
    rows_ascend = IsAscending-map dart_cmp row_cmp (dart_row g) (dart_list g) (λ d e m n h. rows_rise d e (of_list d m) (of_list e n) h) (list_ascends g plane)

    -- where a dart's row stands
    pub place_of_row : (d : Dart) (k : ℕ) (r : ListedDart) → Contains g.edges d.edge → k < length (dart_rows g) → get_or (dart_rows g) k r ≡ dart_row g d → k ≡ dart_place g d
    place_of_row d k r D l e =
        let w = dart_within d D in
        let n = rows_length g in
        one_place (dart_rows g) (ascending_apart row_cmp row_cmp_total (dart_rows g) rows_ascend) k (dart_place g d) r l (omega arith)
        (e ∙ sym (row_at (dart_place g d) r w ∙ ap (dart_row g) (dart_at_place d D)))

    pub row_in : (d : Dart) → Contains g.edges d.edge → Member (dart_row g d) (dart_rows g)
    unfolding dart_rows
    row_in d D = in_map (dart_row g) d (dart_list g) (in_list d D)

    -- ---- the rows of all edges, sorted
    later_edges : (i : ℕ) (es : List Edge) → ((k : ℕ) → k < length es → i < edge_place g (get_or es k no_dart.edge)) → AllByRecursion (λ r. i < r.edge) (flat_map (edge_rows g) es)
    later_edges i [] h = tt
    later_edges i (e ∷ es) h = (h 0 (omega arith), (h 0 (omega arith), later_edges i es (λ k l. h (suc k) (omega arith))))

    differ_all : (r : ListedDart) (rs : List ListedDart) → AllByRecursion (λ s. r.edge < s.edge) rs → AllByRecursion (λ s. eq_by_cmp row_cmp r s ≡ false) rs
    differ_all r [] h = tt
    differ_all r (s ∷ rs) h = (untied r s (λ e. let f = ap (λ x. x.edge) e in let l = h.0 in absurd (omega arith)), differ_all r rs h.1)

    rows_distinct : (i : ℕ) (es : List Edge) → ((k : ℕ) → k < length es → edge_place g (get_or es k no_dart.edge) ≡ i + k) → IsDistinct (eq_by_cmp row_cmp) (flat_map (edge_rows g) es)
    unfolding IsDistinct
    rows_distinct i [] h = tt
    rows_distinct i (e ∷ es) h =
        let here : edge_place g e ≡ i + 0 = h 0 (omega arith) in
        let rest : AllByRecursion (λ r. edge_place g e < r.edge) (flat_map (edge_rows g) es) = later_edges (edge_place g e) es (λ k l. let a = h (suc k) (omega arith) in omega arith) in
        ((untied (dart_row g (ahead e)) (dart_row g (back e)) (λ p. absurd (let q = ap (λ x. x.forward) p in cc)), differ_all (dart_row g (ahead e)) _ rest), (differ_all (dart_row g (back e)) _ rest, rows_distinct (i + 1) es (λ k l. let a = h (suc k) (omega arith) in omega arith)))

    of_edge : (e : Edge) (r : ListedDart) → Contains g.edges e → Member r (edge_rows g e) → Member r (dart_rows g)
    of_edge e r E (inl p) = subst (λ s. Member s (dart_rows g)) (sym p) (row_in (ahead e) E)
    of_edge e r E (inr (inl p)) = subst (λ s. Member s (dart_rows g)) (sym p) (row_in (back e) E)
    of_edge e r E (inr (inr m)) = absurd m

    on_edge : (e : Edge) (f : Bool) → Member (dart_row g (record { edge = e; forward = f })) (edge_rows g e)
    on_edge e true = inl refl
    on_edge e false = inr (inl refl)

    from_rows : (r : ListedDart) → Member r (dart_rows g) → Member r (flat_map (edge_rows g) g.edges)
    unfolding dart_rows
    from_rows r m =
        let w = of_map (dart_row g) r (dart_list g) m in
        in_flat_map (edge_rows g) w.0.edge r g.edges (to_member g.edges w.0.edge (of_list w.0 w.1)) (subst (λ s. Member s (edge_rows g w.0.edge)) (sym w.2) (on_edge w.0.edge w.0.forward))

    pub sorted_rows : (us vs : List ListedDart) → us ≡ flat_map (edge_rows g) g.edges → IsPermutation us vs → IsSorted row_cmp vs → vs ≡ dart_rows g
    sorted_rows us vs e p s =
        ascending_unique row_cmp row_cmp_total vs (dart_rows g)
        (sorted_ascends row_cmp row_cmp_total us vs (subst (IsDistinct (eq_by_cmp row_cmp)) (sym e) (rows_distinct 0 g.edges (λ k l. edge_place_at k no_dart.edge l ∙ omega arith))) p s)
        rows_ascend
        (λ r m. let w = of_flat_map (edge_rows g) r g.edges (subst (Member r) e (to_member us r (Contains-permutation vs us r (IsPermutation-sym us vs p) (from_member vs r m)))) in of_edge w.0 r (from_member g.edges w.0 w.1) w.2)
        (λ r m. to_member vs r (Contains-permutation us vs r p (from_member us r (subst (Member r) (sym e) (from_rows r m)))))

-- ---- rows that go forward, and those of their twins
-- the row of a twin is that of the dart the other way
pub turned_is : (g : Skeleton) (d : Dart) → twin_row (dart_row g d) ≡ dart_row g (twin d)
turned_is g d = λ i. record { source = vertex_place g (target d); target = vertex_place g (start d.edge (sym (not_not d.forward) i)); edge = edge_place g d.edge; forward = not d.forward }

-- an element in front of the second of two lists goes in front of both
to_front : {X : Type 0} (x : X) (us vs : List X) → IsPermutation (us ++ (x ∷ vs)) (x ∷ (us ++ vs))
to_front x us vs =
    subst (λ ws. IsPermutation ws (x ∷ (us ++ vs))) (append_assoc us (x ∷ []) vs)
    (IsPermutation-append_left vs (us ++ (x ∷ [])) (x ∷ us) (IsPermutation-append_comm us (x ∷ [])))

both_rows : (g : Skeleton) (es : List Edge) → IsPermutation (map (λ e. dart_row g (ahead e)) es ++ map twin_row (map (λ e. dart_row g (ahead e)) es)) (flat_map (edge_rows g) es)
both_rows g [] = IsPermutation-refl []
both_rows g (e ∷ es) =
    let r = dart_row g (ahead e) in
    let us = map (λ e. dart_row g (ahead e)) es in
    let vs = map twin_row us in
    IsPermutation-cons r (us ++ (twin_row r ∷ vs)) (dart_row g (back e) ∷ flat_map (edge_rows g) es)
    (subst (λ s. IsPermutation (us ++ (twin_row r ∷ vs)) (s ∷ flat_map (edge_rows g) es)) (turned_is g (ahead e))
    (IsPermutation-trans (us ++ (twin_row r ∷ vs)) (twin_row r ∷ (us ++ vs)) (twin_row r ∷ flat_map (edge_rows g) es) (to_front (twin_row r) us vs) (IsPermutation-cons (twin_row r) (us ++ vs) (flat_map (edge_rows g) es) (both_rows g es))))

-- the rows that go forward and those of their twins, sorted
pub rows_sorted : (g : Skeleton) (ahead us vs : List ListedDart) → IsPlaneSkeleton g → IsAscending point_cmp g.vertices → ahead ≡ ahead_rows g → us ≡ ahead ++ map twin_row ahead → IsPermutation us vs → IsSorted row_cmp vs → vs ≡ dart_rows g
rows_sorted g ahead us vs plane ascend a b p s =
    let all = flat_map (edge_rows g) g.edges in
    let q : IsPermutation all us = IsPermutation-sym us all (subst (λ ws. IsPermutation ws all) (sym (b ∙ ap (λ rs. rs ++ map twin_row rs) a)) (both_rows g g.edges)) in
    sorted_rows g plane ascend all vs refl (IsPermutation-trans all us vs q p) s

-- one more that goes forward
pub row_added : (points : List Point) (edges : List Span) (i : ℕ) (span : Span) (p q : Point) (low high : ℕ) (us vs : List ListedDart) →
    IsPlaneSkeleton (drawn points edges) → i < length edges → span ≡ get_or edges i span → p ≡ span.lower → q ≡ span.upper →
    low ≡ position_or_len (same_point p) points → high ≡ position_or_len (same_point q) points →
    us ≡ take i (ahead_rows (drawn points edges)) →
    vs ≡ us ++ (record { source = low; target = high; edge = i; forward = true } ∷ []) →
    vs ≡ take (i + 1) (ahead_rows (drawn points edges))
row_added points edges i span p q low high us vs plane l s P Q L H a b =
    let g : Skeleton = drawn points edges in
    let n : i < length g.edges = (let k = length-map edges edge_of in omega arith) in
    let e : get_or g.edges i (edge_of span) ≡ edge_of span = get_or-map edge_of edges i span (edge_of span) l ∙ ap edge_of (sym s) in
    let k : i ≡ edge_place g (edge_of span) = sym (edge_place_at g plane i (edge_of span) n) ∙ ap (edge_place g) e in
    let lo : low ≡ vertex_place g span.lower = L ∙ ap (vertex_place g) P in
    let hi : high ≡ vertex_place g span.upper = H ∙ ap (vertex_place g) Q in
    let is : record { source = low; target = high; edge = i; forward = true } ≡ dart_row g (ahead (get_or g.edges i (edge_of span))) =
    (λ m. record { source = lo m; target = hi m; edge = k m; forward = true }) ∙ ap (λ (x : Edge). dart_row g (ahead x)) (sym e) in
    pushed (λ (x : Edge). dart_row g (ahead x)) g.edges i (edge_of span) _ us vs n is a b

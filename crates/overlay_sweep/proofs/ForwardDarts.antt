-- The forward dart of an edge is found by the places of its ends.
use Rattle.std.proofs.Common.{◌≡◌, ◌⊎◌, ℕ, ◌<◌, Bool, true, false, arith, sym, ap, ◌∙◌, subst, inl, inr, List, length, get_or, Contains, Less, pos, ◌<ℤ◌}
use Rattle.std.specs.List.Sorted.{IsPartitionedBy, IsPartitionPoint}
use Rattle.std.specs.Ordering.{is_lt, nat_cmp, bool_cmp, ordering_then}
use Rattle.std.proofs.lemmas.Bool.{false≢true, cases_lt}
use Rattle.std.proofs.lemmas.Int.{ints}
use Rattle.std.proofs.lemmas.List.{get_or_past}
use Rattle.integers.proofs.Tests.{nat_exact, is_less}
use Rattle.exact_plane.specs.PointOrder.{point_cmp}
use Rattle.exact_plane.specs.PointOrderLaws.{point_cmp_total}
use Rattle.plane_graphs.specs.Ascending.{IsAscending}
use Rattle.plane_graphs.proofs.Sorting.{parted, rises}
use Rattle.slab_laws.specs.declared.rows.ListedDart.{ListedDart}
use Rattle.slab_laws.specs.Darts.{Dart, source, target, ahead}
use Rattle.slab_laws.specs.Rotation.{twin}
use Rattle.slab_laws.specs.Rows.{dart_list, dart_at, dart_place, dart_row, dart_rows, vertex_place}
use Rattle.slab_laws.specs.Skeleton.{Skeleton, IsPlaneSkeleton, HasWeight, same_point}
use Rattle.slab_faces.proofs.Places.{points_exact}
use Rattle.slab_faces.proofs.DartOrder.{one_dart}
use Rattle.dart_orbits.proofs.Listed.{dart_there, dart_within, dart_at_place, place_of_dart, row_at, rows_ascend, rows_length, source_in, one_vertex}
use Rattle.dart_orbits.proofs.Placed.{place_at, ascending_apart}
use Rattle.dart_orbits.proofs.RowOrder.{row_cmp}
use Rattle.sweep_graphs.specs.declared.edges.EdgeEnds.{EdgeEnds}
use Rattle.sweep_graphs.specs.Edges.{ends_cmp, edge_between}
use Rattle.sweep_graphs.specs.Traces.{point_at, no_point}
use Rattle.sweep_graphs.proofs.EdgeOrders.{ends_cmp_total, ends_never}
use Rattle.dart_orbits.specs.Ways.{no_row, row_in}
use Rattle.overlay_sweep.specs.DartEnds.{ends_of_row}
use Rattle.integers.proofs.Classes.{then_less}

-- what comes earlier among rows has lesser ends or the same
ends_rise : (x y : ListedDart) → row_cmp x y ≡ Less → (ends_cmp (ends_of_row x) (ends_of_row y) ≡ Less) ⊎ (ends_of_row x ≡ ends_of_row y)
ends_rise x y h =
    let rest = ordering_then (nat_cmp x.edge y.edge) (bool_cmp x.forward y.forward) in
    elim (then_less (nat_cmp x.source y.source) (ordering_then (nat_cmp x.target y.target) rest) h) [
      | inl a ↦ inl (ap (λ o. ordering_then o (nat_cmp x.target y.target)) a)
      | inr b ↦ elim (then_less (nat_cmp x.target y.target) rest b.1) [
        | inl c ↦ inl (ap (λ o. ordering_then o (nat_cmp x.target y.target)) b.0 ∙ c)
        | inr d ↦ inr (let p = nat_exact x.source y.source b.0 in let q = nat_exact x.target y.target d.0 in λ i. record { low = p i; high = q i })
      ]
    ]

-- whether a row's ends come before
abbrev pub is_before : EdgeEnds → ListedDart → Bool
is_before e r = is_lt (ends_cmp (ends_of_row r) e)

module _ (g : Skeleton) (plane : IsPlaneSkeleton g) (ascend : IsAscending point_cmp g.vertices) where
  vertex_at : (j : ℕ) → HasWeight (point_at g.vertices j) → vertex_place g (point_at g.vertices j) ≡ j
  vertex_at j w = elim (cases_lt j (length g.vertices)) [
    | inl l ↦ place_at same_point points_exact g.vertices (ascending_apart point_cmp point_cmp_total g.vertices ascend) j no_point l
    | inr l ↦ absurd (let z : pos 0 <ℤ pos 0 = subst HasWeight (get_or_past g.vertices j no_point l) w in omega (arith, ints))
  ]

  module _ (rows : List ListedDart) (told : rows ≡ dart_rows g) (e : EdgeEnds) (E : Contains g.edges (edge_between g.vertices e)) where
    up : IsAscending row_cmp rows
    up = subst (IsAscending row_cmp) (sym told) (rows_ascend g plane ascend)

    carried : (x y : ListedDart) → row_cmp x y ≡ Less → is_before e y ≡ true → is_before e x ≡ true
    carried x y h t = elim (ends_rise x y h) [
      | inl a ↦ ap is_lt (ends_cmp_total.trans (ends_of_row x) (ends_of_row y) e a (is_less (ends_cmp (ends_of_row y) e) t))
      | inr b ↦ subst (λ z. is_lt (ends_cmp z e) ≡ true) (sym b) t
    ]

    pub parted_ends : IsPartitionedBy (is_before e) rows
    parted_ends = parted row_cmp (is_before e) rows up (λ x y _ _ h t. carried x y h t)

    here : Dart
    here = ahead (edge_between g.vertices e)

    place : ℕ
    place = dart_place g (ahead (edge_between g.vertices e))

    within : place < length rows
    unfolding place
    within = let w = dart_within g plane (ahead (edge_between g.vertices e)) E in let n = rows_length g in let m = ap length told in omega arith

    row_is : (k : ℕ) → k < length (dart_list g) → row_in rows k ≡ dart_row g (dart_at g k)
    row_is k l = ap (λ rs. get_or rs k no_row) told ∙ row_at g plane k no_row l

    own_ends : ends_of_row (row_in rows place) ≡ e
    unfolding place
    own_ends =
        let w = plane.proper_edge (edge_between g.vertices e) E in
        let r = row_is (dart_place g (ahead (edge_between g.vertices e))) (dart_within g plane (ahead (edge_between g.vertices e)) E) ∙ ap (dart_row g) (dart_at_place g plane (ahead (edge_between g.vertices e)) E) in
        ap ends_of_row r ∙ (λ i. record { low = vertex_at e.low w.0 i; high = vertex_at e.high w.1 i })

    -- two darts with the same ends are one
    one_place : (j k : ℕ) → j < length rows → k < length rows → ends_of_row (row_in rows j) ≡ ends_of_row (row_in rows k) → j ≡ k
    one_place j k l m q =
        let n = rows_length g in
        let o = ap length told in
        let J : j < length (dart_list g) = omega arith in
        let K : k < length (dart_list g) = omega arith in
        let D = dart_there g plane j J in
        let F = dart_there g plane k K in
        let p = sym (ap ends_of_row (row_is j J)) ∙ q ∙ ap ends_of_row (row_is k K) in
        let s = one_vertex g plane (source (dart_at g j)) (source (dart_at g k)) (source_in g plane (dart_at g j) D) (source_in g plane (dart_at g k) F) (ap (λ (x : EdgeEnds). x.low) p) in
        let t = one_vertex g plane (target (dart_at g j)) (target (dart_at g k)) (source_in g plane (twin (dart_at g j)) D) (source_in g plane (twin (dart_at g k)) F) (ap (λ (x : EdgeEnds). x.high) p) in
        sym (place_of_dart g plane j J) ∙ ap (dart_place g) (one_dart g plane (dart_at g j) (dart_at g k) D F s t) ∙ place_of_dart g plane k K

    pub found : (n : ℕ) → IsPartitionPoint (λ r. is_before e r ≡ true) (λ r. is_before e r ≡ false) rows n → n ≡ dart_place g (ahead (edge_between g.vertices e))
    unfolding place
    found n cut = elim (cases_lt place n) [
      | inl l ↦ absurd (ends_never e (subst (λ f. ends_cmp f e ≡ Less) own_ends (is_less (ends_cmp (ends_of_row (row_in rows place)) e) (cut.0 place no_row (omega arith) l))))
      | inr l ↦ elim (cases_lt n place) [
        | inl m ↦
            let w = within in
            let M : n < length rows = omega arith in
            absurd (elim (ends_rise (row_in rows n) (row_in rows place) (rises row_cmp rows up n place no_row m w)) [
              | inl a ↦ false≢true (sym (cut.1 n no_row (omega arith) M) ∙ ap is_lt (subst (λ f. ends_cmp (ends_of_row (row_in rows n)) f ≡ Less) own_ends a))
              | inr b ↦ (let q = one_place n place M w b in omega arith)
            ])
        | inr m ↦ omega arith
      ]
    ]

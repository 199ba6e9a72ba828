-- The order of ways: it tells darts apart, and round one vertex it is the clockwise order.
use Rattle.std.proofs.Common.{◌≡◌, ℕ, zero, suc, ◌+◌, ◌<◌, ◌≤◌, true, false, arith, refl, sym, ap, ◌∙◌, subst, inl, inr, List, map, length, get_or, Less, Equal, nat_cmp}
use Rattle.std.specs.Prelude.{pos, ◌<ℤ◌}
use Rattle.std.specs.List.{AllByRecursion, IsDistinct, range_with_len}
use Rattle.std.specs.List.Sorted.{IsPermutation, IsSorted}
use Rattle.std.specs.Ordering.{ordering_then, eq_by_cmp}
use Rattle.std.specs.Cmp.{IsTotalOrder, then_total, on_total, nat_cmp_total, back_total, tied_itself}
use Rattle.std.proofs.lemmas.Bool.{false_from_ne_true, cases_Bool, ltb-true}
use Rattle.std.proofs.lemmas.List.{length-map, get_or-map}
use Rattle.std.proofs.lemmas.List.Sorted.{Contains-permutation, IsPermutation-sym}
use Rattle.integers.proofs.Compare.{less_in}
use Rattle.integers.proofs.Tests.{nat_exact, nat_less, less_nat, then_rest, is_equal, first_less}
use Rattle.exact_plane.specs.Line.{Line, IsOn, IsForward}
use Rattle.exact_plane.specs.MeetOf.{weight_of}
use Rattle.exact_plane.specs.Point.{Point}
use Rattle.exact_plane.specs.Slope.{rise_cmp}
use Rattle.exact_plane.specs.Span.{Span}
use Rattle.exact_plane.specs.Direction.{turn as cross}
use Rattle.exact_plane.proofs.SlopeLaws.{rise_cmp_total, rise_is}
use Rattle.plane_graphs.specs.Ascending.{Member, IsAscending}
use Rattle.plane_graphs.specs.Graph.{Edge}
use Rattle.plane_graphs.proofs.Ascending.{to_member, from_member}
use Rattle.plane_graphs.proofs.Lists.{in_map, of_map}
use Rattle.plane_graphs.proofs.Sorting.{sorted_ascends, rises, member_at}
use Rattle.slab_laws.specs.declared.rows.ListedDart.{ListedDart}
use Rattle.slab_laws.specs.Darts.{Dart, source, class, by_class, on_left, on_right}
use Rattle.slab_laws.specs.Rotation.{turn, earlier}
use Rattle.slab_laws.specs.Rows.{dart_list, no_dart, dart_at, vertex_place, dart_place, dart_row, dart_rows}
use Rattle.slab_laws.specs.Skeleton.{Skeleton, IsPlaneSkeleton, left_of}
use Rattle.slab_laws.specs.SpansDrawn.{drawn, edge_of}
use Rattle.slab_faces.proofs.Next.{kind_zero, kind_two}
use Rattle.slab_faces.proofs.RotationLemmas.{Early, earlier_out, round_at}
use Rattle.dart_orbits.specs.DartRows.{row_dart}
use Rattle.dart_orbits.proofs.NextPlaces.{edge_there}
use Rattle.dart_orbits.proofs.Listed.{dart_there, place_of_dart, rows_length, row_at, source_of_row, row_dart_is, source_in}
use Rattle.rotation_order.specs.Directions.{dart_direction, IsAlong}
use Rattle.rotation_order.proofs.ClockwiseEdges.{by_directions}
use Rattle.rotation_order.proofs.EdgeCourses.{quarter_is, turn_of_ways}
use Rattle.rotation_order.proofs.LineDirections.{quarters}
use Rattle.exact_plane.proofs.Meetings.{runs, weight_turned}
use Rattle.dart_orbits.specs.Around.{dart_placed, AreAround}
use Rattle.dart_orbits.proofs.Ranges.{in_range, range_in}
use Rattle.dart_orbits.specs.declared.ways.Way.{Way}
use Rattle.dart_orbits.specs.Ways.{no_row, no_span, row_in, span_of_row, way_at, ways_by, way_cmp, dart_of_way, AreOnSpans}

pub way_cmp_total : IsTotalOrder way_cmp
way_cmp_total = then_total (on_total (λ (w : Way). w.source) nat_cmp_total) (then_total (on_total (λ (w : Way). w.quarter) nat_cmp_total) (then_total (back_total (on_total (λ (w : Way). w.line) rise_cmp_total)) (on_total (λ (w : Way). w.dart) nat_cmp_total)))

tied_dart : (v w : Way) → way_cmp v w ≡ Equal → v.dart ≡ w.dart
tied_dart v w h =
    let slope = rise_cmp w.line v.line in
    let dart = nat_cmp v.dart w.dart in
    let rest = ordering_then slope dart in
    nat_exact v.dart w.dart (then_rest slope dart (then_rest (nat_cmp v.quarter w.quarter) rest (then_rest (nat_cmp v.source w.source) (ordering_then (nat_cmp v.quarter w.quarter) rest) h)))

-- what comes first does so by its source, or has the same
by_source : (v w : Way) → way_cmp v w ≡ Less → v.source ≤ w.source
by_source v w h =
    elim (first_less (nat_cmp v.source w.source) (ordering_then (nat_cmp v.quarter w.quarter) (ordering_then (rise_cmp w.line v.line) (nat_cmp v.dart w.dart))) h) [
      | inl a ↦ (let l = less_nat v.source w.source a in omega arith)
      | inr b ↦ (let e = nat_exact v.source w.source b in omega arith)
    ]

by_quarter : (v w : Way) → v.source ≡ w.source → v.quarter < w.quarter → way_cmp v w ≡ Less
by_quarter v w e l =
    (λ i. ordering_then (nat_cmp (e i) w.source) (ordering_then (nat_cmp v.quarter w.quarter) (ordering_then (rise_cmp w.line v.line) (nat_cmp v.dart w.dart))))
    ∙ rw (tied_itself nat_cmp_total w.source, nat_less v.quarter w.quarter l) refl

by_slope : (v w : Way) → v.source ≡ w.source → v.quarter ≡ w.quarter → rise_cmp w.line v.line ≡ Less → way_cmp v w ≡ Less
by_slope v w e f h =
    (λ i. ordering_then (nat_cmp (e i) w.source) (ordering_then (nat_cmp (f i) w.quarter) (ordering_then (h i) (nat_cmp v.dart w.dart))))
    ∙ rw (tied_itself nat_cmp_total w.source, tied_itself nat_cmp_total w.quarter) refl

-- ---- round one point
module _ (d c : Dart) (l m : Line) (D : IsAlong d l) (C : IsAlong c m) (L : IsForward l.a l.b) (M : IsForward m.a m.b) (s : source d ≡ source c) where
  steeper : turn d ≡ turn c → d.forward ≡ c.forward → earlier d c ≡ true → rise_cmp m l ≡ Less
  steeper t f h =
      elim (quarters (dart_direction l d.forward) (dart_direction m c.forward) (sym (by_directions d c l m D C s) ∙ h)) [
        | inl a ↦ absurd (let p = quarter_is d l D in let q = quarter_is c m C in let u = ltb-true _ _ a in omega arith)
        | inr b ↦
            let w : cross (dart_direction l d.forward) (dart_direction m d.forward) <ℤ pos 0 = subst (λ g. cross (dart_direction l d.forward) (dart_direction m g) <ℤ pos 0) (sym f) b.1 in
            let x = subst (λ z. z <ℤ pos 0) (turn_of_ways l m d.forward) w in
            rise_is m l M L ∙ less_in (pos 0) (weight_of m l) (weight_turned l m x)
      ]

  pub ways_rise : (v w : Way) → v.source ≡ w.source → v.quarter ≡ turn d → w.quarter ≡ turn c → v.line ≡ l → w.line ≡ m → earlier d c ≡ true → way_cmp v w ≡ Less
  ways_rise v w e p q x y h = go (earlier_out d c h)
    where
      go : Early d c → way_cmp v w ≡ Less
      go (by_class k) = by_quarter v w e (omega arith)
      go (on_left z t b) =
          by_slope v w e (omega arith) ((λ i. rise_cmp (y i) (x i)) ∙ steeper (z ∙ sym t) ((kind_zero (left_of d.edge.low d.edge.high) d.forward z).1 ∙ sym (kind_zero (left_of c.edge.low c.edge.high) c.forward t).1) h)
      go (on_right z t b) =
          by_slope v w e (omega arith) ((λ i. rise_cmp (y i) (x i)) ∙ steeper (z ∙ sym t) ((kind_two (left_of d.edge.low d.edge.high) d.forward z).1 ∙ sym (kind_two (left_of c.edge.low c.edge.high) c.forward t).1) h)

-- ---- the ways of a graph's darts
module _ (points : List Point) (edges : List Span) (rows : List ListedDart) (plane : IsPlaneSkeleton (drawn points edges)) (e : rows ≡ dart_rows (drawn points edges)) (spans : AreOnSpans edges rows) where
  abbrev G : Skeleton
  G = drawn points edges

  within : (k : ℕ) → k < length (dart_list (drawn points edges)) → k < length rows
  within k l = let n = rows_length G in let m = ap length e in omega arith

  row_is : (k : ℕ) → k < length (dart_list (drawn points edges)) → row_in rows k ≡ dart_row (drawn points edges) (dart_at (drawn points edges) k)
  row_is k l = ap (λ rs. get_or rs k no_row) e ∙ row_at G plane k no_row l

  way : ℕ → Way
  way k = way_at edges rows k

  span : ℕ → Span
  span k = span_of_row edges (row_in rows k)

  dart_read : (k : ℕ) → k < length (dart_list (drawn points edges)) → row_dart (map edge_of edges) (row_in rows k) ≡ dart_at (drawn points edges) k
  dart_read k l = ap (row_dart (map edge_of edges)) (row_is k l) ∙ row_dart_is G plane (dart_at G k) (dart_there G plane k l)

  on_edge : (k : ℕ) → k < length (dart_list (drawn points edges)) → (row_in rows k).edge < length edges
  on_edge k l = edge_there points edges rows plane e k (within k l)

  edge_is : (k : ℕ) → k < length (dart_list (drawn points edges)) → edge_of (span k) ≡ (dart_at (drawn points edges) k).edge
  unfolding span
  edge_is k l = sym (get_or-map edge_of edges (row_in rows k).edge no_span no_dart.edge (on_edge k l)) ∙ ap (λ (d : Dart). d.edge) (dart_read k l)

  quarter_of : (k : ℕ) → k < length (dart_list (drawn points edges)) → (way k).quarter ≡ turn (dart_at (drawn points edges) k)
  unfolding span way
  quarter_of k l = λ i. class (edge_is k l i) (ap (λ (d : Dart). d.forward) (dart_read k l) i)

  along : (k : ℕ) → k < length (dart_list (drawn points edges)) → IsAlong (dart_at (drawn points edges) k) (span k).line
  unfolding span
  along k l =
      let E = dart_there G plane k l in
      let W = plane.proper_edge (dart_at G k).edge E in
      let S = spans k (within k l) in
      record {
        edge = record { low_weight = W.0; high_weight = W.1; forward = plane.forward (dart_at G k).edge E; upright = plane.upright (dart_at G k).edge E };
        line = record { lowest = S.line.lowest; runs = runs (span k).line.a (span k).line.b S.line.runs };
        low_on = subst (λ (x : Edge). IsOn (span k).line x.low) (edge_is k l) S.way.lower_on;
        high_on = subst (λ (x : Edge). IsOn (span k).line x.high) (edge_is k l) S.way.upper_on;
      }

  rising : (j k : ℕ) → j < length (dart_list (drawn points edges)) → k < length (dart_list (drawn points edges)) → source (dart_at (drawn points edges) j) ≡ source (dart_at (drawn points edges) k) → earlier (dart_at (drawn points edges) j) (dart_at (drawn points edges) k) ≡ true → way_cmp (way j) (way k) ≡ Less
  unfolding span way
  rising j k J K s h =
      ways_rise (dart_at G j) (dart_at G k) (span j).line (span k).line (along j J) (along k K) (spans j (within j J)).line.runs (spans k (within k K)).line.runs s (way j) (way k)
      (source_of_row G plane rows e j J ∙ ap (vertex_place G) s ∙ sym (source_of_row G plane rows e k K)) (quarter_of j J) (quarter_of k K) refl refl h

  -- so darts of one source that come one after the other by their ways do so clockwise
  clockwise : (j k : ℕ) → j < length (dart_list (drawn points edges)) → k < length (dart_list (drawn points edges)) → source (dart_at (drawn points edges) j) ≡ source (dart_at (drawn points edges) k) → way_cmp (way j) (way k) ≡ Less → earlier (dart_at (drawn points edges) j) (dart_at (drawn points edges) k) ≡ true
  clockwise j k J K s h =
      let d = dart_at G j in
      let c = dart_at G k in
      let v = source c in
      let E = dart_there G plane j J in
      let F = dart_there G plane k K in
      let o = round_at G v plane (source_in G plane c F) in
      let never : (w : Way) → way_cmp w w ≡ Less → ⊥ = λ w t. (let u = tied_itself way_cmp_total w in cc) in
      elim (cases_Bool (earlier d c)) [
        | inl y ↦ y
        | inr n ↦ absurd (elim (cases_Bool (earlier c d)) [
          | inl y ↦ never (way j) (way_cmp_total.trans (way j) (way k) (way j) h (rising k j K J (sym s) y))
          | inr m ↦
              let one : d ≡ c = o.total d c (record { in' = E; at = s }) (record { in' = F; at = refl }) n m in
              let same : j ≡ k = sym (place_of_dart G plane j J) ∙ ap (dart_place G) one ∙ place_of_dart G plane k K in
              never (way k) (subst (λ i. way_cmp (way i) (way k) ≡ Less) same h)
        ])
      ]

  -- ---- the ways, sorted
  unlike : (j k : ℕ) → j < k → eq_by_cmp way_cmp (way j) (way k) ≡ false
  unfolding way
  unlike j k l = false_from_ne_true _ (λ h. let q = tied_dart (way j) (way k) (is_equal (way_cmp (way j) (way k)) h) in absurd (omega arith))

  differ : (j a n : ℕ) → j < a → AllByRecursion (λ w. eq_by_cmp way_cmp (way j) w ≡ false) (map way (range_with_len a n))
  differ j a zero l = tt
  differ j a (suc n) l = (unlike j a l, differ j (a + 1) n (omega arith))

  distinct : (a n : ℕ) → IsDistinct (eq_by_cmp way_cmp) (map way (range_with_len a n))
  unfolding IsDistinct
  distinct a zero = tt
  distinct a (suc n) = (differ a (a + 1) n (omega arith), distinct (a + 1) n)

  module _ (ws : List Way) (moved : IsPermutation (ways_by edges rows) ws) (sorted : IsSorted way_cmp ws) where
    up : IsAscending way_cmp ws
    unfolding way
    up = sorted_ascends way_cmp way_cmp_total (ways_by edges rows) ws (distinct 0 (length rows)) moved sorted

    was : (w : Way) → Member w ws → (k : ℕ) × (k < length rows) × (w ≡ way k)
    unfolding way
    was w m =
        let x = of_map way w (range_with_len 0 (length rows)) (to_member (ways_by edges rows) w (Contains-permutation ws (ways_by edges rows) w (IsPermutation-sym (ways_by edges rows) ws moved) (from_member ws w m))) in
        (x.0, in_range (length rows) x.0 x.1, x.2)

    way_there : (i : ℕ) → i < length ws → get_or ws i (way 0) ≡ way (get_or ws i (way 0)).dart
    unfolding way
    way_there i l = let x = was (get_or ws i (way 0)) (member_at ws i (way 0) l) in x.2 ∙ ap way (sym (ap dart_of_way x.2))

    placed : (i : ℕ) → i < length ws → get_or (map dart_of_way ws) i 0 ≡ (get_or ws i (way 0)).dart
    placed i l = get_or-map dart_of_way ws i (way 0) 0 l

    inside : (i : ℕ) → i < length ws → (get_or ws i (way 0)).dart < length (dart_list (drawn points edges))
    unfolding way
    inside i l = let x = was (get_or ws i (way 0)) (member_at ws i (way 0) l) in let y = ap dart_of_way x.2 in let n = rows_length G in let m = ap length e in omega (arith, x.1)

    less_at : (i k : ℕ) → i < k → k < length ws → way_cmp (way (get_or ws i (way 0)).dart) (way (get_or ws k (way 0)).dart) ≡ Less
    less_at i k l m = subst (λ v. way_cmp v (way (get_or ws k (way 0)).dart) ≡ Less) (way_there i (omega arith)) (subst (λ v. way_cmp (get_or ws i (way 0)) v ≡ Less) (way_there k m) (rises way_cmp ws up i k (way 0) l m))

    pub around : (ps : List ℕ) → ps ≡ map dart_of_way ws → AreAround (drawn points edges) ps
    unfolding way
    around ps q = subst (AreAround G) (sym q) (record {
      within = λ i l. let j : i < length ws = short i l in subst (λ (n : ℕ). n < length (dart_list G)) (sym (placed i j)) (inside i j);
      all = λ k l.
          let m = in_map way k (range_with_len 0 (length rows)) (range_in (length rows) k (within k l)) in
          let x = Contains-permutation (ways_by edges rows) ws (way k) moved (from_member (ways_by edges rows) (way k) m) in
          (x.0, long x.0 x.1, get_or-map dart_of_way ws x.0 (way k) 0 x.1 ∙ ap dart_of_way x.2);
      sources = λ i k l m.
          let K : k < length ws = short k m in
          let I : i < length ws = omega arith in
          subst (λ (a : ℕ). vertex_place G (source (dart_at G a)) ≤ vertex_place G (source (dart_placed G (map dart_of_way ws) k))) (sym (placed i I))
          (subst (λ (b : ℕ). vertex_place G (source (dart_at G (get_or ws i (way 0)).dart)) ≤ vertex_place G (source (dart_at G b))) (sym (placed k K))
          (let a = source_of_row G plane rows e (get_or ws i (way 0)).dart (inside i I) in
          let b = source_of_row G plane rows e (get_or ws k (way 0)).dart (inside k K) in
          let h = by_source (way (get_or ws i (way 0)).dart) (way (get_or ws k (way 0)).dart) (less_at i k l K) in omega arith));
      turns = λ i k l m s.
          let K : k < length ws = short k m in
          let I : i < length ws = omega arith in
          let P = λ (a b : ℕ). source (dart_at G a) ≡ source (dart_at G b) in
          let Q = λ (a b : ℕ). earlier (dart_at G a) (dart_at G b) ≡ true in
          let t = clockwise (get_or ws i (way 0)).dart (get_or ws k (way 0)).dart (inside i I) (inside k K) ((λ j. source (dart_at G (sym (placed i I) j))) ∙ s ∙ (λ j. source (dart_at G (placed k K j)))) (less_at i k l K) in
          (λ j. earlier (dart_at G (placed i I j)) (dart_at G (placed k K j))) ∙ t;
    })
      where
        short : (i : ℕ) → i < length (map dart_of_way ws) → i < length ws
        short i l = let n = length-map ws dart_of_way in omega arith

        long : (i : ℕ) → i < length ws → i < length (map dart_of_way ws)
        long i l = let n = length-map ws dart_of_way in omega arith

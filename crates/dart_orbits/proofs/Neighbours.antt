-- The follower of a dart clockwise round its source is its neighbour in the list, or the first of its source after the last.
use Rattle.std.proofs.Common.{◌≡◌, ℕ, ◌+◌, ◌-◌, ◌<◌, ◌≤◌, Bool, true, false, cond, List, map, length, get_or, Contains, arith, refl, sym, ap, ◌∙◌, subst, inl, inr, ltb}
use Rattle.std.specs.List.Sorted.{IsPartitionedBy, IsPartitionPoint}
use Rattle.std.proofs.lemmas.Bool.{false≢true, false_from_ne_true, cases_lt, ltb-true, ltb-false, lt-ltb}
use Rattle.exact_plane.specs.Point.{Point}
use Rattle.exact_plane.specs.Span.{Span}
use Rattle.plane_graphs.proofs.Sorting.{any_default}
use Rattle.slab_laws.specs.declared.rows.ListedDart.{ListedDart}
use Rattle.slab_laws.specs.Darts.{Dart, source}
use Rattle.slab_laws.specs.Rotation.{earlier, OutOf}
use Rattle.slab_laws.specs.Rows.{dart_list, dart_at, vertex_place, dart_rows}
use Rattle.slab_laws.specs.Skeleton.{Skeleton, IsPlaneSkeleton}
use Rattle.slab_laws.specs.SpansDrawn.{drawn, edge_of}
use Rattle.slab_faces.proofs.RotationLemmas.{round_at}
use Rattle.dart_orbits.specs.DartRows.{place_after}
use Rattle.dart_orbits.specs.Turns.{comes_first}
use Rattle.dart_orbits.proofs.Listed.{dart_there, rows_length, source_of_row, source_in, one_vertex}
use Rattle.dart_orbits.proofs.NextPlaces.{first_is}
use Rattle.dart_orbits.specs.Around.{source_placed, AreAround, AreBySource, IsFirstPlaced, IsFirstAround}
use Rattle.dart_orbits.specs.Ways.{row_in}

-- ---- the first of a source
-- it begins where the dart before has another source
pub begins : (rows : List ListedDart) (ps : List ℕ) → AreBySource rows ps → (i : ℕ) → i < length ps → ((k : ℕ) → i ≡ k + 1 → source_placed rows ps k ≡ source_placed rows ps i → ⊥) → IsFirstPlaced rows ps (source_placed rows ps i) (get_or ps i 0)
begins rows ps up i l new = record {
  at = i;
  within = l;
  there = refl;
  same = refl;
  first = λ j J s. elim (cases_lt j i) [
    | inl u ↦ (
        let low : source_placed rows ps j ≤ source_placed rows ps (i - 1) = elim (cases_lt j (i - 1)) [
          | inl w ↦ up j (i - 1) w (omega arith)
          | inr w ↦ (let q : j ≡ i - 1 = omega arith in let e = ap (source_placed rows ps) q in omega arith)
        ] in
        let high = up (i - 1) i (omega arith) l in
        absurd (new (i - 1) (omega arith) (omega arith)))
    | inr u ↦ u
  ];
}

module _ (rows : List ListedDart) (ps : List ℕ) (up : AreBySource rows ps) (v i : ℕ) (l : i < length ps) (own : source_placed rows ps i ≡ v) where
  -- whether the source of the dart at a place comes before
  abbrev pub is_before : ℕ → Bool
  is_before p = ltb (row_in rows p).source v

  pub parted_before : IsPartitionedBy is_before ps
  parted_before = λ k j d h m t.
      let M : row_in rows (get_or ps j d) ≡ row_in rows (get_or ps j 0) = ap (row_in rows) (any_default ps j d 0 m) in
      let K : row_in rows (get_or ps k d) ≡ row_in rows (get_or ps k 0) = ap (row_in rows) (any_default ps k d 0 (omega arith)) in
      let a = ltb-true _ _ (subst (λ (r : ListedDart). ltb r.source v ≡ true) M t) in
      let b : source_placed rows ps k ≤ source_placed rows ps j = elim (cases_lt k j) [ inl u ↦ up k j u m | inr u ↦ (let q : k ≡ j = omega arith in let w = ap (source_placed rows ps) q in omega arith) ] in
      subst (λ (r : ListedDart). ltb r.source v ≡ true) (sym K) (lt-ltb (source_placed rows ps k) v (omega arith))

  module _ (n : ℕ) (cut : IsPartitionPoint (λ p. is_before p ≡ true) (λ p. is_before p ≡ false) ps n) where
    pub upto : n ≤ i
    upto = elim (cases_lt i n) [
      | inl h ↦ absurd (let t = ltb-true _ _ (cut.0 i 0 (omega arith) h) in omega arith)
      | inr h ↦ h
    ]

    after_all : (j : ℕ) → j < length ps → source_placed rows ps j ≡ v → n ≤ j
    after_all j m e = elim (cases_lt j n) [
      | inl h ↦ absurd (let t = ltb-true _ _ (cut.0 j 0 (omega arith) h) in omega arith)
      | inr h ↦ h
    ]

    pub first_found : (r : ℕ) → r ≡ get_or ps n 0 → IsFirstPlaced rows ps v r
    first_found r e =
        let u = upto in
        let m : n < length ps = omega arith in
        let t : v ≤ source_placed rows ps n = ltb-false (source_placed rows ps n) v (cut.1 n 0 (omega arith) m) in
        record {
          at = n;
          within = m;
          there = e;
          same = elim (cases_lt n i) [ inl h ↦ (let k = up n i h l in omega arith) | inr h ↦ (let k : n ≡ i = omega arith in ap (source_placed rows ps) k ∙ own) ];
          first = after_all;
        }

-- ---- which dart is met first
by_next : (x y z : Bool) → y ≡ true → (x ≡ true → z ≡ false) → cond x (cond y z true) (cond y false z) ≡ false
by_next true true z e f = f refl
by_next true false z e f = absurd (false≢true e)
by_next false true z e f = refl
by_next false false z e f = absurd (false≢true e)

pub by_first : (x y z : Bool) → x ≡ false → y ≡ false → z ≡ false → cond x (cond y z true) (cond y false z) ≡ false
by_first true y z e f h = absurd (false≢true (sym e))
by_first false true z e f h = absurd (false≢true (sym f))
by_first false false z e f h = h

module _ (points : List Point) (edges : List Span) (rows : List ListedDart) (plane : IsPlaneSkeleton (drawn points edges)) (e : rows ≡ dart_rows (drawn points edges)) (ps : List ℕ) (h : AreAround (drawn points edges) ps) where
  abbrev G : Skeleton
  G = drawn points edges

  place : ℕ → ℕ
  place i = get_or ps i 0

  dart : ℕ → Dart
  dart i = dart_at G (get_or ps i 0)

  from_row : (k : ℕ) → k < length (dart_list (drawn points edges)) → (row_in rows k).source ≡ vertex_place (drawn points edges) (source (dart_at (drawn points edges) k))
  from_row = source_of_row G plane rows e

  pub by_source : AreBySource rows ps
  by_source = λ i k l m. let a = h.sources i k l m in let p = from_row (get_or ps i 0) (h.within i (omega arith)) in let q = from_row (get_or ps k 0) (h.within k m) in omega arith

  there : (i : ℕ) → i < length ps → Contains (map edge_of edges) (dart i).edge
  unfolding dart
  there i l = dart_there G plane (get_or ps i 0) (h.within i l)

  -- one source by rows, one source
  one_source : (i k : ℕ) → i < length ps → k < length ps → source_placed rows ps i ≡ source_placed rows ps k → source (dart i) ≡ source (dart k)
  unfolding dart
  one_source i k l m s =
      one_vertex G plane (source (dart i)) (source (dart k)) (source_in G plane (dart i) (there i l)) (source_in G plane (dart k) (there k m))
      (sym (from_row (get_or ps i 0) (h.within i l)) ∙ s ∙ from_row (get_or ps k 0) (h.within k m))

  same_place : (i k : ℕ) → i < length ps → k < length ps → source (dart i) ≡ source (dart k) → source_placed rows ps i ≡ source_placed rows ps k
  unfolding dart
  same_place i k l m s = from_row (get_or ps i 0) (h.within i l) ∙ ap (vertex_place G) s ∙ sym (from_row (get_or ps k 0) (h.within k m))

  -- what stands no later isn't met later
  not_back : (i k : ℕ) → i ≤ k → k < length ps → source (dart i) ≡ source (dart k) → earlier (dart k) (dart i) ≡ false
  unfolding dart
  not_back i k l m s =
      let I : i < length ps = omega arith in
      let o = round_at G (source (dart k)) plane (source_in G plane (dart k) (there k m)) in
      let a : OutOf G (source (dart k)) (dart i) = record { in' = there i I; at = s } in
      let b : OutOf G (source (dart k)) (dart k) = record { in' = there k m; at = refl } in
      false_from_ne_true _ (λ t. elim (cases_lt i k) [
        | inl u ↦ o.asym (dart i) (dart k) a b (h.turns i k u m s) t
        | inr u ↦ (let q : k ≡ i = omega arith in o.itself (dart i) a (subst (λ j. earlier (dart j) (dart i) ≡ true) q t))
      ])

  -- the dart whose place stands at i is followed by the one at k, if no dart of its source is met before that one
  followed : (i k : ℕ) → i < length ps → k < length ps → source (dart k) ≡ source (dart i) → ((m : ℕ) → m < length ps → source (dart m) ≡ source (dart i) → comes_first (dart i) (dart m) (dart k) ≡ false) → place k ≡ place_after (drawn points edges) (place i)
  unfolding dart place
  followed i k l m s none =
      let n = rows_length G in
      let q = ap length e in
      let a = h.within i l in
      first_is points edges rows plane e (get_or ps i 0) (get_or ps k 0) (length rows) (omega arith) (omega arith) (record {
        in' = h.within k m;
        out = s;
        none = λ j _ J t. let w = h.all j J in subst (λ (c : ℕ). source (dart_at G c) ≡ source (dart i) → comes_first (dart i) (dart_at G c) (dart k) ≡ false) w.2 (none w.0 w.1) t;
      })

  pub next_is : (i : ℕ) → i + 1 < length ps → source_placed rows ps (i + 1) ≡ source_placed rows ps i → get_or ps (i + 1) 0 ≡ place_after (drawn points edges) (get_or ps i 0)
  unfolding dart place comes_first
  next_is i l s =
      let I : i < length ps = omega arith in
      let same = one_source (i + 1) i l I s in
      followed i (i + 1) I l same (λ m M t.
      by_next (earlier (dart i) (dart m)) (earlier (dart i) (dart (i + 1))) (earlier (dart m) (dart (i + 1))) (h.turns i (i + 1) (omega arith) l (sym same))
      (λ u. elim (cases_lt i m) [
        | inl v ↦ not_back (i + 1) m (omega arith) M (same ∙ sym t)
        | inr v ↦ absurd (false≢true (sym (not_back m i v I t) ∙ u))
      ]))

  pub first_is_next : (i r : ℕ) → i < length ps → (i + 1 < length ps → source_placed rows ps (i + 1) ≡ source_placed rows ps i → ⊥) → IsFirstPlaced rows ps (source_placed rows ps i) r → r ≡ place_after (drawn points edges) (get_or ps i 0)
  unfolding dart place comes_first
  first_is_next i r l last f =
      let K : f.at < length ps = f.within in
      let same = one_source f.at i K l f.same in
      f.there ∙ followed i f.at l K same (λ m M t.
      let s = same_place m i M l t in
      let low : m ≤ i = elim (cases_lt i m) [
        | inl v ↦ absurd (last (omega arith) (elim (cases_lt (i + 1) m) [
          | inl w ↦ (let a = by_source (i + 1) m w M in let b = by_source i (i + 1) (omega arith) (omega arith) in omega arith)
          | inr w ↦ (let q : m ≡ i + 1 = omega arith in sym (ap (source_placed rows ps) q) ∙ s)
        ]))
        | inr v ↦ v
      ] in
      by_first (earlier (dart i) (dart m)) (earlier (dart i) (dart f.at)) (earlier (dart m) (dart f.at)) (not_back m i low l t) (not_back f.at i (f.first i l refl) l same) (not_back f.at m (f.first m M s) M (same ∙ sym t)))

  -- the first of a dart's source comes first clockwise
  pub first_around : (k r : ℕ) → k < length (dart_list (drawn points edges)) → IsFirstPlaced rows ps (row_in rows k).source r → IsFirstAround (drawn points edges) k r
  unfolding dart place
  first_around k r l f =
      let w = h.all k l in
      let K = subst (λ (c : ℕ). source_placed rows ps f.at ≡ (row_in rows c).source) (sym w.2) f.same in
      let same = one_source f.at w.0 f.within w.1 K in
      subst (λ (a : ℕ). IsFirstAround G k a) (sym f.there) (record {
        within = h.within f.at f.within;
        same = same ∙ ap (λ c. source (dart_at G c)) w.2;
        first = λ j J s.
            let z = h.all j J in
            let t : source (dart z.0) ≡ source (dart f.at) = ap (λ c. source (dart_at G c)) z.2 ∙ s ∙ ap (λ c. source (dart_at G c)) (sym w.2) ∙ sym same in
            let low = f.first z.0 z.1 (same_place z.0 f.at z.1 f.within t ∙ f.same) in
            subst (λ (c : ℕ). earlier (dart_at G c) (dart f.at) ≡ false) z.2 (not_back f.at z.0 low z.1 (sym t));
      })

  -- a dart stands somewhere
  pub stands : (k : ℕ) → k < length rows → (i : ℕ) × (i < length ps) × (source_placed rows ps i ≡ (row_in rows k).source)
  stands k l = let n = rows_length G in let m = ap length e in let w = h.all k (omega arith) in (w.0, w.1, ap (λ c. (row_in rows c).source) w.2)

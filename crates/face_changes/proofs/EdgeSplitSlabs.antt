-- An edge that is split: a slab that it spans is spanned by one of its parts, at the place of the whole.
-- g has the edge e, h its two parts at v; hv and hs are the vertices and edges of h, `rest` the edges of both.
use Rattle.std.proofs.Common.{◌≡◌, ℕ, ◌+◌, ◌<◌, ◌≤◌, Bool, true, false, cond, arith, refl, sym, ap, ◌∙◌, subst, inl, inr, List}
use Rattle.std.specs.Prelude.{◌&&◌, pos}
use Rattle.std.specs.List.{Contains}
use Rattle.std.proofs.lemmas.Bool.{cases_lt, lt-ltb, le-ltb}
use Rattle.std.proofs.lemmas.Bool.Decides.{nat_tests}
use lib.Dec.{ltb, leb}
use Rattle.exact_plane.specs.Point.{Point}
use Rattle.plane_graphs.specs.Graph.{Edge}
use Rattle.slab_laws.specs.Skeleton.{gap, Skeleton, HasWeight, below, IsPlaneSkeleton}
use Rattle.slab_laws.specs.Slabs.{slab_right, spans, place}
use Rattle.slab_laws.specs.Weights.{weight_above}
use Rattle.slab_faces.proofs.Sums.{each, sum_by-same}
use Rattle.slab_faces.proofs.Cells.{right_few}
use Rattle.face_changes.proofs.NewWall.{narrow, same_spans}
use Rattle.slab_faces.proofs.Slabs.{IsThrough, IsSlab, gap_at, below_at, through}
use Rattle.slab_faces.proofs.Along.{below_self}
use Rattle.face_changes.specs.EdgeSplit.{HasEdgeSplit}
use Rattle.std.proofs.lemmas.Int.{ints}
use lib.Signed.{lt_z}
use Rattle.rotation_order.specs.EdgeParts.{lower_part, upper_part}
use Rattle.plane_graphs.proofs.Lists.{both_ways}
use Rattle.face_changes.proofs.EdgeParts.{IsPart, lower_is, upper_is}
use Rattle.face_changes.proofs.EdgeSplitFacts.{SplitFacts, split_facts}

-- ---- numbers of slabs
leb_no : (i k : ℕ) → i < k → leb k i ≡ false
leb_no i k h = grind (arith, nat_tests)

leb_yes : (i k : ℕ) → k ≤ i → leb k i ≡ true
leb_yes i k h = grind (arith, nat_tests)

parts_by : (a b c i n : ℕ) (o : Bool) → a ≤ b → b ≤ c → cond ((leb a i && ltb i b) && o) n 0 + cond ((leb b i && ltb i c) && o) n 0 ≡ cond ((leb a i && ltb i c) && o) n 0
parts_by a b c i n o f k = elim (cases_lt i b) [
  | inl l ↦ rw (leb_no i b l, lt-ltb i b l, lt-ltb i c (omega arith)) (omega arith)
  | inr l ↦ rw (leb_yes i b l, le-ltb i b l, leb_yes i a (omega arith)) (omega arith)
]

-- ---- above or below, at a point inside a slab
below_by : (s : Skeleton) → IsPlaneSkeleton s → (x y : Edge) (M : Point) → Contains s.edges x → Contains s.edges y → HasWeight M → IsThrough x M → IsThrough y M → below x y ≡ lt_z (pos 0) (gap x y M)
below_by s pl x y M X Y K a b = both_ways (below x y) (lt_z (pos 0) (gap x y M)) (λ k. let q = gap_at s x y M pl X Y K a b k in sym (omega (arith, ints))) (λ k. below_at s x y M pl X Y K a b (omega (arith, ints)))

module _ (g : Skeleton) (hv : List Point) (hs : List Edge) (e : Edge) (v : Point) (rest : List Edge) (m : HasEdgeSplit g (record { vertices = hv; edges = hs }) e v rest) where
  abbrev h : Skeleton
  h = record { vertices = hv; edges = hs }

  abbrev facts : SplitFacts g hv hs e v rest
  facts = split_facts g hv hs e v rest m

  slabs_rise : (slab_right h e.low ≤ slab_right h v) × (slab_right h v ≤ slab_right h e.high)
  slabs_rise = (right_few h e.low v m.plane_more facts.low_weight facts.weight facts.after_low, right_few h v e.high m.plane_more facts.weight facts.high_weight facts.before_high)

  parts_span : (i n : ℕ) (o : Bool) → cond (spans h i (lower_part e v) && o) n 0 + cond (spans h i (upper_part e v) && o) n 0 ≡ cond (spans g (narrow g v i) e && o) n 0
  parts_span i n o =
      parts_by (slab_right h e.low) (slab_right h v) (slab_right h e.high) i n o slabs_rise.0 slabs_rise.1
      ∙ ap (λ b. cond (b && o) n 0) (same_spans g h v facts.new e facts.edge_in i)

  -- ---- above or below
  data PartOf (q : Edge) : Type 0 where
    is_lower : q ≡ lower_part e v → PartOf q
    is_upper : q ≡ upper_part e v → PartOf q

  part_in : (q : Edge) → PartOf q → Contains hs q
  part_in q (is_lower k) = subst (Contains hs) (sym k) facts.lower_in
  part_in q (is_upper k) = subst (Contains hs) (sym k) facts.upper_in

  part_is : (q : Edge) → PartOf q → IsPart q e
  part_is q (is_lower k) = subst (λ z. IsPart z e) (sym k) (lower_is e v facts.mean)
  part_is q (is_upper k) = subst (λ z. IsPart z e) (sym k) (upper_is e v facts.mean)

  whole_through : (q : Edge) → PartOf q → (M : Point) → HasWeight M → IsThrough q M → IsThrough e M
  whole_through q (is_lower k) M K t = let u = subst (λ z. IsThrough z M) k t in record { from = u.from; to = facts.right_high M K u.to }
  whole_through q (is_upper k) M K t = let u = subst (λ z. IsThrough z M) k t in record { from = facts.low_left M K u.from; to = u.to }

  module _ (i : ℕ) (M : Point) (slab : IsSlab h i M) where
    module _ (q : Edge) (Q : PartOf q) (sq : spans h i q ≡ true) (z : Edge) (Z : Contains rest z) (sz : spans h i z ≡ true) where
      tq : IsThrough q M
      tq = through h i M q slab (part_in q Q) sq

      tz : IsThrough z M
      tz = through h i M z slab (facts.kept_edge z Z) sz

      te : IsThrough e M
      te = whole_through q Q M slab.proper tq

      part_below : below q z ≡ below e z
      part_below = below_by h m.plane_more q z M (part_in q Q) (facts.kept_edge z Z) slab.proper tq tz ∙ (part_is q Q).gap_from z M ∙ sym (below_by g m.plane e z M facts.edge_in (facts.old_edge z Z) slab.proper te tz)

      below_part : below z q ≡ below z e
      below_part = below_by h m.plane_more z q M (facts.kept_edge z Z) (part_in q Q) slab.proper tz tq ∙ (part_is q Q).gap_to z M ∙ sym (below_by g m.plane z e M (facts.old_edge z Z) facts.edge_in slab.proper tz te)

    either_span : (b x y : Bool) (n : ℕ) → (b ≡ true → x ≡ y) → cond (b && x) n 0 ≡ cond (b && y) n 0
    either_span true x y n f = ap (λ c. cond c n 0) (f refl)
    either_span false x y n f = refl

    rest_spans : (f : Edge) → Contains rest f → spans h i f ≡ spans g (narrow g v i) f
    rest_spans f F = same_spans g h v facts.new f (facts.old_edge f F) i

    pub place_rest : (z : Edge) → Contains rest z → spans h i z ≡ true → place h i z ≡ place g (narrow g v i) z
    place_rest z Z sz =
        let a = m.sums_more (λ f. cond (spans h i f && below f z) 1 0) in
        let b = m.sums (λ f. cond (spans g (narrow g v i) f && below f z) 1 0) in
        let c = sum_by-same (λ f. cond (spans h i f && below f z) 1 0) (λ f. cond (spans g (narrow g v i) f && below f z) 1 0) rest (each (λ f. cond {A = ℕ} (spans h i f && below f z) 1 0 ≡ cond (spans g (narrow g v i) f && below f z) 1 0) rest (λ f F. ap (λ t. cond {A = ℕ} (t && below f z) 1 0) (rest_spans f F))) in
        let x = either_span (spans h i (lower_part e v)) (below (lower_part e v) z) (below e z) 1 (λ k. part_below (lower_part e v) (is_lower refl) k z Z sz) in
        let y = either_span (spans h i (upper_part e v)) (below (upper_part e v) z) (below e z) 1 (λ k. part_below (upper_part e v) (is_upper refl) k z Z sz) in
        let w = parts_span i 1 (below e z) in
        omega arith

    not_both : spans h i (lower_part e v) ≡ true → spans h i (upper_part e v) ≡ true → ⊥
    not_both k l =
        let a = parts_span i 1 true in
        let b : cond {A = ℕ} (spans h i (lower_part e v) && true) 1 0 ≡ 1 = rw k refl in
        let c : cond {A = ℕ} (spans h i (upper_part e v) && true) 1 0 ≡ 1 = rw l refl in
        let d = at_most (spans g (narrow g v i) e && true) in
        absurd (omega arith)
      where
        at_most : (b : Bool) → cond {A = ℕ} b 1 0 ≤ 1
        at_most true = omega arith
        at_most false = omega arith

    none_of : (s b : Bool) → (s ≡ true → b ≡ false) → cond {A = ℕ} (s && b) 1 0 ≡ 0
    none_of true b f = rw (f refl) refl
    none_of false b f = refl

    place_part : (q : Edge) → PartOf q → spans h i q ≡ true → place h i q ≡ place g (narrow g v i) e
    place_part q Q sq =
        let a = m.sums_more (λ f. cond (spans h i f && below f q) 1 0) in
        let b = m.sums (λ f. cond (spans g (narrow g v i) f && below f e) 1 0) in
        let c = sum_by-same (λ f. cond (spans h i f && below f q) 1 0) (λ f. cond (spans g (narrow g v i) f && below f e) 1 0) rest (each (λ f. cond {A = ℕ} (spans h i f && below f q) 1 0 ≡ cond (spans g (narrow g v i) f && below f e) 1 0) rest
        (λ f F. either_span (spans h i f) (below f q) (below f e) 1 (λ k. below_part q Q sq f F k) ∙ ap (λ t. cond {A = ℕ} (t && below f e) 1 0) (rest_spans f F))) in
        let x = none_of (spans h i (lower_part e v)) (below (lower_part e v) q) (λ k. own_low q Q sq k) in
        let y = none_of (spans h i (upper_part e v)) (below (upper_part e v) q) (λ k. own_high q Q sq k) in
        let w = none_of (spans g (narrow g v i) e) (below e e) (λ _. below_self g e m.plane facts.edge_in) in
        omega arith
      where
        own_low : (q : Edge) → PartOf q → spans h i q ≡ true → spans h i (lower_part e v) ≡ true → below (lower_part e v) q ≡ false
        own_low q (is_lower k) s t = subst (λ z. below (lower_part e v) z ≡ false) (sym k) (below_self h (lower_part e v) m.plane_more facts.lower_in)
        own_low q (is_upper k) s t = absurd (not_both t (subst (λ z. spans h i z ≡ true) k s))

        own_high : (q : Edge) → PartOf q → spans h i q ≡ true → spans h i (upper_part e v) ≡ true → below (upper_part e v) q ≡ false
        own_high q (is_lower k) s t = absurd (not_both (subst (λ z. spans h i z ≡ true) k s) t)
        own_high q (is_upper k) s t = subst (λ z. below (upper_part e v) z ≡ false) (sym k) (below_self h (upper_part e v) m.plane_more facts.upper_in)

    pub place_lower : spans h i (lower_part e v) ≡ true → place h i (lower_part e v) ≡ place g (narrow g v i) e
    place_lower = place_part (lower_part e v) (is_lower refl)

    pub weight_parted : (n k : Edge → ℕ) (j : ℕ) → n (lower_part e v) ≡ k e → n (upper_part e v) ≡ k e → ((z : Edge) → Contains rest z → n z ≡ k z) → weight_above h n i j ≡ weight_above g k (narrow g v i) j
    weight_parted n k j p q r =
        let a = m.sums_more (λ f. cond (spans h i f && leb j (place h i f)) (n f) 0) in
        let b = m.sums (λ f. cond (spans g (narrow g v i) f && leb j (place g (narrow g v i) f)) (k f) 0) in
        let c = sum_by-same (λ f. cond (spans h i f && leb j (place h i f)) (n f) 0) (λ f. cond (spans g (narrow g v i) f && leb j (place g (narrow g v i) f)) (k f) 0) rest (each (λ f. cond (spans h i f && leb j (place h i f)) (n f) 0 ≡ cond (spans g (narrow g v i) f && leb j (place g (narrow g v i) f)) (k f) 0) rest
        (λ f F. either_span (spans h i f) (leb j (place h i f)) (leb j (place g (narrow g v i) f)) (n f) (λ s. ap (leb j) (place_rest f F s)) ∙ (λ t. cond (rest_spans f F t && leb j (place g (narrow g v i) f)) (r f F t) 0))) in
        let x = either_span (spans h i (lower_part e v)) (leb j (place h i (lower_part e v))) (leb j (place g (narrow g v i) e)) (n (lower_part e v)) (λ s. ap (leb j) (place_part (lower_part e v) (is_lower refl) s)) ∙ ap (λ t. cond (spans h i (lower_part e v) && leb j (place g (narrow g v i) e)) t 0) p in
        let y = either_span (spans h i (upper_part e v)) (leb j (place h i (upper_part e v))) (leb j (place g (narrow g v i) e)) (n (upper_part e v)) (λ s. ap (leb j) (place_part (upper_part e v) (is_upper refl) s)) ∙ ap (λ t. cond (spans h i (upper_part e v) && leb j (place g (narrow g v i) e)) t 0) q in
        let w = parts_span i (k e) (leb j (place g (narrow g v i) e)) in
        omega arith

-- Points in order: by abscissa, then by ordinate.
use Rattle.std.proofs.Common.{◌≡◌, true, false, sym, ap, ◌∙◌, inl, inr}
use Rattle.std.specs.Prelude.{not}
use Rattle.std.proofs.lemmas.Bool.{false≢true, and_parts, and_from, or_left, or_right, or_cases, not-true, false_from_ne_true, cases_Bool}
use Rattle.exact_plane.specs.Point.{Point}
use Rattle.slab_laws.specs.Skeleton.{HasWeight, left_of, lower_than, precedes}
use Rattle.slab_faces.proofs.Walls.{left_of-asym, left_of-before, left_of-after, lower_than-before, lower_than-after, lower_than-asym, left_of-irrefl, lower_than-irrefl}
use Rattle.slab_faces.proofs.Cells.{not_right_trans}

pub before_left : (p q : Point) → left_of p q ≡ true → precedes p q ≡ true
before_left p q h = or_left _ _ h

pub before_lower : (p q : Point) → left_of q p ≡ false → lower_than p q ≡ true → precedes p q ≡ true
before_lower p q h k = or_right (left_of p q) _ (and_from _ _ (ap not h) k)

-- what comes before isn't on the right
pub before_weak : (p q : Point) → precedes p q ≡ true → left_of q p ≡ false
before_weak p q h = elim (or_cases _ _ h) [ inl a ↦ left_of-asym p q a | inr a ↦ not-true _ (and_parts _ _ a).0 ]

-- on one wall it is lower
pub before_on_wall : (p q : Point) → precedes p q ≡ true → left_of p q ≡ false → lower_than p q ≡ true
before_on_wall p q h n = elim (or_cases _ _ h) [ inl a ↦ absurd (false≢true (sym n ∙ a)) | inr a ↦ (and_parts _ _ a).1 ]

pub not_before_left : (p q : Point) → precedes p q ≡ false → left_of p q ≡ false
not_before_left p q h = false_from_ne_true _ (λ k. false≢true (sym h ∙ before_left p q k))

pub not_before_lower : (p q : Point) → precedes p q ≡ false → left_of q p ≡ false → lower_than p q ≡ false
not_before_lower p q h n = false_from_ne_true _ (λ k. false≢true (sym h ∙ before_lower p q n k))

pub before_asym : (p q : Point) → precedes p q ≡ true → precedes q p ≡ false
before_asym p q h = false_from_ne_true _ (λ k.
    let a = before_weak p q h in
    let b = before_weak q p k in
    false≢true (sym (lower_than-asym p q (before_on_wall p q h b)) ∙ before_on_wall q p k a))

pub before_irrefl : (p : Point) → precedes p p ≡ false
before_irrefl p = false_from_ne_true _ (λ h. false≢true (sym (lower_than-irrefl p) ∙ before_on_wall p p h (left_of-irrefl p)))

-- p ≤ q < r
pub after_before : (p q r : Point) → HasWeight p → HasWeight q → HasWeight r → precedes q p ≡ false → precedes q r ≡ true → precedes p r ≡ true
after_before p q r P Q R h k =
    let n = not_before_left q p h in
    elim (or_cases _ _ k) [
      | inl a ↦ before_left p r (left_of-after p q r P Q R n a)
      | inr a ↦
          let b = and_parts _ _ a in
          let c = not-true _ b.0 in
          elim (cases_Bool (left_of p r)) [
            | inl d ↦ before_left p r d
            | inr d ↦
                let e : left_of p q ≡ false = false_from_ne_true _ (λ x. false≢true (sym d ∙ left_of-before p q r P Q R x c)) in
                before_lower p r (not_right_trans p q r P Q R n c) (lower_than-after p q r P Q R (not_before_lower q p h e) b.1)
          ]
    ]

-- p < q ≤ r
pub before_after : (p q r : Point) → HasWeight p → HasWeight q → HasWeight r → precedes p q ≡ true → precedes r q ≡ false → precedes p r ≡ true
before_after p q r P Q R k h =
    let n = not_before_left r q h in
    elim (or_cases _ _ k) [
      | inl a ↦ before_left p r (left_of-before p q r P Q R a n)
      | inr a ↦
          let b = and_parts _ _ a in
          let c = not-true _ b.0 in
          elim (cases_Bool (left_of p r)) [
            | inl d ↦ before_left p r d
            | inr d ↦
                let e : left_of q r ≡ false = false_from_ne_true _ (λ x. false≢true (sym d ∙ left_of-after p q r P Q R c x)) in
                before_lower p r (not_right_trans p q r P Q R c n) (lower_than-before p q r P Q R b.1 (not_before_lower r q h e))
          ]
    ]

pub before_trans : (p q r : Point) → HasWeight p → HasWeight q → HasWeight r → precedes p q ≡ true → precedes q r ≡ true → precedes p r ≡ true
before_trans p q r P Q R h k = before_after p q r P Q R h (before_asym q r k)

-- Where a dart that leaves a point inside an edge stands among the two parts of the edge: on the left it comes after the lower part, on the right after the upper one.
use Rattle.std.proofs.Common.{◌≡◌, ℕ, Bool, true, false, cond, arith, refl, sym, ap, ◌∙◌, subst, ◌⊎◌, inl, inr}
use Rattle.std.specs.Prelude.{not, ◌&&◌, ◌||◌, ◌==◌, pos, ◌<ℤ◌}
use Rattle.std.proofs.lemmas.Int.{ints}
use Rattle.std.proofs.lemmas.Bool.{false≢true, cases_Bool, false_from_ne_true, and_parts}
use lib.Dec.{ltb}
use Rattle.exact_plane.specs.Point.{Point}
use Rattle.plane_graphs.specs.Graph.{Edge}
use Rattle.rotation_order.specs.EdgeParts.{lower_part, upper_part}
use Rattle.rotation_order.specs.RingOrder.{sooner_by}
use Rattle.rotation_order.proofs.EdgeCuts.{parted}
use Rattle.slab_faces.proofs.Upright.{upright_on}
use Rattle.slab_faces.proofs.Points.{before_weak, before_on_wall}
use Rattle.rotation_order.proofs.Fans.{from_low, from_low_too, from_high, from_high_too}
use Rattle.integers.proofs.Tests.{lt_yes}
use Rattle.slab_laws.specs.Darts.{Dart, ahead, back, kind}
use Rattle.slab_laws.specs.Rotation.{turn, earlier}
use Rattle.slab_laws.specs.Skeleton.{HasWeight, left_of, lower_than, on_wall, side, below, precedes, inside}
use Rattle.slab_faces.proofs.Walls.{left_of-before, left_of-after, run_positive}
use Rattle.slab_faces.proofs.Along.{side_above, side_below, upright_left, upright_right}
use Rattle.sound_changes.proofs.PointInside.{MeanOf, lower_left, lower_right, upper_left, upper_right}

-- ---- which of two darts is met earlier
by_turn : (d e : Dart) (m n : ℕ) → turn d ≡ m → turn e ≡ n → ltb m n ≡ true → earlier d e ≡ true
unfolding earlier
by_turn d e m n a b h = rw (a, b, h) refl

not_by_turn : (d e : Dart) (m n : ℕ) → turn d ≡ m → turn e ≡ n → ltb m n ≡ false → (m == n) ≡ false → earlier d e ≡ false
unfolding earlier
not_by_turn d e m n a b h k = rw (a, b, h, k) refl

both_left : (d e : Dart) → turn d ≡ 0 → turn e ≡ 0 → below d.edge e.edge ≡ true → earlier d e ≡ true
unfolding earlier
both_left d e a b h = rw (a, b, h) refl

both_right : (d e : Dart) → turn d ≡ 2 → turn e ≡ 2 → below e.edge d.edge ≡ true → earlier d e ≡ true
unfolding earlier
both_right d e a b h = rw (a, b, h) refl

within : (a b c : Bool) → a ≡ true → c ≡ true → cond a (not b || c) (not b && c) ≡ true
within true true true p q = refl
within true false true p q = refl
within true b false p q = absurd (false≢true q)
within false b c p q = absurd (false≢true p)

round_first : (a b c : Bool) → b ≡ false → a ≡ true → cond a (not b || c) (not b && c) ≡ true
round_first true false c p q = refl
round_first a true c p q = absurd (false≢true (sym p))
round_first false false c p q = absurd (false≢true q)

round_last : (a b c : Bool) → b ≡ false → c ≡ true → cond a (not b || c) (not b && c) ≡ true
round_last true false true p q = refl
round_last false false true p q = refl
round_last a true c p q = absurd (false≢true (sym p))
round_last a false false p q = absurd (false≢true q)

-- t lies off a vertical edge to the left, or to the right
module _ (f : Edge) (p t : Point) (L : HasWeight f.low) (H : HasWeight f.high) (P : HasWeight p) (T : HasWeight t) (fwd : left_of f.high f.low ≡ false) (upr : on_wall f.low f.high ≡ true → lower_than f.low f.high ≡ true) (i : inside f p ≡ true) (on : side f p ≡ pos 0) (mean : MeanOf f p) where
  low_before : precedes f.low p ≡ true
  low_before = (and_parts (precedes f.low p) (precedes p f.high) (and_parts (precedes f.low p && precedes p f.high) _ i).0).0

  before_high : precedes p f.high ≡ true
  before_high = (and_parts (precedes f.low p) (precedes p f.high) (and_parts (precedes f.low p && precedes p f.high) _ i).0).1

  abbrev bl : Dart
  bl = back (lower_part f p)

  abbrev au : Dart
  au = ahead (upper_part f p)

  bl_turn : (l : Bool) → left_of f.low f.high ≡ l → turn (back (lower_part f p)) ≡ kind l false
  bl_turn l q = (parted f p L H P i).backward ∙ ap (λ b. kind b false) q

  au_turn : (l : Bool) → left_of f.low f.high ≡ l → turn (ahead (upper_part f p)) ≡ kind l true
  au_turn l q = (parted f p L H P i).onward ∙ ap (λ b. kind b true) q

  low_long : left_of f.low f.high ≡ true → left_of f.low p ≡ true
  low_long q = go (left_of f.low p) refl (bl_turn true q)
    where
      go : (b : Bool) → left_of f.low p ≡ b → kind (left_of f.low p) false ≡ 0 → left_of f.low p ≡ true
      go true r k = r
      go false r k = absurd (three_zero (ap (λ b. kind b false) (sym r) ∙ k))
        where
          three_zero : ◌≡◌ {A = ℕ} 3 0 → ⊥
          three_zero z = omega arith

  high_long : left_of f.low f.high ≡ true → left_of p f.high ≡ true
  high_long q = go (left_of p f.high) refl (au_turn true q)
    where
      go : (b : Bool) → left_of p f.high ≡ b → kind (left_of p f.high) true ≡ 2 → left_of p f.high ≡ true
      go true r k = r
      go false r k = absurd (one_two (ap (λ b. kind b true) (sym r) ∙ k))
        where
          one_two : ◌≡◌ {A = ℕ} 1 2 → ⊥
          one_two z = omega arith

  -- a vertical edge: t is on the same side of p
  left_there : left_of f.low f.high ≡ false → pos 0 <ℤ side f t → left_of t p ≡ true
  left_there v s =
      let a : left_of t f.low ≡ true = elim (cases_Bool (left_of t f.low)) [
        | inl k ↦ k
        | inr k ↦ elim (cases_Bool (left_of f.low t)) [
          | inl n ↦ let r = upright_right f t L v fwd (upr (rw (v, fwd) refl)) n in absurd (omega (arith, ints))
          | inr n ↦ let r = upright_on f t L v fwd n k in absurd (omega (arith, ints))
        ]
      ] in
      left_of-before t f.low p T L P a (before_weak f.low p low_before)

  right_there : left_of f.low f.high ≡ false → side f t <ℤ pos 0 → left_of p t ≡ true
  right_there v s =
      let a : left_of f.low t ≡ true = elim (cases_Bool (left_of f.low t)) [
        | inl k ↦ k
        | inr k ↦ elim (cases_Bool (left_of t f.low)) [
          | inl n ↦ let r = upright_left f t L v fwd (upr (rw (v, fwd) refl)) n in absurd (omega (arith, ints))
          | inr n ↦ let r = upright_on f t L v fwd k n in absurd (omega (arith, ints))
        ]
      ] in
      let b : left_of f.low p ≡ false = false_from_ne_true _ (λ k. false≢true (sym v ∙ left_of-before f.low p f.high L P H k (before_weak p f.high before_high))) in
      left_of-after p f.low t P L T b a

  -- ---- x goes from p up to t, or from p down to t
  module _ (h : precedes p t ≡ true) where
    abbrev up_x : Dart
    up_x = ahead (record { low = p; high = t })

    left_up : pos 0 <ℤ side f t → sooner_by earlier (back (lower_part f p)) (ahead (record { low = p; high = t })) (ahead (upper_part f p)) ≡ true
    left_up s = elim (cases_Bool (left_of f.low f.high)) [
      | inr v ↦ absurd (false≢true (sym (before_weak p t h) ∙ left_there v s))
      | inl nv ↦ elim (cases_Bool (left_of p t)) [
        | inl r ↦
            let b : below (upper_part f p) (record { low = p; high = t }) ≡ true = from_low_too (record { low = p; high = t }) (upper_part f p) r (high_long nv) refl ∙ upper_left f p mean t ∙ lt_yes _ _ s in
            within _ _ _ (by_turn bl up_x 0 2 (bl_turn true nv) (ap (λ b. kind b true) r) refl) (both_right up_x au (ap (λ b. kind b true) r) (au_turn true nv) b)
        | inr n ↦ within _ _ _ (by_turn bl up_x 0 1 (bl_turn true nv) (ap (λ b. kind b true) n) refl) (by_turn up_x au 1 2 (ap (λ b. kind b true) n) (au_turn true nv) refl)
      ]
    ]

    right_up : side f t <ℤ pos 0 → sooner_by earlier (ahead (upper_part f p)) (ahead (record { low = p; high = t })) (back (lower_part f p)) ≡ true
    right_up s = elim (cases_Bool (left_of f.low f.high)) [
      | inr v ↦
          let r = right_there v s in
          within _ _ _ (by_turn au up_x 1 2 (au_turn false v) (ap (λ b. kind b true) r) refl) (by_turn up_x bl 2 3 (ap (λ b. kind b true) r) (bl_turn false v) refl)
      | inl nv ↦ elim (cases_Bool (left_of p t)) [
        | inl r ↦
            let b : below (record { low = p; high = t }) (upper_part f p) ≡ true = from_low (upper_part f p) (record { low = p; high = t }) (high_long nv) r refl ∙ upper_right f p mean t ∙ lt_yes _ _ s in
            round_first _ _ _ (not_by_turn au bl 2 0 (au_turn true nv) (bl_turn true nv) refl refl) (both_right au up_x (au_turn true nv) (ap (λ b. kind b true) r) b)
        | inr n ↦ let k = side_above f p t P (run_positive f nv) on (before_weak p t h) n (before_on_wall p t h n) in absurd (omega (arith, ints))
      ]
    ]

  module _ (h : precedes t p ≡ true) where
    abbrev down_x : Dart
    down_x = back (record { low = t; high = p })

    left_down : pos 0 <ℤ side f t → sooner_by earlier (back (lower_part f p)) (back (record { low = t; high = p })) (ahead (upper_part f p)) ≡ true
    left_down s = elim (cases_Bool (left_of f.low f.high)) [
      | inr v ↦
          let r = left_there v s in
          round_last _ _ _ (not_by_turn bl au 3 1 (bl_turn false v) (au_turn false v) refl refl) (by_turn down_x au 0 1 (ap (λ b. kind b false) r) (au_turn false v) refl)
      | inl nv ↦ elim (cases_Bool (left_of t p)) [
        | inl r ↦
            let b : below (lower_part f p) (record { low = t; high = p }) ≡ true = from_high_too (record { low = t; high = p }) (lower_part f p) r (low_long nv) refl ∙ lower_left f p mean t ∙ lt_yes _ _ s in
            within _ _ _ (both_left bl down_x (bl_turn true nv) (ap (λ b. kind b false) r) b) (by_turn down_x au 0 2 (ap (λ b. kind b false) r) (au_turn true nv) refl)
        | inr n ↦ let k = side_below f p t P (run_positive f nv) on n (before_weak t p h) (before_on_wall t p h n) in absurd (omega (arith, ints))
      ]
    ]

    right_down : side f t <ℤ pos 0 → sooner_by earlier (ahead (upper_part f p)) (back (record { low = t; high = p })) (back (lower_part f p)) ≡ true
    right_down s = elim (cases_Bool (left_of f.low f.high)) [
      | inr v ↦ absurd (false≢true (sym (before_weak t p h) ∙ right_there v s))
      | inl nv ↦ elim (cases_Bool (left_of t p)) [
        | inl r ↦
            let b : below (record { low = t; high = p }) (lower_part f p) ≡ true = from_high (lower_part f p) (record { low = t; high = p }) (low_long nv) r refl ∙ lower_right f p mean t ∙ lt_yes _ _ s in
            round_last _ _ _ (not_by_turn au bl 2 0 (au_turn true nv) (bl_turn true nv) refl refl) (both_left down_x bl (ap (λ b. kind b false) r) (bl_turn true nv) b)
        | inr n ↦ round_first _ _ _ (not_by_turn au bl 2 0 (au_turn true nv) (bl_turn true nv) refl refl) (by_turn au down_x 2 3 (au_turn true nv) (ap (λ b. kind b false) n) refl)
      ]
    ]

  -- ---- whichever way x goes
  abbrev pub Leaves : Dart → Type 0
  Leaves x = (x ≡ ahead (record { low = p; high = t })) × (precedes p t ≡ true) ⊎ (x ≡ back (record { low = t; high = p })) × (precedes t p ≡ true)

  pub on_left : (x : Dart) → Leaves x → pos 0 <ℤ side f t → sooner_by earlier (back (lower_part f p)) x (ahead (upper_part f p)) ≡ true
  on_left x w s = elim w [
    | inl a ↦ subst (λ z. sooner_by earlier (back (lower_part f p)) z (ahead (upper_part f p)) ≡ true) (sym a.0) (left_up a.1 s)
    | inr a ↦ subst (λ z. sooner_by earlier (back (lower_part f p)) z (ahead (upper_part f p)) ≡ true) (sym a.0) (left_down a.1 s)
  ]

  pub on_right : (x : Dart) → Leaves x → side f t <ℤ pos 0 → sooner_by earlier (ahead (upper_part f p)) x (back (lower_part f p)) ≡ true
  on_right x w s = elim w [
    | inl a ↦ subst (λ z. sooner_by earlier (ahead (upper_part f p)) z (back (lower_part f p)) ≡ true) (sym a.0) (right_up a.1 s)
    | inr a ↦ subst (λ z. sooner_by earlier (ahead (upper_part f p)) z (back (lower_part f p)) ≡ true) (sym a.0) (right_down a.1 s)
  ]

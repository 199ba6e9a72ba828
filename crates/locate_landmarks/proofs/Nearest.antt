-- The nearest of the seven numbers, by the middles between them.
use Rattle.std.proofs.Common.{◌≡◌, ℕ, ◌*◌, ◌<◌, ◌≤◌, ℤ, pos, ◌-ℤ◌, ◌*ℤ◌, ◌<ℤ◌, ◌≤ℤ◌, [], ◌∷◌, arith, refl, sym, ◌∙◌, ap, subst, ◌⊎◌, inl, inr}
use Rattle.std.specs.Prelude.{◌+ℤ◌, unsigned_abs, Bool, true, false, Ok, Err, if◌then◌else◌}
use Rattle.std.proofs.lemmas.Int.{ints}
use Rattle.std.proofs.lemmas.Bool.{cases_lt}
use Rattle.integers.proofs.Reify.{ring, sides}
use Rattle.exact_plane.specs.Point.{Point, in_range, reduced}
use Rattle.exact_plane.specs.PointOf.{point_of}
use Rattle.exact_plane.specs.Segment.{whole_point}
use Rattle.exact_plane.specs.declared.point.PointError.TheVariants.{Range}
use Rattle.exact_plane.proofs.Lowest.{whole_is_reduced}
use Rattle.slab_faces.proofs.Ints.{times_at_most}
use Rattle.locate_landmarks.specs.Grid.{grid_number, distance, IsNearest}

spread : (n c d w : ℤ) → (n *ℤ c -ℤ d) *ℤ w ≡ c *ℤ (w *ℤ n) -ℤ d *ℤ w
spread n c d w = ring (n ∷ c ∷ d ∷ w ∷ []) (search sides depth 40 fits 20000) tt

-- of a column, its abscissa times a weight
at : (k : ℕ) (d w : ℤ) → (pos (k * 4194304) -ℤ d) *ℤ w ≡ pos 4194304 *ℤ (w *ℤ pos k) -ℤ d *ℤ w
at k d w = ap (λ z. (z -ℤ d) *ℤ w) (of_pos k) ∙ spread (pos k) (pos 4194304) d w
  where
    of_pos : (k : ℕ) → pos (k * 4194304) ≡ pos k *ℤ pos 4194304
    of_pos k = omega (arith, ints)

-- one column further on is a weight further on
further : (j k : ℕ) (w : ℤ) → pos 0 <ℤ w → k < j → (w *ℤ pos k +ℤ w) ≤ℤ (w *ℤ pos j)
further j k w W h =
    let t = times_at_most w (pos k +ℤ pos 1) (pos j) W (omega (arith, ints)) in
    let e : w *ℤ (pos k +ℤ pos 1) ≡ w *ℤ pos k +ℤ w = by w (pos k) in
    omega (arith, ints)
  where
    by : (w n : ℤ) → w *ℤ (n +ℤ pos 1) ≡ w *ℤ n +ℤ w
    by w n = ring (w ∷ n ∷ []) (search sides depth 40 fits 20000) tt

module _ (x w : ℤ) (k : ℕ) (W : pos 0 <ℤ w) (in' : k < 7) (from : (k ≡ 0) ⊎ (((pos (k * 4194304) -ℤ pos 14680064) *ℤ w) <ℤ x)) (to : (k ≡ 6) ⊎ (x ≤ℤ ((pos (k * 4194304) -ℤ pos 10485760) *ℤ w))) where
  mine : (pos (k * 4194304) -ℤ pos 12582912) *ℤ w ≡ pos 4194304 *ℤ (w *ℤ pos k) -ℤ pos 12582912 *ℤ w
  mine = at k (pos 12582912) w

  -- those on the right are no nearer, those on the left are farther
  right : (j : ℕ) → j < 7 → k < j → distance x w (grid_number k) ≤ distance x w (grid_number j)
  right j J h = elim to [
    | inl e ↦ absurd (omega arith)
    | inr u ↦
        let f = further j k w W h in
        let a = at j (pos 12582912) w in
        let b = at k (pos 10485760) w in
        let c = mine in
        omega (arith, ints)
  ]

  left : (j : ℕ) → j < k → distance x w (grid_number k) < distance x w (grid_number j)
  left j h = elim from [
    | inl e ↦ absurd (omega arith)
    | inr u ↦
        let f = further k j w W h in
        let a = at j (pos 12582912) w in
        let b = at k (pos 14680064) w in
        let c = mine in
        omega (arith, ints)
  ]

  pub is_nearest : IsNearest x w (grid_number k)
  is_nearest = record {
    on_grid = (k, in', refl);
    nearest = λ j J. elim (cases_lt k j) [
      | inl h ↦ right j J h
      | inr h ↦ elim (cases_lt j k) [
        | inl l ↦ let d = left j l in omega arith
        | inr l ↦ let e : j ≡ k = omega arith in subst (λ i. distance x w (grid_number k) ≤ distance x w (grid_number i)) (sym e) (omega arith)
      ]
    ];
    lesser = λ j J same. elim (cases_lt j k) [
      | inl l ↦ let d = left j l in absurd (omega arith)
      | inr l ↦ omega (arith, ints)
    ];
  }

-- ---- the point at two whole numbers
made : (b : Bool) (r p : Point) → (if b then Ok r else Err Range) ≡ Ok p → p ≡ r
made true r p e = cc
made false r p e = cc

pub whole_made : (x y : ℤ) (p : Point) → point_of x y (pos 1) ≡ Ok p → p ≡ whole_point x y
whole_made x y p e = made (in_range x y (pos 1)) (reduced x y (pos 1)) p e ∙ sym (whole_is_reduced x y (pos 1) refl)

pub grid_within : (k : ℕ) → k < 7 → unsigned_abs (grid_number k) ≤ 12582912
grid_within k h = omega (arith, ints)

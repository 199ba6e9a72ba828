use Rattle.std.proofs.Common.{◌≡◌, ℤ, ℕ, pos, ◌<◌, ◌≤◌, ◌%◌, ◌/◌, to_z, of_z, arith, sym, ap, subst, ◌∙◌}
use Rattle.std.specs.Prelude.{unsigned_abs}
use Rattle.std.specs.Int.{w64, w128}
use Rattle.std.proofs.lemmas.Int.{to_z-of_z, fits_signed_from_abs}
use Rattle.locate_landmarks.specs.Grid.{grid_number}
use Rattle.locate_landmarks.proofs.Nearest.{grid_within, whole_made}
use Rattle.locate_landmarks.proofs.grid.landmark_at.Goals as goal

pub returns : goal.returns
returns c =
    let a : c.args.index / 7 < 7 = omega (arith, c.requires) in
    let b : c.args.index % 7 < 7 = omega arith in
    let x = c.grid_number-x.ensures in
    let y = c.grid_number-y.ensures ∙ ap grid_number c.row_of.ensures in
    let m = whole_made _ _ c.unwrap.result (sym c.new.ensures.value ∙ c.unwrap.ensures) in
    m ∙ (λ i. record { x = as_is c.grid_number-x.result (c.args.index / 7) a x i; y = as_is c.grid_number-y.result (c.args.index % 7) b y i; w = pos 1 })
  where
    as_is : (z : ℤ) (k : ℕ) → k < 7 → z ≡ grid_number k → to_z w128 (of_z w128 (to_z w64 (of_z w64 z))) ≡ grid_number k
    as_is z k h e =
        let n = grid_within k h in
        let m : unsigned_abs z ≤ 12582912 = subst (λ y. unsigned_abs y ≤ 12582912) (sym e) n in
        ap (λ y. to_z w128 (of_z w128 y)) (to_z-of_z w64 z (fits_signed_from_abs w64 z (omega arith)))
        ∙ to_z-of_z w128 z (fits_signed_from_abs w128 z (omega arith)) ∙ e

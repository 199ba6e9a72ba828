-- What the tests of a removal tell of its refusals.
use Rattle.std.proofs.Common.{◌≡◌, ℕ, ◌<◌, ◌≤◌, arith, true, false, List, refl, sym, subst, inl, inr}
use Rattle.std.specs.Prelude.{◌↔◌}
use Rattle.std.specs.List.{list_any}
use Rattle.plane_graphs.specs.Ascending.{Member}
use Rattle.plane_graphs.specs.Graph.{same_curve}
use Rattle.plane_graphs.proofs.Lists.{any_in, any_none, any_out, decide}
use Rattle.plane_graphs.proofs.Order.{curve_in, curve_out}
use Rattle.integers.proofs.Tests.{not_true}

-- ---- whether a curve has the number
module _ (names : List ℕ) (c : ℕ) where
  member : list_any (same_curve c) names ≡ true → Member c names
  member t = let n = any_out (same_curve c) names t in subst (λ z. Member z names) (sym (curve_out c n.0 n.2)) n.1

  pub is_named : Member c names → list_any (same_curve c) names ≡ true
  is_named m = any_in (same_curve c) c names m (curve_in c c refl)

  pub not_named : (Member c names → ⊥) → list_any (same_curve c) names ≡ false
  not_named none = not_true (list_any (same_curve c) names) (λ t. none (member t))

  -- what is told where no curve has the number, is not told where one has
  pub named_unless : (T : Type 0) → (T ↔ ¬ Member c names) → (T → ⊥) → Member c names
  named_unless T told not_told =
      elim (decide (list_any (same_curve c) names)) [
        | inl t ↦ member t
        | inr f ↦ absurd (not_told (told.1 (λ m. any_none (same_curve c) c names f m (curve_in c c refl))))
      ]

-- ---- how many pieces are left
pub passes : (limit m n left : ℕ) → m ≡ limit → n ≡ left → m < n → limit < left
passes limit m n left e f h = omega arith

pub fits : (limit m n left : ℕ) → m ≡ limit → n ≡ left → n ≤ m → left ≤ limit
fits limit m n left e f h = omega arith

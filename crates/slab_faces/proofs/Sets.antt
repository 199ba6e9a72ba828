-- Lists in which each member stands once.
use Rattle.std.proofs.Common.{◌≡◌, ℕ, ◌+◌, Bool, cond, arith, refl, sym, ap, ◌∙◌, subst, inl, inr, List, ◌∷◌}
use Rattle.std.specs.List.{count_by, Contains}
use Rattle.std.proofs.lemmas.Bool.{false_from_ne_true}
use Rattle.std.proofs.lemmas.List.Sums.{sum_by-cons}
use Rattle.slab_faces.proofs.EveryFace.{none_counted}
use Rattle.slab_faces.proofs.Shift.{IsSetBy}
use Rattle.slab_faces.proofs.Turns.{member_cases}

-- one more in front
pub set_cons : {X : Type 0} (eq : X → X → Bool) (x : X) (xs : List X) → IsSetBy eq xs → ¬ Contains xs x → IsSetBy eq (x ∷ xs)
set_cons {X} eq x xs s new = record { sound = s.sound; self = s.self; once = once_each }
  where
    once_each : (z : X) → Contains (x ∷ xs) z → count_by (eq z) (x ∷ xs) ≡ 1
    once_each z Z =
        let a : count_by (eq z) (x ∷ xs) ≡ cond (eq z x) 1 0 + count_by (eq z) xs = sum_by-cons (λ y. cond (eq z y) 1 0) x xs in
        elim (member_cases x xs z Z) [
          | inl q ↦
              let b : cond {A = ℕ} (eq z x) 1 0 ≡ 1 = ap (λ y. cond {A = ℕ} (eq y x) 1 0) (sym q) ∙ rw (s.self x) refl in
              let c = none_counted (eq z) xs (λ y Y. false_from_ne_true _ (λ k. new (subst (Contains xs) (sym (s.sound z y k) ∙ sym q) Y))) in
              omega arith
          | inr k ↦
              let b : cond {A = ℕ} (eq z x) 1 0 ≡ 0 = rw (false_from_ne_true (eq z x) (λ t. new (subst (Contains xs) (s.sound z x t) k))) refl in
              let c = s.once z k in
              omega arith
        ]

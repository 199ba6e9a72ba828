-- What is counted is there.
use Rattle.std.proofs.Common.{◌≡◌, ℕ, ◌+◌, ◌<◌, Bool, true, cond, arith, refl, inl, inr, List, [], ◌∷◌}
use Rattle.std.specs.List.{count_by, Contains}
use Rattle.std.proofs.lemmas.Bool.{cases_Bool}
use Rattle.std.proofs.lemmas.List.Sums.{sum_by-cons}
use Rattle.std.proofs.lemmas.List.Elements.{Contains-append_left, Contains-append_right, Contains-push}

pub found : {X : Type 0} (p : X → Bool) (xs : List X) → 0 < count_by p xs → (x : X) × Contains xs x × (p x ≡ true)
found p [] h = absurd (omega arith)
found p (x ∷ xs) h =
    elim (cases_Bool (p x)) [
      | inl a ↦ (x, Contains-append_left (x ∷ []) xs x (Contains-push [] x), a)
      | inr a ↦
          let e : count_by p (x ∷ xs) ≡ cond (p x) 1 0 + count_by p xs = sum_by-cons (λ x. cond (p x) 1 0) x xs in
          let k : cond {A = ℕ} (p x) 1 0 ≡ 0 = rw a refl in
          let r = found p xs (omega arith) in
          (r.0, Contains-append_right (x ∷ []) xs r.0 r.1, r.2)
    ]

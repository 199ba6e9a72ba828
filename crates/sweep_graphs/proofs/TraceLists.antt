-- The last vertices on pieces, one place more.
use Rattle.std.proofs.Common.{◌≡◌, ℕ, ◌+◌, ◌<◌, arith, sym, ap, ◌∙◌, subst, ◌⊎◌, inl, inr, List, [], ◌∷◌, length, take, get_or}
use Rattle.std.specs.Prelude.{slice_index_or, slice_set}
use Rattle.std.proofs.lemmas.Bool.{cases_lt}
use Rattle.std.proofs.lemmas.List.{get_or-set_same, get_or-set_other, take_more}
use Rattle.plane_graphs.specs.Ascending.{Member}
use Rattle.plane_graphs.proofs.Lists.{in_either, in_left, in_right}

pub set_more : (xs : List ℕ) (k v : ℕ) (now new : List ℕ) → k < length xs → get_or xs k 0 < length now → ((i : ℕ) → Member i (take k xs) → slice_index_or now i 0 ≡ v) → new ≡ slice_set now (get_or xs k 0) v → (i : ℕ) → Member i (take (k + 1) xs) → slice_index_or new i 0 ≡ v
set_more xs k v now new h b f e i m =
    let x = get_or xs k 0 in
    ap (λ ys. slice_index_or ys i 0) e ∙ elim (same i x) [
      | inl q ↦ ap (λ j. slice_index_or (slice_set now x v) j 0) q ∙ get_or-set_same now x v 0 b
      | inr q ↦ get_or-set_other now x i v 0 q ∙ f i (elim (in_either i (take k xs) (x ∷ []) (subst (Member i) (take_more xs k 0 h) m)) [ inl a ↦ a | inr a ↦ elim a [ inl w ↦ absurd (q w) | inr w ↦ absurd w ] ])
    ]
  where
    same : (i j : ℕ) → (i ≡ j) ⊎ (i ≡ j → ⊥)
    same i j = elim (cases_lt i j) [
      | inl l ↦ inr (λ e. absurd (omega arith))
      | inr l ↦ elim (cases_lt j i) [ inl k ↦ inr (λ e. absurd (omega arith)) | inr k ↦ inl (omega arith) ]
    ]

pub kept_more : (xs : List ℕ) (k v : ℕ) (old now new : List ℕ) → k < length xs → ((i : ℕ) → (Member i (take k xs) → ⊥) → slice_index_or now i 0 ≡ slice_index_or old i 0) → new ≡ slice_set now (get_or xs k 0) v → (i : ℕ) → (Member i (take (k + 1) xs) → ⊥) → slice_index_or new i 0 ≡ slice_index_or old i 0
kept_more xs k v old now new h f e i m =
    let x = get_or xs k 0 in
    ap (λ ys. slice_index_or ys i 0) e ∙ get_or-set_other now x i v 0 (λ q. m (subst (Member i) (sym (take_more xs k 0 h)) (in_right i (take k xs) (x ∷ []) (inl q)))) ∙ f i (λ w. m (subst (Member i) (sym (take_more xs k 0 h)) (in_left i (take k xs) (x ∷ []) w)))

-- places that are read from a slice
pub bound_by : (xs ys : List ℕ) (m n : ℕ) → ys ≡ xs → n ≡ m → ((i : ℕ) → Member i xs → i < m) → (i : ℕ) → Member i ys → i < n
bound_by xs ys m n e f h i k = let a = h i (subst (Member i) e k) in omega arith

-- Lists that grow by an element and by parts that are sorted by themselves: they have the same elements.
use Rattle.std.proofs.Common.{◌≡◌, ◌++◌, ◌∷◌, [], List, sym, ◌∙◌, subst}
use Rattle.std.specs.List.Sorted.{IsPermutation}
use Rattle.std.proofs.lemmas.List.{append_assoc}
use Rattle.std.proofs.lemmas.List.Sorted.{IsPermutation-refl, IsPermutation-trans, IsPermutation-append_left}

module _ {X : Type 0} (ws ts us vs xs : List X) (y : X) where
  -- a part that goes to the others, and an element that begins the next
  pub begun : IsPermutation (ws ++ ts) us → vs ≡ [] → xs ≡ vs ++ (y ∷ []) → IsPermutation ((ws ++ ts) ++ (y ∷ [])) (us ++ xs)
  begun p e h = subst (λ (zs : List X). IsPermutation ((ws ++ ts) ++ (y ∷ [])) (us ++ zs)) (sym (h ∙ (λ i. e i ++ (y ∷ [])))) (IsPermutation-append_left (y ∷ []) (ws ++ ts) us p)

  -- an element that goes to a part
  pub lengthened : us ≡ ws → vs ≡ ts → xs ≡ vs ++ (y ∷ []) → IsPermutation ((ws ++ ts) ++ (y ∷ [])) (us ++ xs)
  lengthened p e h =
      subst (IsPermutation ((ws ++ ts) ++ (y ∷ []))) (append_assoc ws ts (y ∷ []) ∙ (λ i. sym p i ++ sym (h ∙ (λ j. e j ++ (y ∷ []))) i)) (IsPermutation-refl ((ws ++ ts) ++ (y ∷ [])))

-- one element more in both
pub also : {X : Type 0} (xs bs cs ds : List X) (y : X) → IsPermutation xs bs → ds ≡ xs ++ (y ∷ []) → IsPermutation (bs ++ (y ∷ [])) cs → IsPermutation ds cs
also xs bs cs ds y p e q = subst (λ zs. IsPermutation zs cs) (sym e) (IsPermutation-trans (xs ++ (y ∷ [])) (bs ++ (y ∷ [])) cs (IsPermutation-append_left (y ∷ []) xs bs p) q)

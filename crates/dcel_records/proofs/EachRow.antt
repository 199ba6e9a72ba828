-- What is true of each row of a slab, after a write.
use Rattle.std.proofs.Common.{◌≡◌, inl, inr, ℕ, Option, Some, None, is_some, option_map, refl, sym, ap, subst, ◌∙◌}
use Rattle.std.proofs.lemmas.Bool.{cases_eq}
use Rattle.slab.specs.Slab.{Slab, get, with_value, Updates}
use Rattle.slab.proofs.SlabLemmas.{Updates-with_value}

module _ {X : Type 0} (P : X → Type 0) where
  abbrev pub Each : Slab X → Type 0
  Each s = (n : ℕ) (r : X) → get s n ≡ Some r → P r

  module _ (s t : Slab X) (k : ℕ) where
    -- a row put
    pub each_put : (r : X) → Updates s t k (Some r) → P r → Each s → Each t
    each_put r u has e n q g = elim (cases_eq n k) [
      | inl i ↦ (let z : r ≡ q = cc in subst P z has)
      | inr ne ↦ e n q (sym (u.others n ne) ∙ g)
    ]

    -- a row that goes
    pub each_less : Updates s t k None → Each s → Each t
    each_less u e n q g = elim (cases_eq n k) [
      | inl i ↦ (let z : None ≡ Some q = sym u.changed ∙ ap (get t) (sym i) ∙ g in absurd (cc))
      | inr ne ↦ e n q (sym (u.others n ne) ∙ g)
    ]

  pub each_write : (s : Slab X) (k : ℕ) (r q : X) → get s k ≡ Some r → P q → Each s → Each (with_value s k q)
  each_write s k r q g = each_put s (with_value s k q) k q (Updates-with_value s k q (ap is_some g))

  -- a row that a function makes of the one that is there, if there is one
  pub each_mapped : (f : X → X) → ((r : X) → P r → P (f r)) → (s t : Slab X) (k : ℕ) → Updates s t k (option_map f (get s k)) → Each s → Each t
  each_mapped f keeps s t k u e n q g = elim (cases_eq n k) [
    | inl i ↦ of_row (get s k) refl (sym u.changed ∙ ap (get t) (sym i) ∙ g)
    | inr ne ↦ e n q (sym (u.others n ne) ∙ g)
  ]
    where
      of_row : (o : Option X) → get s k ≡ o → option_map f o ≡ Some q → P q
      of_row None a i = absurd (cc)
      of_row (Some r) a i = let z : f r ≡ q = cc in subst P z (keeps r (e k r a))

-- What writes of single rows make of what a slab holds.
use Rattle.std.proofs.Common.{◌≡◌, inl, inr, ℕ, ◌==◌, Bool, true, false, cond, Option, Some, None, option_map, refl, ap, ◌∙◌}
use Rattle.std.proofs.lemmas.Bool.{cases_eq}
use Rattle.slab.specs.Slab.{Slab, get, Updates}
use Rattle.chain_laws.specs.Links.{is_at}
use Rattle.chain_laws.specs.Rows.{IsChanged}
use Rattle.integers.proofs.Tests.{other_number, same_number}

module _ {X : Type 0} where
  -- what a slab has after a write of one key
  pub updated : (old new : Slab X) (n : ℕ) (o : Option X) → Updates old new n o → (m : ℕ) → get new m ≡ cond (m == n) o (get old m)
  updated old new n o u m = elim (cases_eq m n) [
    | inl q ↦ rw (q, same_number n) u.changed
    | inr ne ↦ rw (other_number m n ne) (u.others m ne)
  ]

  module _ {Y : Type 0} where
    pub cond_map : (f : X → Y) (b : Bool) (o p : Option X) → option_map f (cond b o p) ≡ cond b (option_map f o) (option_map f p)
    cond_map f true o p = refl
    cond_map f false o p = refl

    -- a change leaves what it doesn't write
    pub unwritten_row : (g : X → Y) (f : X → X) → ((x : X) → g (f x) ≡ g x) → (at : Option ℕ) (old new : Slab X) → IsChanged f at old new → (n : ℕ) → option_map g (get new n) ≡ option_map g (get old n)
    unwritten_row g f leaves at old new c n = ap (option_map g) (c.rows n) ∙ by (is_at at n) (get old n)
      where
        by : (b : Bool) (o : Option X) → option_map g (cond b (option_map f o) o) ≡ option_map g o
        by false o = refl
        by true None = refl
        by true (Some x) = ap Some (leaves x)

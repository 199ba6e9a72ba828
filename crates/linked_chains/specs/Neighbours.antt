-- How one number is the name of a node, or none (this project).
use Rattle.std.specs.Prelude.{◌≡◌, ℕ, zero, suc, Option, Some, None, refl}
use Rattle.linked_chains.specs.declared.neighbour.Neighbour.TheInside.{Inside}

-- the name before the number, and none before 0
abbrev pub named : ℕ → Option ℕ
named zero = None
named (suc n) = Some n

-- the number after the name, and 0 for none
abbrev pub number : Option ℕ → ℕ
number None = zero
number (Some n) = suc n

number_named : (n : ℕ) → number (named n) ≡ n
number_named zero = refl
number_named (suc n) = refl

pub named_back : (a : Inside) → record { after_name = number (named a.after_name) } ≡ a
named_back a = let q = number_named a.after_name in λ i. record { after_name = q i }

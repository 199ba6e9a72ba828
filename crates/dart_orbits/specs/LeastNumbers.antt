-- Numbers, how they are told apart and ordered.
use Rattle.std.specs.Prelude.{ℕ, Bool, ◌==◌, nat_lt}

-- the same number
abbrev pub same_number : ℕ → ℕ → Bool
same_number i j = i == j

-- the lesser number comes first
abbrev pub is_less : ℕ → ℕ → Bool
is_less i j = nat_lt i j

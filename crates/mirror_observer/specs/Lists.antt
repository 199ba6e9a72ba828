-- A list of curves with one more in its place, taken in order.
use Rattle.std.specs.Prelude.{◌≡◌, ℕ, Bool, cond, not, List, ◌++◌}
use Rattle.std.specs.List.{filter}
use Rattle.std.specs.Ordering.{nat_cmp}
use Rattle.plane_graphs.specs.Ascending.{place}
use Rattle.plane_graphs.specs.Graph.{same_curve}

-- what is to be put out yet: the rest as it is, once the curve has come, and else with the curve in its place
abbrev pub placed_from : ℕ → Bool → List ℕ → List ℕ
placed_from c come rest = cond come rest (place nat_cmp c rest)

-- what was put out and what is to be put out are one list before and after
abbrev pub AreGained : List ℕ → List ℕ → List ℕ → List ℕ → Type 0
AreGained before old after new = new ++ after ≡ old ++ before

-- the rest without the curve
abbrev pub left_from : ℕ → List ℕ → List ℕ
left_from c rest = filter (λ k. not (same_curve k c)) rest

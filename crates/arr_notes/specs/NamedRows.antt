-- Tables of rows by name: one more row, one fewer, each changed, one changed.
use Rattle.std.specs.Prelude.{ℕ, ◌==◌, nat_lt, cond, List, [], ◌∷◌}

module _ {X : Type 0} where
  -- one more row, in its place by name, or another row for its name (this project)
  unfoldable pub put : ℕ → X → List (ℕ × X) → List (ℕ × X)
  put k x [] = (k, x) ∷ []
  put k x (r ∷ rs) = cond (nat_lt k r.0) ((k, x) ∷ r ∷ rs) (cond (r.0 == k) ((k, x) ∷ rs) (r ∷ put k x rs))

  -- without the row of a name (this project)
  unfoldable pub del : ℕ → List (ℕ × X) → List (ℕ × X)
  del k [] = []
  del k (r ∷ rs) = cond (r.0 == k) rs (r ∷ del k rs)

  -- every row changed, by its name and what it was (this project)
  unfoldable pub each : (ℕ → X → X) → List (ℕ × X) → List (ℕ × X)
  each f [] = []
  each f (r ∷ rs) = (r.0, f r.0 r.1) ∷ each f rs

-- the row of one name changed (this project)
abbrev pub edit : {X : Type 0} → ℕ → (X → X) → List (ℕ × X) → List (ℕ × X)
edit k f rs = each (λ n x. cond (n == k) (f x) x) rs

-- Lists without repeats.
use Rattle.std.specs.Prelude.{List, [], ◌∷◌, Bool, not, filter}

-- the first of each kind (this project)
unfoldable pub distinct : {X : Type 0} → (X → X → Bool) → List X → List X
distinct same [] = []
distinct same (x ∷ xs) = x ∷ filter (λ y. not (same x y)) (distinct same xs)

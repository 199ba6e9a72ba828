-- Ascending lists, each element once: how the model keeps sets.
use Rattle.std.specs.Prelude.{◌≡◌, ◌⊎◌, ⊤, List, [], ◌∷◌}
use Rattle.std.specs.List.{AllByRecursion}
use Rattle.std.specs.Ordering.{match_ordering}
use Rattle.std.specs.declared.cmp.Ordering.{Ordering}
use Rattle.std.specs.declared.cmp.Ordering.TheVariants.{Less}

module _ {X : Type 0} where
  -- xs with x at its place, unless it stands there (this project)
  unfoldable pub place : (X → X → Ordering) → X → List X → List X
  place cmp x [] = x ∷ []
  place cmp x (y ∷ ys) = match_ordering (cmp x y) (x ∷ y ∷ ys) (y ∷ ys) (y ∷ place cmp x ys)

  -- the elements of xs from the least to the greatest, each once (this project)
  unfoldable pub ascending : (X → X → Ordering) → List X → List X
  ascending cmp [] = []
  ascending cmp (x ∷ xs) = place cmp x (ascending cmp xs)

  -- x is one of the elements; std's `Contains`, by recursion
  abbrev pub Member : X → List X → Type 0
  Member x [] = ⊥
  Member x (y ∷ ys) = (x ≡ y) ⊎ Member x ys

module _ {X : Type 0} (cmp : X → X → Ordering) where
  -- each element comes before all that follow it, so each stands once; std's `IsStrictlySortedBy`, open to proofs
  abbrev pub IsAscending : List X → Type 0
  IsAscending [] = ⊤
  IsAscending (x ∷ xs) = AllByRecursion (λ y. cmp x y ≡ Less) xs × IsAscending xs

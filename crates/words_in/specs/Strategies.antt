-- The ways of location by their names.
use Rattle.std.specs.Prelude.{List, [], ◌∷◌, ℕ, Option, Some, None, find, bytes_eq, codes}
use Rattle.slab_laws.specs.declared.names.Strategy.{Strategy}
use Rattle.slab_laws.specs.declared.names.Strategy.TheVariants.{Naive, Walk, Landmarks, Trapezoid}

-- how a way of location is spelt
abbrev pub strategy_name : Strategy → List ℕ
strategy_name Naive = codes "naive"
strategy_name Walk = codes "walk"
strategy_name Landmarks = codes "landmarks"
strategy_name Trapezoid = codes "trapezoid"

-- the way of location that a word spells
abbrev pub strategy_named : List ℕ → Option Strategy
strategy_named word = find (λ s. bytes_eq (strategy_name s) word) (Naive ∷ Walk ∷ Landmarks ∷ Trapezoid ∷ [])

-- the way of location that the value of `--locate` says, or the default where none was given
abbrev pub strategy_read : Option (List ℕ) → Option Strategy
strategy_read None = Some Naive
strategy_read (Some word) = strategy_named word

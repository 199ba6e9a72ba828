-- The options of the values that were given.
use Rattle.std.specs.Prelude.{List, ℕ, Option, option_and_then, option_map}
use Rattle.slab_laws.specs.declared.names.Strategy.{Strategy}
use Rattle.words_in.specs.declared.options.Options.{Options}
use Rattle.words_in.specs.Strategies.{strategy_read}
use Rattle.words_in.specs.Numbers.{make_read, seed_read}

-- the options with these fields
abbrev pub options_with : Strategy → Option ℕ → ℕ → Options
options_with strategy make seed = record { strategy = strategy; make = make; seed = seed }

-- the same of fields that may be missing, and then there are none
abbrev pub options_of : Option Strategy → Option (Option ℕ) → Option ℕ → Option Options
options_of strategy make seed = option_and_then (λ s. option_and_then (λ m. option_map (options_with s m) seed) make) strategy

-- the options of the values of `--locate`, `--make` and `--seed`, each where it was given; None where one of them is no value
-- of its option
abbrev pub options_read : Option (List ℕ) → Option (List ℕ) → Option (List ℕ) → Option Options
options_read locate make seed = options_of (strategy_read locate) (make_read make) (seed_read seed)

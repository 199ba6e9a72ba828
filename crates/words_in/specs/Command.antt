-- The command that is handed to `clap`.
use Rattle.std.specs.Prelude.{List, ℕ, Some, true, codes, fold, map}
use Rattle.clap.specs.Walk.{Rule}
use Rattle.clap.specs.Simple.{App, new_app, new_rule, on_top, with_rule}
use Rattle.words_in.specs.Grammar.{option_names}

-- an option with a text as its value
abbrev pub option_rule : List ℕ → Rule
option_rule name = record (new_rule name) { long = Some name }

-- the command: its options, and no flag for help
abbrev pub planar_app : App
planar_app = fold with_rule (on_top (λ s. record s { disable_help_flag = true }) (new_app (codes "planar"))) (map option_rule option_names)

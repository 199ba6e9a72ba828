use Rattle.std.proofs.Common.{List, ℕ, map, string_bytes, sym, ap, ◌∙◌}
use Rattle.std.proofs.lemmas.Result.{err_from_is_err_and}
use Rattle.clap.specs.Matches.{found_of}
use Rattle.clap.specs.Simple.{App, is_simple, matches_of}
use Rattle.clap.specs.Walk.{first_of}
use Rattle.clap.proofs.WalkLemmas.{first_value-rows}
use Rattle.words_in.proofs.command.matches_of.Goals as goal

pub returns-in_err-command-clause-refused : goal.returns-in_err-command-clause-refused
returns-in_err-command-clause-refused c =
    let p = err_from_is_err_and c.from_residual.result c.from_residual.ensures.1 in
    λ usage faultless. let same = sym p.1 ∙ usage in let is = p.2 in cc

pub returns-in-Ok-clause-found : goal.returns-in-Ok-clause-found
returns-in-Ok-clause-found c =
    let app = c.in_ok-command.ensures in
    let words : List (List ℕ) = map string_bytes c.args.words.now in
    λ name. first_value-rows (found_of c.in-Ok.matches) name
    ∙ ap (first_of name) ((c.in-Ok.ensures.matches (ap is_simple app)).0 ∙ ap (λ (a : App). matches_of a words) app)

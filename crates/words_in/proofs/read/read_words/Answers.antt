use Rattle.std.proofs.Common.{List, ℕ, codes, drop, map, string_bytes, refl, sym, ◌∙◌}
use Rattle.std.proofs.lemmas.Result.{err_from_is_err_and}
use Rattle.words_in.proofs.Readings.{HasNoDashes}
use Rattle.words_in.proofs.Grammar.{taken_if_given}
use Rattle.words_in.proofs.Answered.{alone_if_ok, dashes_in, not_empty, options_given_if_ok, outside_if_usage, read_of_found}
use Rattle.words_in.proofs.read.read_words.Goals as goal

pub returns-then-has_dashes-clause-usage : goal.returns-then-has_dashes-clause-usage
returns-then-has_dashes-clause-usage c = λ usage options given.
    let t = taken_if_given (map string_bytes c.args.words.now) options given in
    let bad = sym c.if-has_dashes.true ∙ c.has_dashes.ensures ∙ dashes_in c.args.words.now ∙ t.no_dashes in
    cc

pub returns-in_err-matches-clause-usage : goal.returns-in_err-matches-clause-usage
returns-in_err-matches-clause-usage c = λ usage options given.
    let t = taken_if_given (map string_bytes c.args.words.now) options given in
    let p = err_from_is_err_and c.from_residual.result c.from_residual.ensures.1 in
    let one = sym p.1 ∙ usage in
    let two = p.2 in
    c.in_err-matches.ensures.refused (cc) t.faultless

pub returns : goal.returns
returns c =
    let words : List (List ℕ) = map string_bytes c.args.words.now in
    let free : HasNoDashes (drop 1 words) = sym (dashes_in c.args.words.now) ∙ sym c.has_dashes.ensures ∙ c.if-has_dashes.false in
    let some = not_empty c.args.words.now (sym c.is_empty.ensures ∙ c.if-is_empty.false) in
    let found = c.in_ok-matches.ensures.found in
    let o = c.options_of.result in
    let read = read_of_found words _ _ _ o c.options_of.ensures (c.get_str.ensures ∙ found (codes "locate"))
    (c.get_str-2.ensures ∙ found (codes "make")) (c.get_str-3.ensures ∙ found (codes "seed")) in
    let is = c.ok_or.ensures.value in
    record {
      given = options_given_if_ok words o c.ok_or.result is read some free c.in_ok-matches.ensures.taken;
      alone = alone_if_ok words o c.ok_or.result is read;
      usage = outside_if_usage words o c.ok_or.result is read;
      limit = refl;
    }

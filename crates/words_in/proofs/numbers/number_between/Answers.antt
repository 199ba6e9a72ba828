use Rattle.std.proofs.Common.{◌≡◌, Some, sym, ap, ◌∙◌, arith, to_z-of_z}
use Rattle.std.specs.Prelude.{option_and_then, option_map}
use Rattle.script_lines.specs.Number.{limited_number, number_of}
use Rattle.script_lines.proofs.Numbers.{fits-numbered}
use Rattle.words_in.specs.Numbers.{within}
use Rattle.words_in.proofs.Bounds.{between-limited_number}
use Rattle.words_in.proofs.numbers.number_between.Goals as goal

pub returns : goal.returns
returns c =
    let read : Some c.in_ok-number.number ≡ option_map limited_number (number_of c.args.word.now) =
    sym c.in_ok-number.was ∙ c.read_number.ensures ∙ ap (λ w. option_map limited_number (number_of w)) c.as_bytes.ensures.value in
    c.within.ensures ∙ ap (within c.args.least c.args.greatest) (to_z-of_z (fits-numbered (number_of c.args.word.now) c.in_ok-number.number read))
    ∙ ap (option_and_then (within c.args.least c.args.greatest)) read
    ∙ between-limited_number c.args.least c.args.greatest (omega (arith, c.ranges.greatest.fits)) (number_of c.args.word.now)

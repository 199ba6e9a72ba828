use Rattle.std.proofs.Common.{◌≡◌, Some, None, Err, sym, ap, ◌∙◌}
use Rattle.std.proofs.Math.Facts.{to_z-of_z}
use Rattle.std.specs.Prelude.{option_map}
use Rattle.std.proofs.lemmas.Result.{err_from_is_err_and}
use Rattle.script_lines.specs.declared.error.LineError.TheVariants.{Number}
use Rattle.script_lines.specs.Number.{number_of, limited_number}
use Rattle.script_lines.specs.Command.{observer_at_from}
use Rattle.script_lines.proofs.Clamp.{observer_at_from-limited_number}
use Rattle.script_lines.proofs.FormNumbers.{numbers_reading-second, numbers_reading-both}
use Rattle.script_lines.proofs.Numbers.{numbered, nothing_mapped, ok_or-err, ok_or-ok, fits-numbered}
use Rattle.script_lines.proofs.form.observer_at_words.Goals as goal

pub returns-in_err-round : goal.returns-in_err-round
returns-in_err-round c =
    let given = ok_or-err c.read_number-2.result Number c.in_err-round.field-0.0 (sym c.ok_or-2.ensures.value ∙ c.in_err-round.was) in
    let p = err_from_is_err_and c.from_residual-in_err-round.result c.from_residual-in_err-round.ensures.1 in
    let other : None ≡ option_map limited_number (number_of c.args.round.now) = sym given.0 ∙ c.read_number-2.ensures in
    rw (p.1, p.2) (ap Err (sym given.1) ∙ sym (numbers_reading-second observer_at_from c.args.observer.now c.args.round.now (nothing_mapped (number_of c.args.round.now) other)))

pub returns : goal.returns
returns c =
    let some_first = ok_or-ok c.read_number.result Number c.in_ok-observer.observer (sym c.ok_or.ensures.value ∙ c.in_ok-observer.was) in
    let some_second = ok_or-ok c.read_number-2.result Number c.in_ok-round.round (sym c.ok_or-2.ensures.value ∙ c.in_ok-round.was) in
    let read_first : Some c.in_ok-observer.observer ≡ option_map limited_number (number_of c.args.observer.now) = sym some_first ∙ c.read_number.ensures in
    let read_second : Some c.in_ok-round.round ≡ option_map limited_number (number_of c.args.round.now) = sym some_second ∙ c.read_number-2.ensures in
    let first = numbered (number_of c.args.observer.now) c.in_ok-observer.observer read_first in
    let second = numbered (number_of c.args.round.now) c.in_ok-round.round read_second in
    let both = numbers_reading-both observer_at_from c.args.observer.now c.args.round.now observer_at_from-limited_number first.0 second.0 first.1 second.1 in
    c.ok_or-3.ensures.value ∙ rw (c.observer_at_from.ensures, to_z-of_z (fits-numbered (number_of c.args.observer.now) c.in_ok-observer.observer read_first), to_z-of_z (fits-numbered (number_of c.args.round.now) c.in_ok-round.round read_second), first.2, second.2) (sym both)

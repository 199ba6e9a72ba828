use Rattle.std.proofs.Common.{sym, ◌∙◌}
use Rattle.std.proofs.lemmas.Result.{err_from_is_err_and}
use Rattle.script_lines.specs.Words.{words}
use Rattle.script_lines.specs.Command.{batch_made}
use Rattle.script_lines.proofs.FormNumbers.{forms_reading-err, forms_reading-ok}
use Rattle.script_lines.proofs.Clamp.{batch_made-limited_number}
use Rattle.script_lines.proofs.form.batch_of.Goals as goal

pub returns-in_err-numbers : goal.returns-in_err-numbers
returns-in_err-numbers g c =
    let p = err_from_is_err_and c.from_residual.result c.from_residual.ensures.1 in
    rw (p.1, p.2) (sym (forms_reading-err g.row.N batch_made (words c.args.line.now) c.in_err-numbers.field-0.0 (sym c.in_err-numbers.ensures)))

pub returns : goal.returns
returns g c = c.ok_or.ensures.value ∙ rw c.batch_command.ensures (sym (forms_reading-ok g.row.N batch_made (words c.args.line.now) batch_made-limited_number c.in_ok-numbers.numbers (sym c.in_ok-numbers.ensures)))

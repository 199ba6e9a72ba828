use Rattle.std.proofs.Common.{◌∙◌}
use Rattle.planar_run.proofs.Numbered.{numbered}
use Rattle.planar_run.proofs.Replied.{obeyed_line, refused_line, wanting_line}
use Rattle.planar_run.proofs.answer.answer.Goals as goal

pub obey-requires-clause-numbered : goal.obey-requires-clause-numbered
obey-requires-clause-numbered g c = numbered c.args.line.now c.in-Ok.command c.in-Ok.ensures.value

pub returns-in-Err : goal.returns-in-Err
returns-in-Err g c = record { replied = refused_line c.in-Err.error _ _ _ c.in-Err.ensures.value (c.set.ensures ∙ c.refusal.ensures.text); kept = c.requires.kept }

pub returns-in-Ok-obey : goal.returns-in-Ok-obey
returns-in-Ok-obey g c = record { replied = obeyed_line c.in-Ok.command _ _ _ _ c.in-Ok.ensures.value c.in-Ok-obey.ensures.obeyed; kept = c.obey.ensures.kept }

pub returns-in-Err-obey : goal.returns-in-Err-obey
returns-in-Err-obey g c = record { replied = wanting_line c.in-Ok.command _ _ _ _ c.in-Ok.ensures.value c.in-Err-obey.ensures.err c.set-in-Err-obey.ensures; kept = c.obey.ensures.kept }

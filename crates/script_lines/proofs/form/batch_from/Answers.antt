use Rattle.std.proofs.Common.{sym, ap, ◌∙◌}
use Rattle.script_lines.specs.Command.{point_from}
use Rattle.script_lines.proofs.BatchNumbers.{Batched-more}
use Rattle.script_lines.proofs.form.batch_from.Goals as goal

pub loop-rest-preserved : goal.loop-rest-preserved
loop-rest-preserved c =
    let e = sym c.in_ok-point_from.was ∙ c.point_from.ensures ∙ ap point_from c.split_at.ensures.front in
    rw (c.push.ensures, c.split_at.ensures.back) (Batched-more _ c.loop-rest.rest.now c.loop-rest.points c.in_ok-point_from.field-0 c.loop-rest-test.true c.loop-rest.invariant e)

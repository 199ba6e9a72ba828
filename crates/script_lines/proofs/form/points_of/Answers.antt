use Rattle.script_lines.proofs.PathNumbers.{Paired-more}
use Rattle.script_lines.proofs.form.points_of.Goals as goal

pub loop-rest-preserved : goal.loop-rest-preserved
loop-rest-preserved c = rw c.push.ensures (Paired-more _ c.loop-rest.rest.now c.loop-rest.points c.in-len2-up.len_at_least c.loop-rest.invariant)

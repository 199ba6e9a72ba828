use Rattle.std.proofs.Common.{rules}
use Rattle.script_lines.proofs.FilledMore.{IsFilled-more}
use Rattle.script_lines.proofs.points.BatchPoints.push.Goals as goal

pub invariant_of-self : goal.invariant_of-self
invariant_of-self c = IsFilled-more _ _ c.self.inside.points c.self.inside.count _ (search rules) c.self.invariant

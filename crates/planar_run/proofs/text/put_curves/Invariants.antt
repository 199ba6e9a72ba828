use Rattle.std.proofs.Common.{◌≡◌, ◌++◌, map, take}
use Rattle.std.specs.Prelude.{codes}
use Rattle.planar_run.specs.Text.{spaced}
use Rattle.planar_run.proofs.text.put_curves.Given as goal

abbrev pub invariant-loop-curve : goal.invariant-loop-curve
invariant-loop-curve l = l.reply ≡ l.fn.reply ++ (codes "curves" ++ spaced (map (λ c. c.0) (take l.curve-index l.curves)))

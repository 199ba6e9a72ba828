use Rattle.std.proofs.Common.{arith}
use Rattle.std.proofs.lemmas.Grind.{common_steps}
use Rattle.std.proofs.lemmas.List.Folds.{flat_map-map}
use Rattle.arrangement.specs.Answers.{edge_of}
use Rattle.planar_run.specs.Text.{edge_line}
use Rattle.planar_run.proofs.text.put_curve.Goals as goal

pub returns : goal.returns
returns c = rw (flat_map-map edge_line edge_of c.args.edges.now) (grind (arith, common_steps))

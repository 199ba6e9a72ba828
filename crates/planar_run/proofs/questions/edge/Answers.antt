use Rattle.std.proofs.Common.{◌∙◌}
use Rattle.slab_laws.specs.Sound.{edge_between}
use Rattle.planar_run.specs.Rows.{world_row}
use Rattle.planar_run.proofs.Replied.{no_edge_told, nine}
use Rattle.planar_run.proofs.questions.edge.Goals as goal

pub returns-clause-answered : goal.returns-clause-answered
returns-clause-answered g c =
    let barred = rw c.in-Err-NoEdge.field-0-is at c.in-Err-NoEdge.ensures.barred in
    no_edge_told (edge_between c.args.p.now c.args.q.now) (world_row (goal.Observer-dyn g) c.args.world.now) barred (c.set.ensures ∙ nine)

use Rattle.std.proofs.Common.{rules, arith}
use Rattle.std.proofs.lemmas.Grind.{common_steps}
use Rattle.subdivision_rows.proofs.PinsByName.{vertex_there}
use Rattle.plain_slabs.proofs.names.pins_of.Goals as goal

pub pinned-requires : goal.pinned-requires
pinned-requires g c = vertex_there (g.R.Darts.graph c.args.records.now) c.requires.sound c.args.vertices.now c.loop-vertex.vertex-index c.vertex-item.result c.requires.vertices c.loop-vertex-test.true c.vertex-item.is

pub loop-vertex-init : goal.loop-vertex-init
loop-vertex-init g c = search rules

pub loop-vertex-preserved : goal.loop-vertex-preserved
loop-vertex-preserved g c = grind (arith, common_steps)

pub returns : goal.returns
returns g c = grind (arith, common_steps)

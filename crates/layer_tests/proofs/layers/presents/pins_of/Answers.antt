use Rattle.std.proofs.Common.{rules, arith}
use Rattle.std.proofs.lemmas.Grind.{common_steps}
use Rattle.subdivision_rows.proofs.PinsByName.{vertex_there}
use Rattle.layer_tests.proofs.layers.presents.pins_of.Goals as goal

pub pinned-requires : goal.pinned-requires
pinned-requires c = vertex_there c.args.records.now.graph c.requires.sound c.args.vertices.now c.loop-vertex.vertex-index c.vertex-item.result c.requires.vertices c.loop-vertex-test.true c.vertex-item.is

pub loop-vertex-init : goal.loop-vertex-init
loop-vertex-init c = search rules

pub same-pins : goal.same-pins
same-pins c = search rules

pub loop-vertex-preserved : goal.loop-vertex-preserved
loop-vertex-preserved c = grind (arith, common_steps)

pub returns : goal.returns
returns c = grind (arith, common_steps)

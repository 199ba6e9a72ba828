use Rattle.std.proofs.Common.{ap}
use Rattle.dcel_records.specs.RecordsView.{RecordsView}
use Rattle.locate_trapezoid.specs.declared.node.Test.TheVariants.{Vertex}
use Rattle.locate_trapezoid.specs.Nodes.{arena}
use Rattle.locate_trapezoid.proofs.Parts.{named_grown}
use Rattle.locate_trapezoid.proofs.Vertices.{put_met, leaf_there, put_hung}
use Rattle.locate_trapezoid.proofs.insertion.put_vertex.Goals as goal

pub returns-in-Met-clause-vertex : goal.returns-in-Met-clause-vertex
returns-in-Met-clause-vertex g c =
    put_met c.args.records.now.graph c.args.vertex c.args.graph.now c.requires.made c.of.result.graph (ap (λ (h : RecordsView). h.graph) c.of.ensures) c.nodes.result.now c.nodes.ensures c.point-point.result c.point-point.ensures
    c.in-Met.field-0 c.in-Met.ensures.arrival

pub hang-requires-clause-leaf : goal.hang-requires-clause-leaf
hang-requires-clause-leaf g c =
    leaf_there c.args.records.now.graph c.args.vertex c.args.graph.now c.requires.made c.of.result.graph (ap (λ (h : RecordsView). h.graph) c.of.ensures) c.nodes.result.now c.nodes.ensures c.point-point.result c.point-point.ensures
    c.in-Open.leaf c.in-Open.ensures.arrival.0

pub returns-clause-made : goal.returns-clause-made
returns-clause-made g c = record {
  tree = c.in_ok-hang-in-Open.ensures.tree;
  depth = c.in_ok-hang-in-Open.ensures.depth;
  named = named_grown c.args.records.now.graph (arena c.args.graph.now.nodes.items) (arena c.hang.new.graph.nodes.items) c.in-Open.leaf.slot (Vertex c.args.vertex) c.in_ok-hang-in-Open.ensures.grown c.requires.vertex c.requires.made.named;
}

pub returns-clause-vertex : goal.returns-clause-vertex
returns-clause-vertex g c =
    put_hung c.args.records.now.graph c.args.vertex c.args.graph.now c.requires.made c.of.result.graph (ap (λ (h : RecordsView). h.graph) c.of.ensures) c.nodes.result.now c.nodes.ensures c.point-point.result c.point-point.ensures
    c.hang.new.graph c.in-Open.leaf c.in-Open.field-1 c.in-Open.ensures.arrival.0 c.in-Open.ensures.arrival.1 c.in_ok-hang-in-Open.ensures.grown

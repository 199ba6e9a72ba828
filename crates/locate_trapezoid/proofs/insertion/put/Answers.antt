use Rattle.std.proofs.Common.{sym, subst}
use Rattle.std.specs.Prelude.{OnOk}
use Rattle.locate_trapezoid.specs.declared.node.Test.{Test}
use Rattle.locate_trapezoid.specs.Graphs.{IsPutIn}
use Rattle.locate_trapezoid.proofs.insertion.put.Goals as goal

pub returns-in-Edge-clause-put : goal.returns-in-Edge-clause-put
returns-in-Edge-clause-put c = subst (λ (t : Test). OnOk c.put_edge.result (IsPutIn c.args.records.now.graph t c.args.graph.now c.put_edge.new.graph)) (sym c.in-Edge.is) c.put_edge.ensures.edge

pub returns-in-Vertex-clause-put : goal.returns-in-Vertex-clause-put
returns-in-Vertex-clause-put c = subst (λ (t : Test). OnOk c.put_vertex.result (IsPutIn c.args.records.now.graph t c.args.graph.now c.put_vertex.new.graph)) (sym c.in-Vertex.is) c.put_vertex.ensures.vertex

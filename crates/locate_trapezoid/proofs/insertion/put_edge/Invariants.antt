use Rattle.locate_trapezoid.specs.declared.node.Test.TheVariants.{Edge}
use Rattle.locate_trapezoid.specs.Graphs.{IsWellMade}
use Rattle.locate_trapezoid.proofs.Parts.{IsPart, IsSoFar, left}
use Rattle.locate_trapezoid.proofs.insertion.put_edge.Given as goal

abbrev pub invariant-parts : goal.invariant-parts
invariant-parts l = record {
  made : IsWellMade l.records.graph l.graph;
  part : IsPart l.records.graph l.dart l.next;
  so_far : IsSoFar l.records.graph (Edge l.dart) l.fn.graph l.graph l.next;
}

abbrev pub decreases-parts : goal.decreases-parts
decreases-parts l = left l.records.graph l.next

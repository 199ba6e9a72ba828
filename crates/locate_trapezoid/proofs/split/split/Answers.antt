use Rattle.std.proofs.Common.{true, false}
use Rattle.locate_trapezoid.specs.declared.node.Test.TheVariants.{Vertex, Edge}
use Rattle.locate_trapezoid.specs.Nodes.{arena}
use Rattle.locate_trapezoid.proofs.Parts.{named_grown, named_hung}
use Rattle.locate_trapezoid.proofs.split.split.Goals as goal

pub returns-clause-named : goal.returns-clause-named
returns-clause-named c = λ v named lower upper dart.
    let first = arena c.args.graph.now.nodes.items in
    let second = arena c.hang_end.new.graph.nodes.items in
    let third = arena c.hang_end-2.new.graph.nodes.items in
    named_grown v third (arena c.hang.new.graph.nodes.items) c.in_ok-above.above.slot (Edge c.args.dart) c.in_ok-hang.ensures.grown dart
    (named_hung v second third c.in_ok-below.below.slot c.in_ok-above.above.slot (Vertex c.args.upper) false c.is_some.result c.in_ok-above.ensures.hung upper
    (named_hung v first second c.args.descent.leaf.slot c.in_ok-below.below.slot (Vertex c.args.lower) true c.args.descent.is_lowered c.in_ok-below.ensures.hung lower named))

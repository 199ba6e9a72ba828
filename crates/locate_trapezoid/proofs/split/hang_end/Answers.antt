use Rattle.std.proofs.Common.{sym, refl, subst}
use Rattle.locate_trapezoid.specs.declared.node.Test.TheVariants.{Vertex}
use Rattle.locate_trapezoid.specs.Nodes.{arena, IsHung, left_out, hung}
use Rattle.locate_trapezoid.proofs.split.hang_end.Goals as goal

pub returns-then-is_out-clause-hung : goal.returns-then-is_out-clause-hung
returns-then-is_out-clause-hung c =
    subst (IsHung (arena c.args.graph.now.nodes.items) c.args.leaf.slot (Vertex c.args.vertex) c.args.is_more (arena c.args.graph.now.nodes.items) c.args.leaf.slot) (sym c.if-is_out.true)
    (left_out refl refl)

pub returns-clause-hung : goal.returns-clause-hung
returns-clause-hung c =
    subst (IsHung (arena c.args.graph.now.nodes.items) c.args.leaf.slot (Vertex c.args.vertex) c.args.is_more (arena c.hang.new.graph.nodes.items) c.in_ok-next.next.slot) (sym c.if-is_out.false)
    (hung c.in_ok-next.ensures.grown c.in_ok-next.ensures.slot)

use Rattle.std.proofs.Common.{◌≡◌, ap, ◌∙◌}
use Rattle.plane_graphs.specs.Ascending.{ascending, Member}
use Rattle.plane_graphs.specs.Graph.{mark_cmp}
use Rattle.side_parts.specs.declared.part.Part.{Part}
use Rattle.side_parts.specs.SideParts.{part_cmp, parts_of_sides, IsPartIn, IsPartOf}
use Rattle.side_parts.proofs.Chained.{edges_chained, parts_are_of, strands_chained}
use Rattle.side_parts.proofs.Ordered.{edges_in_order, in_order, out_are, out_ascends, part_ties, strands_in_order}
use Rattle.side_parts.proofs.parts.parts_in_order.Goals as goal

-- the list is the ascending one of all parts
is : (c : goal.After-dedup) → c.dedup.new.self.items ≡ ascending part_cmp (parts_of_sides c.args.points.now 0 c.args.sides.now)
is c = in_order c.in_ok-parts.parts.items c.sort_unstable.new.self.items c.dedup.new.self.items _ part_ties c.sort_unstable.ensures.permutation c.sort_unstable.ensures.sorted c.dedup.ensures.filtered ∙ ap (ascending part_cmp) c.in_ok-parts.ensures

places : (c : goal.After-dedup) (t : Part) → Member t (parts_of_sides c.args.points.now 0 c.args.sides.now) → IsPartIn c.args.points.now t
places c t m = (parts_are_of c.args.points.now c.args.sides.now t m).places

pub returns-clause-within : goal.returns-clause-within
returns-clause-within c = out_are _ _ (is c) (IsPartIn c.args.points.now) (places c)

pub returns-clause-sides : goal.returns-clause-sides
returns-clause-sides c = out_are _ _ (is c) (IsPartOf c.args.points.now c.args.sides.now) (λ t m. (parts_are_of c.args.points.now c.args.sides.now t m).side)

pub returns-clause-order : goal.returns-clause-order
returns-clause-order c = out_ascends _ _ (is c)

pub returns-clause-strands : goal.returns-clause-strands
returns-clause-strands c a k = strands_in_order _ _ (is c) c.args.points.now (places c) a k ∙ ap (ascending mark_cmp) (strands_chained c.args.points.now k 0 c.args.sides.now)

pub returns-clause-edges : goal.returns-clause-edges
returns-clause-edges c a k = edges_in_order _ _ (is c) c.args.points.now (places c) a k ∙ ap (ascending mark_cmp) (edges_chained c.args.points.now k 0 c.args.sides.now)

use Rattle.std.proofs.Common.{◌∙◌, sym}
use Rattle.box_tree.proofs.Seen.{seen_one, seen_one_apart, seen_one_below}
use Rattle.box_tree.proofs.single.show.Goals as goal

pub returns-then-is_below_floor-clause-seen : goal.returns-then-is_below_floor-clause-seen
returns-then-is_below_floor-clause-seen g c =
    seen_one_below (g.V.Visitor.has_seen c.args.visitor.now) c.args.area.now (g.V.Visitor.floor_of c.args.visitor.now) c.args.entry.now (c.is_below_floor.ensures c.if-is_below_floor.true)

pub returns-then-is_apart-clause-seen : goal.returns-then-is_apart-clause-seen
returns-then-is_apart-clause-seen g c =
    seen_one_apart (g.V.Visitor.has_seen c.args.visitor.now) c.args.area.now (g.V.Visitor.floor_of c.args.visitor.now) c.args.entry.now (sym c.is_apart.ensures ∙ c.if-is_apart.true)

pub returns-clause-seen : goal.returns-clause-seen
returns-clause-seen g c =
    seen_one (g.V.Visitor.has_seen c.visit.new.self) c.args.area.now (g.V.Visitor.floor_of c.visit.new.self) c.args.entry.now c.visit.ensures.seen

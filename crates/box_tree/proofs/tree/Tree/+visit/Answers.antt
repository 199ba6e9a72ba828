use Rattle.std.proofs.Common.{◌∙◌, sym, rules, [], ◌∷◌}
use Rattle.box_tree.proofs.AtNode.{at_node}
use Rattle.box_tree.proofs.Seen.{seen_apart, seen_below, seen_still, seen_of_node, known_top, known_low, known_high, rise}
use Rattle.box_tree.proofs.tree.Tree.+visit.Goals as goal

pub returns-then-is_below_floor-clause-seen : goal.returns-then-is_below_floor-clause-seen
returns-then-is_below_floor-clause-seen g t c =
    let n = at_node c.self.view_is c.self.invariant c.in-Node.is in
    seen_below (g.V.Visitor.has_seen c.args.visitor.now) c.args.area.now c.in-Node.node.value.cover (g.V.Visitor.floor_of c.args.visitor.now) c.args.self.now.entries n.within (rw c.deref-node.ensures at (c.is_below_floor.ensures c.if-is_below_floor.true))

pub returns-then-is_apart-clause-seen : goal.returns-then-is_apart-clause-seen
returns-then-is_apart-clause-seen g t c =
    let n = at_node c.self.view_is c.self.invariant c.in-Node.is in
    seen_apart (g.V.Visitor.has_seen c.args.visitor.now) c.args.area.now c.in-Node.node.value.cover (g.V.Visitor.floor_of c.args.visitor.now) c.args.self.now.entries n.within (rw c.deref-node.ensures at (sym c.is_apart.ensures ∙ c.if-is_apart.true))

pub show-requires : goal.show-requires
show-requires g t c =
    let n = at_node c.self.view_is c.self.invariant c.in-Node.is in
    let k = c.deref-node.result.now in
    (c.requires.ready.0, c.requires.ready.1, known_top (g.V.Visitor.knows c.requires.ready.0) c.args.area.now c.args.self.now.entries k.entry k.low.entries k.high.entries (rw c.deref-node.ensures n.is) c.requires.ready.2)

pub visit-requires : goal.visit-requires
visit-requires g t c =
    let n = at_node c.self.view_is c.self.invariant c.in-Node.is in
    let k = c.deref-node.result.now in
    λ κs within. (search rules, (within, (c.requires.ready.0, (c.show.ensures.ready c.requires.ready.0 c.requires.ready.1), known_high (g.V.Visitor.knows c.requires.ready.0) c.args.area.now c.args.self.now.entries k.entry k.low.entries k.high.entries (rw c.deref-node.ensures n.is) c.requires.ready.2)))

pub visit-requires-then-top : goal.visit-requires-then-top
visit-requires-then-top g t c =
    let n = at_node c.self.view_is c.self.invariant c.in-Node.is in
    let k = c.deref-node.result.now in
    λ κs within. (search rules, (within, (c.requires.ready.0, (c.visit.ensures.ready c.requires.ready.0 (c.show.ensures.ready c.requires.ready.0 c.requires.ready.1)), known_low (g.V.Visitor.knows c.requires.ready.0) c.args.area.now c.args.self.now.entries k.entry k.low.entries k.high.entries (rw c.deref-node.ensures n.is) c.requires.ready.2)))

pub visit-requires-else-top : goal.visit-requires-else-top
visit-requires-else-top g t c =
    let n = at_node c.self.view_is c.self.invariant c.in-Node.is in
    let k = c.deref-node.result.now in
    λ κs within. (search rules, (within, (c.requires.ready.0, (c.show.ensures.ready c.requires.ready.0 c.requires.ready.1), known_low (g.V.Visitor.knows c.requires.ready.0) c.args.area.now c.args.self.now.entries k.entry k.low.entries k.high.entries (rw c.deref-node.ensures n.is) c.requires.ready.2)))

pub visit-requires-else-top-2 : goal.visit-requires-else-top-2
visit-requires-else-top-2 g t c =
    let n = at_node c.self.view_is c.self.invariant c.in-Node.is in
    let k = c.deref-node.result.now in
    λ κs within. (search rules, (within, (c.requires.ready.0, (c.visit-else-top.ensures.ready c.requires.ready.0 (c.show.ensures.ready c.requires.ready.0 c.requires.ready.1)), known_high (g.V.Visitor.knows c.requires.ready.0) c.args.area.now c.args.self.now.entries k.entry k.low.entries k.high.entries (rw c.deref-node.ensures n.is) c.requires.ready.2)))

pub returns-then-top-clause-seen : goal.returns-then-top-clause-seen
returns-then-top-clause-seen g t c =
    let n = at_node c.self.view_is c.self.invariant c.in-Node.is in
    let k = c.deref-node.result.now in
    seen_of_node (g.V.Visitor.has_seen c.visit-then-top.new.visitor) c.args.area.now (g.V.Visitor.floor_of c.visit-then-top.new.visitor) c.args.self.now.entries k.entry k.low.entries k.high.entries (rw c.deref-node.ensures n.is)
    (seen_still (g.V.Visitor.has_seen c.show.new.visitor) (g.V.Visitor.has_seen c.visit-then-top.new.visitor) c.args.area.now (g.V.Visitor.floor_of c.show.new.visitor) (g.V.Visitor.floor_of c.visit-then-top.new.visitor) (k.entry ∷ []) (λ e s. c.visit-then-top.ensures.still e (c.visit.ensures.still e s)) (rise (g.V.Visitor.floor_of c.show.new.visitor) (g.V.Visitor.floor_of c.visit.new.visitor) (g.V.Visitor.floor_of c.visit-then-top.new.visitor) c.visit.ensures.rises c.visit-then-top.ensures.rises) c.show.ensures.seen)
    c.visit-then-top.ensures.seen
    (seen_still (g.V.Visitor.has_seen c.visit.new.visitor) (g.V.Visitor.has_seen c.visit-then-top.new.visitor) c.args.area.now (g.V.Visitor.floor_of c.visit.new.visitor) (g.V.Visitor.floor_of c.visit-then-top.new.visitor) k.high.entries c.visit-then-top.ensures.still c.visit-then-top.ensures.rises c.visit.ensures.seen)

pub returns-else-top-clause-seen : goal.returns-else-top-clause-seen
returns-else-top-clause-seen g t c =
    let n = at_node c.self.view_is c.self.invariant c.in-Node.is in
    let k = c.deref-node.result.now in
    seen_of_node (g.V.Visitor.has_seen c.visit-else-top-2.new.visitor) c.args.area.now (g.V.Visitor.floor_of c.visit-else-top-2.new.visitor) c.args.self.now.entries k.entry k.low.entries k.high.entries (rw c.deref-node.ensures n.is)
    (seen_still (g.V.Visitor.has_seen c.show.new.visitor) (g.V.Visitor.has_seen c.visit-else-top-2.new.visitor) c.args.area.now (g.V.Visitor.floor_of c.show.new.visitor) (g.V.Visitor.floor_of c.visit-else-top-2.new.visitor) (k.entry ∷ []) (λ e s. c.visit-else-top-2.ensures.still e (c.visit-else-top.ensures.still e s)) (rise (g.V.Visitor.floor_of c.show.new.visitor) (g.V.Visitor.floor_of c.visit-else-top.new.visitor) (g.V.Visitor.floor_of c.visit-else-top-2.new.visitor) c.visit-else-top.ensures.rises c.visit-else-top-2.ensures.rises) c.show.ensures.seen)
    (seen_still (g.V.Visitor.has_seen c.visit-else-top.new.visitor) (g.V.Visitor.has_seen c.visit-else-top-2.new.visitor) c.args.area.now (g.V.Visitor.floor_of c.visit-else-top.new.visitor) (g.V.Visitor.floor_of c.visit-else-top-2.new.visitor) k.low.entries c.visit-else-top-2.ensures.still c.visit-else-top-2.ensures.rises c.visit-else-top.ensures.seen)
    c.visit-else-top-2.ensures.seen

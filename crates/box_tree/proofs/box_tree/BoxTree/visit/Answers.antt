use Rattle.std.proofs.Common.{◌≡◌, ◌++◌, ap}
use Rattle.box_tree.proofs.Seen.{known_first, known_rest, seen_of_two}
use Rattle.box_tree.proofs.box_tree.BoxTree.visit.Goals as goal

pub show_all-requires : goal.show_all-requires
show_all-requires g c =
    let e : c.args.self.now.entries ≡ c.deref.result.now ++ c.self.inside.root.entries = cc (ap (λ x. x.entries) c.self.view_is, c.deref.ensures.value) in
    (c.args.visitor.now, c.requires.ready, known_first (g.V.Visitor.knows c.args.visitor.now) c.args.area.now c.args.self.now.entries c.deref.result.now c.self.inside.root.entries e c.requires.known)

pub visit-requires : goal.visit-requires
visit-requires g c =
    let e : c.args.self.now.entries ≡ c.deref.result.now ++ c.self.inside.root.entries = cc (ap (λ x. x.entries) c.self.view_is, c.deref.ensures.value) in
    record { ready = (c.args.visitor.now, c.show_all.ensures.ready c.args.visitor.now c.requires.ready, known_rest (g.V.Visitor.knows c.args.visitor.now) c.args.area.now c.args.self.now.entries c.deref.result.now c.self.inside.root.entries e c.requires.known) }

pub returns-clause-seen : goal.returns-clause-seen
returns-clause-seen g c =
    let e : c.args.self.now.entries ≡ c.deref.result.now ++ c.self.inside.root.entries = cc (ap (λ x. x.entries) c.self.view_is, c.deref.ensures.value) in
    seen_of_two (g.V.Visitor.has_seen c.show_all.new.visitor) (g.V.Visitor.has_seen c.visit.new.visitor) c.args.area.now (g.V.Visitor.floor_of c.show_all.new.visitor) (g.V.Visitor.floor_of c.visit.new.visitor) c.args.self.now.entries c.deref.result.now c.self.inside.root.entries e c.visit.ensures.still c.visit.ensures.rises c.show_all.ensures.seen c.visit.ensures.seen

use Rattle.std.proofs.Common.{◌≡◌, ◌++◌, sym, ap}
use Rattle.box_tree.proofs.Listed.{placed_in_root, placed_beside}
use Rattle.box_tree.proofs.box_tree.BoxTree.insert.Goals as goal

pub returns-in-Some-place-clause-entries : goal.returns-in-Some-place-clause-entries
returns-in-Some-place-clause-entries c =
    let e : c.args.self.now.entries ≡ c.self.inside.deepest.items ++ c.self.inside.root.entries = sym (ap (λ x. x.entries) c.self.view_is) in
    placed_beside c.args.self.now.entries c.args.entry c.in-Some-place.left c.self.inside.deepest.items c.push_reserved.new.self.items c.self.inside.root.entries c.place.new.self.entries e (rw c.in-Some-place.is at c.place.ensures.entries) c.push_reserved.ensures.items

pub returns-in_default-place-clause-entries : goal.returns-in_default-place-clause-entries
returns-in_default-place-clause-entries c =
    let e : c.args.self.now.entries ≡ c.self.inside.deepest.items ++ c.self.inside.root.entries = sym (ap (λ x. x.entries) c.self.view_is) in
    placed_in_root c.args.self.now.entries c.args.entry c.self.inside.deepest.items c.self.inside.root.entries c.place.new.self.entries e (rw c.in_default-place.is at c.place.ensures.entries)

use Rattle.std.proofs.Common.{◌≡◌, ◌++◌, sym, ap}
use Rattle.box_tree.proofs.Listed.{removed_in_root, removed_beside}
use Rattle.box_tree.proofs.box_tree.BoxTree.remove.Goals as goal

pub returns-then-remove-clause-entries : goal.returns-then-remove-clause-entries
returns-then-remove-clause-entries c =
    let e : c.args.self.now.entries ≡ c.self.inside.deepest.items ++ c.self.inside.root.entries = sym (ap (λ x. x.entries) c.self.view_is) in
    removed_in_root c.args.self.now.entries c.args.entry.now c.self.inside.deepest.items c.self.inside.root.entries c.remove.new.self.entries c.remove.result e c.remove.ensures.entries c.if-remove.true

pub returns-clause-entries : goal.returns-clause-entries
returns-clause-entries c =
    let e : c.args.self.now.entries ≡ c.self.inside.deepest.items ++ c.self.inside.root.entries = sym (ap (λ x. x.entries) c.self.view_is) in
    removed_beside c.args.self.now.entries c.args.entry.now c.self.inside.deepest.items c.take_out.new.entries.items c.self.inside.root.entries c.remove.new.self.entries c.remove.result c.take_out.result e c.remove.ensures.entries c.if-remove.false c.take_out.ensures.entries

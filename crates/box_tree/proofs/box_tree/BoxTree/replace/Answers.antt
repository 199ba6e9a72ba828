use Rattle.std.proofs.Common.{◌≡◌, ◌++◌, sym, ap}
use Rattle.box_tree.proofs.Replaced.{replaced_in_root, replaced_beside, replaced_nowhere}
use Rattle.box_tree.proofs.box_tree.BoxTree.replace.Goals as goal

pub returns-then-replace-clause-entries : goal.returns-then-replace-clause-entries
returns-then-replace-clause-entries c =
    let e : c.args.self.now.entries ≡ c.self.inside.deepest.items ++ c.self.inside.root.entries = sym (ap (λ x. x.entries) c.self.view_is) in
    replaced_in_root c.args.self.now.entries c.args.old.now c.args.new c.self.inside.deepest.items c.self.inside.root.entries c.replace.new.self.entries c.replace.result e c.replace.ensures.entries c.if-replace.true

pub returns-then-not-take_out-clause-entries : goal.returns-then-not-take_out-clause-entries
returns-then-not-take_out-clause-entries c =
    let e : c.args.self.now.entries ≡ c.self.inside.deepest.items ++ c.self.inside.root.entries = sym (ap (λ x. x.entries) c.self.view_is) in
    replaced_nowhere c.args.self.now.entries c.args.old.now c.args.new c.self.inside.deepest.items c.take_out.new.entries.items c.self.inside.root.entries c.replace.new.self.entries c.replace.result c.take_out.result e c.replace.ensures.entries c.if-replace.false c.take_out.ensures.entries c.if-not-take_out.true

pub returns-clause-entries : goal.returns-clause-entries
returns-clause-entries c =
    let e : c.args.self.now.entries ≡ c.self.inside.deepest.items ++ c.self.inside.root.entries = sym (ap (λ x. x.entries) c.self.view_is) in
    replaced_beside c.args.self.now.entries c.args.old.now c.args.new c.self.inside.deepest.items c.take_out.new.entries.items c.push_reserved.new.self.items c.self.inside.root.entries c.replace.new.self.entries c.replace.result c.take_out.result e c.replace.ensures.entries c.if-replace.false c.take_out.ensures.entries c.if-not-take_out.false c.push_reserved.ensures.items

use Rattle.std.proofs.Common.{◌≡◌, ◌++◌, ap}
use Rattle.box_tree.proofs.Listed.{added_by_two}
use Rattle.box_tree.proofs.box_tree.BoxTree.find.Goals as goal

pub returns-clause-names : goal.returns-clause-names
returns-clause-names c =
    let e : c.args.self.now.entries ≡ c.deref.result.now ++ c.self.inside.root.entries = cc (ap (λ x. x.entries) c.self.view_is, c.deref.ensures.value) in
    added_by_two c.args.self.now.entries c.args.area.now c.args.found.now.items c.note_all.new.found.items c.find.new.found.items c.deref.result.now c.self.inside.root.entries e c.note_all.ensures.items c.find.ensures.items

use Rattle.std.proofs.Common.{◌≤ℤ◌, take}
use Rattle.box_tree.specs.declared.entry.Entry.{Entry}
use Rattle.box_tree.specs.Entries.{AreSeen}
use Rattle.box_tree.proofs.deepest.show_all.Given as goal

-- those that were looked at were shown
abbrev pub invariant-loop-entry : goal.invariant-loop-entry
invariant-loop-entry g l = record {
  ready : (k : _) → g.V.Visitor.may_visit k l.fn.visitor → g.V.Visitor.may_visit k l.visitor;
  seen : AreSeen (g.V.Visitor.has_seen l.visitor) l.area (g.V.Visitor.floor_of l.visitor) (take l.entry-index l.entries);
  still : (e : Entry) → g.V.Visitor.has_seen l.fn.visitor e → g.V.Visitor.has_seen l.visitor e;
  rises : g.V.Visitor.floor_of l.fn.visitor ≤ℤ g.V.Visitor.floor_of l.visitor;
}

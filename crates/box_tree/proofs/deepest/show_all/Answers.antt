use Rattle.std.proofs.Common.{pos}
use Rattle.box_tree.specs.declared.entry.Entry.{Entry}
use Rattle.box_tree.proofs.Seen.{rise, seen_all, seen_more}
use Rattle.box_tree.proofs.deepest.show_all.Goals as goal

pub loop-entry-preserved : goal.loop-entry-preserved
loop-entry-preserved g c =
    let none : Entry = record { name = 0; bounds = record { least = record { x = pos 0; y = pos 0 }; greatest = record { x = pos 0; y = pos 0 } } } in
    let before = c.loop-entry.visitor in
    let now = c.show.new.visitor in
    record {
      ready = λ k m. c.show.ensures.ready k (c.loop-entry.invariant.ready k m);
      seen = seen_more (g.V.Visitor.has_seen before) (g.V.Visitor.has_seen now) c.args.area.now (g.V.Visitor.floor_of before) (g.V.Visitor.floor_of now) c.args.entries.now c.loop-entry.entry-index none c.loop-entry-test.true c.show.ensures.still c.show.ensures.rises c.loop-entry.invariant.seen c.show.ensures.seen;
      still = λ e s. c.show.ensures.still e (c.loop-entry.invariant.still e s);
      rises = rise (g.V.Visitor.floor_of c.args.visitor.now) (g.V.Visitor.floor_of before) (g.V.Visitor.floor_of now) c.loop-entry.invariant.rises c.show.ensures.rises;
    }

pub returns-clause-seen : goal.returns-clause-seen
returns-clause-seen g c =
    seen_all (g.V.Visitor.has_seen c.loop-entry.visitor) c.args.area.now (g.V.Visitor.floor_of c.loop-entry.visitor) c.args.entries.now c.loop-entry.entry-index c.loop-entry-test.false c.loop-entry.invariant.seen

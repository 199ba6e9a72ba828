use Rattle.std.proofs.Common.{◌<◌, ◌≤◌, ap, length, arith}
use Rattle.box_tree.proofs.Listed.{none_left, other_more, taken_out}
use Rattle.box_tree.proofs.Same.{told_same, told_other}
use Rattle.box_tree.proofs.deepest.take_out.Goals as goal

pub returns-then-is-clause-entries : goal.returns-then-is-clause-entries
returns-then-is-clause-entries c =
    let h : c.places.place < length c.places.entries.items = omega (arith, c.len.ensures) in
    let same = told_same c.index.result.now c.args.entry.now c.is.result c.is.ensures c.if-is.true in
    taken_out c.places.entries.items c.args.entries.now.items c.swap_remove.new.self.items c.places.place c.swap_remove.result c.index.result.now c.args.entry.now (ap (λ v. v.items) c.places.invariant.same) h c.swap_remove.ensures.value c.index.ensures same c.swap_remove.ensures.items

pub places-preserved : goal.places-preserved
places-preserved c =
    let h : c.places.place < length c.places.entries.items = omega (arith, c.len.ensures) in
    record {
      same = c.places.invariant.same;
      none = other_more c.places.entries.items c.places.place c.index.result.now c.args.entry.now h c.places.invariant.none c.index.ensures (told_other c.index.result.now c.args.entry.now c.is.result c.is.ensures c.if-is.false);
    }

pub returns-clause-entries : goal.returns-clause-entries
returns-clause-entries c =
    let h : length c.places.entries.items ≤ c.places.place = omega (arith, c.len.ensures) in
    none_left c.places.entries.items c.args.entries.now.items c.places.place c.args.entry.now (ap (λ v. v.items) c.places.invariant.same) h c.places.invariant.none

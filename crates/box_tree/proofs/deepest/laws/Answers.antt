use Rattle.std.proofs.Common.{◌≤ℤ◌, negsuc, pos, sym, take, arith}
use Rattle.std.proofs.lemmas.Int.{ints}
use Rattle.std.proofs.lemmas.List.{take_all}
use Rattle.std.proofs.lemmas.List.Elements.{All-more, All-same}
use Rattle.box_tree.specs.declared.entry.Entry.{Entry}
use Rattle.box_tree.proofs.deepest.laws.Goals as goal

pub loop-entry-preserved : goal.loop-entry-preserved
loop-entry-preserved c =
    let none : Entry = record { name = 0; bounds = record { least = record { x = pos 0; y = pos 0 }; greatest = record { x = pos 0; y = pos 0 } } } in
    All-more (λ e. negsuc 2147483647 ≤ℤ e.bounds.least.y) c.args.entries.now c.loop-entry.entry-index none c.loop-entry-test.true c.loop-entry.invariant (omega (arith, ints, c.lowest.type_inv, c.lowest.ensures))

pub returns : goal.returns
returns c = All-same (λ (e : Entry). negsuc 2147483647 ≤ℤ e.bounds.least.y) c.args.entries.now (take c.loop-entry.entry-index c.args.entries.now) (sym (take_all c.loop-entry.entry-index c.args.entries.now c.loop-entry-test.false)) c.loop-entry.invariant

use Rattle.std.proofs.Common.{◌≡◌, ◌<◌, ℕ, length, sym, subst, List}
use Rattle.slab_laws.specs.declared.classes.Link.{Link}
use Rattle.plain_slabs.specs.MetNumbers.{AreBelow}
use Rattle.plain_slabs.proofs.LabelTables.{sound_alone, sound_round, round_falls, settled_after}
use Rattle.plain_slabs.proofs.numbers.settle.Goals as goal

pub loop-table-init : goal.loop-table-init
loop-table-init c = sound_alone c.args.links.now c.args.table.now c.requires.alone

still : (old now : List ℕ) (ls : List (Link ℕ)) → length now ≡ length old → AreBelow (length old) ls → AreBelow (length now) ls
still old now ls e h = subst (λ n. AreBelow n ls) (sym e) h

pub loop-table-smaller : goal.loop-table-smaller
loop-table-smaller c = round_falls c.args.links.now c.loop-table.table c.pass_forwards.new.table (still c.args.table.now _ _ c.loop-table.auto.table c.requires.below) c.loop-table-test.ensures.table c.pass_backwards.new.table c.pass_backwards.ensures c.loop-table-test.ensures.changed

pub loop-table-preserved : goal.loop-table-preserved
loop-table-preserved c = sound_round c.args.links.now c.loop-table.table c.pass_forwards.new.table (still c.args.table.now _ _ c.loop-table.auto.table c.requires.below) c.loop-table-test.ensures.table c.pass_backwards.new.table c.pass_backwards.ensures c.loop-table.invariant

pub returns : goal.returns
returns c = λ k h. settled_after c.args.links.now c.loop-table.table c.pass_forwards.new.table (still c.args.table.now _ _ c.loop-table.auto.table c.requires.below) c.loop-table-test.ensures.table c.loop-table-test.ensures.changed c.loop-table.invariant k (subst (λ n. k < n) (sym c.loop-table.auto.table) h)

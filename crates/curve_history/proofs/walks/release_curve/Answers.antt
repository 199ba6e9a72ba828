use Rattle.std.proofs.Common.{arith, refl, ◌∙◌}
use Rattle.curve_history.specs.Changed.{IsPairLess}
use Rattle.curve_history.specs.HistoryInMemory.{entry}
use Rattle.curve_history.proofs.Copying.{same_keys, keys_on}
use Rattle.curve_history.proofs.Emptying.{no_side_less, side_less, fewer_at}
use Rattle.curve_history.proofs.Reading.{node_of}
use Rattle.curve_history.proofs.walks.release_curve.Goals as goal

pub each-init : goal.each-init
each-init c = record { pairs = c.requires.pairs; ordered = c.requires.ordered; less = no_side_less _ _ _; named = same_keys _; capacity = refl; room = omega arith }

pub release_pair-requires-clause-has : goal.release_pair-requires-clause-has
release_pair-requires-clause-has c = let f = c.in-Some.ensures.some in node_of c.each.edges c.in-Some.node (entry c.args.edge f.0 f.1) f.3

less : (c : goal.After-release_pair) → IsPairLess c.each.edges c.release_pair.new.edges c.in-Some.node c.args.edge c.in-Some.ensures.some.0
less c = let f = c.in-Some.ensures.some in c.release_pair.ensures.less _ _ _ f.3

pub each-smaller : goal.each-smaller
each-smaller c = let f = c.in-Some.ensures.some in fewer_at c.each.edges c.release_pair.new.edges c.args.edge c.in-Some.node f.0 f.1 (c.laws.ensures.whole _) f.3 ((less c).chains c.args.edge)

pub each-preserved : goal.each-preserved
each-preserved c = record {
  pairs = c.release_pair.ensures.pairs;
  ordered = c.release_pair.ensures.ordered;
  less = side_less _ _ _ _ _ _ _ c.each.invariant.less (less c) c.in-Some.ensures.some.2;
  named = keys_on _ _ _ c.each.invariant.named c.release_pair.ensures.named;
  capacity = c.release_pair.ensures.capacity ∙ c.each.invariant.capacity;
  room = let r = c.each.invariant.room in let s = c.release_pair.ensures.room in omega arith;
}

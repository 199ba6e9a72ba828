use Rattle.std.proofs.Common.{arith, refl, ◌∙◌}
use Rattle.curve_history.specs.Changed.{IsPairLess}
use Rattle.curve_history.specs.HistoryInMemory.{item_in}
use Rattle.curve_history.proofs.Copying.{same_keys, keys_on}
use Rattle.curve_history.proofs.Emptying.{empty, first_node, first_is, empty_on, fewer, none_left}
use Rattle.curve_history.proofs.walks.release_each.Goals as goal

pub each-init : goal.each-init
each-init c = record { pairs = c.requires.pairs; ordered = c.requires.ordered; less = empty _ _; named = same_keys _; capacity = refl; room = omega arith }

pub release_pair-requires-clause-has : goal.release_pair-requires-clause-has
release_pair-requires-clause-has c = first_node _ _ _ _ (c.laws.ensures.whole _) c.first.ensures c.in-Some.is

less : (c : goal.After-release_pair) → IsPairLess c.each.edges c.release_pair.new.edges c.in-Some.node c.args.edge (item_in c.each.edges c.in-Some.node)
less c = let f = first_is _ _ _ _ (c.laws.ensures.whole _) c.first.ensures c.in-Some.is in c.release_pair.ensures.less _ _ _ f.1

pub each-smaller : goal.each-smaller
each-smaller c = fewer c.each.edges c.release_pair.new.edges c.args.edge c.first.result c.in-Some.node c.first.ensures c.in-Some.is ((less c).chains c.args.edge)

pub each-preserved : goal.each-preserved
each-preserved c = record {
  pairs = c.release_pair.ensures.pairs;
  ordered = c.release_pair.ensures.ordered;
  less = empty_on _ _ _ _ _ _ c.each.invariant.less (less c);
  named = keys_on _ _ _ c.each.invariant.named c.release_pair.ensures.named;
  capacity = c.release_pair.ensures.capacity ∙ c.each.invariant.capacity;
  room = let r = c.each.invariant.room in let s = c.release_pair.ensures.room in omega arith;
}

pub returns-clause-none : goal.returns-clause-none
returns-clause-none c = none_left _ _ _ (c.laws-2.ensures.whole _) c.first.ensures c.in_default.is

use Rattle.std.proofs.Common.{◌≡◌, suc, length, arith}
use Rattle.linked_chains.specs.Chains.{chain}
use Rattle.curve_history.proofs.Copying.{copy, first_step, step_of_edge, keeps_step, ordered_copied, has_node, is_new, has_room, goes_on, one_less, all_copied, room_first, room_on, same_keys, keys_on}
use Rattle.curve_history.proofs.Twins.{beside_node}
use Rattle.curve_history.proofs.Walking.{left}
use Rattle.curve_history.proofs.walks.copy_pairs.Goals as goal

pub walk-init : goal.walk-init
walk-init c = record {
  pairs = c.requires.pairs;
  copied = copy _ _ _ _ c.first-at.ensures;
  in_step = first_step _ _ _ _ (c.laws.ensures.whole _) c.requires.new c.first-at.ensures;
  bare = λ e. c.requires.bare;
  named = same_keys _;
  room = room_first _ _ _ c.first-at.ensures;
}

pub entry-said-requires : goal.entry-said-requires
entry-said-requires c = has_node _ _ c.args.curves.now c.args.curves.now _ c.args.part _ _ (c.laws.ensures.whole _) c.in-Some.is c.walk.invariant.copied

pub hold_beside-requires-clause-near : goal.hold_beside-requires-clause-near
hold_beside-requires-clause-near c = beside_node _ _ _ _ c.walk.invariant.pairs c.entry-said.ensures

pub hold_beside-requires-clause-first : goal.hold_beside-requires-clause-first
hold_beside-requires-clause-first c = c.walk.invariant.bare

pub hold_beside-requires-clause-new : goal.hold_beside-requires-clause-new
hold_beside-requires-clause-new c = is_new _ _ c.args.curves.now c.args.curves.now _ _ _ _ (c.laws.ensures.whole _) c.in-Some.is c.walk.invariant.copied _ c.entry-said.ensures c.requires.pairs c.requires.new

pub hold_beside-requires-clause-room : goal.hold_beside-requires-clause-room
hold_beside-requires-clause-room c = has_room _ _ c.args.curves.now c.args.curves.now _ c.args.part _ _ (c.laws.ensures.whole _) c.in-Some.is c.walk.invariant.copied _ c.entry-said.ensures _ _ c.requires.room c.walk.invariant.room

pub hold_beside-requires-clause-place : goal.hold_beside-requires-clause-place
hold_beside-requires-clause-place c = step_of_edge _ _ _ _ _ _ c.walk.invariant.in_step

less : (c : goal.After-after-at) → length (left (chain c.args.edges.now c.args.edge) c.walk.at) ≡ suc (length (left (chain c.args.edges.now c.args.edge) c.after-at.result))
less c = one_less _ _ c.args.curves.now c.args.curves.now _ c.args.part _ _ (c.laws.ensures.whole _) c.in-Some.is c.walk.invariant.copied _ c.entry-said.ensures _ _ c.requires.pairs c.requires.two c.hold_beside.ensures.more c.after-at.ensures

pub walk-smaller : goal.walk-smaller
walk-smaller c = let l = less c in omega arith

pub walk-preserved : goal.walk-preserved
walk-preserved c = record {
  pairs = c.hold_beside.ensures.pairs;
  copied = goes_on _ _ c.args.curves.now c.args.curves.now _ _ _ _ (c.laws.ensures.whole _) c.in-Some.is c.walk.invariant.copied _ c.entry-said.ensures _ _ c.requires.pairs c.requires.two c.hold_beside.ensures.more c.after-at.ensures;
  in_step = keeps_step _ _ c.args.curves.now c.args.curves.now _ _ _ _ (c.laws.ensures.whole _) c.in-Some.is c.walk.invariant.copied _ c.entry-said.ensures _ _ c.requires.pairs c.requires.two c.hold_beside.ensures.more c.after-at.ensures _ _ c.walk.invariant.in_step c.hold_beside.ensures.put;
  bare = λ e. absurd (cc);
  named = keys_on _ _ _ c.walk.invariant.named c.hold_beside.ensures.named;
  room = room_on _ _ _ _ _ _ c.walk.invariant.room c.hold_beside.ensures.room (less c);
}

pub returns-clause-copied : goal.returns-clause-copied
returns-clause-copied c = all_copied _ _ _ _ _ (c.laws.ensures.whole _) c.in_default.is c.requires.two c.walk.invariant.copied

pub returns-clause-ordered : goal.returns-clause-ordered
returns-clause-ordered c = ordered_copied _ _ _ _ _ _ c.laws.ensures.whole c.in_default.is c.walk.invariant.copied c.walk.invariant.in_step c.requires.ordered

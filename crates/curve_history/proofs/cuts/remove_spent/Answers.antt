use Rattle.std.proofs.Common.{◌∙◌, arith}
use Rattle.curve_history.specs.Cuts.{kept_whole}
use Rattle.curve_history.proofs.Walked.{all_walked, ended, is_there, kept_is, walk_begins, walked_on}
use Rattle.curve_history.proofs.cuts.remove_spent.Goals as goal

pub each-init : goal.each-init
each-init c = walk_begins (kept_whole c.args.p.now c.args.q.now) c.args.pieces.now _ c.first-at.ensures

pub after-at-requires : goal.after-at-requires
after-at-requires c = is_there (kept_whole c.args.p.now c.args.q.now) c.args.pieces.now c.each.pieces c.each.counter c.each.at c.each.invariant c.in-Some.name c.in-Some.is

pub drop_spent-requires : goal.drop_spent-requires
drop_spent-requires c = is_there (kept_whole c.args.p.now c.args.q.now) c.args.pieces.now c.each.pieces c.each.counter c.each.at c.each.invariant c.in-Some.name c.in-Some.is

pub each-preserved : goal.each-preserved
each-preserved c = walked_on (kept_whole c.args.p.now c.args.q.now) c.args.pieces.now c.each.pieces c.each.counter c.each.at c.each.invariant c.in-Some.name c.in-Some.is _ c.after-at.ensures c.drop_spent.new.pieces c.drop_spent.ensures.rows c.drop_spent.ensures.capacity

pub returns-in_default-clause-items : goal.returns-in_default-clause-items
returns-in_default-clause-items c = (ended (kept_whole c.args.p.now c.args.q.now) c.args.pieces.now c.each.pieces c.each.counter c.each.at c.each.invariant c.in_default.is).0 ∙ kept_is c.args.p.now c.args.q.now _

pub returns-clause-items : goal.returns-clause-items
returns-clause-items c = all_walked (kept_whole c.args.p.now c.args.q.now) c.args.pieces.now c.each.pieces c.each.counter c.each.at c.each.invariant (omega (arith, c.each-test.false, c.len-end.ensures)) ∙ kept_is c.args.p.now c.args.q.now _

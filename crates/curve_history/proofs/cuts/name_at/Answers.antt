use Rattle.std.proofs.Common.{refl, arith}
use Rattle.curve_history.proofs.Walked.{as_it_is, is_there, passed, passed_all, walk_begins, walked_on}
use Rattle.curve_history.proofs.cuts.name_at.Goals as goal

pub each-init : goal.each-init
each-init c = walk_begins as_it_is c.args.pieces.now _ c.first-at.ensures

pub returns-in_default : goal.returns-in_default
returns-in_default c = passed_all as_it_is c.args.pieces.now c.args.pieces.now c.each.counter c.each.at c.each.invariant c.in_default.is c.args.place (omega (arith, c.each-test.true))

pub after-at-requires : goal.after-at-requires
after-at-requires c = is_there as_it_is c.args.pieces.now c.args.pieces.now c.each.counter c.each.at c.each.invariant c.in-Some.name c.in-Some.is

pub each-preserved : goal.each-preserved
each-preserved c = walked_on as_it_is c.args.pieces.now c.args.pieces.now c.each.counter c.each.at c.each.invariant c.in-Some.name c.in-Some.is _ c.after-at.ensures c.args.pieces.now (passed c.args.pieces.now c.in-Some.name) refl

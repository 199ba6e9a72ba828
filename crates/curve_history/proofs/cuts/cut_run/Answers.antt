use Rattle.std.proofs.Common.{arith}
use Rattle.edit_steps.specs.Steps.{cut_piece}
use Rattle.curve_history.proofs.Walked.{fits, is_there, room_in, run_begins, run_ends, run_goes_on, walked_on}
use Rattle.curve_history.proofs.cuts.cut_run.Goals as goal

pub each-init : goal.each-init
each-init c = run_begins c.args.p.now c.args.q.now c.args.pieces.now c.args.plan c.requires.plan _ c.name_at-at.ensures

pub after-at-requires : goal.after-at-requires
after-at-requires c = is_there (cut_piece c.args.p.now c.args.q.now) c.args.pieces.now c.each.pieces c.each.counter c.each.at c.each.invariant c.in-Some.name c.in-Some.is

pub cut_one-requires-clause-has : goal.cut_one-requires-clause-has
cut_one-requires-clause-has c = is_there (cut_piece c.args.p.now c.args.q.now) c.args.pieces.now c.each.pieces c.each.counter c.each.at c.each.invariant c.in-Some.name c.in-Some.is

pub cut_one-requires-clause-room : goal.cut_one-requires-clause-room
cut_one-requires-clause-room c = fits (cut_piece c.args.p.now c.args.q.now) c.args.pieces.now c.each.pieces c.each.counter c.each.at c.each.invariant c.in-Some.name c.in-Some.is c.laws.ensures.once c.requires.some (room_in c.args.p.now c.args.q.now c.args.pieces.now c.args.plan c.requires.plan c.requires.room)

pub each-preserved : goal.each-preserved
each-preserved c = walked_on (cut_piece c.args.p.now c.args.q.now) c.args.pieces.now c.each.pieces c.each.counter c.each.at c.each.invariant c.in-Some.name c.in-Some.is _ c.after-at.ensures c.cut_one.new.pieces c.cut_one.ensures.rows c.cut_one.ensures.capacity

pub returns-in_default : goal.returns-in_default
returns-in_default c = absurd (run_goes_on c.args.p.now c.args.q.now c.args.pieces.now c.args.plan c.requires.plan c.each.pieces c.each.counter c.each.at c.each.invariant (omega (arith, c.each-test.true)) c.in_default.is)

pub returns : goal.returns
returns c = run_ends c.args.p.now c.args.q.now c.args.pieces.now c.args.plan c.requires.plan c.each.pieces c.each.counter c.each.at c.each.invariant (omega (arith, c.each-test.false, c.each.auto.counter, c.each.auto.counter-end, c.requires.plan.run))

use Rattle.std.proofs.Common.{rules, ◌≡◌, false, length}
use Rattle.std.specs.Prelude.{replicate}
use Rattle.locate_trapezoid.proofs.Taken.{none_taken, all_taken}
use Rattle.locate_trapezoid.proofs.scatter.scattered.Goals as goal

pub draws-init : goal.draws-init
draws-init c =
    let e : c.in_ok-marks.marks.items ≡ replicate (length c.args.tests.now) false = search rules in
    none_taken c.args.tests.now c.in_ok-marks.marks.items c.new-order.result.items e c.new-order.ensures.items

pub returns : goal.returns
returns c = all_taken c.args.tests.now c.rest.marks.items c.rest.order.items c.rest.place c.rest-test.false c.rest.invariant.taken c.rest.invariant.marked

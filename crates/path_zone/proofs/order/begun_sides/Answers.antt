use Rattle.std.proofs.Common.{refl}
use Rattle.plane_graphs.proofs.Sorting.{any_default}
use Rattle.path_zone.proofs.Starts.{start_there, started_all, started_first, started_next}
use Rattle.path_zone.proofs.order.begun_sides.Goals as goal

pub sides-init : goal.sides-init
sides-init c = started_first c.args.sides.now c.args.starts.now c.in_ok-begun.begun.items c.in_ok-begun.ensures.items

pub bounds-starts-place : goal.bounds-starts-place
bounds-starts-place c = start_there c.args.sides.now c.args.starts.now c.sides.begun.items c.sides.place c.sides.invariant c.index-sides-place.result c.sides-test.true c.index-sides-place.is c.requires

pub sides-preserved : goal.sides-preserved
sides-preserved c =
    started_next c.args.sides.now c.args.starts.now c.sides.begun.items c.sides.place c.sides.invariant c.index-sides-place.result c.sides-test.true c.index-sides-place.is
    _ refl refl
    (λ d. any_default c.args.starts.now c.sides.place _ d (start_there c.args.sides.now c.args.starts.now c.sides.begun.items c.sides.place c.sides.invariant c.index-sides-place.result c.sides-test.true c.index-sides-place.is c.requires))
    c.push.new.self.items c.in_ok-push.ensures.items

pub returns : goal.returns
returns c = started_all c.args.sides.now c.args.starts.now c.sides.begun.items c.sides.place c.sides.invariant c.sides-test.false

use Rattle.std.proofs.Common.{length}
use Rattle.zone_walk.specs.Walk.{IsVisitAt}
use Rattle.zone_walk.specs.Zone.{later_points}
use Rattle.zone_walk.proofs.Counted.{IsCounted}
use Rattle.zone_walk.proofs.Walked.{IsWalked}
use Rattle.zone_walk.proofs.walk.zone_by.Given as goal

abbrev pub invariant-walk : goal.invariant-walk
invariant-walk g l =
    let v = g.T.NameCalls.graph l.sight in
    let f = g.T.NameCalls.faces l.sight in
    record {
      walked : IsWalked v f l.segment l.plan.vertices l.plan.between l.plan.overlapped l.point l.spot;
      at : IsVisitAt v f (g.T.NameCalls.graph l.looker.sight.now) (g.T.NameCalls.faces l.looker.sight.now) l.segment l.point l.looker.search;
      counted : IsCounted v f l.segment l.fn.steps l.steps l.point;
    }

abbrev pub decreases-walk : goal.decreases-walk
decreases-walk g l = length (later_points (g.T.NameCalls.graph l.sight) l.segment l.point)

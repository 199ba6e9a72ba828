use Rattle.std.proofs.Common.{sym, ◌∙◌}
use Rattle.arrangement.proofs.ZonesMet.{none_met, some_met}
use Rattle.arrangement.proofs.arrangement.Arrangement.meets.Goals as goal

pub zone_in-requires : goal.zone_in-requires
zone_in-requires g c = record { map = c.self.invariant.1.0.map; layer = c.self.invariant.0 }

pub returns-clause-some : goal.returns-clause-some
returns-clause-some g c =
    let e = c.in_ok-plan.ensures in
    rw (← c.self.view_is) (λ b.
    let w = some_met _ _ c.self.invariant.0 _ c.self.invariant.1.0.map.sound c.args.segment.now e.ends c.in_ok-plan.plan e.zone (sym c.meets_any.ensures ∙ b) in
    (w.0, record { proper = w.1.proper; on = w.1.on; met = w.1.met }))

pub returns-clause-none : goal.returns-clause-none
returns-clause-none g c =
    let e = c.in_ok-plan.ensures in
    rw (← c.self.view_is) (λ b. none_met _ _ c.self.invariant.0 _ c.self.invariant.1.0.map.sound c.args.segment.now e.ends c.in_ok-plan.plan e.zone (sym c.meets_any.ensures ∙ b))

use Rattle.arrangement.proofs.arrangement.Arrangement.zone.Goals as goal

pub zone_in-requires : goal.zone_in-requires
zone_in-requires g c = record { map = c.self.invariant.1.0.map; layer = c.self.invariant.0 }

pub returns : goal.returns
returns g c =
    let z = c.in_ok-plan.ensures.zone in
    rw (← c.self.view_is) (record { points = z.points; spots = z.spots; between = z.between })

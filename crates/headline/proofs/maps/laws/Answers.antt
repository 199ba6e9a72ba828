use Rattle.headline.proofs.maps.laws.Goals as goal

pub returns : goal.returns
returns g c =
    let of = c.laws.ensures in
    record { sound = of.sound; layer = of.layer; named = of.named; apart = of.apart }

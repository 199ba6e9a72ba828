use Rattle.headline.proofs.whole.limits.Goals as goal

pub returns : goal.returns
returns g c =
    let full = c.planar.ensures.full in
    record { line = c.planar.ensures.line_limit; curves = full.0; pieces = full.1; pins = full.2 }

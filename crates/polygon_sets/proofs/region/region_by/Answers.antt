use Rattle.std.proofs.Common.{rules}
use Rattle.polygon_sets.specs.declared.region.Colour.TheVariants.{Red, Blue}
use Rattle.polygon_sets.specs.declared.region.RegionError.TheVariants.{Open, NoMemory}
use Rattle.polygon_sets.proofs.RegionLayers.{region_here, region_there, error_there, boundary_here}
use Rattle.polygon_sets.proofs.region.region_by.Goals as goal

pub returns-in-Some-clause-error_of_layers : goal.returns-in-Some-clause-error_of_layers
returns-in-Some-clause-error_of_layers c = λ r b fr fb of. error_there r b fr fb c.args.rows.now c.args.red.now c.args.blue.now of (Open Red c.in-Some.end) (search rules)

pub returns-in-Some-open_end-clause-error_of_layers : goal.returns-in-Some-open_end-clause-error_of_layers
returns-in-Some-open_end-clause-error_of_layers c = λ r b fr fb of. error_there r b fr fb c.args.rows.now c.args.red.now c.args.blue.now of (Open Blue c.in-Some-open_end.end) (search rules)

pub returns-in-Ok-clause-region : goal.returns-in-Ok-clause-region
returns-in-Ok-clause-region c = region_here c.args.rows.now c.laws.ensures.plane c.args.red.now c.args.blue.now c.args.op c.in-Ok.darts.items (search rules) (search rules) (search rules)

pub returns-in-Ok-clause-region_of_layers : goal.returns-in-Ok-clause-region_of_layers
returns-in-Ok-clause-region_of_layers c = λ r b fr fb of. region_there r b fr fb c.args.rows.now c.args.red.now c.args.blue.now of c.args.op c.in-Ok.darts.items (region_here c.args.rows.now c.laws.ensures.plane c.args.red.now c.args.blue.now c.args.op c.in-Ok.darts.items (search rules) (search rules) (search rules))

pub returns-in-Err-clause-error_of_layers : goal.returns-in-Err-clause-error_of_layers
returns-in-Err-clause-error_of_layers c = λ r b fr fb of. error_there r b fr fb c.args.rows.now c.args.red.now c.args.blue.now of NoMemory (search rules)

pub invariant_of-result : goal.invariant_of-result
invariant_of-result c =
    let d = c.args.rows.now in
    let red = c.args.red.now in
    let blue = c.args.blue.now in
    boundary_here d c.laws.ensures.plane red blue c.args.op c.in-Ok.darts.items (region_here d c.laws.ensures.plane red blue c.args.op c.in-Ok.darts.items (search rules) (search rules) (search rules))

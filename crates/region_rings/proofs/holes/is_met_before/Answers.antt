use Rattle.std.proofs.Common.{rules, ◌≡◌, ◌∙◌, true, false, is_lt}
use Rattle.polygon_sets.specs.ClosedBorders.{way}
use Rattle.region_rings.specs.Spokes.{spoke, turn_cmp}
use Rattle.region_rings.proofs.KeyOrder.{before_is}
use Rattle.region_rings.proofs.holes.is_met_before.Goals as goal

pub returns : goal.returns
returns c =
    let is : c.is_lt.result ≡ is_lt (turn_cmp (spoke c.args.from.now c.args.first.now true 0) (spoke c.args.from.now c.args.second.now false 0)) = search rules in
    is ∙ before_is (way c.args.from.now c.args.first.now) (way c.args.from.now c.args.second.now)

use Rattle.headline.proofs.Overlays.{gathered}
use Rattle.headline.proofs.maps.overlaid.Goals as goal

pub returns : goal.returns
returns g c =
    let of = c.overlay.ensures in
    gathered _ _ c.overlay.result of.subdivision of.pins of.stands of.red of.blue of.text

use Rattle.std.proofs.Common.{◌≡◌, false, ⊎_elim, subst}
use Rattle.plane_graphs.proofs.Lists.{clash}
use Rattle.face_location.specs.Spots.{IsSpotOf}
use Rattle.zone_walk.specs.Zone.{is_on_segment}
use Rattle.path_zone.proofs.path.start_for.Goals as goal

pub returns-in-Some : goal.returns-in-Some
returns-in-Some c v f all k = subst (λ p. IsSpotOf v f p c.in-Some.spot) c.lower.ensures.value (c.in-Some.ensures v f all)

pub returns-in-None : goal.returns-in-None
returns-in-None c v f all k = ⊎_elim (λ s. s) (λ o. clash o.2 (subst (λ p. is_on_segment o.0.side p ≡ false) c.lower.ensures.value (c.in-None.ensures v f all o.0 o.1))) k

use Rattle.std.proofs.Common.{◌≡◌, false, sym, ◌∙◌, subst}
use Rattle.std.specs.List.{list_any}
use Rattle.plane_graphs.proofs.Lists.{clash}
use Rattle.dcel_records.specs.RecordsView.{tables_of}
use Rattle.face_location.specs.Spots.{IsSpotOf}
use Rattle.path_zone.specs.PathZone.{has_behind}
use Rattle.arrangement.proofs.Started.{start_again}
use Rattle.arrangement.proofs.spots.start_of.Goals as goal

pub returns-then-is_begun : goal.returns-then-is_begun
returns-then-is_begun c n = clash (sym c.is_begun.ensures ∙ c.if-is_begun.true) n

pub returns-in-Some : goal.returns-in-Some
returns-in-Some c n =
    subst (λ p. IsSpotOf c.args.records.now.graph (tables_of c.args.records.now) p c.in-Some.spot) c.lower-lower.ensures.value
    (start_again c.args.records.now.graph (tables_of c.args.records.now) c.args.sides.now c.args.before.now c.args.starts.now c.lower-lower.result c.in-Some.spot c.in-Some.ensures c.requires.known (subst (λ p. list_any (λ t. has_behind t p) c.args.sides.now ≡ false) (sym c.lower-lower.ensures.value) n))

pub returns-in-None : goal.returns-in-None
returns-in-None c n = subst (λ p. IsSpotOf c.args.records.now.graph (tables_of c.args.records.now) p c.spot_at.result) c.lower-lower.ensures.value c.spot_at.ensures

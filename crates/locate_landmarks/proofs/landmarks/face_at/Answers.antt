use Rattle.std.proofs.Common.{refl, sym, subst}
use Rattle.dcel_records.specs.RecordsView.{tables_of}
use Rattle.dcel_records.specs.declared.spot.Spot.{Spot}
use Rattle.face_location.specs.Spots.{IsSpotOf}
use Rattle.locate_landmarks.specs.Ways.{IsFaceAt}
use Rattle.locate_landmarks.proofs.OnWay.{face_has}
use Rattle.locate_landmarks.proofs.landmarks.face_at.Goals as goal

pub returns-in-Face : goal.returns-in-Face
returns-in-Face c =
    let v = c.args.glance.now.graph in
    let f = tables_of c.args.glance.now in
    record {
      has = face_has v f c.requires.spot.0 c.in-Face.face c.requires.map.sound (subst (λ (s : Spot). IsSpotOf v f c.requires.spot.0 s) c.in-Face.is c.requires.spot.1);
      at = subst (λ (s : Spot). IsFaceAt v f s c.in-Face.face) (sym c.in-Face.is) refl;
    }

use Rattle.arrangement.proofs.Listing.{faces_answered}
use Rattle.arrangement.proofs.arrangement.Arrangement.faces.Goals as goal

pub returns-clause-faces : goal.returns-clause-faces
returns-clause-faces g c = rw (← c.self.view_is) (faces_answered _ _ c.self.invariant.1.0.map.sound c.face_names.ensures.ascend c.face_names.result (λ v. v.items) c.face_names.ensures.names)

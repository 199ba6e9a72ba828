use Rattle.arrangement.proofs.FacesRead.{boundaries_told}
use Rattle.arrangement.proofs.arrangement.Arrangement.boundaries_of.Goals as goal

pub returns : goal.returns
returns g c = rw (← c.self.view_is) (record { boundaries = boundaries_told _ c.kept_boundaries.result (λ v. v.items) c.args.face c.args.kind c.self.invariant.1.0.map c.face_laws.ensures.listed c.kept_boundaries.ensures })

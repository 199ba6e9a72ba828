use Rattle.arrangement.proofs.FacesRead.{isolated_told}
use Rattle.arrangement.proofs.arrangement.Arrangement.isolated_in.Goals as goal

pub returns : goal.returns
returns g c = rw (← c.self.view_is) (record { isolated = isolated_told _ c.listed_isolated.result (λ v. v.items) c.args.face c.self.invariant.1.0.map c.face_laws.ensures.listed c.listed_isolated.ensures })

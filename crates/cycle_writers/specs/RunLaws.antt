-- Runs that are cycles: of the view itself, or of the view before an edge came or went (this project).
use Rattle.std.specs.Prelude.{◌≡◌, ◌≢◌, ◌↔◌, List}
use Rattle.std.specs.List.{Contains}
use Rattle.slab_laws.specs.declared.names.DartId.{DartId}
use Rattle.slab_laws.specs.declared.names.VertexId.{VertexId}
use Rattle.slab_laws.specs.FacesSound.{lead_in}
use Rattle.slab_laws.specs.Sound.{IsGraphSound}
use Rattle.slab_laws.specs.View.{View, Faces, HasDart, next_in, cycle_in}
use Rattle.face_steps.specs.StepPremises.{IsBetween}
use Rattle.face_steps.specs.Tabled.{AreTabled}
use Rattle.cycle_writers.specs.Runs.{IsRun}

pub record RunsAreCycles : Type 0 where
  -- back to its first dart: the orbit of that dart
  pub orbit : (v : View) (d : DartId) (ds : List DartId) → IsGraphSound v → HasDart v d → IsRun v d d ds → (k : DartId) → Contains ds k ↔ (HasDart v k × (lead_in v k ≡ lead_in v d))
  -- v without an edge and w with it; d and m come after a and b, which are on two cycles: one cycle then, on which d's run up to m is b's cycle
  pub together : (v w : View) (f : Faces) (d m : DartId) (p q : VertexId) (a b : DartId) → IsBetween v w d m p q a b → AreTabled v f → cycle_in f a ≢ cycle_in f b → HasDart w (next_in w d) × (lead_in w (next_in w d) ≡ lead_in w m)
  pub joined : (v w : View) (f : Faces) (d m : DartId) (p q : VertexId) (a b : DartId) (ds : List DartId) → IsBetween v w d m p q a b → AreTabled v f → cycle_in f a ≢ cycle_in f b → IsRun w (next_in w d) m ds → (k : DartId) → Contains ds k ↔ (HasDart v k × (cycle_in f k ≡ cycle_in f b))
  -- s stands beside w, where d and m are on two cycles: without the edge what followed d is on one cycle with what followed m, and its run up to that is the rest of d's cycle
  pub apart : (v w : View) (s : Faces) (d m : DartId) (p q : VertexId) (a b : DartId) → IsBetween v w d m p q a b → AreTabled w s → cycle_in s d ≢ cycle_in s m → HasDart v (next_in w d) × HasDart v (next_in w m) × (lead_in v (next_in w d) ≡ lead_in v (next_in w m))
  pub united : (v w : View) (s : Faces) (d m : DartId) (p q : VertexId) (a b : DartId) (ds : List DartId) → IsBetween v w d m p q a b → AreTabled w s → cycle_in s d ≢ cycle_in s m → IsRun v (next_in w d) (next_in w m) ds → (k : DartId) → Contains ds k ↔ (HasDart v k × (cycle_in s k ≡ cycle_in s d))

-- A part of a segment that meets nothing lies in one face, told from either end, and what is met first is on that face's boundary.
use Rattle.std.specs.Prelude.{◌≡◌, ◌≢◌, true}
use Rattle.exact_plane.specs.Point.{Point}
use Rattle.plane_graphs.specs.Line.{IsProper}
use Rattle.slab_laws.specs.declared.names.FaceId.{FaceId}
use Rattle.slab_laws.specs.FacesSound.{IsSound}
use Rattle.slab_laws.specs.Skeleton.{inside}
use Rattle.slab_laws.specs.Sound.{edge_between, IsGraphSound}
use Rattle.slab_laws.specs.View.{View, Faces, HasFace}
use Rattle.zone_walk.specs.Parts.{IsClearBetween, IsFaceBetween, TellsFace, IsOnBoundary}

-- what is told towards a point is told towards each point before it, so that the way to a segment's end serves for the next point that it meets; and the face told has a name (this project)
pub record FacesAreTold : Type 0 where
  pub nearer : (v : View) (f : Faces) (p z q : Point) (face : FaceId) → IsGraphSound v → IsProper p → IsProper z → IsProper q → inside (edge_between p z) q ≡ true → TellsFace v f p z face → TellsFace v f p q face
  pub has : (v : View) (f : Faces) (p q : Point) (face : FaceId) → IsSound v f → TellsFace v f p q face → HasFace f face

-- a part that meets nothing lies in one face, which has a name (Fogel, Halperin and Wein: zone of a curve)
abbrev pub PartsHaveAFace : Type 0
PartsHaveAFace = (v : View) (f : Faces) (p q : Point) → IsSound v f → IsProper p → IsProper q → p ≢ q → IsClearBetween v p q → (face : FaceId) × HasFace f face × IsFaceBetween v f p q face

-- the part lies in the face that is told at an end (Fogel, Halperin and Wein: zone of a curve)
abbrev pub PartsHaveOneFace : Type 0
PartsHaveOneFace = (v : View) (f : Faces) (p q : Point) (face : FaceId) → IsGraphSound v → IsProper p → IsProper q → IsClearBetween v p q → TellsFace v f p q face → IsFaceBetween v f p q face

-- both ends tell one name (Fogel, Halperin and Wein: zone of a curve)
abbrev pub PartsNameOneFace : Type 0
PartsNameOneFace = (v : View) (f : Faces) (p q : Point) (a b : FaceId) → IsSound v f → IsProper p → IsProper q → p ≢ q → IsClearBetween v p q → TellsFace v f p q a → TellsFace v f q p b → a ≡ b

-- what the part ends at is on the boundary of the face in which it lies (Fogel, Halperin and Wein: zone of a curve)
abbrev pub FirstReachedIsOnBoundary : Type 0
FirstReachedIsOnBoundary = (v : View) (f : Faces) (p q : Point) (face : FaceId) → IsSound v f → IsProper p → IsProper q → p ≢ q → IsClearBetween v p q → IsFaceBetween v f p q face → IsOnBoundary v f q face

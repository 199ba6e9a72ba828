-- Where a point lies in records with faces.
use Rattle.std.specs.Prelude.{⊤}
use Rattle.exact_plane.specs.Point.{Point}
use Rattle.slab_laws.specs.View.{View, Faces}
use Rattle.dcel_records.specs.declared.spot.Spot.{Spot}
use Rattle.dcel_records.specs.declared.spot.Spot.TheVariants.{Vertex, Edge, Face}
use Rattle.dcel_records.specs.Spots.{IsMet, met_of}
use Rattle.face_steps.specs.VertexSteps.{IsFaceRound}

-- a spot inside a face names the one that the point lies in (CGAL manual, point location)
abbrev pub IsFaceNamed : View → Faces → Point → Spot → Type 0
IsFaceNamed v f p (Vertex w) = ⊤
IsFaceNamed v f p (Edge d) = ⊤
IsFaceNamed v f p (Face a) = IsFaceRound v f a p

-- the spot is where the point lies: the vertex at it, else the edge that has it inside, by its forward dart, else the face that it lies in (CGAL manual, point location)
pub record IsSpotOf (v : View) (f : Faces) (p : Point) (spot : Spot) : Type 0 where
  pub met : IsMet v p (met_of spot)
  pub face : IsFaceNamed v f p spot

-- What one look at a part of a boundary finds for a point.
use Rattle.std.specs.Prelude.{◌≡◌, ◌≢◌, ◌==◌, ◌&&◌, Bool, false, nat_lt}
use Rattle.exact_plane.specs.Point.{Point}
use Rattle.exact_plane.specs.Sign.{sign_of}
use Rattle.exact_plane.specs.Span.{Span}
use Rattle.exact_plane.specs.declared.sides.Sign.TheVariants.{Minus, Zero, Plus}
use Rattle.slab_laws.specs.declared.names.DartId.{DartId}
use Rattle.slab_laws.specs.declared.names.FaceId.{FaceId}
use Rattle.slab_laws.specs.Skeleton.{side}
use Rattle.slab_laws.specs.Sound.{edge_in}
use Rattle.slab_laws.specs.SpansDrawn.{edge_of}
use Rattle.slab_laws.specs.View.{View, Faces, point_in, source_in, target_in, twin_in, cycle_in, face_in}
use Rattle.counted_looks.specs.declared.boundary_part.BoundaryPart.{BoundaryPart}
use Rattle.counted_looks.specs.declared.boundary_part.BoundaryPart.TheVariants.{Dart, Isolated}
use Rattle.dcel_records.specs.declared.spot.Spot.TheVariants.{Edge}
use Rattle.face_location.specs.Passing.{IsPast, IsBelow}
use Rattle.face_location.specs.Spots.{IsSpotOf}
use Rattle.locate_walk.specs.declared.found.Found.{Found}
use Rattle.locate_walk.specs.declared.found.Found.TheVariants.{At, Below, Past}

-- the point is above the edge's line, on it or below it, as the side tells (book, orientation)
abbrev pub IsSided : DartId → Span → Point → Found → Type 0
IsSided d e q (At s) = (Zero ≡ sign_of (side (edge_of e) q)) × (s ≡ Edge d)
IsSided d e q (Below b) = (Plus ≡ sign_of (side (edge_of e) q)) × (b.dart ≡ d) × (b.edge ≡ e)
IsSided d e q Past = Minus ≡ sign_of (side (edge_of e) q)

-- the point is at neither end of the dart
pub record IsOffEnds (v : View) (q : Point) (d : DartId) : Type 0 where
  pub off_source : point_in v (source_in v d) ≢ q
  pub off_target : point_in v (target_in v d) ≢ q

-- its twin is on the boundary of the face too, and has the lesser name: the edge is told there (this project)
abbrev pub is_told_at_twin : View → Faces → FaceId → DartId → Bool
is_told_at_twin v f a d = nat_lt (twin_in v d).0 d.0 && (face_in f (cycle_in f (twin_in v d))).0 == a.0

-- this was found at the dart (CGAL manual, vertical ray shooting)
abbrev pub IsFoundAtDart : View → Faces → Point → DartId → Found → Type 0
IsFoundAtDart v f q d (At s) = IsSpotOf v f q s
IsFoundAtDart v f q d (Below b) = IsOffEnds v q d × IsBelow v q d b.dart × (edge_of b.edge ≡ edge_in v b.dart)
IsFoundAtDart v f q d Past = IsOffEnds v q d × IsPast v q d

-- this was found at the part of the boundary of the face; of a dart that is told at its twin, nothing (CGAL manual, vertical ray shooting)
abbrev pub IsFound : View → Faces → Point → FaceId → BoundaryPart → Found → Type 0
IsFound v f q a t (At s) = IsSpotOf v f q s
IsFound v f q a (Dart d) (Below b) = IsFoundAtDart v f q d (Below b)
IsFound v f q a (Dart d) Past = is_told_at_twin v f a d ≡ false → IsFoundAtDart v f q d Past
IsFound v f q a (Isolated w) (Below b) = ⊥
IsFound v f q a (Isolated w) Past = point_in v w ≢ q

-- What is known of the looks at the boundary of a face.
use Rattle.std.specs.Option.{is_some}
use Rattle.std.specs.Prelude.{◌≡◌, ◌≢◌, ◌⊎◌, ◌<◌, ◌==◌, ◌||◌, ⊤, Bool, false, cond, Option, Some, None, IfSome, IsSome}
use Rattle.exact_plane.specs.Point.{Point}
use Rattle.exact_plane.specs.WholeParts.{whole_parts, bounding_box, excludes}
use Rattle.exact_plane.specs.declared.whole_parts.WholeParts.{WholeParts}
use Rattle.plane_graphs.specs.Line.{IsProper}
use Rattle.slab_laws.specs.declared.names.DartId.{DartId}
use Rattle.slab_laws.specs.declared.names.FaceId.{FaceId}
use Rattle.slab_laws.specs.Sound.{edge_in}
use Rattle.slab_laws.specs.SpansDrawn.{edge_of}
use Rattle.slab_laws.specs.View.{View, Faces, point_in}
use Rattle.counted_looks.specs.declared.boundary_part.BoundaryPart.{BoundaryPart}
use Rattle.counted_looks.specs.declared.boundary_part.BoundaryPart.TheVariants.{Dart, Isolated}
use Rattle.dcel_records.specs.RecordsView.{tables_of}
use Rattle.dcel_records.specs.SoundMaps.{IsSoundMap}
use Rattle.edge_predicates.specs.Above.{is_above}
use Rattle.face_location.specs.Below.{IsSeenDart}
use Rattle.face_location.specs.Spots.{IsSpotOf}
use Rattle.walk_laws.specs.Walks.{height, IsDartPassed}
use Rattle.locate_walk.specs.Finds.{is_told_at_twin, IsFound}
use Rattle.locate_walk.specs.declared.found.EdgeBelow.{EdgeBelow}
use Rattle.locate_walk.specs.declared.found.Found.{Found}
use Rattle.locate_walk.specs.declared.found.Found.TheVariants.{At, Below, Past}
use Rattle.locate_walk.specs.declared.highest.Highest.{Highest}

-- ---- the highest edge so far
-- its forward dart, if there is one
abbrev pub dart_of : Option EdgeBelow → Option DartId
dart_of None = None
dart_of (Some b) = Some b.dart

-- the second, if the first is none, or isn't above it (Fogel, Halperin and Wein: vertical ray shooting)
abbrev pub higher_edge : Option EdgeBelow → EdgeBelow → EdgeBelow
higher_edge None e = e
higher_edge (Some b) e = cond (is_above (edge_of e.edge) (edge_of b.edge)) e b

-- whether it is its forward dart
abbrev pub is_best : Option EdgeBelow → DartId → Bool
is_best None d = false
is_best (Some b) d = b.dart.0 == d.0

-- both places are on one side of the point, above it, or below both ends of the edge; with none, no place is told to be so (this project)
abbrev pub is_beyond : Point → Option EdgeBelow → WholeParts → WholeParts → Bool
is_beyond q None s t = false
is_beyond q (Some b) s t = excludes (record { least = record { x = (whole_parts q).x; y = (bounding_box b.edge).least.y }; greatest = whole_parts q }) s t

-- none, or one that the point sees, with its edge
abbrev pub IsBelowOrNone : View → Point → Option EdgeBelow → Type 0
IsBelowOrNone v q None = ⊤
IsBelowOrNone v q (Some b) = IsSeenDart v q b.dart × (edge_of b.edge ≡ edge_in v b.dart)

-- the second is the first, or is higher (this project)
abbrev pub IsRaised : View → Point → Option DartId → Option DartId → Type 0
IsRaised v q o p = (p ≡ o) ⊎ (height v q o < height v q p)

-- ---- looks
-- what was found is kept
abbrev pub taken : Highest → Found → Highest
taken h (At s) = record h { hit = Some s }
taken h (Below e) = record h { best = Some (higher_edge h.best e) }
taken h Past = h

-- whether the point was met, or the dart is that along the highest edge so far: a look at it changes nothing (this project)
abbrev pub is_settled : Highest → DartId → Bool
is_settled h d = is_some h.hit || is_best h.best d

-- once the point was met, nothing changes; until then, what is found at the part is kept (this project)
pub record HasLooked (h : Highest) (t : BoundaryPart) (l : Highest) : Type 0 where
  pub met : IsSome h.hit → l ≡ h
  pub found : h.hit ≡ None → (r : Found) × IsFound h.glance.now.graph (tables_of h.glance.now) h.point h.face t r × (l ≡ taken h r)

-- the dart is passed, unless it is told at its twin; the point is not at the vertex (this project)
abbrev pub IsPartClear : View → Faces → Point → FaceId → Option DartId → BoundaryPart → Type 0
IsPartClear v f q a o (Dart d) = is_told_at_twin v f a d ≡ false → IsDartPassed v q o d
IsPartClear v f q a o (Isolated w) = point_in v w ≢ q

-- the graph looked at is that of the records; the highest so far is one that the point sees, no lower than at first; and what was met is where the point lies
pub record MayLook (v : View) (k l : Highest) : Type 0 where
  pub graph : l.glance.now.graph ≡ v
  pub map : IsSoundMap l.glance.now
  pub glance : l.glance.now ≡ k.glance.now
  pub face : l.face ≡ k.face
  pub point : l.point ≡ k.point
  pub proper : IsProper l.point
  pub best : IsBelowOrNone v l.point l.best
  pub hit : IfSome l.hit (IsSpotOf v (tables_of l.glance.now) l.point)
  pub raised : IsRaised v l.point (dart_of k.best) (dart_of l.best)

-- until the point was met, what was looked at is clear
abbrev pub HasSeen : View → Highest → BoundaryPart → Type 0
HasSeen v l t = l.hit ≡ None → IsPartClear v (tables_of l.glance.now) l.point l.face (dart_of l.best) t

-- so it is with each dart, while nothing is known of an isolated vertex (this project)
abbrev pub HasSeenDart : View → Highest → BoundaryPart → Type 0
HasSeenDart v l t = (d : DartId) → t ≡ Dart d → HasSeen v l t

-- The highest edge that a point of a view sees below it, by the forward dart along it.
use Rattle.std.specs.Prelude.{◌≡◌, false, cond, ⊤, Option, Some, None}
use Rattle.std.specs.List.{Contains}
use Rattle.exact_plane.specs.Point.{Point}
use Rattle.plane_graphs.specs.Graph.{Edge}
use Rattle.slab_laws.specs.declared.names.DartId.{DartId}
use Rattle.slab_laws.specs.Skeleton.{inside}
use Rattle.slab_laws.specs.Sound.{skeleton_of, edge_in}
use Rattle.slab_laws.specs.View.{View, HasDart}
use Rattle.arr_notes.specs.Curves.{IsForward}
use Rattle.dcel_records.specs.declared.spot.Met.TheVariants.{Edge as InEdge}
use Rattle.dcel_records.specs.Spots.{IsMet}
use Rattle.edge_predicates.specs.Above.{is_above}
use Rattle.edge_predicates.specs.Highest.{IsHighestBelow}
use Rattle.edge_predicates.specs.Levels.{IsSeen}
use Rattle.face_location.specs.declared.below.EdgeFound.{EdgeFound}
use Rattle.face_location.specs.declared.below.EdgeFound.TheVariants.{Through, Below}

-- the dart goes forward along an edge that the point sees below it (Fogel, Halperin and Wein: vertical ray shooting)
abbrev pub IsSeenDart : View → Point → DartId → Type 0
IsSeenDart v q d = IsForward v d × IsSeen (skeleton_of v) q (edge_in v d)

-- the edge of a dart, if there is one
abbrev pub edge_along : View → Option DartId → Option Edge
edge_along v None = None
edge_along v (Some d) = Some (edge_in v d)

-- none so far, or such a dart
abbrev pub IsSeenOrNone : View → Point → Option DartId → Type 0
IsSeenOrNone v q None = ⊤
IsSeenOrNone v q (Some d) = IsSeenDart v q d

-- the second dart, if the first is none, or its edge isn't above the second's
abbrev pub higher_of : View → Option DartId → DartId → DartId
higher_of v None d = d
higher_of v (Some c) d = cond (is_above (edge_in v d) (edge_in v c)) d c

-- the forward dart of the highest edge below the point, or none where no edge is below it (Fogel, Halperin and Wein: vertical ray shooting)
pub record IsHighestDart (v : View) (q : Point) (found : Option DartId) : Type 0 where
  pub seen : IsSeenOrNone v q found
  pub highest : IsHighestBelow (Contains (skeleton_of v).edges) q (edge_along v found)

-- the point is inside no edge, and this is the highest one below it (Fogel, Halperin and Wein: vertical ray shooting)
pub record IsOffEdges (v : View) (q : Point) (found : Option DartId) : Type 0 where
  pub off : (d : DartId) → HasDart v d → inside (edge_in v d) q ≡ false
  pub highest : IsHighestDart v q found

-- the edge that has the point inside, or else the highest one below it (Fogel, Halperin and Wein: vertical ray shooting)
abbrev pub IsEdgeFound : View → Point → EdgeFound → Type 0
IsEdgeFound v q (Through d) = IsMet v q (InEdge d)
IsEdgeFound v q (Below found) = IsOffEdges v q found

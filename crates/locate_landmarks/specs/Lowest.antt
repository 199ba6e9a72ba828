-- The lowest edge above a point so far.
use Rattle.std.specs.Prelude.{◌≡◌, ◌⊎◌, ◌<◌, ⊤, ℕ, Bool, true, cond, Option, Some, None, IfSome}
use Rattle.exact_plane.specs.Point.{Point}
use Rattle.plane_graphs.specs.Graph.{Edge}
use Rattle.slab_laws.specs.declared.names.DartId.{DartId}
use Rattle.slab_laws.specs.Sound.{skeleton_of, edge_in}
use Rattle.slab_laws.specs.SpansDrawn.{edge_of}
use Rattle.slab_laws.specs.View.{View, HasDart}
use Rattle.arr_notes.specs.Curves.{IsForward}
use Rattle.edge_predicates.specs.Above.{is_above}
use Rattle.locate_landmarks.specs.Floors.{IsSeenAbove, floor}
use Rattle.locate_landmarks.specs.declared.above.EdgeAbove.{EdgeAbove}

-- none, or one that the point sees above it, by the forward dart along it (Fogel, Halperin and Wein: vertical ray shooting)
abbrev pub IsAbove : View → Point → Option EdgeAbove → Type 0
IsAbove v q None = ⊤
IsAbove v q (Some a) = IsForward v a.dart × IsSeenAbove (skeleton_of v) q (edge_in v a.dart) × (edge_of a.edge ≡ edge_in v a.dart)

-- none, or a dart along an edge that the point sees above it, whichever way it goes (this project)
abbrev pub IsEntry : View → Point → Option DartId → Type 0
IsEntry v q o = IfSome o (λ d. HasDart v d × IsSeenAbove (skeleton_of v) q (edge_in v d))

-- the second, if the first is none, or is above it
abbrev pub lower_edge : Option EdgeAbove → EdgeAbove → EdgeAbove
lower_edge None e = e
lower_edge (Some a) e = cond (is_above (edge_of a.edge) (edge_of e.edge)) e a

-- the edge, if there is one
abbrev pub edge_above : View → Option EdgeAbove → Option Edge
edge_above v None = None
edge_above v (Some a) = Some (edge_in v a.dart)

-- how many edges of the slab are below it
abbrev pub floor_in : View → Point → Option EdgeAbove → ℕ
floor_in v q o = floor (skeleton_of v) q (edge_above v o)

-- the second is the first, or, on the way down, is lower (this project)
abbrev pub IsLowered : View → Point → Bool → Option EdgeAbove → Option EdgeAbove → Type 0
IsLowered v q b o p = (p ≡ o) ⊎ ((b ≡ true) × (floor_in v q p < floor_in v q o))

-- What of a graph a point meets.
use Rattle.std.specs.Prelude.{◌≡◌, ◌≢◌, true, false, Option, MatchOption}
use Rattle.exact_plane.specs.Point.{Point}
use Rattle.slab_laws.specs.Skeleton.{inside}
use Rattle.slab_laws.specs.Sound.{edge_in, dart_in}
use Rattle.slab_laws.specs.declared.names.VertexId.{VertexId}
use Rattle.slab_laws.specs.View.{View, HasVertex, HasDart, point_in}
use Rattle.dcel_records.specs.declared.spot.Met.{Met}
use Rattle.dcel_records.specs.declared.spot.Met.TheVariants.{Vertex, Edge, Nothing}
use Rattle.dcel_records.specs.declared.spot.Spot.{Spot}
use Rattle.dcel_records.specs.declared.spot.Spot.TheVariants as spot

-- the vertex at the point, or none where no vertex is there (CGAL manual, point location)
abbrev pub IsVertexAt : View → Point → Option VertexId → Type 0
IsVertexAt v p found = MatchOption found ((w : VertexId) → HasVertex v w → point_in v w ≢ p) (λ w. HasVertex v w × (point_in v w ≡ p))

-- no vertex is at the point, and no edge has it inside
pub record IsInFace (v : View) (p : Point) : Type 0 where
  pub no_vertex : (w : _) → HasVertex v w → point_in v w ≢ p
  pub no_edge : (d : _) → HasDart v d → inside (edge_in v d) p ≡ false

-- this is what the point meets: the vertex at it, else the edge that has it inside, by its forward dart, else nothing (CGAL manual, point location)
abbrev pub IsMet : View → Point → Met → Type 0
IsMet v p (Vertex w) = HasVertex v w × (point_in v w ≡ p)
IsMet v p (Edge d) = HasDart v d × ((dart_in v d).forward ≡ true) × (inside (edge_in v d) p ≡ true)
IsMet v p Nothing = IsInFace v p

-- what a point meets, by the spot where it lies (this project)
abbrev pub met_of : Spot → Met
met_of (spot.Vertex w) = Vertex w
met_of (spot.Edge d) = Edge d
met_of (spot.Face a) = Nothing

-- What location says of a spot that the records name.
use Rattle.slab_laws.specs.declared.cell.Cell.{Cell}
use Rattle.slab_laws.specs.declared.cell.Cell.TheVariants as cell
use Rattle.slab_laws.specs.Sound.{edge_in}
use Rattle.slab_laws.specs.View.{View, Faces, HasDart, HasFace, HasVertex, point_in}
use Rattle.dcel_records.specs.declared.spot.Spot.{Spot}
use Rattle.dcel_records.specs.declared.spot.Spot.TheVariants.{Vertex, Edge, Face}
use Rattle.face_ranks.specs.Ranks.{rank_in}

-- the name in the spot has a record (this project)
abbrev pub HasSpot : View → Faces → Spot → Type 0
HasSpot v f (Vertex w) = HasVertex v w
HasSpot v f (Edge d) = HasDart v d
HasSpot v f (Face a) = HasFace f a

-- a vertex by its point, an edge by its lower and its upper end, whichever of its darts is named, and a face by its rank (this project)
abbrev pub cell_named : View → Faces → Spot → Cell
cell_named v f (Vertex w) = cell.Vertex (point_in v w)
cell_named v f (Edge d) = cell.Edge (edge_in v d).low (edge_in v d).high
cell_named v f (Face a) = cell.Face (rank_in v f a)

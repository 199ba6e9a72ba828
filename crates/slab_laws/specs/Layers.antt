-- What is known of one layer in an overlay: the curves along edges, and the faces of the layer that hold the overlay's faces.
use Rattle.std.specs.Prelude.{ℕ, List, map}
use Rattle.slab_laws.specs.declared.names.CurveId.{CurveId}
use Rattle.slab_laws.specs.declared.names.DartId.{DartId}
use Rattle.slab_laws.specs.declared.names.FaceId.{FaceId}
use Rattle.plane_graphs.specs.Piece.{Present}
use Rattle.slab_laws.specs.Subdivision.{Subdivision}
use Rattle.slab_laws.specs.Overlay.{curves_along, label}

-- by name: the layer's curves along each dart's edge, ascending, and the rank of the layer's face that holds each face (CGAL manual, overlay traits)
pub record LayerView : Type 0 where
  pub curves : DartId → List CurveId
  pub rank : FaceId → ℕ

-- in lists: of each edge the numbers of the layer's curves, of each face by rank the rank of the layer's face that holds it (this project)
pub record LayerRows : Type 0 where
  pub curves : List (List ℕ)
  pub labels : List ℕ

-- what the overlay tells of a layer
unfoldable pub rows_of : Present → Subdivision → LayerRows
rows_of layer s = record { curves = map (curves_along layer) s.graph.edges; labels = map (label layer s.graph) s.faces }

-- The labels of an overlay's faces, told by edges: one that has a curve of the layer tells that of the face above it; over any other the label is the same.
use Rattle.std.specs.Prelude.{◌≡◌, ℕ, true, false, Bool, ◌&&◌}
use Rattle.std.specs.List.{Contains}
use Rattle.plane_graphs.specs.Piece.{Present}
use Rattle.plane_graphs.specs.Fit.{IsFit}
use Rattle.plane_graphs.specs.Graph.{Edge, spans}
use Rattle.slab_laws.specs.Skeleton.{Skeleton}
use Rattle.slab_laws.specs.Darts.{Dart, ahead, back}
use Rattle.slab_laws.specs.Faces.{face_labels, face_of}
use Rattle.slab_laws.specs.Cycles.{left_of_dart}
use Rattle.slab_laws.specs.Subdivision.{subdivision, rank, first_cell}
use Rattle.slab_laws.specs.Overlay.{both, plane_of, has_curve_along, label}

-- both ends of e are on the edge f (Fogel, Halperin and Wein: an edge of the overlay lies on an edge of each layer whose curve it has)
abbrev pub is_held : Edge → Edge → Bool
is_held f e = spans f.low f.high e.low && spans f.low f.high e.high

-- the rank of the face on the left of a dart (CGAL manual: the face incident to a halfedge)
abbrev pub rank_beside : Skeleton → Dart → ℕ
rank_beside g d = rank (subdivision g) (face_of (face_labels g) (left_of_dart g d))

-- far outside the label is that of the unbounded face; an edge that has a curve of the layer has above it the face that the layer has above its own edge; one that has none has one label on both sides
pub record AreLabelsTold (layer whole : Present) : Type 0 where
  pub first : label layer (plane_of whole) first_cell ≡ 0
  pub own : (e f : Edge) → Contains (plane_of whole).edges e → Contains (plane_of layer).edges f → is_held f e ≡ true → has_curve_along layer e ≡ true → label layer (plane_of whole) (left_of_dart (plane_of whole) (ahead e)) ≡ rank_beside (plane_of layer) (ahead f)
  pub other : (e : Edge) → Contains (plane_of whole).edges e → has_curve_along layer e ≡ false → label layer (plane_of whole) (left_of_dart (plane_of whole) (ahead e)) ≡ label layer (plane_of whole) (left_of_dart (plane_of whole) (back e))

-- of red, and of blue (CGAL manual, overlay traits)
abbrev pub LabelsByOwnEdges : Type 0
LabelsByOwnEdges = (red blue : Present) → IsFit red → IsFit blue → AreLabelsTold red (both red blue) × AreLabelsTold blue (both red blue)

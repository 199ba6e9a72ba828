-- What an overlay in memory means as records: those of its subdivision, and for each layer the curves along edges and the labels of faces.
use Rattle.std.specs.Prelude.{◌≡◌, ℕ, List, [], map, length, Some, slice_get}
use Rattle.std.specs.List.{slice_index_or}
use Rattle.std.specs.List.Sorted.{IsStrictlyIncreasing}
use Rattle.plane_graphs.specs.Graph.{edges}
use Rattle.slab_laws.specs.Rows.{edge_place}
use Rattle.slab_laws.specs.View.{View, Faces, curve_id}
use Rattle.slab_laws.specs.Layers.{LayerRows, LayerView}
use Rattle.subdivision_rows.specs.Listed.{Drawing, skeleton_in, subdivision_in, view_of, faces_of}
use Rattle.subdivision_rows.specs.Curves.{edge_at}

-- a graph with the lines of its edges, and what it tells of both layers: their rows, and of each edge how many pieces hold it (this project)
pub record Overlaid : Type 0 where
  pub drawing : Drawing
  pub red : LayerRows
  pub blue : LayerRows
  pub red_pieces : List ℕ
  pub blue_pieces : List ℕ

-- there is a list of curves, ascending, for each edge, and a label for each face
pub record AreRowsOf (d : Drawing) (r : LayerRows) : Type 0 where
  pub of_edges : length r.curves ≡ length (edges d.graph)
  pub of_faces : length r.labels ≡ length (subdivision_in d).faces
  pub ascend : (k : ℕ) (cs : List ℕ) → slice_get r.curves k ≡ Some cs → IsStrictlyIncreasing cs

-- the place of the edge that a dart goes along
abbrev pub edge_place_at : Drawing → ℕ → ℕ
edge_place_at d k = edge_place (skeleton_in d) (edge_at d k)

-- by name: a dart's curves are those of its edge, and faces go by their ranks
abbrev pub layer_view : Drawing → LayerRows → LayerView
layer_view d r = record { curves = λ h. map curve_id (slice_index_or r.curves (edge_place_at d h.0) []); rank = λ f. slice_index_or r.labels f.0 0 }

-- ---- what the overlay means by name
abbrev pub graph_of : Overlaid → View
graph_of b = view_of b.drawing

abbrev pub faces_in : Overlaid → Faces
faces_in b = faces_of b.drawing

abbrev pub red_of : Overlaid → LayerView
red_of b = layer_view b.drawing b.red

abbrev pub blue_of : Overlaid → LayerView
blue_of b = layer_view b.drawing b.blue

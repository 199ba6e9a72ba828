-- The laws of overlays: what holds of each layer in the subdivision of both.
use Rattle.std.specs.Prelude.{◌≡◌, ◌≢◌, ◌↔◌, ℕ, ◌<◌, true, Some, [], ◌++◌, map, length}
use Rattle.std.specs.List.{Contains, slice_get}
use Rattle.std.specs.Ordering.{nat_cmp}
use Rattle.exact_plane.specs.Point.{Point}
use Rattle.plane_graphs.specs.Ascending.{ascending}
use Rattle.plane_graphs.specs.Line.{IsProper}
use Rattle.plane_graphs.specs.Piece.{Present}
use Rattle.plane_graphs.specs.Fit.{IsFit}
use Rattle.plane_graphs.specs.Graph.{Edge, graph, curves}
use Rattle.slab_laws.specs.declared.slab_cell.SlabCell.{SlabCell}
use Rattle.slab_laws.specs.declared.cell.Cell.TheVariants.{Face}
use Rattle.slab_laws.specs.Meets.{SameFace}
use Rattle.slab_laws.specs.Faces.{cells}
use Rattle.slab_laws.specs.Subdivision.{subdivision, holds}
use Rattle.slab_laws.specs.Overlay.{red_name, blue_name, both, plane_of, overlay_skeleton, curves_along, has_curve_along, cell_in, label}

-- both layers together are fit where each is
abbrev pub OverlayIsFit : Type 0
OverlayIsFit = (red blue : Present) → IsFit red → IsFit blue → IsFit (both red blue)

-- the curves of an edge of the overlay are those of red and those of blue along it, under the numbers that keep them apart; and a layer has an edge where it has curves along it
pub record CurvesOfBoth : Type 0 where
  pub apart : (red blue : Present) (e : Edge) → IsFit red → IsFit blue → Contains (overlay_skeleton red blue).edges e → curves (graph (both red blue)) e.low e.high ≡ ascending nat_cmp (map red_name (curves_along red e) ++ map blue_name (curves_along blue e))
  pub own : (layer : Present) (e : Edge) → (has_curve_along layer e ≡ true) ↔ (curves_along layer e ≢ [])

-- cells of one face of the whole lie in cells of one face of the layer; so they have one label, whichever cell is asked
pub record HasConstantLabels (layer whole : Present) : Type 0 where
  pub one_face : (c d : SlabCell) → SameFace (plane_of whole) c d → SameFace (plane_of layer) (cell_in layer (plane_of whole) c) (cell_in layer (plane_of whole) d)
  pub one_label : (c d : SlabCell) → SameFace (plane_of whole) c d → label layer (plane_of whole) c ≡ label layer (plane_of whole) d

abbrev pub LabelsAreConstant : Type 0
LabelsAreConstant = (red blue : Present) → IsFit red → IsFit blue → HasConstantLabels red (both red blue) × HasConstantLabels blue (both red blue)

-- a cell of the whole lies in a cell of the layer; so each label is the rank of a face of the layer
pub record HasNamedFaces (layer whole : Present) : Type 0 where
  pub cell_there : (c : SlabCell) → Contains (cells (plane_of whole)) c → Contains (cells (plane_of layer)) (cell_in layer (plane_of whole) c)
  pub label_ranked : (k : ℕ) (f : SlabCell) → slice_get (subdivision (plane_of whole)).faces k ≡ Some f → label layer (plane_of whole) f < length (subdivision (plane_of layer)).faces

abbrev pub LabelsNameFaces : Type 0
LabelsNameFaces = (red blue : Present) → IsFit red → IsFit blue → HasNamedFaces red (both red blue) × HasNamedFaces blue (both red blue)

-- a point in a face of the whole lies in the face of the layer that the face's label names
abbrev pub LieInLabels : Present → Present → Type 0
LieInLabels layer whole = (q : Point) (k : ℕ) (f : SlabCell) → IsProper q → holds (subdivision (plane_of whole)) q ≡ Face k → slice_get (subdivision (plane_of whole)).faces k ≡ Some f → holds (subdivision (plane_of layer)) q ≡ Face (label layer (plane_of whole) f)

abbrev pub FacesLieInFaces : Type 0
FacesLieInFaces = (red blue : Present) → IsFit red → IsFit blue → LieInLabels red (both red blue) × LieInLabels blue (both red blue)

-- a layer without pieces and pins
abbrev pub empty : Present
empty = record { pieces = []; pins = [] }

-- the whole is the layer's own subdivision, the layer's labels are the ranks of the faces, and the empty layer's are all 0
pub record IsAlone (layer whole : Present) : Type 0 where
  pub same : subdivision (plane_of whole) ≡ subdivision (plane_of layer)
  pub own_label : (k : ℕ) (f : SlabCell) → slice_get (subdivision (plane_of whole)).faces k ≡ Some f → label layer (plane_of whole) f ≡ k
  pub other_label : (f : SlabCell) → label empty (plane_of whole) f ≡ 0

abbrev pub EmptyLayerAddsNothing : Type 0
EmptyLayerAddsNothing = (layer : Present) → IsFit layer → IsAlone layer (both layer empty) × IsAlone layer (both empty layer)

-- What a sound view tells of two layers, with the curves and faces of each, is the text of their overlay.
use Rattle.std.specs.Prelude.{◌≡◌, List}
use Rattle.std.specs.List.{list_any}
use Rattle.exact_plane.specs.Point.{Point}
use Rattle.plane_graphs.specs.Piece.{Present}
use Rattle.slab_laws.specs.declared.names.DartId.{DartId}
use Rattle.slab_laws.specs.declared.names.FaceId.{FaceId}
use Rattle.slab_laws.specs.declared.names.VertexId.{VertexId}
use Rattle.slab_laws.specs.declared.slab_cell.SlabCell.{SlabCell}
use Rattle.slab_laws.specs.FacesSound.{IsSound, IsFaced}
use Rattle.slab_laws.specs.Layers.{LayerView}
use Rattle.slab_laws.specs.Overlay.{both, overlay, curves_along, label}
use Rattle.slab_laws.specs.OverlayText.{presents_text}
use Rattle.slab_laws.specs.Skeleton.{same_point}
use Rattle.slab_laws.specs.Sound.{skeleton_of, dart_in}
use Rattle.slab_laws.specs.Subdivision.{subdivision}
use Rattle.slab_laws.specs.View.{View, Faces, HasVertex, HasFace, point_in, pinned_in}
use Rattle.arr_notes.specs.Curves.{IsForward}
use Rattle.arr_text.specs.Reading.{numbers_in, overlay_text_in}

-- a vertex is pinned exactly where its point is among the pins (this project)
abbrev pub ArePinsOf : View → List Point → Type 0
ArePinsOf v pins = (w : VertexId) → HasVertex v w → pinned_in v w ≡ list_any (same_point (point_in v w)) pins

-- of each edge the layer's curves along it are told, of each face, by its least cell, the rank of the layer's face that holds it (CGAL manual, overlay traits)
pub record TellsLayer (v : View) (f : Faces) (cell : FaceId → SlabCell) (layer : Present) (l : LayerView) : Type 0 where
  pub curves : (d : DartId) → IsForward v d → numbers_in l d ≡ curves_along layer (dart_in v d).edge
  pub ranks : (a : FaceId) → HasFace f a → l.rank a ≡ label layer (skeleton_of v) (cell a)

-- whatever records draw the subdivision by both layers and tell of each (CGAL manual, `overlay`)
abbrev pub OverlayTextIsTheLayers : Type 0
OverlayTextIsTheLayers = (v : View) (f : Faces) (cell : FaceId → SlabCell) (red blue : Present) (of_red of_blue : LayerView) → IsSound v f → IsFaced v f cell → subdivision (skeleton_of v) ≡ overlay red blue → ArePinsOf v (both red blue).pins
    → TellsLayer v f cell red of_red → TellsLayer v f cell blue of_blue → overlay_text_in v f of_red of_blue ≡ presents_text red blue

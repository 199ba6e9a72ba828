-- A layer's labels, known along the edges that have its curves, and the labels of faces by their ranks.
use Rattle.std.specs.Prelude.{◌≡◌, ◌<◌, ℕ, true, false, List, length, slice_index_or, Option, Some, None}
use Rattle.std.specs.List.{Contains}
use Rattle.plane_graphs.specs.Fit.{IsFit}
use Rattle.plane_graphs.specs.Graph.{Edge}
use Rattle.plane_graphs.specs.Piece.{Present}
use Rattle.slab_laws.specs.declared.slab_cell.SlabCell.{SlabCell}
use Rattle.slab_laws.specs.Cycles.{left_of_dart}
use Rattle.slab_laws.specs.Darts.{ahead}
use Rattle.slab_laws.specs.Meets.{SameFace}
use Rattle.slab_laws.specs.Overlay.{both, plane_of, has_curve_along, label}
use Rattle.slab_laws.specs.Rows.{dart_list, edge_place}
use Rattle.slab_laws.specs.Skeleton.{Skeleton}
use Rattle.slab_laws.specs.Subdivision.{first_cell}
use Rattle.face_roots.specs.declared.ranks.Root.{Root}
use Rattle.face_roots.specs.CycleRanks.{lead_at, faces_before, AreRankedBy}
use Rattle.overlay_sweep.specs.LabelsAbove.{known_at, IsLabelling, IsToldAt}
use Rattle.overlay_sweep.specs.LayerLabels.{is_held, rank_beside}

-- of each edge with a curve of the layer the rank of the face above the layer's edge that it lies on, of any other none (Fogel, Halperin and Wein: an edge of the overlay lies on an edge of each layer whose curve it has)
pub record AreKnown (layer whole : Present) (known : List (Option ℕ)) : Type 0 where
  pub own : (e : Edge) (n : ℕ) → Contains (plane_of whole).edges e → known_at known (edge_place (plane_of whole) e) ≡ Some n → (has_curve_along layer e ≡ true) × ((f : Edge) × Contains (plane_of layer).edges f × (is_held f e ≡ true) × (n ≡ rank_beside (plane_of layer) (ahead f)))
  pub other : (e : Edge) → Contains (plane_of whole).edges e → known_at known (edge_place (plane_of whole) e) ≡ None → has_curve_along layer e ≡ false

-- the labels of a layer are told by them
abbrev pub AreLabelled : Present → Present → Type 0
AreLabelled layer whole = (known : List (Option ℕ)) → AreKnown layer whole known → IsLabelling (plane_of whole) known (λ c. label layer (plane_of whole) c)

-- of red, and of blue (this project)
abbrev pub LabelsByKnownEdges : Type 0
LabelsByKnownEdges = (red blue : Present) → IsFit red → IsFit blue → AreLabelled red (both red blue) × AreLabelled blue (both red blue)

-- ---- faces by their ranks
-- a face has one label, the unbounded one 0, and each that is on the left of a dart that goes forward has the one that stands at the dart
pub record IsToldBy (g : Skeleton) (labels : List ℕ) (label : SlabCell → ℕ) : Type 0 where
  pub constant : (c d : SlabCell) → SameFace g c d → label c ≡ label d
  pub first : label first_cell ≡ 0
  pub told : (k : ℕ) → k < length (dart_list g) → IsToldAt g label labels k

-- at the rank of each cycle's face stands its label, at 0 that of the unbounded face, whatever labels are meant (this project)
pub record AreFaceLabels (g : Skeleton) (roots : List Root) (labels faces : List ℕ) : Type 0 where
  pub counted : length faces ≡ faces_before roots (length roots)
  pub first : slice_index_or faces 0 0 ≡ 0
  pub each : (label : SlabCell → ℕ) (ranks : List ℕ) → IsToldBy g labels label → AreRankedBy roots ranks → (c : ℕ) → c < length roots → slice_index_or faces (slice_index_or ranks c 0) 0 ≡ label (left_of_dart g (lead_at g c))

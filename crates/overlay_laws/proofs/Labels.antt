-- The labels of a face of the overlay.
use Rattle.std.proofs.Common.{◌≡◌, sym, ap, ◌∙◌, refl, subst}
use Rattle.plane_graphs.specs.Piece.{Present}
use Rattle.plane_graphs.specs.Fit.{IsFit}
use Rattle.plane_graphs.specs.Graph.{graph}
use Rattle.plane_graphs.proofs.Laws.{graph_is_plane}
use Rattle.slab_laws.specs.declared.slab_cell.SlabCell.{SlabCell}
use Rattle.slab_laws.specs.Skeleton.{Skeleton, IsPlaneSkeleton}
use Rattle.slab_laws.specs.Meets.{SameFace}
use Rattle.slab_laws.specs.Faces.{face_labels, face_of}
use Rattle.slab_laws.specs.Subdivision.{subdivision, rank}
use Rattle.slab_faces.proofs.PlaneGraphs.{graph_is_plane_skeleton}
use Rattle.slab_faces.proofs.FacesLemmas.{one_label}
use Rattle.slab_laws.specs.Overlay.{both, plane_of, has_curve_along, cell_in, label}
use Rattle.overlay_laws.specs.OverlayLaws.{HasConstantLabels, LabelsAreConstant}
use Rattle.overlay_laws.proofs.Both.{both_fit}
use Rattle.overlay_laws.proofs.Counts.{cell_by}
use Rattle.overlay_laws.proofs.Parts.{IsLayerOf, red_layer, blue_layer, layer_laid}
use Rattle.overlay_laws.proofs.Cells.{face_kept}

pub plane_by : (p : Present) → IsFit p → IsPlaneSkeleton (plane_of p)
plane_by p fit = graph_is_plane_skeleton (graph p) (graph_is_plane p fit)

pub cell_is : (layer : Present) (g : Skeleton) (c : SlabCell) → cell_in layer g c ≡ cell_by (has_curve_along layer) (plane_of layer) g c
unfolding cell_in
cell_is layer g c = refl

pub label_is : (layer : Present) (g : Skeleton) (c : SlabCell) → label layer g c ≡ rank (subdivision (plane_of layer)) (face_of (face_labels (plane_of layer)) (cell_in layer g c))
unfolding label subdivision
label_is layer g c = refl

module _ (layer whole : Present) (fl : IsFit layer) (fw : IsFit whole) (part : IsLayerOf layer whole) where
  pub one_face : (c d : SlabCell) → SameFace (plane_of whole) c d → SameFace (plane_of layer) (cell_in layer (plane_of whole) c) (cell_in layer (plane_of whole) d)
  one_face c d h =
      let g = plane_of whole in
      let k = face_kept (plane_of layer) g (has_curve_along layer) (plane_by layer fl) (plane_by whole fw) (layer_laid layer whole fl fw part) c d h in
      subst (λ (p : SlabCell × SlabCell). SameFace (plane_of layer) p.0 p.1) (λ i. (sym (cell_is layer g c) i, sym (cell_is layer g d) i)) k

  pub constant_labels : HasConstantLabels layer whole
  constant_labels = record {
    one_face = one_face;
    one_label = λ c d h. label_is layer (plane_of whole) c ∙ ap (rank (subdivision (plane_of layer))) (one_label (plane_of layer) _ _ (plane_by layer fl) (one_face c d h)) ∙ sym (label_is layer (plane_of whole) d);
  }

pub labels_are_constant : LabelsAreConstant
labels_are_constant red blue fr fb =
    let f = both_fit red blue fr fb in
    (constant_labels red (both red blue) fr f (red_layer red blue), constant_labels blue (both red blue) fb f (blue_layer red blue))

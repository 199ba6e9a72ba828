-- Each label is the rank of a face of the layer.
use Rattle.std.proofs.Common.{◌≡◌, ◌<◌, sym, ◌∙◌, subst, length}
use Rattle.std.specs.List.{Contains}
use Rattle.plane_graphs.specs.Piece.{Present}
use Rattle.plane_graphs.specs.Fit.{IsFit}
use Rattle.slab_laws.specs.declared.slab_cell.SlabCell.{SlabCell}
use Rattle.slab_laws.specs.Meets.{SameFace}
use Rattle.slab_laws.specs.Faces.{same_cell, cells}
use Rattle.slab_laws.specs.Subdivision.{subdivision}
use Rattle.slab_faces.proofs.Member.{member_in, in_member}
use Rattle.slab_faces.proofs.FacesLemmas.{in_its_face}
use Rattle.slab_faces.proofs.LocationLemmas.{cells_have_faces}
use Rattle.slab_laws.specs.Overlay.{both, plane_of, has_curve_along, cell_in, label}
use Rattle.overlay_laws.specs.OverlayLaws.{HasNamedFaces, LabelsNameFaces}
use Rattle.overlay_laws.proofs.Both.{both_fit}
use Rattle.overlay_laws.proofs.Parts.{IsLayerOf, red_layer, blue_layer, layer_laid}
use Rattle.overlay_laws.proofs.Labels.{plane_by, cell_is, label_is, constant_labels}
use Rattle.overlay_laws.proofs.ListedCells.{stays_listed}
use Rattle.overlay_laws.proofs.OwnCells.{face_of_cell, there}

module _ (layer whole : Present) (fl : IsFit layer) (fw : IsFit whole) (part : IsLayerOf layer whole) where
  cell_there : (c : SlabCell) → Contains (cells (plane_of whole)) c → Contains (cells (plane_of layer)) (cell_in layer (plane_of whole) c)
  cell_there c h =
      let r = plane_of layer in
      let g = plane_of whole in
      let m = stays_listed r g (has_curve_along layer) (plane_by layer fl) (plane_by whole fw) (layer_laid layer whole fl fw part) c (in_member (cells g) c h) in
      subst (Contains (cells r)) (sym (cell_is layer g c)) (member_in (cells r) _ m)

  pub named_faces : HasNamedFaces layer whole
  named_faces = record {
    cell_there = cell_there;
    label_ranked = λ k f at.
        let r = plane_of layer in
        let g = plane_of whole in
        let w = face_of_cell g (plane_by whole fw) f (in_member (subdivision g).faces f (there (same_cell f) (subdivision g).faces k f at)) in
        let c = w.0 in
        let s : SameFace g c f = subst (SameFace g c) w.2 (in_its_face g c (plane_by whole fw)) in
        let e : label layer g f ≡ label layer g c = sym ((constant_labels layer whole fl fw part).one_label c f s) in
        subst (λ n. n < length (subdivision r).faces) (sym (e ∙ label_is layer g c)) (cells_have_faces.ranked r (cell_in layer g c) (cell_there c (member_in (cells g) c w.1)));
  }

pub labels_name_faces : LabelsNameFaces
labels_name_faces red blue fr fb =
    let f = both_fit red blue fr fb in
    (named_faces red (both red blue) fr f (red_layer red blue), named_faces blue (both red blue) fb f (blue_layer red blue))

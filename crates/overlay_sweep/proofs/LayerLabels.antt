-- The labels of an overlay's faces, told by edges.
use Rattle.std.proofs.Common.{◌≡◌, true, arith, sym, ap, ◌∙◌}
use Rattle.std.specs.Prelude.{not, ◌&&◌}
use Rattle.std.specs.List.{count_by}
use Rattle.std.proofs.lemmas.Bool.{and_parts, false_from_ne_true, leb-true, ltb-true}
use lib.Dec.{ltb, leb}
use Rattle.exact_plane.specs.PointOrderLaws.{and_true}
use Rattle.plane_graphs.specs.Piece.{Present}
use Rattle.plane_graphs.specs.Fit.{IsFit}
use Rattle.plane_graphs.specs.Line.{precedes}
use Rattle.plane_graphs.specs.Graph.{Edge, collinear, spans as holds}
use Rattle.plane_graphs.proofs.Marks.{le_out}
use Rattle.slab_laws.specs.declared.slab_cell.SlabCell.{SlabCell}
use Rattle.slab_laws.specs.Skeleton.{Skeleton, left_of}
use Rattle.slab_laws.specs.Slabs.{spans, place, slab_right}
use Rattle.slab_laws.specs.Meets.{SameFace}
use Rattle.slab_laws.specs.Darts.{ahead, back}
use Rattle.slab_laws.specs.Cycles.{left_of_dart}
use Rattle.slab_laws.specs.Faces.{face_labels, face_of}
use Rattle.slab_laws.specs.Subdivision.{subdivision, rank, first_cell}
use Rattle.slab_laws.specs.Overlay.{both, plane_of, has_curve_along, label}
use Rattle.slab_faces.proofs.Walls.{left_of-irrefl}
use Rattle.slab_faces.proofs.EveryFace.{passing, none_counted}
use Rattle.slab_faces.proofs.FacesLemmas.{one_label}
use Rattle.overlay_laws.proofs.Laid.{IsWithin, IsLaid}
use Rattle.overlay_laws.proofs.Counts.{cell_by}
use Rattle.overlay_laws.proofs.Both.{both_fit}
use Rattle.overlay_laws.proofs.Parts.{IsLayerOf, red_layer, blue_layer, layer_laid}
use Rattle.overlay_laws.proofs.Labels.{plane_by, cell_is, label_is}
use Rattle.face_roots.proofs.OuterRanks.{first_rank}
use Rattle.overlay_sweep.specs.LayerLabels.{is_held, AreLabelsTold, LabelsByOwnEdges}
use Rattle.overlay_sweep.proofs.LayerCells.{own_above, other_sides}

held_within : (f e : Edge) → is_held f e ≡ true → IsWithin f e
held_within f e h =
    let a = and_true (holds f.low f.high e.low) (holds f.low f.high e.high) h in
    let b = and_true (not (precedes e.low f.low) && not (precedes f.high e.low)) (collinear f.low f.high e.low) a.0 in
    let c = and_true (not (precedes e.high f.low) && not (precedes f.high e.high)) (collinear f.low f.high e.high) a.1 in
    record {
      first = le_out f.low e.low (and_true (not (precedes e.low f.low)) (not (precedes f.high e.low)) b.0).0;
      last = le_out e.high f.high (and_true (not (precedes e.high f.low)) (not (precedes f.high e.high)) c.0).1;
      low_on = b.1;
      high_on = c.1;
    }

-- ---- of a layer
module _ (layer whole : Present) (fl : IsFit layer) (fw : IsFit whole) (part : IsLayerOf layer whole) where
  r : Skeleton
  r = plane_of layer

  laid : IsLaid (plane_of layer) (plane_of whole) (has_curve_along layer)
  laid = layer_laid layer whole fl fw part

  by_face : (c d : SlabCell) → SameFace (plane_of layer) c d → rank (subdivision (plane_of layer)) (face_of (face_labels (plane_of layer)) c) ≡ rank (subdivision (plane_of layer)) (face_of (face_labels (plane_of layer)) d)
  by_face c d h = ap (rank (subdivision (plane_of layer))) (one_label (plane_of layer) c d (plane_by layer fl) h)

  label_by : (c : SlabCell) → label layer (plane_of whole) c ≡ rank (subdivision (plane_of layer)) (face_of (face_labels (plane_of layer)) (cell_by (has_curve_along layer) (plane_of layer) (plane_of whole) c))
  label_by c = label_is layer (plane_of whole) c ∙ ap (λ d. rank (subdivision (plane_of layer)) (face_of (face_labels (plane_of layer)) d)) (cell_is layer (plane_of whole) c)

  in_first : cell_by (has_curve_along layer) (plane_of layer) (plane_of whole) first_cell ≡ first_cell
  in_first =
      let g = plane_of whole in
      let a : count_by (λ v. leb (slab_right g v) 0) (plane_of layer).vertices ≡ 0 = none_counted (λ v. leb (slab_right g v) 0) (plane_of layer).vertices (λ v V. false_from_ne_true (leb (slab_right g v) 0) (λ h.
      let b = leb-true _ _ h in
      let c = passing (λ u. not (left_of v u)) g.vertices v (laid.vertex v V) (ap not (left_of-irrefl v)) in
      absurd (omega arith))) in
      let b : count_by (λ e. (spans g 0 e && ltb (place g 0 e) 0) && has_curve_along layer e) g.edges ≡ 0 = none_counted (λ e. (spans g 0 e && ltb (place g 0 e) 0) && has_curve_along layer e) g.edges (λ e E. false_from_ne_true _ (λ h.
      let k = and_parts (spans g 0 e && ltb (place g 0 e) 0) (has_curve_along layer e) h in
      let n = ltb-true _ _ (and_parts (spans g 0 e) (ltb (place g 0 e) 0) k.0).1 in
      absurd (omega arith))) in
      λ i. record { slab = a i; place = b i }

  labels_told : AreLabelsTold layer whole
  labels_told =
      let g = plane_of whole in
      let pr = plane_by layer fl in
      let pg = plane_by whole fw in
      record {
        first = label_by first_cell ∙ ap (λ d. rank (subdivision (plane_of layer)) (face_of (face_labels (plane_of layer)) d)) in_first ∙ first_rank (plane_of layer);
        own = λ e f E F h o. label_by (left_of_dart g (ahead e)) ∙ by_face _ _ (own_above (plane_of layer) g (has_curve_along layer) pr pg laid e E f F (held_within f e h));
        other = λ e E o. label_by (left_of_dart g (ahead e)) ∙ by_face _ _ (other_sides (plane_of layer) g (has_curve_along layer) pr pg laid e E o) ∙ sym (label_by (left_of_dart g (back e)));
      }

pub labels_by_own_edges : LabelsByOwnEdges
labels_by_own_edges red blue fr fb =
    let f = both_fit red blue fr fb in
    (labels_told red (both red blue) fr f (red_layer red blue), labels_told blue (both red blue) fb f (blue_layer red blue))

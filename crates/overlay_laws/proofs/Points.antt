-- A point in a face of the overlay lies in the layer's face that the label names.
use Rattle.std.proofs.Common.{◌≡◌, Bool, true, false, not, ◌&&◌, arith, sym, ap, ◌∙◌, subst, ⊎_elim}
use Rattle.std.specs.Prelude.{ℤ, pos, Some}
use Rattle.std.proofs.lemmas.Int.{ints}
use Rattle.std.proofs.lemmas.Bool.{false≢true, not-true, not-false, false_from_ne_true}
use lib.Signed.{lt_z}
use Rattle.exact_plane.specs.Point.{Point}
use Rattle.exact_plane.specs.PointOrderLaws.{and_true}
use Rattle.plane_graphs.specs.Line.{IsProper, precedes}
use Rattle.plane_graphs.specs.Piece.{Present}
use Rattle.plane_graphs.specs.Fit.{IsFit}
use Rattle.plane_graphs.specs.Graph.{Edge, collinear}
use Rattle.plane_graphs.proofs.Order.{Lt, lt_in, lt_out}
use Rattle.plane_graphs.proofs.Marks.{le_in, le_out, le_lt, le_cases}
use Rattle.slab_laws.specs.declared.slab_cell.SlabCell.{SlabCell}
use Rattle.slab_laws.specs.declared.cell.Cell.TheVariants.{Face}
use Rattle.slab_laws.specs.Skeleton as counted
use Rattle.slab_laws.specs.Skeleton.{Skeleton, IsPlaneSkeleton, side, same_point}
use Rattle.slab_laws.specs.Slabs.{left_cell}
use Rattle.slab_laws.specs.Meets.{SameFace}
use Rattle.slab_laws.specs.Faces.{face_labels, face_of}
use Rattle.slab_laws.specs.Subdivision.{subdivision, rank}
use Rattle.slab_faces.specs.LocationLaws.{IsNoVertex}
use Rattle.slab_faces.specs.Locations.{IsOnNoEdge}
use Rattle.slab_faces.proofs.InnerPoints.{before_out, inside_by}
use Rattle.slab_faces.proofs.Parity.{same_point_refl}
use Rattle.slab_faces.proofs.Located.{location_is_one}
use Rattle.slab_faces.proofs.LocationLemmas.{location_is}
use Rattle.slab_faces.proofs.FaceOfPoint.{face_is_the_cells}
use Rattle.slab_faces.proofs.FacesLemmas.{in_its_face, one_label}
use Rattle.slab_laws.specs.Overlay.{both, plane_of, has_curve_along, cell_in}
use Rattle.overlay_laws.specs.OverlayLaws.{LieInLabels, FacesLieInFaces}
use Rattle.overlay_laws.proofs.Both.{both_fit}
use Rattle.overlay_laws.proofs.Laid.{IsLaid}
use Rattle.overlay_laws.proofs.Cells.{left_holds, is_collinear}
use Rattle.overlay_laws.proofs.Parts.{IsLayerOf, red_layer, blue_layer, layer_laid}
use Rattle.overlay_laws.proofs.Labels.{plane_by, cell_is, label_is, one_face}

-- what it is to be inside an edge
module _ (e : Edge) (t : Point) (low : IsProper e.low) (high : IsProper e.high) (proper : IsProper t) where
  inside_out : counted.inside e t ≡ true → Lt e.low t × Lt t e.high × (collinear e.low e.high t ≡ true)
  inside_out h =
      let a = and_true (counted.precedes e.low t && counted.precedes t e.high) (not (lt_z (side e t) (pos 0)) && not (lt_z (pos 0) (side e t))) h in
      let b = and_true (counted.precedes e.low t) (counted.precedes t e.high) a.0 in
      let c = and_true (not (lt_z (side e t) (pos 0))) (not (lt_z (pos 0) (side e t))) a.1 in
      (before_out e.low t low proper b.0, before_out t e.high proper high b.1, is_collinear e t (zero (side e t) (not-true _ c.0) (not-true _ c.1)))
    where
      zero : (s : ℤ) → lt_z s (pos 0) ≡ false → lt_z (pos 0) s ≡ false → s ≡ pos 0
      zero s a b = omega (arith, ints)

module _ (r g : Skeleton) (own : Edge → Bool) (pr : IsPlaneSkeleton r) (pg : IsPlaneSkeleton g) (laid : IsLaid r g own) (q : Point) (Q : IsProper q) where
  -- a point off the vertices and edges of the overlay is off those of the layer
  no_vertex : IsNoVertex g q → IsNoVertex r q
  no_vertex h v V = h v (laid.vertex v V)

  no_edge : IsNoVertex g q → IsOnNoEdge g q → IsOnNoEdge r q
  no_edge v h f F = false_from_ne_true (counted.inside f q) (λ i.
      let fl = laid.proper f.low (laid.vertex f.low (pr.lower_in f F)) in
      let fh = laid.proper f.high (laid.vertex f.high (pr.upper_in f F)) in
      let a = inside_out f q fl fh Q i in
      let w = laid.cut f F (λ x. not (precedes q x)) (le_in (le_lt a.0)) (ap not (lt_in a.1)) in
      let e = w.part in
      let E = w.part_in in
      let el = laid.proper e.low (pg.lower_in e E) in
      let eh = laid.proper e.high (pg.upper_in e E) in
      ⊎_elim
      (λ k. false≢true (sym (v e.low (pg.lower_in e E)) ∙ subst (λ z. same_point z e.low ≡ true) k (same_point_refl e.low)))
      (λ l. false≢true (sym (h e E) ∙ inside_by e q el eh Q l (lt_out q e.high (not-false (precedes q e.high) w.after)) (w.on_part q Q a.2)))
      (le_cases e.low q (le_out e.low q w.before)))

module _ (layer whole : Present) (fl : IsFit layer) (fw : IsFit whole) (part : IsLayerOf layer whole) where
  lies : LieInLabels layer whole
  lies q k f Q h s =
      let r = plane_of layer in
      let g = plane_of whole in
      let pr = plane_by layer fl in
      let pg = plane_by whole fw in
      let laid = layer_laid layer whole fl fw part in
      let at = location_is_one g q pg Q.positive in
      let v = at.face_at_no_vertex k h in
      let e = at.face_on_no_edge k h in
      let here = location_is.in_face r q (no_vertex r g (has_curve_along layer) pr pg laid q Q v) (no_edge r g (has_curve_along layer) pr pg laid q Q v e) in
      let is : face_of (face_labels g) (left_cell g q) ≡ f = some_path _ _ (sym (face_is_the_cells g q k pg Q.positive h) ∙ s) in
      let in_f : SameFace g (left_cell g q) f = subst (SameFace g (left_cell g q)) is (in_its_face g (left_cell g q) pg) in
      let a : cell_in layer g (left_cell g q) ≡ left_cell r q = cell_is layer g (left_cell g q) ∙ left_holds r g (has_curve_along layer) pr pg laid q Q.positive in
      let b : SameFace r (left_cell r q) (cell_in layer g f) = subst (λ c. SameFace r c (cell_in layer g f)) a (one_face layer whole fl fw part (left_cell g q) f in_f) in
      here ∙ ap (λ c. Face (rank (subdivision r) c)) (one_label r (left_cell r q) (cell_in layer g f) pr b) ∙ ap Face (sym (label_is layer g f))
    where
      some_path : (x y : SlabCell) → Some x ≡ Some y → x ≡ y
      some_path x y h = cc

pub faces_lie_in_faces : FacesLieInFaces
faces_lie_in_faces red blue fr fb =
    let f = both_fit red blue fr fb in
    (lies red (both red blue) fr f (red_layer red blue), lies blue (both red blue) fb f (blue_layer red blue))

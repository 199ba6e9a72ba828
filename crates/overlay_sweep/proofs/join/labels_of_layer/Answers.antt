use Rattle.std.proofs.Common.{◌≡◌, length, arith, sym, ap, ◌∙◌, subst}
use Rattle.dart_orbits.proofs.Listed.{rows_length}
use Rattle.slab_laws.specs.Overlay.{label, plane_of}
use Rattle.slab_laws.specs.Pieces.{present_of}
use Rattle.slab_laws.specs.Rows.{dart_list}
use Rattle.slab_laws.specs.Skeleton.{Skeleton, IsPlaneSkeleton}
use Rattle.slab_laws.specs.SpansDrawn.{drawn}
use Rattle.overlay_laws.proofs.Labels.{plane_by}
use Rattle.overlay_sweep.specs.KnownLabels.{IsToldBy, AreFaceLabels}
use Rattle.overlay_sweep.specs.LabelsAbove.{AreLabelsAbove}
use Rattle.overlay_sweep.proofs.FaceRows.{labels_listed}
use Rattle.overlay_sweep.proofs.join.labels_of_layer.Goals as goal

pub labels_above-requires-clause-plane : goal.labels_above-requires-clause-plane
labels_above-requires-clause-plane c =
    let w = c.requires.whole in
    subst IsPlaneSkeleton (sym ((λ i. drawn (c.as_slice-points.ensures i) (c.deref.ensures.value i)) ∙ w.2.drawn_is)) (plane_by w.0 w.1)

pub labels_of_faces-requires-clause-plane : goal.labels_of_faces-requires-clause-plane
labels_of_faces-requires-clause-plane c =
    let w = c.requires.whole in
    subst IsPlaneSkeleton (sym ((λ i. drawn (c.as_slice-points.ensures i) (c.deref-4.ensures.value i)) ∙ w.2.drawn_is)) (plane_by w.0 w.1)

pub labels_of_faces-requires-clause-labels : goal.labels_of_faces-requires-clause-labels
labels_of_faces-requires-clause-labels c =
    let w = c.requires.whole in
    let at = (λ i. drawn (c.as_slice-points.ensures i) (c.deref.ensures.value i)) ∙ w.2.drawn_is in
    let a = ap length c.deref-6.ensures.value in
    let b = c.in_ok-above.ensures.counted in
    let d = ap (λ (g : Skeleton). length (dart_list g)) at in
    let e = rows_length (plane_of w.0) in
    let f = ap length w.2.orbits.darts in
    omega arith

pub returns : goal.returns
returns c = λ w fit is from labelled.
    let layer = present_of c.args.layer.now in
    let g = plane_of w in
    let at : drawn c.as_slice-points.result.now c.deref.result.now ≡ g = (λ i. drawn (c.as_slice-points.ensures i) (c.deref.ensures.value i)) ∙ is.drawn_is in
    let at-4 : drawn c.as_slice-points.result.now c.deref-4.result.now ≡ g = (λ i. drawn (c.as_slice-points.ensures i) (c.deref-4.ensures.value i)) ∙ is.drawn_is in
    let labelling = labelled c.in_ok-known.known.items (c.in_ok-known.ensures w fit is from) in
    let above : AreLabelsAbove g c.in_ok-known.known.items c.in_ok-above.above.items = subst (λ ks. AreLabelsAbove g ks c.in_ok-above.above.items) c.deref-3.ensures.value (subst (λ (s : Skeleton). AreLabelsAbove s c.deref-3.result.now c.in_ok-above.above.items) at c.in_ok-above.ensures) in
    let told : IsToldBy g c.in_ok-above.above.items (λ x. label layer g x) = record { constant = labelling.constant; first = labelling.first; told = λ k l. above.each (λ x. label layer g x) labelling k l } in
    let faces : AreFaceLabels g c.args.whole.now.roots.items c.in_ok-above.above.items c.in_ok-labels.labels.items =
    subst (λ ls. AreFaceLabels g c.args.whole.now.roots.items ls c.in_ok-labels.labels.items) c.deref-6.ensures.value
    (subst (λ rs. AreFaceLabels g rs c.deref-6.result.now c.in_ok-labels.labels.items) c.deref-5.ensures.value
    (subst (λ (s : Skeleton). AreFaceLabels s c.deref-5.result.now c.deref-6.result.now c.in_ok-labels.labels.items) at-4 c.in_ok-labels.ensures)) in
    labels_listed g (plane_by w fit) c.args.whole.now.roots.items c.args.whole.now.ranks.items is.roots is.ranked c.in_ok-above.above.items c.in_ok-labels.labels.items faces (λ x. label layer g x) told

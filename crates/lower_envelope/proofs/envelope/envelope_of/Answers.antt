use Rattle.std.proofs.Common.{◌∙◌, ap, map, sym, subst, length}
use Rattle.lower_envelope.specs.Edges.{AreOuterDarts}
use Rattle.lower_envelope.specs.Corners.{AreOuterEnds, AreSlabEdgesOf, all_but_last, corner_at, corners_upto}
use Rattle.lower_envelope.proofs.Told.{are_fitted, all_told}
use Rattle.lower_envelope.proofs.envelope.envelope_of.Goals as goal

pub ends_of-requires-clause-boundary : goal.ends_of-requires-clause-boundary
ends_of-requires-clause-boundary g c = subst (AreOuterDarts (g.R.Darts.graph c.args.records.now) (g.R.Faced.faces c.args.records.now)) (sym c.deref.ensures.value) c.in_ok-boundary.ensures

pub slab_edges_of-requires-clause-boundary : goal.slab_edges_of-requires-clause-boundary
slab_edges_of-requires-clause-boundary g c = subst (AreOuterDarts (g.R.Darts.graph c.args.records.now) (g.R.Faced.faces c.args.records.now)) (sym c.deref-2.ensures.value) c.in_ok-boundary.ensures

pub slab_edges_of-requires-clause-ends : goal.slab_edges_of-requires-clause-ends
slab_edges_of-requires-clause-ends g c = subst (AreOuterEnds (g.R.Darts.graph c.args.records.now) (g.R.Faced.faces c.args.records.now)) (sym c.deref-3.ensures.value) c.in_ok-ends.ensures

pub corners_of-requires-clause-fitted : goal.corners_of-requires-clause-fitted
corners_of-requires-clause-fitted g c =
    let v = g.R.Darts.graph c.args.records.now in
    let f = g.R.Faced.faces c.args.records.now in
    let ends = subst (AreOuterEnds v f) (sym c.deref-3.ensures.value) c.in_ok-ends.ensures in
    are_fitted c.args.which v f c.requires.sound c.deref-3.result.now ends c.in_ok-slabs.slabs c.in_ok-slabs.ensures

pub corners_of-requires-clause-points : goal.corners_of-requires-clause-points
corners_of-requires-clause-points g c = c.in_ok-slabs.ensures.points ∙ ap (map (λ k. k.point)) (c.deref-3.ensures.value ∙ sym c.deref-4.ensures.value)

pub returns : goal.returns
returns g c =
    let w = c.args.which in
    let v = g.R.Darts.graph c.args.records.now in
    let f = g.R.Faced.faces c.args.records.now in
    let slabs = c.in_ok-slabs.slabs in
    all_told w v f c.requires.sound c.in_ok-ends.ends.items c.in_ok-ends.ensures slabs c.in_ok-corners.corners.items _
    (subst (λ ks. AreSlabEdgesOf w v f ks slabs) c.deref-3.ensures.value c.in_ok-slabs.ensures)
    (c.in_ok-corners.ensures ∙ ap (λ ks. corners_upto (corner_at w ks slabs) (length ks)) c.deref-4.ensures.value)
    (c.in_ok-vertices_of.ensures ∙ ap (map (λ x. x.vertex)) c.deref-5.ensures.value) (c.in_ok-between_of.ensures ∙ ap (λ x. map (λ y. y.edge) (all_but_last x)) c.deref-6.ensures.value)

use Rattle.std.proofs.Common.{List, map, length, sym, ap, ◌∙◌, subst}
use Rattle.std.specs.List.{list_any}
use Rattle.exact_plane.specs.Point.{Point}
use Rattle.exact_plane.specs.PointOrder.{point_cmp}
use Rattle.plane_graphs.specs.Ascending.{Member, IsAscending}
use Rattle.slab_laws.specs.Overlay.{plane_of}
use Rattle.slab_laws.specs.Pieces.{present_of}
use Rattle.slab_laws.specs.Skeleton.{Skeleton, IsPlaneSkeleton, same_point}
use Rattle.slab_laws.specs.SpansDrawn.{drawn}
use Rattle.overlay_laws.proofs.Labels.{plane_by}
use Rattle.face_roots.specs.declared.ranks.Root.{Root}
use Rattle.face_roots.specs.CycleRanks.{faces_before}
use Rattle.sweep_graphs.specs.declared.trace.Stretch.{Stretch}
use Rattle.sweep_graphs.specs.Edges.{mark_along}
use Rattle.dart_orbits.specs.Orbits.{AreOrbits}
use Rattle.face_roots.proofs.OuterRanks.{faces_counted}
use Rattle.overlay_sweep.specs.CycleFaces.{AreCycleRanks, rank_round}
use Rattle.overlay_sweep.specs.EdgesUnder.{AreUnder}
use Rattle.overlay_sweep.specs.GraphRows.{kind_of_root, IsWithin}
use Rattle.overlay_sweep.proofs.GraphRows.{stretches_within, marks_are, points_are, kinds_are}
use Rattle.overlay_sweep.proofs.rows.more_of.Goals as goal

pub marks_of_stretches-requires : goal.marks_of_stretches-requires
marks_of_stretches-requires c s m =
    let p = present_of c.args.present.now in
    subst (λ (rs : List Point). IsWithin p rs s) (sym c.as_slice-points.ensures) (stretches_within p c.args.graph.now c.requires.graph s (subst (λ (ss : List Stretch). Member s ss) c.deref.ensures.value m))

pub pinned_among-requires : goal.pinned_among-requires
pinned_among-requires c = subst (IsAscending point_cmp) (sym c.as_slice.ensures) c.requires.fit.pins_ascend

pub bare_ranks-requires-clause-plane : goal.bare_ranks-requires-clause-plane
bare_ranks-requires-clause-plane c =
    let p = present_of c.args.present.now in
    let is = (λ i. drawn (c.as_slice-points.ensures i) (c.deref-3.ensures.value i)) ∙ c.requires.graph.drawn_is in
    subst IsPlaneSkeleton (sym is) (plane_by p c.requires.fit)

pub bare_ranks-requires-clause-ascend : goal.bare_ranks-requires-clause-ascend
bare_ranks-requires-clause-ascend c = subst (IsAscending point_cmp) (sym c.as_slice-points.ensures) c.requires.graph.trace.ascends

pub bare_ranks-requires-clause-orbits : goal.bare_ranks-requires-clause-orbits
bare_ranks-requires-clause-orbits c =
    let is = (λ i. drawn (c.as_slice-points.ensures i) (c.deref-3.ensures.value i)) ∙ c.requires.graph.drawn_is in
    subst (λ (s : Skeleton). AreOrbits s c.args.graph.now.orbits) (sym is) c.requires.graph.orbits

pub bare_ranks-requires-clause-below : goal.bare_ranks-requires-clause-below
bare_ranks-requires-clause-below c =
    let p = present_of c.args.present.now in
    let is = (λ i. drawn (c.as_slice-points.ensures i) (c.deref-3.ensures.value i)) ∙ c.requires.graph.drawn_is in
    subst (λ (s : Skeleton). AreUnder s c.deref-4.result.now) (sym is) (subst (AreUnder (plane_of p)) (sym c.deref-4.ensures.value) c.requires.graph.below)

pub bare_ranks-requires-clause-ranks : goal.bare_ranks-requires-clause-ranks
bare_ranks-requires-clause-ranks c =
    let p = present_of c.args.present.now in
    let is = (λ i. drawn (c.as_slice-points.ensures i) (c.deref-3.ensures.value i)) ∙ c.requires.graph.drawn_is in
    subst (λ (s : Skeleton). AreCycleRanks s c.deref-5.result.now) (sym is) (subst (AreCycleRanks (plane_of p)) (sym c.deref-5.ensures.value) c.requires.graph.ranks)

pub returns : goal.returns
returns c =
    let p = present_of c.args.present.now in
    let g = c.args.graph.now in
    let h = c.requires.graph in
    let plane = plane_by p c.requires.fit in
    let is = (λ i. drawn (c.as_slice-points.ensures i) (c.deref-3.ensures.value i)) ∙ h.drawn_is in
    record {
      marks = c.in_ok-marks.ensures ∙ (λ i. map (mark_along p (c.as_slice-points.ensures i)) (c.deref.ensures.value i)) ∙ marks_are p g h c.requires.curves;
      pinned =
          c.in_ok-pinned.ensures ∙ (λ i. map (λ (r : Point). list_any (same_point r) (c.as_slice.ensures i)) (c.as_slice-points.ensures i)) ∙ ap (map (λ (r : Point). list_any (same_point r) p.pins)) (points_are p g h);
      kinds = c.in_ok-kinds.ensures ∙ ap (map kind_of_root) c.deref-2.ensures.value ∙ kinds_are (plane_of p) plane g.roots.items h.roots;
      bare_ranks = c.in_ok-ranks.ensures ∙ (λ i. map (rank_round (is i)) (c.as_slice-points.ensures i)) ∙ ap (map (rank_round (plane_of p))) (points_are p g h);
      faces = c.count_faces.ensures ∙ ap (λ (rs : List Root). faces_before rs (length rs)) c.deref-6.ensures.value ∙ sym (faces_counted (plane_of p) plane g.roots.items g.ranks.items h.roots h.ranked);
    }

use Rattle.std.proofs.Common.{arith, sym, ap, subst, ◌∙◌, map}
use Rattle.std.specs.List.{list_any}
use Rattle.slab_laws.specs.SpansDrawn.{drawn}
use Rattle.slab_laws.specs.Skeleton.{IsPlaneSkeleton, same_point}
use Rattle.plain_slabs.specs.Orbits.{AreOrbits, AreRegions}
use Rattle.subdivision_rows.specs.Listed.{Drawing, skeleton_in}
use Rattle.subdivision_rows.proofs.RowsDrawn.{drawn_is, plane_is}
use Rattle.plain_slabs.proofs.Building.{kept}
use Rattle.plain_slabs.proofs.build.plain_of.Goals as goal

pub orbits_of-requires-clause-plane : goal.orbits_of-requires-clause-plane
orbits_of-requires-clause-plane c =
    subst IsPlaneSkeleton (λ i. drawn (sym c.deref-3.ensures.value i) (sym c.deref-4.ensures.value i)) (plane_is c.args.points.items c.args.marks.items c.args.pins.items c.args.edges.items c.requires.plane c.requires.edges)

pub regions_of-requires-clause-plane : goal.regions_of-requires-clause-plane
regions_of-requires-clause-plane c =
    subst IsPlaneSkeleton (λ i. drawn (sym c.deref-5.ensures.value i) (sym c.deref-6.ensures.value i)) (plane_is c.args.points.items c.args.marks.items c.args.pins.items c.args.edges.items c.requires.plane c.requires.edges)

pub of-rows-requires : goal.of-rows-requires
of-rows-requires c =
    let are = drawn_is c.args.points.items c.args.marks.items c.args.pins.items c.args.edges.items c.requires.edges in
    kept c.args.points c.args.pins c.in_ok-pinned.pinned c.args.marks c.args.edges c.in_ok-orbits.orbits c.in_ok-regions.regions c.len-faces.result c.requires.plane c.requires.lines
    (c.in_ok-pinned.ensures ∙ (λ i. map (λ p. list_any (same_point p) (c.deref-2.ensures.value i)) (c.deref.ensures.value i)))
    c.requires.edges
    (subst (λ g. AreOrbits g c.in_ok-orbits.orbits) ((λ i. drawn (c.deref-3.ensures.value i) (c.deref-4.ensures.value i)) ∙ are) c.in_ok-orbits.ensures)
    (subst (λ g. AreRegions g c.in_ok-regions.regions) ((λ i. drawn (c.deref-5.ensures.value i) (c.deref-6.ensures.value i)) ∙ are) c.in_ok-regions.ensures)
    (let n = c.in_ok-regions.regions.faces.ok.0 in let m = c.len-faces.ensures in omega arith)

pub invariant_of-result : goal.invariant_of-result
invariant_of-result c =
    let are = drawn_is c.args.points.items c.args.marks.items c.args.pins.items c.args.edges.items c.requires.edges in
    let regions = subst (λ g. AreRegions g c.in_ok-regions.regions) ((λ i. drawn (c.deref-5.ensures.value i) (c.deref-6.ensures.value i)) ∙ are ∙ ap (λ (d : Drawing). skeleton_in d) (sym c.of-rows.ensures)) c.in_ok-regions.ensures in
    record { labels = regions.labels; faces = regions.faces }

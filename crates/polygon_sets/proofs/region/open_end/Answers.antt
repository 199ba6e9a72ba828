use Rattle.std.proofs.Common.{length, List, arith, sym, ap, subst, ◌∙◌}
use Rattle.std.specs.Prelude.{Some, None}
use Rattle.exact_plane.specs.Point.{Point}
use Rattle.slab_laws.specs.declared.rows.ListedDart.{ListedDart}
use Rattle.slab_laws.specs.Rows.{dart_rows}
use Rattle.subdivision_rows.specs.Listed.{skeleton_in}
use Rattle.polygon_sets.specs.Borders.{point_at}
use Rattle.polygon_sets.specs.OddVertices.{IsFirstOdd}
use Rattle.polygon_sets.proofs.RegionRows.{rows_told, points_told, flat, edge_in, rise}
use Rattle.polygon_sets.proofs.SumsByDarts.{odd_within, first_is, none_is}
use Rattle.polygon_sets.proofs.region.open_end.Goals as goal

pub first_odd-requires-clause-edges : goal.first_odd-requires-clause-edges
first_odd-requires-clause-edges c =
    let d = c.args.rows.now in
    let told = rows_told c.lists-lists.result.now d c.lists-lists.ensures.sound c.lists-lists.ensures.drawing c.deref.result.now c.deref.ensures.value in
    λ k l. edge_in d c.laws.ensures.plane c.laws.ensures.stands c.deref.result.now told k c.args.counts.now c.requires l

pub first_odd-requires-clause-sources : goal.first_odd-requires-clause-sources
first_odd-requires-clause-sources c =
    let d = c.args.rows.now in
    let told = rows_told c.lists-lists.result.now d c.lists-lists.ensures.sound c.lists-lists.ensures.drawing c.deref.result.now c.deref.ensures.value in
    rise d c.laws.ensures.plane c.laws.ensures.stands c.deref.result.now told

pub point_at-requires : goal.point_at-requires
point_at-requires c =
    let d = c.args.rows.now in
    let a = c.lists-lists.result.now in
    let told = rows_told a d c.lists-lists.ensures.sound c.lists-lists.ensures.drawing c.deref.result.now c.deref.ensures.value in
    let points = points_told a d c.lists-lists.ensures.sound c.lists-lists.ensures.drawing c.deref-in-Some.result.now c.deref-in-Some.ensures.value in
    let plane = flat d c.laws.ensures.plane c.laws.ensures.stands c.deref.result.now told in
    let h : IsFirstOdd (dart_rows (skeleton_in d)) c.args.counts.now (Some c.in-Some.vertex) = subst (λ (rs : List ListedDart). IsFirstOdd rs c.args.counts.now (Some c.in-Some.vertex)) told (subst (IsFirstOdd c.deref.result.now c.args.counts.now) c.in-Some.is c.first_odd.ensures) in
    let w = odd_within (skeleton_in d) plane c.laws.ensures.plane.points_ascend c.args.counts.now c.in-Some.vertex h in
    let n = ap length points in
    omega arith

pub returns-in-Some : goal.returns-in-Some
returns-in-Some c =
    let d = c.args.rows.now in
    let a = c.lists-lists.result.now in
    let told = rows_told a d c.lists-lists.ensures.sound c.lists-lists.ensures.drawing c.deref.result.now c.deref.ensures.value in
    let points = points_told a d c.lists-lists.ensures.sound c.lists-lists.ensures.drawing c.deref-in-Some.result.now c.deref-in-Some.ensures.value in
    let plane = flat d c.laws.ensures.plane c.laws.ensures.stands c.deref.result.now told in
    let h : IsFirstOdd (dart_rows (skeleton_in d)) c.args.counts.now (Some c.in-Some.vertex) = subst (λ (rs : List ListedDart). IsFirstOdd rs c.args.counts.now (Some c.in-Some.vertex)) told (subst (IsFirstOdd c.deref.result.now c.args.counts.now) c.in-Some.is c.first_odd.ensures) in
    sym (first_is (skeleton_in d) plane c.laws.ensures.plane.points_ascend c.args.counts.now c.in-Some.vertex h ∙ ap (λ (p : Point). Some p) (sym (c.point_at.ensures ∙ ap (λ (ps : List Point). point_at ps c.in-Some.vertex) points)))

pub returns-in-None : goal.returns-in-None
returns-in-None c =
    let d = c.args.rows.now in
    let told = rows_told c.lists-lists.result.now d c.lists-lists.ensures.sound c.lists-lists.ensures.drawing c.deref.result.now c.deref.ensures.value in
    let plane = flat d c.laws.ensures.plane c.laws.ensures.stands c.deref.result.now told in
    let h : IsFirstOdd (dart_rows (skeleton_in d)) c.args.counts.now None = subst (λ (rs : List ListedDart). IsFirstOdd rs c.args.counts.now None) told (subst (IsFirstOdd c.deref.result.now c.args.counts.now) c.in-None.is c.first_odd.ensures) in
    sym (none_is (skeleton_in d) plane c.laws.ensures.plane.points_ascend c.args.counts.now h)

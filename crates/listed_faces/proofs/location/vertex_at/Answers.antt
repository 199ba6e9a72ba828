use Rattle.std.proofs.Common.{◌≡◌, ◌<◌, List, length, get_or, Err, Equal, ap, ◌∙◌, subst}
use Rattle.std.specs.List.Sorted.{IsBinarySearchResult}
use Rattle.exact_plane.specs.Point.{Point}
use Rattle.exact_plane.specs.PointOrder.{point_cmp}
use Rattle.subdivision_rows.specs.Listed.{Drawing}
use Rattle.listed_faces.proofs.Located.{found_there, not_found}
use Rattle.listed_faces.proofs.location.vertex_at.Goals as goal

pub returns-in-Ok-clause-some : goal.returns-in-Ok-clause-some
returns-in-Ok-clause-some c =
    let d = c.args.rows.now in
    let p = c.args.p.now in
    let same : c.deref.result.now ≡ d.graph.points = c.deref.ensures.value ∙ ap (λ (e : Drawing). e.graph.points) c.lists.ensures.drawing in
    found_there d p c.in-Ok.place (subst (λ (ps : List Point). c.in-Ok.place < length ps) same c.in-Ok.ensures.bound)
    (subst (λ (ps : List Point). point_cmp (get_or ps c.in-Ok.place p) p ≡ Equal) same (c.in-Ok.ensures.position p))

pub returns-in-Err-clause-none : goal.returns-in-Err-clause-none
returns-in-Err-clause-none c =
    let d = c.args.rows.now in
    let p = c.args.p.now in
    let same : c.deref.result.now ≡ d.graph.points = c.deref.ensures.value ∙ ap (λ (e : Drawing). e.graph.points) c.lists.ensures.drawing in
    not_found d p c.in-Err.field-0 c.laws.ensures.plane.points_ascend
    (subst (λ (ps : List Point). IsBinarySearchResult (λ q. point_cmp q p) ps (Err c.in-Err.field-0)) same c.in-Err.ensures.position)

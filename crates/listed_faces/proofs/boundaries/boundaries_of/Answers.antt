use Rattle.std.proofs.Common.{List, [], ◌∷◌, ◌++◌, cond, filter, sym, ap, subst, ◌∙◌}
use Rattle.std.specs.List.{slice_index_or}
use Rattle.std.proofs.lemmas.List.{take_all}
use Rattle.std.proofs.lemmas.List.Elements.{filter_more}
use Rattle.plane_graphs.specs.Ascending.{Member}
use Rattle.plane_graphs.proofs.Sorting.{member_at}
use Rattle.slab_laws.specs.declared.names.DartId.{DartId}
use Rattle.slab_laws.specs.View.{cycle_in, dart_id}
use Rattle.subdivision_rows.specs.Listed.{view_of, faces_of}
use Rattle.listed_faces.specs.Boundaries.{bounds}
use Rattle.listed_faces.proofs.KeptDarts.{boundaries_are}
use Rattle.listed_faces.proofs.boundaries.boundaries_of.Goals as goal

-- each dart of the list has a record
pub push_on_boundary-requires : goal.push_on_boundary-requires
push_on_boundary-requires c =
    let ds : List DartId = c.deref-dart-items.result.now in
    let d : DartId = slice_index_or ds c.boundaries.dart-index (dart_id 0) in
    c.in_ok-all.ensures.have d (subst (λ (es : List DartId). Member d es) c.deref-dart-items.ensures.value (member_at ds c.boundaries.dart-index (dart_id 0) c.boundaries-test.true))

pub boundaries-preserved : goal.boundaries-preserved
boundaries-preserved c =
    let f = faces_of c.args.rows.now in
    let ds : List DartId = c.deref-dart-items.result.now in
    let d : DartId = slice_index_or ds c.boundaries.dart-index (dart_id 0) in
    let p = λ (e : DartId). bounds f c.args.face c.args.kind (cycle_in f e) in
    c.in_ok-push_on_boundary.ensures
    ∙ ap (λ (es : List DartId). es ++ cond (p d) (d ∷ []) []) c.boundaries.invariant
    ∙ sym (filter_more p ds c.boundaries.dart-index (dart_id 0) c.boundaries-test.true)

pub returns : goal.returns
returns c =
    let f = faces_of c.args.rows.now in
    let ds : List DartId = c.deref-dart-items.result.now in
    boundaries_are (view_of c.args.rows.now) f c.args.face c.args.kind c.laws.ensures.stands.complete.cycles_ascend c.in_ok-all.all.items c.in_ok-all.ensures c.boundaries.found.items
    (c.boundaries.invariant ∙ ap (filter (λ (d : DartId). bounds f c.args.face c.args.kind (cycle_in f d))) (take_all c.boundaries.dart-index ds c.boundaries-test.false ∙ c.deref-dart-items.ensures.value))

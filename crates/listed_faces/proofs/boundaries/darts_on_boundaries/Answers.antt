use Rattle.std.proofs.Common.{rules, ◌≡◌, ◌<◌, length, ap, sym, subst, ◌∙◌, arith, set}
use Rattle.slab_laws.specs.declared.names.CycleId.{CycleId}
use Rattle.sound_views.proofs.NamesMet.{dart_has, fewer_darts, all_darts}
use Rattle.subdivision_rows.specs.Listed.{view_of, faces_of, subdivision_in}
use Rattle.listed_faces.proofs.KeptDarts.{IsKept, none_kept, one_kept, kept_all, cycle_below}
use Rattle.listed_faces.proofs.boundaries.darts_on_boundaries.Goals as goal

pub darts-init : goal.darts-init
darts-init c =
    let d = c.args.rows.now in
    let n : length c.resize.new.self.items ≡ c.boundary_count.result = search rules in
    none_kept (view_of d) (faces_of d) (length (subdivision_in d).cycles) c.resize.new.self.items (n ∙ c.boundary_count.ensures)

pub cycle-requires : goal.cycle-requires
cycle-requires c = dart_has (view_of c.args.rows.now) c.darts.last c.in-Some.dart c.in-Some.ensures.ascend c.in-Some.ensures.after

pub keep-requires : goal.keep-requires
keep-requires c =
    let l = cycle_below c.args.rows.now c.cycle.result c.cycle.ensures.has in
    let n = c.darts.invariant.counted in
    omega arith

pub darts-smaller : goal.darts-smaller
darts-smaller c = fewer_darts (view_of c.args.rows.now) c.darts.last c.in-Some.dart c.in-Some.ensures.ascend c.in-Some.ensures.after

pub darts-preserved : goal.darts-preserved
darts-preserved c =
    let d = c.args.rows.now in
    let v = view_of d in
    let f = faces_of d in
    let u = c.in-Some.dart in
    let now = c.darts.kept.items in
    let l : c.cycle.result.0 < length now = (let a = cycle_below d c.cycle.result c.cycle.ensures.has in let n = c.darts.invariant.counted in omega arith) in
    one_kept v f (length (subdivision_in d).cycles) c.darts.last u now c.keep.new.kept.items c.darts.invariant
    (dart_has v c.darts.last u c.in-Some.ensures.ascend c.in-Some.ensures.after)
    (subst (λ (x : CycleId). x.0 < length now) c.cycle.ensures.cycle l)
    (c.keep.ensures ∙ ap (λ (x : CycleId). set now x.0 u) c.cycle.ensures.cycle)
    c.in-Some.ensures.ascend c.in-Some.ensures.after

pub returns : goal.returns
returns c =
    let d = c.args.rows.now in
    kept_all d c.laws.ensures.stands.complete c.darts.kept.items c.darts.invariant.counted
    (all_darts (view_of d) (IsKept (view_of d) (faces_of d) c.darts.kept.items) c.darts.last (sym c.in_default.is ∙ c.dart_after.ensures.after) c.darts.invariant.kept)

use Rattle.std.proofs.Common.{rules}
use Rattle.std.proofs.lemmas.Fn.{always_returns_same}
use Rattle.exact_plane.specs.PointOrder.{point_cmp}
use Rattle.path_zone.proofs.Within.{spot_found, within_by}
use Rattle.path_zone.proofs.zoned.spot_on.Goals as goal

pub overflow_sub-result : goal.overflow_sub-result
overflow_sub-result c =
    let (v, f, s, h) = c.requires in
    (within_by v f s c.args.plan.now c.args.point.now h c.as_slice-vertices.result.now c.in-Err.after c.as_slice-vertices.ensures (c.in-Err.ensures.position (λ m. point_cmp m.point c.args.point.now) (always_returns_same _ _ _ (λ a r f' k. (search rules, search rules))))).0

pub bounds-as_slice-after : goal.bounds-as_slice-after
bounds-as_slice-after c =
    let (v, f, s, h) = c.requires in
    rw c.as_slice.ensures
    (within_by v f s c.args.plan.now c.args.point.now h c.as_slice-vertices.result.now c.in-Err.after c.as_slice-vertices.ensures (c.in-Err.ensures.position (λ m. point_cmp m.point c.args.point.now) (always_returns_same _ _ _ (λ a r f' k. (search rules, search rules))))).1

pub returns-in-Ok : goal.returns-in-Ok
returns-in-Ok c v f s h =
    let vertices = c.as_slice-vertices.ensures in
    rw vertices (spot_found v f s c.args.plan.now c.args.point.now h c.in-Ok.at (rw vertices at c.in-Ok.ensures.bound) _
    (rw vertices at (c.in-Ok.ensures.position (λ m. point_cmp m.point c.args.point.now) (always_returns_same _ _ _ (λ a r f' k. (search rules, search rules)))) _))

pub returns-in-Err : goal.returns-in-Err
returns-in-Err c v f s h =
    let w = within_by v f s c.args.plan.now c.args.point.now h c.as_slice-vertices.result.now c.in-Err.after c.as_slice-vertices.ensures (c.in-Err.ensures.position (λ m. point_cmp m.point c.args.point.now) (always_returns_same _ _ _ (λ a r f' k. (search rules, search rules)))) in
    rw c.as_slice.ensures (w.2 _)

use Rattle.std.proofs.Common.{◌≡◌, sym, ap, ◌∙◌}
use Rattle.std.specs.declared.cmp.Ordering.{Ordering}
use Rattle.exact_plane.specs.Point.{Point}
use Rattle.exact_plane.specs.PointOrder.{point_cmp}
use Rattle.exact_plane.specs.PointOrderLaws.{same_point}
use Rattle.locate_walk.proofs.EndsCompared.{before_out, both_before, both_after}
use Rattle.locate_walk.proofs.passage.compared.Goals as goal
use Rattle.plane_graphs.proofs.Order.{after_out}

-- what the comparison of an end that was read told
told : (p : Point) {end read : Point} {o r : Ordering} → read ≡ end → r ≡ point_cmp read p → r ≡ o → point_cmp end p ≡ o
told p e c k = ap (λ x. point_cmp x p) (sym e) ∙ sym c ∙ k

pub returns-in-Equal-default : goal.returns-in-Equal-default
returns-in-Equal-default c = same_point c.args.looked.now.source c.args.point.now (told c.args.point.now c.source.ensures c.cmp.ensures c.in-Equal-default.is-0)

pub returns-in-Less-Greater : goal.returns-in-Less-Greater
returns-in-Less-Greater c = (
  told c.args.point.now c.source.ensures c.cmp.ensures c.in-Less-Greater.is-0,
  (after_out c.args.looked.now.target c.args.point.now (told c.args.point.now c.target.ensures c.cmp-2.ensures c.in-Less-Greater.is-1)).is,
)

pub returns-in-Greater-Less : goal.returns-in-Greater-Less
returns-in-Greater-Less c = (
  told c.args.point.now c.target.ensures c.cmp-2.ensures c.in-Greater-Less.is-1,
  (after_out c.args.looked.now.source c.args.point.now (told c.args.point.now c.source.ensures c.cmp.ensures c.in-Greater-Less.is-0)).is,
)

pub returns-in_default : goal.returns-in_default
returns-in_default c =
    both_before c.args.looked.now.source c.args.point.now c.args.looked.now.target (before_out _ _ (told c.args.point.now c.source.ensures c.cmp.ensures c.in_default.is-0))
    (before_out _ _ (told c.args.point.now c.target.ensures c.cmp-2.ensures c.in_default.is-1))

pub returns-in_default-2 : goal.returns-in_default-2
returns-in_default-2 c =
    both_after c.args.looked.now.source c.args.point.now c.args.looked.now.target (after_out _ _ (told c.args.point.now c.source.ensures c.cmp.ensures c.in_default.is-0))
    (after_out _ _ (told c.args.point.now c.target.ensures c.cmp-2.ensures c.in_default.is-1))

pub returns-in_default-Equal : goal.returns-in_default-Equal
returns-in_default-Equal c = same_point c.args.looked.now.target c.args.point.now (told c.args.point.now c.target.ensures c.cmp-2.ensures c.in_default-Equal.is-1)

pub returns-in_default-Equal-2 : goal.returns-in_default-Equal-2
returns-in_default-Equal-2 c = same_point c.args.looked.now.target c.args.point.now (told c.args.point.now c.target.ensures c.cmp-2.ensures c.in_default-Equal.is-1)

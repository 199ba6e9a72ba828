use Rattle.std.proofs.Common.{rules, ◌≡◌, sym, ◌∙◌}
use Rattle.std.specs.Ordering.{is_eq}
use Rattle.exact_plane.specs.PointOrder.{point_cmp}
use Rattle.exact_plane.specs.PointOrderLaws.{point_cmp_ties}
use Rattle.exact_plane.proofs.point.PointPartialEq.eq.Goals as goal

pub returns : goal.returns
returns c =
    let e : c.is_eq.result ≡ is_eq (point_cmp c.args.self.now c.args.other.now) = search rules in
    e ∙ sym (point_cmp_ties c.args.self.now c.args.other.now)

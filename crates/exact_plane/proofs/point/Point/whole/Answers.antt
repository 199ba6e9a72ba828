use Rattle.std.proofs.Common.{rules, ◌≡◌, sym, subst}
use Rattle.exact_plane.specs.Point.{IsPoint}
use Rattle.exact_plane.specs.Segment.{whole_point}
use Rattle.exact_plane.proofs.Wholes.{whole_is}
use Rattle.exact_plane.proofs.point.Point.whole.Goals as goal

pub invariant_of-result : goal.invariant_of-result
invariant_of-result c =
    let e : c.whole.result ≡ whole_point c.args.x c.args.y = search rules in
    subst IsPoint (sym e) (whole_is c.args.x c.args.y c.requires.x_within c.requires.y_within)

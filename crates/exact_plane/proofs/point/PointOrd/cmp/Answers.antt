use Rattle.std.proofs.Common.{rules, ◌≡◌, ◌∙◌}
use Rattle.exact_plane.specs.MeetOf.{place_cmp}
use Rattle.exact_plane.specs.Point.{IsPoint}
use Rattle.exact_plane.proofs.Places.{two_decide}
use Rattle.exact_plane.proofs.point.PointOrd.cmp.Goals as goal

pub returns : goal.returns
returns c =
    let p = c.args.self.now in
    let q = c.args.other.now in
    let h : IsPoint c.args.self.now = search rules in
    let k : IsPoint c.args.other.now = search rules in
    let e : c.compare.result ≡ place_cmp p q = search rules in
    e ∙ two_decide p q h k

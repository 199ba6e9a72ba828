use Rattle.std.proofs.Common.{sym, ap, ◌∙◌}
use Rattle.std.proofs.lemmas.List.{map-id}
use Rattle.exact_plane.specs.Point.{Point}
use Rattle.exact_plane.specs.PointOrder.{point_cmp}
use Rattle.exact_plane.specs.PointOrderLaws.{point_cmp_total, point_cmp_ties, same_point}
use Rattle.plane_graphs.specs.Ascending.{ascending}
use Rattle.plane_graphs.proofs.Arranged.{arranged}
use Rattle.present_graphs.proofs.vertices.arrange_points.Goals as goal

pub returns : goal.returns
returns c =
    let old = c.args.points.now.items in
    let out = c.dedup.new.self.items in
    sym (map-id out)
    ∙ arranged (λ (p : Point). p) point_cmp point_cmp_total same_point old c.sort_unstable.new.self.items c.sort_unstable.ensures.permutation _ out point_cmp_ties c.sort_unstable.ensures.sorted c.dedup.ensures.filtered
    ∙ ap (ascending point_cmp) (map-id old)

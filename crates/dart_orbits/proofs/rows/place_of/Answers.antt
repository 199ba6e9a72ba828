use Rattle.std.proofs.Common.{◌∙◌}
use Rattle.exact_plane.specs.PointOrder.{point_cmp}
use Rattle.exact_plane.specs.PointOrderLaws.{point_cmp_total, same_point as one_point}
use Rattle.slab_laws.specs.Skeleton.{same_point}
use Rattle.dart_orbits.proofs.Placed.{search_places}
use Rattle.slab_faces.proofs.Places.{points_exact}
use Rattle.dart_orbits.proofs.rows.place_of.Goals as goal

pub returns : goal.returns
returns c =
    c.unwrap_or.ensures
    ∙ search_places point_cmp point_cmp_total same_point points_exact c.args.points.now c.args.point.now c.binary_search.result c.requires (λ y e. one_point y c.args.point.now e) c.binary_search.ensures.bound c.binary_search.ensures.position

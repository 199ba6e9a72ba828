-- What a test of two points tells.
use Rattle.std.proofs.Common.{◌≡◌, ◌≢◌, Bool, true, false, ◌&&◌, sym, ap, ◌∙◌}
use Rattle.std.specs.Ordering.{int_eq}
use Rattle.exact_plane.specs.Point.{Point}
use Rattle.exact_plane.specs.PointOrderLaws.{point_cmp_ties}
use Rattle.plane_graphs.specs.Line.{same_point}
use Rattle.plane_graphs.proofs.Lists.{clash}
use Rattle.plane_graphs.proofs.Order.{same_out, same_in}

-- the first of the two was read from r
module _ (p q r : Point) (b : Bool) (read : p ≡ r) (is : b ≡ (int_eq p.x q.x && (int_eq p.y q.y && int_eq p.w q.w))) where
  tested : b ≡ same_point r q
  tested = is ∙ point_cmp_ties p q ∙ ap (λ (x : Point). same_point x q) read

  pub told_same : b ≡ true → r ≡ q
  told_same h = same_out r q (sym tested ∙ h)

  pub told_other : b ≡ false → r ≢ q
  told_other h e = clash (same_in r q e) (sym tested ∙ h)

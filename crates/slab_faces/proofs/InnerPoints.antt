-- The order of points and the signs of triangles put a point inside an edge in one way.
use Rattle.std.proofs.Common.{◌≡◌, true, ℤ, pos, not, ◌&&◌, ap}
use lib.Signed.{lt_z}
use Rattle.exact_plane.specs.Point.{Point}
use Rattle.exact_plane.specs.PointOrderLaws.{and_true}
use Rattle.plane_graphs.specs.Line.{IsProper, precedes}
use Rattle.plane_graphs.specs.Graph.{Edge, det, collinear, between}
use Rattle.plane_graphs.proofs.Lists.{and_in}
use Rattle.plane_graphs.proofs.Order.{Lt, lt_out}
use Rattle.plane_graphs.proofs.Lines.{span_runs, zero_out}
use Rattle.plane_graphs.proofs.Crossed.{runs_lt}
use Rattle.slab_laws.specs.Skeleton as counted
use Rattle.slab_faces.proofs.PlaneGraphs.{comes_before, comes_runs}

-- ---- points in order
pub before_in : (p q : Point) → IsProper p → IsProper q → Lt p q → counted.precedes p q ≡ true
before_in p q pp pq l = comes_before p q (span_runs p q pp pq l)

pub before_out : (p q : Point) → IsProper p → IsProper q → counted.precedes p q ≡ true → Lt p q
before_out p q pp pq h = runs_lt p q pp pq (comes_runs p q h)

-- ---- inside an edge
pub no_sign : (z : ℤ) → z ≡ pos 0 → not (lt_z z (pos 0)) && not (lt_z (pos 0) z) ≡ true
no_sign z e = ap (λ s. not (lt_z s (pos 0)) && not (lt_z (pos 0) s)) e

module _ (e : Edge) (t : Point) (low : IsProper e.low) (high : IsProper e.high) (proper : IsProper t) where
  pub inside_by : Lt e.low t → Lt t e.high → collinear e.low e.high t ≡ true → counted.inside e t ≡ true
  unfolding counted.side collinear det
  inside_by a b c = and_in (and_in (before_in e.low t low proper a) (before_in t e.high proper high b)) (no_sign (det e.low e.high t) (zero_out (det e.low e.high t) c))

  pub inside_in : between e.low e.high t ≡ true → counted.inside e t ≡ true
  inside_in h =
      let a = and_true (precedes e.low t && precedes t e.high) (collinear e.low e.high t) h in
      let b = and_true (precedes e.low t) (precedes t e.high) a.0 in
      inside_by (lt_out e.low t b.0) (lt_out t e.high b.1) a.1

-- A plane graph with fewer edges is plane.
use Rattle.std.proofs.Common.{List, Contains}
use Rattle.plane_graphs.specs.Ascending.{IsAscending}
use Rattle.plane_graphs.specs.Graph.{Edge, edge_cmp}
use Rattle.exact_plane.specs.Point.{Point}
use Rattle.slab_laws.specs.Skeleton.{IsPlaneSkeleton}
use Rattle.rotation_order.proofs.EdgesOnce.{edge_once}

pub fewer_plane : (vs : List Point) (es fs : List Edge) → IsPlaneSkeleton (record { vertices = vs; edges = es }) → IsAscending edge_cmp fs → ((e : Edge) → Contains fs e → Contains es e) → IsPlaneSkeleton (record { vertices = vs; edges = fs })
fewer_plane vs es fs p a f = record {
  proper = p.proper;
  lower_in = λ e m. p.lower_in e (f e m);
  upper_in = λ e m. p.upper_in e (f e m);
  lower_once = λ e m. p.lower_once e (f e m);
  upper_once = λ e m. p.upper_once e (f e m);
  proper_edge = λ e m. p.proper_edge e (f e m);
  forward = λ e m. p.forward e (f e m);
  upright = λ e m. p.upright e (f e m);
  edge_once = λ e m. edge_once e fs a m;
  distinct = p.distinct;
  clear = λ e v m. p.clear e v (f e m);
  uncrossed = λ e k m n. p.uncrossed e k (f e m) (f k n);
}

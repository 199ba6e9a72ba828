-- A skeleton whose lists ascend is plane by signs and counts exactly where it is a straight-line graph.
use Rattle.std.proofs.Common.{◌≡◌, true, not, ap, sym, subst, ⊎_elim, Contains}
use Rattle.exact_plane.specs.Point.{Point}
use Rattle.exact_plane.specs.PointOrder.{point_cmp}
use Rattle.plane_graphs.specs.Ascending.{Member, IsAscending}
use Rattle.plane_graphs.specs.Line.{IsProper}
use Rattle.plane_graphs.specs.Graph.{Edge, edge_cmp, between}
use Rattle.plane_graphs.specs.Meaning.{IsStraightLineGraph}
use Rattle.plane_graphs.proofs.Ascending.{to_member, from_member}
use Rattle.plane_graphs.proofs.Lists.{and_in, clash, decide, or_left, or_right}
use Rattle.plane_graphs.proofs.Order.{lt_in}
use Rattle.plane_graphs.proofs.Meaning.{IsDistinct-from_IsAscending, edges_ascend, plane_is_drawn}
use Rattle.slab_laws.specs.Skeleton as counted
use Rattle.slab_laws.specs.Skeleton.{Skeleton, IsPlaneSkeleton}
use Rattle.slab_laws.specs.Text.{skeleton}
use Rattle.slab_faces.proofs.PlaneGraphs.{graph_is_plane_skeleton}
use Rattle.slab_faces.specs.PlaneSkeletons.{PlaneSkeletonsAreDrawn, PlaneBySkeleton}
use Rattle.slab_faces.proofs.InnerPoints.{before_out, inside_in}
use Rattle.slab_faces.proofs.SharedEnds.{plane_skeletons_share_ends}
use Rattle.slab_faces.proofs.MarkedEdges.{graph_of, same_edges, listed}
use Rattle.integers.proofs.Tests.{not_true}

-- an edge goes forward: to the right, or up where it is vertical
forward : (g : Skeleton) (plane : IsPlaneSkeleton g) (e : Edge) → Contains g.edges e → counted.precedes e.low e.high ≡ true
forward g plane e E =
    let back = plane.forward e E in
    ⊎_elim
    (λ h. or_left (counted.left_of e.low e.high) _ h)
    (λ h. or_right (counted.left_of e.low e.high) _ (and_in (ap not back) (plane.upright e E (and_in (ap not h) (ap not back)))))
    (decide (counted.left_of e.low e.high))

module _ (g : Skeleton) (points_ascend : IsAscending point_cmp g.vertices) (edges_ascend : IsAscending edge_cmp g.edges) (proper : (x : Point) → Member x g.vertices → IsProper x) where
  module _ (plane : IsPlaneSkeleton g) where
    drawn : IsStraightLineGraph g.vertices g.edges
    drawn = record {
      points_once = IsDistinct-from_IsAscending point_cmp g.vertices points_ascend;
      edges_once = IsDistinct-from_IsAscending edge_cmp g.edges edges_ascend;
      forward = λ e m. let E = has e m in lt_in (before_out e.low e.high (low e E) (high e E) (forward g plane e E));
      ends_in = λ e m. let E = has e m in (to_member g.vertices e.low (plane.lower_in e E), to_member g.vertices e.high (plane.upper_in e E));
      none_inside = λ e x m n. let E = has e m in not_true (between e.low e.high x) (λ h. clash (inside_in e x (low e E) (high e E) (proper x n) h) (plane.clear e x E (from_member g.vertices x n)));
      share_ends = λ e f t m n. plane_skeletons_share_ends g plane (λ x c. proper x (to_member g.vertices x c)) e f t (has e m) (has f n);
    }
      where
        has : (e : Edge) → Member e g.edges → Contains g.edges e
        has e m = from_member g.edges e m

        low : (e : Edge) → Contains g.edges e → IsProper e.low
        low e E = proper e.low (to_member g.vertices e.low (plane.lower_in e E))

        high : (e : Edge) → Contains g.edges e → IsProper e.high
        high e E = proper e.high (to_member g.vertices e.high (plane.upper_in e E))

  -- by the graph of its edges, of which the other direction is known
  from_drawn : IsStraightLineGraph g.vertices g.edges → IsPlaneSkeleton g
  from_drawn s =
      let same = same_edges g edges_ascend in
      let plane = (plane_is_drawn (graph_of g)).1 (listed g edges_ascend points_ascend proper, subst (IsStraightLineGraph g.vertices) same s) in
      subst (λ es. IsPlaneSkeleton (record { vertices = g.vertices; edges = es })) (sym same) (graph_is_plane_skeleton (graph_of g) plane)

pub plane_skeletons_are_drawn : PlaneSkeletonsAreDrawn
plane_skeletons_are_drawn g points_ascend edges_ascend proper = (drawn g points_ascend edges_ascend proper, from_drawn g points_ascend edges_ascend proper)

pub plane_by_skeleton : PlaneBySkeleton
plane_by_skeleton g l plane = (plane_is_drawn g).1 (l, (plane_skeletons_are_drawn (skeleton g) l.points_ascend (edges_ascend g) l.proper).0 plane)

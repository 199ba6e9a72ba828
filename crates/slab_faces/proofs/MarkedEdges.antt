-- The graph with the vertices and edges of a skeleton, each edge with one curve.
use Rattle.std.proofs.Common.{◌≡◌, List, [], ◌∷◌, map, refl, sym, ap, ◌∙◌, Less}
use Rattle.std.specs.List.{AllByRecursion}
use Rattle.exact_plane.specs.Point.{Point}
use Rattle.exact_plane.specs.PointOrder.{point_cmp}
use Rattle.plane_graphs.specs.Ascending.{Member, IsAscending, ascending}
use Rattle.plane_graphs.specs.Line.{IsProper}
use Rattle.plane_graphs.specs.Graph.{Graph, Mark, Edge, mark, mark_cmp, edge_cmp, edge_of, edges}
use Rattle.plane_graphs.specs.Meaning.{IsListed}
use Rattle.plane_graphs.proofs.Ascending.{ascending_is}
use Rattle.plane_graphs.proofs.Meaning.{edge_cmp_total, edge_cmp_exact}
use Rattle.slab_laws.specs.Skeleton.{Skeleton}
use Rattle.integers.proofs.Tests.{less_then}

abbrev marked : Edge → Mark
marked e = mark e.low e.high 0

abbrev pub graph_of : Skeleton → Graph
graph_of g = record { points = g.vertices; marks = map marked g.edges; pins = [] }

-- ---- the marks ascend

marked_less : (e f : Edge) → edge_cmp e f ≡ Less → mark_cmp (marked e) (marked f) ≡ Less
unfolding edge_cmp mark_cmp
marked_less e f h = less_then (point_cmp e.low f.low) (point_cmp e.high f.high) _ h

All-marked : (e : Edge) (es : List Edge) → AllByRecursion (λ f. edge_cmp e f ≡ Less) es → AllByRecursion (λ n. mark_cmp (marked e) n ≡ Less) (map marked es)
All-marked e [] a = tt
All-marked e (f ∷ es) a = (marked_less e f a.0, All-marked e es a.1)

marks_ascend : (es : List Edge) → IsAscending edge_cmp es → IsAscending mark_cmp (map marked es)
marks_ascend [] a = tt
marks_ascend (e ∷ es) a = (All-marked e es a.0, marks_ascend es a.1)

-- ---- its edges are those of the skeleton
edges_of_marks : (es : List Edge) → map edge_of (map marked es) ≡ es
edges_of_marks [] = refl
edges_of_marks (e ∷ es) = ap (λ fs. e ∷ fs) (edges_of_marks es)

module _ (g : Skeleton) (edges_ascend : IsAscending edge_cmp g.edges) where
  pub same_edges : g.edges ≡ edges (graph_of g)
  unfolding edges
  same_edges =
      ascending_is edge_cmp edge_cmp_total g.edges g.edges (λ e f m n. edge_cmp_exact e f) edges_ascend (λ e m. m) (λ e m. m)
      ∙ ap (ascending edge_cmp) (sym (edges_of_marks g.edges))

  pub listed : IsAscending point_cmp g.vertices → ((x : Point) → Member x g.vertices → IsProper x) → IsListed (graph_of g)
  listed points proper = record { points_ascend = points; marks_ascend = marks_ascend g.edges edges_ascend; proper = proper }

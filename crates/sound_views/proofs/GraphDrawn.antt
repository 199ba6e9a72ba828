-- The vertices and edges of the graph of records are those that the records draw, and the graph is plane.
use Rattle.std.proofs.Common.{◌≡◌, true, not, refl, sym, ap, ◌∙◌, subst, List, map, ⊎_elim}
use Rattle.std.specs.Prelude.{if◌then◌else◌}
use Rattle.exact_plane.specs.Point.{Point}
use Rattle.exact_plane.specs.PointOrder.{point_cmp}
use Rattle.exact_plane.specs.PointOrderLaws.{point_cmp_total}
use Rattle.plane_graphs.specs.Ascending.{Member}
use Rattle.plane_graphs.specs.Graph.{Mark, Edge, mark, mark_cmp, edge_of, edge_cmp, edges}
use Rattle.plane_graphs.specs.Line.{IsProper, precedes}
use Rattle.plane_graphs.specs.Meaning.{IsListed}
use Rattle.plane_graphs.proofs.Ascending.{IsAscending-ascending}
use Rattle.plane_graphs.proofs.Lists.{decide, in_map, of_map, some_of}
use Rattle.plane_graphs.proofs.Meaning.{edge_cmp_total, edge_cmp_exact}
use Rattle.plane_graphs.proofs.Order.{mark_cmp_total}
use Rattle.slab_faces.proofs.SkeletonsDrawn.{plane_by_skeleton}
use Rattle.slab_laws.specs.declared.names.DartId.{DartId}
use Rattle.slab_laws.specs.Skeleton.{IsPlaneSkeleton}
use Rattle.slab_laws.specs.Sound.{IsGraphSound, edge_between, edge_in, skeleton_of}
use Rattle.slab_laws.specs.Text.{skeleton}
use Rattle.slab_laws.specs.View.{View, HasDart, point_in, source_in, target_in, twin_in}
use Rattle.sound_views.proofs.NamedDarts.{row_edges, edge_row, row_edge, twin_dart}
use Rattle.sound_views.proofs.PulledOrders.{ascending_same}
use Rattle.arr_notes.specs.Curves.{Curves, IsForward, AreCurvesOf, is_forward}
use Rattle.arr_notes.specs.RecordGraph.{drawn_graph}
use Rattle.sound_views.specs.RecordGraphLaws.{IsMarkOf, GraphsAreDrawn, GraphsArePlane, TwinsAreDirected}
use Rattle.sound_views.proofs.GraphHolds.{graphs_hold}

-- twins go along one edge, each against the other
pub twins_are_directed : TwinsAreDirected
twins_are_directed v s d has = ap (λ k. k.forward) (twin_dart v s d has)

-- the edge between two points of which the first is the lesser
pub between_forward : (p q : Point) → precedes p q ≡ true → edge_between p q ≡ record { low = p; high = q }
between_forward p q f = ap (λ b. if b then record { low = p; high = q } else record { low = q; high = p }) f

-- the edge of a dart's mark is the dart's
mark_edge : (v : View) (h : Curves) (m : Mark) (d : DartId) → IsMarkOf v h m d → edge_of m ≡ edge_in v d
mark_edge v h m d k = sym (between_forward (point_in v (source_in v d)) (point_in v (target_in v d)) k.forward.1 ∙ (λ i. record { low = k.low i; high = k.high i }))

module _ (v : View) (h : Curves) (s : IsGraphSound v) (c : AreCurvesOf v h) where
  abbrev mark_edges : List Edge
  mark_edges = map edge_of (drawn_graph v h).marks

  -- the edge of a forward dart has a mark, since it has some curve
  forward_edge : (d : DartId) → IsForward v d → Member (edge_in v d) mark_edges
  forward_edge d f =
      let p = point_in v (source_in v d) in
      let q = point_in v (target_in v d) in
      let k = some_of (h d) (c.some d f) in
      let m = (graphs_hold v h s).marks (mark p q k.0) in
      subst (λ e. Member e mark_edges) (sym (between_forward p q f.1)) (in_map edge_of (mark p q k.0) (drawn_graph v h).marks (m.1 (d, record { forward = f; low = refl; high = refl; curve = k.1 })))

  -- of a dart and its twin one is forward
  dart_edge : (d : DartId) → HasDart v d → Member (edge_in v d) mark_edges
  dart_edge d has =
      ⊎_elim (λ f. forward_edge d (has, f))
      (λ f. subst (λ e. Member e mark_edges) (ap (λ k. k.edge) (twin_dart v s d has)) (forward_edge (twin_in v d) (s.twinned.has d has, twins_are_directed v s d has ∙ ap not f)))
      (decide (is_forward v d))

  same_edges : edges (drawn_graph v h) ≡ (skeleton_of v).edges
  unfolding edges
  same_edges =
      ascending_same edge_cmp edge_cmp_total mark_edges (row_edges v) (λ e f a b k. edge_cmp_exact e f k)
      (λ e k.
      let m = of_map edge_of e (drawn_graph v h).marks k in
      let d = ((graphs_hold v h s).marks m.0).0 m.1 in
      subst (λ f. Member f (row_edges v)) (sym (m.2 ∙ mark_edge v h m.0 d.0 d.1)) (edge_row v d.0 d.1.forward.0))
      (λ e k. let d = row_edge v e k in subst (λ f. Member f mark_edges) (sym d.2) (dart_edge d.0 d.1))

  graph_is_drawn : skeleton (drawn_graph v h) ≡ skeleton_of v
  unfolding drawn_graph
  graph_is_drawn = λ i. record { vertices = (skeleton_of v).vertices; edges = same_edges i }

  graph_is_listed : IsListed (drawn_graph v h)
  unfolding drawn_graph
  graph_is_listed = record {
    points_ascend = IsAscending-ascending point_cmp point_cmp_total _;
    marks_ascend = IsAscending-ascending mark_cmp mark_cmp_total _;
    proper = λ x m. let w = ((graphs_hold v h s).points x).0 m in subst IsProper w.1.at (s.drawn.proper w.0 w.1.has);
  }

pub graphs_are_drawn : GraphsAreDrawn
graphs_are_drawn v h s c = graph_is_drawn v h s c

pub graphs_are_plane : GraphsArePlane
graphs_are_plane v h s c = plane_by_skeleton (drawn_graph v h) (graph_is_listed v h s c) (subst IsPlaneSkeleton (sym (graph_is_drawn v h s c)) s.plane)

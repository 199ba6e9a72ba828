-- What lists in memory draw: the graph of a present, the lines of its edges, and the skeleton that rows are of.
use Rattle.std.proofs.Common.{◌≡◌, true, sym, ap, subst, ◌∙◌, List, map}
use Rattle.exact_plane.specs.Line.{IsOn}
use Rattle.exact_plane.specs.Point.{Point}
use Rattle.exact_plane.specs.Segment.{line_of_segment}
use Rattle.exact_plane.specs.Span.{Span}
use Rattle.exact_plane.specs.PointOrderLaws.{and_true}
use Rattle.plane_graphs.specs.Ascending.{Member}
use Rattle.plane_graphs.specs.Fit.{IsFit}
use Rattle.plane_graphs.specs.Graph.{graph, vertices, edges}
use Rattle.plane_graphs.specs.Line.{IsProperLine}
use Rattle.plane_graphs.specs.Meaning.{IsEdgeOf}
use Rattle.plane_graphs.specs.Piece.{Piece, Present, on, along}
use Rattle.plane_graphs.specs.Plane.{IsPlane}
use Rattle.plane_graphs.proofs.Lines.{zero_out, segment_line}
use Rattle.plane_graphs.proofs.Lists.{in_map}
use Rattle.plane_graphs.proofs.Meaning.{edges_are}
use Rattle.plane_graphs.proofs.Vertices.{proper_piece}
use Rattle.slab_laws.specs.SpansDrawn.{edge_of, drawn}
use Rattle.slab_laws.specs.Skeleton as counted
use Rattle.slab_laws.specs.Skeleton.{Skeleton}
use Rattle.slab_laws.specs.Text.{skeleton}
use Rattle.slab_faces.proofs.PlaneGraphs.{counts}
use Rattle.present_graphs.specs.Edges.{AreAlongPieces}
use Rattle.present_graphs.specs.declared.marks.Mark.{Mark}
use Rattle.present_graphs.specs.Marks.{mark_of}
use Rattle.subdivision_rows.specs.Listed.{Drawing, skeleton_in, AreLinesOf}
use Rattle.subdivision_rows.specs.GraphInMemory.{graph_in, drawing_in}
use Rattle.subdivision_rows.specs.RowsInMemory.{drawing_of, AreSoundRows}
use Rattle.subdivision_rows.specs.declared.lists.RowLists.{RowLists}
use Rattle.subdivision_rows.proofs.SpanLines.{IsAlongLine, lines_by_spans}

-- what is drawn in memory is the skeleton of the graph
pub drawn_is : (vs : List Point) (ms : List Mark) (ps : List Point) (ss : List Span) → map edge_of ss ≡ edges (graph_in vs ms ps) → drawn vs ss ≡ skeleton (graph_in vs ms ps)
drawn_is vs ms ps ss e = λ i. record { vertices = vs; edges = e i }

pub plane_is : (vs : List Point) (ms : List Mark) (ps : List Point) (ss : List Span) → IsPlane (graph_in vs ms ps) → map edge_of ss ≡ edges (graph_in vs ms ps) → counted.IsPlaneSkeleton (drawn vs ss)
plane_is vs ms ps ss pl e = subst counted.IsPlaneSkeleton (sym (drawn_is vs ms ps ss e)) (counts (graph_in vs ms ps) pl)

-- ---- lines
on_line : (k : Piece) (x : Point) → on k x ≡ true → IsOn (line_of_segment k.segment) x
unfolding on along
on_line k x h = zero_out _ (and_true (along k x) _ h).0

module _ (p : Present) (vs : List Point) (ms : List Mark) (ps : List Point) (ss : List Span) (is : graph_in vs ms ps ≡ graph p) (are : map edge_of ss ≡ edges (graph p)) (along : AreAlongPieces p ss) (fit : IsFit p) where
  -- it lies on the line of the piece that holds its edge
  span_line : (s : Span) → Member s ss → IsAlongLine s
  span_line s m =
      let i : IsEdgeOf p s.lower s.upper = (edges_are p (edge_of s)).0 (subst (Member (edge_of s)) are (in_map edge_of s ss m)) in
      let l : s.line ≡ line_of_segment i.piece.segment = along s m i.piece i.piece_in i.on_first i.on_last in
      record {
        is_line = subst IsProperLine (sym l) (segment_line i.piece (proper_piece i.piece (fit.piece i.piece i.piece_in)));
        lower_on = subst (λ l. IsOn l s.lower) (sym l) (on_line i.piece s.lower i.on_first);
        upper_on = subst (λ l. IsOn l s.upper) (sym l) (on_line i.piece s.upper i.on_last);
      }

  pub lines_are : AreLinesOf (drawing_in vs ms ps ss)
  lines_are = lines_by_spans (graph_in vs ms ps) ss (are ∙ ap edges (sym is)) span_line

-- ---- the graph of a present
pub graph_is : (p : Present) (vs : List Point) (ms : List Mark) (ps : List Point) → vs ≡ vertices p → map mark_of ms ≡ (graph p).marks → ps ≡ p.pins → graph_in vs ms ps ≡ graph p
unfolding graph
graph_is p vs ms ps a b c = λ i. record { points = a i; marks = b i; pins = c i }

-- ---- what the lists of rows draw
module _ (a : RowLists) (d : Drawing) (k : AreSoundRows a) (is : drawing_of a ≡ d) where
  pub drawn_here : drawn a.points.items a.edges.items ≡ skeleton_in d
  drawn_here = drawn_is a.points.items a.marks.items a.pins.items a.edges.items k.edges_are ∙ ap skeleton_in is

  pub plane_here : counted.IsPlaneSkeleton (drawn a.points.items a.edges.items)
  plane_here = plane_is a.points.items a.marks.items a.pins.items a.edges.items k.plane k.edges_are

  pub points_here : a.points.items ≡ d.graph.points
  points_here = ap (λ (d : Drawing). d.graph.points) is

  pub edges_here : map edge_of a.edges.items ≡ (skeleton_in d).edges
  edges_here = ap (λ (g : Skeleton). g.edges) drawn_here

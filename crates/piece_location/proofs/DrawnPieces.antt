-- The edges of records and the pieces that they draw, about a point at which no vertex is.
use Rattle.std.proofs.Common.{◌≡◌, ◌≢◌, refl, sym, ap, subst, ⊎_elim}
use Rattle.exact_plane.specs.Point.{Point}
use Rattle.plane_graphs.specs.Ascending.{Member}
use Rattle.plane_graphs.specs.Graph.{Edge, Mark, mark, graph, marks, vertices}
use Rattle.plane_graphs.specs.Line.{IsProper}
use Rattle.plane_graphs.specs.Piece.{Piece, Present}
use Rattle.plane_graphs.proofs.Lines.{along_out}
use Rattle.plane_graphs.proofs.Lists.{decide, some_of}
use Rattle.plane_graphs.proofs.Order.{Lt, lt_in, lt_out}
use Rattle.slab_laws.specs.declared.names.DartId.{DartId}
use Rattle.slab_laws.specs.declared.names.VertexId.{VertexId}
use Rattle.slab_laws.specs.Sound.{edge_in}
use Rattle.slab_laws.specs.View.{View, HasDart, HasVertex, point_in, source_in, target_in, twin_in}
use Rattle.slab_faces.proofs.InnerPoints.{before_in, before_out}
use Rattle.arr_notes.specs.Curves.{Curves, IsForward, is_forward}
use Rattle.arr_notes.specs.RecordGraph.{drawn_graph}
use Rattle.sound_views.specs.ForwardDarts.{IsForwardOf}
use Rattle.sound_views.proofs.ForwardDarts.{is_ahead, is_behind, target_has}
use Rattle.sound_views.proofs.GraphDrawn.{between_forward}
use Rattle.sound_views.proofs.GraphHolds.{graphs_hold}
use Rattle.edge_predicates.specs.Highest.{IsSpanning}
use Rattle.piece_location.specs.Drawn.{IsAlongPiece, IsDrawnFrom}
use Rattle.piece_location.specs.Heights.{ends_of, line_of, IsOnLine}
use Rattle.piece_location.proofs.Covers.{edge_held, held_between, on_each, piece_covered}

module _ (v : View) (h : Curves) (p : Present) (drawn : IsDrawnFrom v h p) where
  pub points_are : (drawn_graph v h).points ≡ vertices p
  unfolding graph
  points_are = ap (λ g. g.points) drawn.stands

  pub marks_are : (drawn_graph v h).marks ≡ marks (vertices p) p.pieces
  unfolding graph
  marks_are = ap (λ g. g.marks) drawn.stands

  abbrev low : DartId → Point
  low d = point_in v (source_in v d)

  abbrev high : DartId → Point
  high d = point_in v (target_in v d)

  pub low_proper : (d : DartId) → HasDart v d → IsProper (low d)
  low_proper d has = drawn.sound.drawn.proper _ (drawn.sound.linked.source d has)

  pub high_proper : (d : DartId) → HasDart v d → IsProper (high d)
  high_proper d has = drawn.sound.drawn.proper _ (target_has v drawn.sound d has)

  -- a curve's mark along a forward dart is one of the present's
  pub mark_there : (d : DartId) (c : _) → IsForward v d → Member c (h d) → Member (mark (low d) (high d) c) (marks (vertices p) p.pieces)
  mark_there d c f m = subst (Member (mark (low d) (high d) c)) marks_are (((graphs_hold v h drawn.sound).marks (mark (low d) (high d) c)).1 (d, record { forward = f; low = refl; high = refl; curve = m }))

  pub edge_ahead : (d : DartId) → IsForward v d → edge_in v d ≡ record { low = low d; high = high d }
  edge_ahead d f = between_forward (low d) (high d) f.1

  -- one of the two darts along an edge goes forward
  pub forward_of : (d : DartId) → HasDart v d → (r : DartId) × IsForwardOf v d r
  forward_of d has = ⊎_elim (λ f. (d, is_ahead v drawn.sound d has f)) (λ f. (twin_in v d, is_behind v drawn.sound d has f (twin_in v d) refl)) (decide (is_forward v d))

  -- the edges of a piece's curve are on the piece's line
  pub edge_on_line : (k : Piece) → Member k p.pieces → (d : DartId) → IsForward v d → Member k.curve (h d) → IsOnLine (line_of k) (edge_in v d)
  edge_on_line k here d f m =
      let a = on_each p drawn.fit drawn.one_side (mark (low d) (high d) k.curve) (mark_there d k.curve f m) k here refl in
      subst (IsOnLine (line_of k)) (sym (edge_ahead d f)) (record { low_on = along_out k (low d) a.0; high_on = along_out k (high d) a.1 })

  module _ (q : Point) (Q : IsProper q) where
    -- an edge that has the point between its ends is on a piece that has it so too
    pub record HasPieceOf (e : Edge) (k : Piece) : Type 0 where
      pub here : Member k p.pieces
      pub spanning : IsSpanning (ends_of k) q
      pub on_line : IsOnLine (line_of k) e

    ahead_has_piece : (d : DartId) → IsForward v d → IsSpanning (edge_in v d) q → (k : Piece) × HasPieceOf (edge_in v d) k
    ahead_has_piece d f s =
        let e = edge_ahead d f in
        let t : IsSpanning (record { low = low d; high = high d }) q = subst (λ (x : Edge). IsSpanning x q) e s in
        let c = some_of (h d) (drawn.some d f) in
        let m : Mark = mark (low d) (high d) c.0 in
        let w = edge_held p drawn.fit m (mark_there d c.0 f c.1) in
        let k = w.0 in
        let b = held_between p drawn.fit m k q w.1 (record { from = before_out (low d) q (low_proper d f.0) Q t.from; to = before_out q (high d) Q (high_proper d f.0) t.to }) in
        let fit = drawn.fit.piece k w.1.here in (
          k,
          record {
            here = w.1.here;
            spanning = record { from = before_in k.from q fit.from Q b.0; to = before_in q k.to Q fit.to b.1 };
            on_line = subst (IsOnLine (line_of k)) (sym e) (record { low_on = along_out k (low d) w.1.low_on.line; high_on = along_out k (high d) w.1.high_on.line });
          },
        )

    pub edge_has_piece : (d : DartId) → HasDart v d → IsSpanning (edge_in v d) q → (k : Piece) × HasPieceOf (edge_in v d) k
    edge_has_piece d has s =
        let r = forward_of d has in
        let w = ahead_has_piece r.0 r.1.forward (subst (λ (x : Edge). IsSpanning x q) (sym r.1.edge) s) in
        (w.0, subst (λ (x : Edge). HasPieceOf x w.0) r.1.edge w.1)

    pub along_spans : (k : Piece) (d : DartId) → IsAlongPiece v h k q d → IsSpanning (edge_in v d) q
    along_spans k d a = subst (λ (x : Edge). IsSpanning x q) (sym (edge_ahead d a.forward)) (record { from = before_in (low d) q (low_proper d a.forward.0) Q (lt_out (low d) q a.from); to = before_in q (high d) Q (high_proper d a.forward.0) (lt_out q (high d) a.to) })

    -- and a piece that has the point between its ends has such an edge, where no vertex is at the point
    pub piece_has_edge : ((w : VertexId) → HasVertex v w → point_in v w ≢ q) → (k : Piece) → Member k p.pieces → IsSpanning (ends_of k) q → (d : DartId) × IsAlongPiece v h k q d
    piece_has_edge free k here s =
        let fit = drawn.fit.piece k here in
        let c = piece_covered p drawn.fit k here q (before_out k.from q fit.from Q s.from) (before_out q k.to Q fit.to s.to) (λ m. no_vertex m) in
        let m = c.0 in
        let d = ((graphs_hold v h drawn.sound).marks m).0 (subst (Member m) (sym marks_are) c.1) in (
          d.0,
          record {
            forward = d.1.forward;
            runs = subst (λ z. Member z (h d.0)) c.2 d.1.curve;
            from = lt_in (subst (λ x. Lt x q) (sym d.1.low) c.3.from);
            to = lt_in (subst (λ x. Lt q x) (sym d.1.high) c.3.to);
          },
        )
      where
        no_vertex : Member q (vertices p) → ⊥
        no_vertex m = let w = ((graphs_hold v h drawn.sound).points q).0 (subst (Member q) (sym points_are) m) in free w.0 w.1.has w.1.at

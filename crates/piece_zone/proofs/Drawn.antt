-- The edges of records along the pieces that they draw.
use Rattle.std.proofs.Common.{◌≡◌, sym, subst}
use Rattle.exact_plane.specs.Point.{Point}
use Rattle.plane_graphs.specs.Ascending.{Member}
use Rattle.plane_graphs.specs.Graph.{Mark, mark, vertices}
use Rattle.plane_graphs.specs.Line.{IsProperLine}
use Rattle.plane_graphs.specs.Piece.{Piece, Present}
use Rattle.plane_graphs.proofs.Lines.{along_out, segment_line}
use Rattle.plane_graphs.proofs.Lists.{some_of}
use Rattle.plane_graphs.proofs.Marks.{Le, On}
use Rattle.plane_graphs.proofs.Order.{Lt, lt_out}
use Rattle.plane_graphs.proofs.Vertices.{proper_piece}
use Rattle.slab_laws.specs.declared.names.DartId.{DartId}
use Rattle.slab_laws.specs.declared.names.VertexId.{VertexId}
use Rattle.slab_laws.specs.View.{View, HasDart, HasVertex, point_in, source_in, target_in, line_in}
use Rattle.arr_notes.specs.Curves.{Curves, IsForward}
use Rattle.sound_views.specs.ForwardDarts.{IsForwardOf}
use Rattle.sound_views.proofs.GraphHolds.{graphs_hold}
use Rattle.piece_location.specs.Drawn.{IsDrawnFrom}
use Rattle.piece_location.specs.Heights.{line_of}
use Rattle.piece_location.proofs.Covers.{edge_held, on_each}
use Rattle.piece_location.proofs.DrawnPieces.{forward_of, high_proper, low_proper, mark_there, marks_are, points_are}
use Rattle.zone_walk.proofs.Courses.{one_by_two}
use Rattle.piece_zone.proofs.Led.{from_there, piece_led, to_there}

module _ (v : View) (h : Curves) (p : Present) (drawn : IsDrawnFrom v h p) where
  abbrev low : DartId → Point
  low d = point_in v (source_in v d)

  abbrev high : DartId → Point
  high d = point_in v (target_in v d)

  -- ---- a piece
  module _ (k : Piece) (here : Member k p.pieces) where
    pub piece_line : IsProperLine (line_of k)
    piece_line = segment_line k (proper_piece k (drawn.fit.piece k here))

    -- the edges of its curve have its line
    pub edge_line : (d : DartId) → IsForward v d → Member k.curve (h d) → line_in v d ≡ line_of k
    edge_line d f m =
        let a = on_each p drawn.fit drawn.one_side (mark (low d) (high d) k.curve) (mark_there v h p drawn d k.curve f m) k here (λ i. k.curve) in
        one_by_two (line_in v d) (line_of k) (low d) (high d) (drawn.sound.drawn.line d f.0) piece_line (low_proper v h p drawn d f.0) (high_proper v h p drawn d f.0) (lt_out (low d) (high d) f.1)
        (drawn.sound.drawn.starts d f.0) (along_out k (low d) a.0) (drawn.sound.drawn.ends d f.0) (along_out k (high d) a.1)

    -- an edge of its curve leads to each point between its ends, and to the upper one
    pub dart_led : (q : Point) → Lt k.from q → Le q k.to → (d : DartId) × IsForward v d × Member k.curve (h d) × Lt (low d) q × Le q (high d)
    dart_led q l u =
        let c = piece_led p drawn.fit k here q l u in
        let m = c.0 in
        let d = ((graphs_hold v h drawn.sound).marks m).0 (subst (Member m) (sym (marks_are v h p drawn)) c.1) in
        (d.0, d.1.forward, subst (λ z. Member z (h d.0)) c.2 d.1.curve, subst (λ x. Lt x q) (sym d.1.low) c.3.from, subst (λ x. Le q x) (sym d.1.high) c.3.upto)

    vertex_of : (x : Point) → Member x (vertices p) → (w : VertexId) × HasVertex v w × (point_in v w ≡ x)
    vertex_of x m = let w = ((graphs_hold v h drawn.sound).points x).0 (subst (Member x) (sym (points_are v h p drawn)) m) in (w.0, w.1.has, w.1.at)

    -- both ends are vertices
    pub from_vertex : (w : VertexId) × HasVertex v w × (point_in v w ≡ k.from)
    from_vertex = vertex_of k.from (from_there p drawn.fit k here)

    pub to_vertex : (w : VertexId) × HasVertex v w × (point_in v w ≡ k.to)
    to_vertex = vertex_of k.to (to_there p drawn.fit k here)

  -- ---- each edge is on a piece of a curve that runs along it
  pub record IsHeldBy (d r : DartId) (k : Piece) : Type 0 where
    pub here : Member k p.pieces
    pub forward : IsForwardOf v d r
    pub runs : Member k.curve (h r)
    pub low_on : On k (low r)
    pub high_on : On k (high r)

  pub edge_holder : (d : DartId) → HasDart v d → (r : DartId) × (k : Piece) × IsHeldBy d r k
  edge_holder d has =
      let r = forward_of v h p drawn d has in
      let c = some_of (h r.0) (drawn.some r.0 r.1.forward) in
      let m : Mark = mark (low r.0) (high r.0) c.0 in
      let w = edge_held p drawn.fit m (mark_there v h p drawn r.0 c.0 r.1.forward c.1) in
      (r.0, w.0, record { here = w.1.here; forward = r.1; runs = subst (λ z. Member z (h r.0)) w.1.curve c.1; low_on = w.1.low_on; high_on = w.1.high_on })

-- A piece has a stretch along an edge of the whole where it holds both ends of the edge.
use Rattle.std.proofs.Common.{◌≡◌, ℕ, ◌+◌, ◌<◌, true, arith, sym, ◌∙◌, subst, length, map, Less}
use Rattle.std.proofs.lemmas.Bool.{and_parts}
use Rattle.std.proofs.lemmas.List.{length-map}
use Rattle.exact_plane.specs.Point.{Point}
use Rattle.exact_plane.specs.PointOrder.{point_cmp}
use Rattle.exact_plane.specs.Span.{Span, LiesOn}
use Rattle.plane_graphs.specs.Ascending.{Member}
use Rattle.plane_graphs.specs.Fit.{IsFit}
use Rattle.plane_graphs.specs.Graph.{graph, mark_cmp, vertices}
use Rattle.plane_graphs.specs.Piece.{Piece, Present, on}
use Rattle.plane_graphs.proofs.Ascending.{ascending-Member}
use Rattle.plane_graphs.proofs.Edges.{next_on_piece}
use Rattle.plane_graphs.proofs.Lines.{geometry}
use Rattle.plane_graphs.proofs.Lists.{and_in, in_map}
use Rattle.plane_graphs.proofs.Marks.{on_out, mark_out}
use Rattle.plane_graphs.proofs.Order.{mark_cmp_total, mark_cmp_exact}
use Rattle.plane_graphs.proofs.Vertices.{vertices_closed}
use Rattle.present_graphs.specs.Spans.{span_of_piece}
use Rattle.present_graphs.proofs.OnSpans.{on_lies, lies_on_piece}
use Rattle.slab_laws.specs.Overlay.{runs_along}
use Rattle.sweep_events.specs.Events.{IsEvent}
use Rattle.sweep_events.specs.Places.{piece_at}
use Rattle.sweep_events.proofs.EventsAndVertices.{piece_of}
use Rattle.sweep_graphs.specs.declared.edges.EdgeEnds.{EdgeEnds}
use Rattle.sweep_graphs.specs.declared.trace.Stretch.{Stretch}
use Rattle.sweep_graphs.specs.declared.trace.Trace.{Trace}
use Rattle.sweep_graphs.specs.Edges.{ends_of, edge_between, mark_along}
use Rattle.sweep_graphs.specs.TraceLaws.{IsTraceOf}
use Rattle.sweep_graphs.specs.Traces.{point_at, IsStep, IsTrace}
use Rattle.sweep_graphs.proofs.EdgeOrders.{one_place}
use Rattle.overlay_sweep.specs.LayerGraphs.{ArePiecesFrom}
use Rattle.overlay_sweep.specs.PiecesAlong.{IsAlongSome, IsPieceAlong}

module _ (w : Present) (fit : IsFit w) (t : Trace) (h : IsTrace (map span_of_piece w.pieces) w.pins t) (g : IsTraceOf w t) where
  abbrev piece : ℕ → Span
  piece i = piece_at (map span_of_piece w.pieces) i

  abbrev Event : Point → Type 0
  Event r = IsEvent (piece_at (map span_of_piece w.pieces)) (length (map span_of_piece w.pieces)) w.pins r

  vertex_of : (r : Point) → Event r → Member r (vertices w)
  vertex_of r e = subst (Member r) g.points ((h.points_are r).1 e)

  -- a piece with a stretch along an edge holds its ends
  pub holds_ends : (e : EdgeEnds) (j : ℕ) → IsPieceAlong t.stretches e j → LiesOn (piece j) (point_at t.points e.low) × LiesOn (piece j) (point_at t.points e.high)
  holds_ends e j a =
      let s = (h.sound a.0 a.1).step in
      let at : (i : ℕ) (d : EdgeEnds) → Type 0 = λ i d. LiesOn (piece i) (point_at t.points d.low) × LiesOn (piece i) (point_at t.points d.high) in
      subst (λ i. at i e) a.3 (subst (λ d. at a.0.piece d) a.2 (s.first.1, s.second.1))

  -- between the ends of a stretch no event is on a piece that holds both
  module _ (s : Stretch) (m : Member s t.stretches) (j : ℕ) (within : j < length (map span_of_piece w.pieces)) (low : LiesOn (piece j) (point_at t.points s.low)) (high : LiesOn (piece j) (point_at t.points s.high)) where
    abbrev p : Point
    p = point_at t.points s.low

    abbrev q : Point
    q = point_at t.points s.high

    mark_there : Member (mark_along w t.points s) (graph w).marks
    mark_there = subst (Member (mark_along w t.points s)) g.marks (ascending-Member mark_cmp mark_cmp_total (mark_along w t.points s) (map (mark_along w t.points) t.stretches) (λ x y _ _ e. mark_cmp_exact x y e) (in_map (mark_along w t.points) s t.stretches m))

    none : (r : Point) → Event r → LiesOn (piece j) r → point_cmp p r ≡ Less → point_cmp r q ≡ Less → ⊥
    unfolding graph
    none r R on_r x y =
        let k = piece_of w.pieces j within in
        let holds : (v : Point) → LiesOn (piece j) v → on k.0 v ≡ true = λ v l. lies_on_piece k.0 v (subst (λ (z : Span). LiesOn z v) k.2 l) in
        let cl = vertices_closed geometry w fit in
        let next = next_on_piece (vertices w) w.pieces cl (mark_along w t.points s) (mark_out (vertices w) w.pieces (mark_along w t.points s) mark_there) k.0 k.1 (on_out k.0 p (holds p low)) (on_out k.0 q (holds q high)) in
        next.none r (vertex_of r R) (record { is = x }) (record { is = y }) (on_out k.0 r (holds r on_r)).line

    step_there : IsStep (piece_at (map span_of_piece w.pieces)) (length (map span_of_piece w.pieces)) w.pins j p q
    step_there = let S = (h.sound s m).step in record { within = within; first = (S.first.0, low); second = (S.second.0, high); ahead = S.ahead; none = λ r R x y. none r R.0 R.1 x y }

    -- so it has a stretch between them
    stretch_there : IsPieceAlong t.stretches (ends_of s) j
    stretch_there =
        let u = h.complete j p q step_there in
        let U = h.sound u.0 u.1 in
        let S = h.sound s m in
        let a = one_place t.points h.ascends u.0.low s.low U.low_in S.low_in u.3 in
        let b = one_place t.points h.ascends u.0.high s.high U.high_in S.high_in u.4 in
        (u.0, u.1, λ i. record { low = a i; high = b i }, u.2)

  -- a piece that holds the ends of an edge has a stretch along it
  pub along_there : (e : EdgeEnds) (j : ℕ) → IsAlongSome t.stretches e → j < length (map span_of_piece w.pieces) → LiesOn (piece j) (point_at t.points e.low) → LiesOn (piece j) (point_at t.points e.high) → IsPieceAlong t.stretches e j
  along_there e j a within low high =
      let low' = subst (λ (d : EdgeEnds). LiesOn (piece j) (point_at t.points d.low)) (sym a.2) low in
      let high' = subst (λ (d : EdgeEnds). LiesOn (piece j) (point_at t.points d.high)) (sym a.2) high in
      subst (λ (d : EdgeEnds). IsPieceAlong t.stretches d j) a.2 (stretch_there a.0 a.1 j within low' high')

  -- ---- the pieces of a layer
  module _ (layer : Present) (first : ℕ) (from : ArePiecesFrom first layer w) (e : EdgeEnds) (i : ℕ) (within : i < length layer.pieces) (k : Piece) (is : piece_at (map span_of_piece layer.pieces) i ≡ span_of_piece k) where
    span_is : piece (first + i) ≡ span_of_piece k
    span_is = from.same i within ∙ is

    -- one of them runs along an edge where a stretch of it does
    pub runs_there : IsPieceAlong t.stretches e (first + i) → runs_along (edge_between t.points e) k ≡ true
    runs_there a =
        let l = holds_ends e (first + i) a in
        let holds : (v : Point) → LiesOn (piece (first + i)) v → on k v ≡ true = λ v o. lies_on_piece k v (subst (λ (z : Span). LiesOn z v) span_is o) in
        and_in (holds (point_at t.points e.low) l.0) (holds (point_at t.points e.high) l.1)

    -- and a stretch of it does where it runs along the edge
    pub own_there : IsAlongSome t.stretches e → runs_along (edge_between t.points e) k ≡ true → IsPieceAlong t.stretches e (first + i)
    own_there a r =
        let b = and_parts (on k (point_at t.points e.low)) (on k (point_at t.points e.high)) r in
        let lies : (v : Point) → on k v ≡ true → LiesOn (piece (first + i)) v = λ v o. subst (λ (z : Span). LiesOn z v) (sym span_is) (on_lies k v o) in
        let n = length-map w.pieces span_of_piece in
        let f = from.within in
        along_there e (first + i) a (omega arith) (lies (point_at t.points e.low) b.0) (lies (point_at t.points e.high) b.1)

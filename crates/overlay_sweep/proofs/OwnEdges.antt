-- Of an edge of the whole that lies on a piece of a layer: the layer's own edge that it lies on, and the pieces that run along it.
use Rattle.std.proofs.Common.{◌≡◌, ℕ, ◌+◌, ◌<◌, Bool, true, false, arith, ap, ◌∙◌, subst, sym, inl, inr, length, map, get_or, Contains}
use Rattle.std.specs.Prelude.{◌⊎◌, not, ◌&&◌}
use Rattle.std.proofs.lemmas.Bool.{cases_lt}
use Rattle.std.proofs.lemmas.List.{get_or-map, length-map}
use Rattle.exact_plane.specs.Line.{Line}
use Rattle.exact_plane.specs.Point.{Point}
use Rattle.exact_plane.specs.PointOrderLaws.{and_true}
use Rattle.exact_plane.specs.Span.{Span, LiesOn}
use Rattle.integers.proofs.Tests.{not_true}
use Rattle.plane_graphs.specs.Ascending.{Member, IsAscending}
use Rattle.plane_graphs.specs.Fit.{IsFit}
use Rattle.plane_graphs.specs.Graph.{Edge, graph, edges, vertices, collinear}
use Rattle.plane_graphs.specs.Line.{IsProper, precedes}
use Rattle.plane_graphs.specs.Meaning.{IsVertexOf, IsEdgeOf}
use Rattle.plane_graphs.specs.Piece.{Piece, Present, along, on}
use Rattle.plane_graphs.proofs.Ascending.{IsAscending-ascending, to_member}
use Rattle.plane_graphs.proofs.Closed.{IsClosed, IsLast, IsFirst, last_passing, first_passing}
use Rattle.plane_graphs.proofs.Lines.{geometry}
use Rattle.plane_graphs.proofs.Lists.{and_in, any_in, any_out, decide, in_map, of_map, of_ascending, in_ascending}
use Rattle.plane_graphs.proofs.Marks.{Le, on_in, on_out, on_between, le_in, le_out, le_same, le_lt, le_trans, le_lt_lt, lt_le_lt}
use Rattle.plane_graphs.proofs.Meaning.{vertices_are, edges_are}
use Rattle.plane_graphs.proofs.Order.{Lt, lt_in, lt_out, lt_trans}
use Rattle.plane_graphs.proofs.Sorting.{member_at}
use Rattle.plane_graphs.proofs.Vertices.{vertices_closed}
use Rattle.present_graphs.specs.Spans.{span_of_piece}
use Rattle.present_graphs.proofs.OnSpans.{on_lies, lies_on_piece}
use Rattle.slab_laws.specs.Overlay.{plane_of, runs_along, has_curve_along}
use Rattle.slab_laws.specs.Rows.{edge_place}
use Rattle.slab_laws.specs.Skeleton.{same_edge}
use Rattle.slab_faces.proofs.Places.{edges_exact}
use Rattle.dart_orbits.proofs.Placed.{place_within, at_place}
use Rattle.sweep_events.specs.Places.{piece_at}
use Rattle.sweep_events.proofs.EventSteps.{not_both}
use Rattle.sweep_events.proofs.EventsAndVertices.{piece_of, place_of}
use Rattle.sweep_graphs.specs.declared.edges.EdgeEnds.{EdgeEnds}
use Rattle.sweep_graphs.specs.declared.trace.Stretch.{Stretch}
use Rattle.sweep_graphs.specs.Edges.{ends_of, ends_cmp, stretch_cmp, edge_between}
use Rattle.sweep_graphs.specs.Traces.{point_at, no_point, IsStep}
use Rattle.sweep_graphs.proofs.EdgeOrders.{ends_cmp_total, ends_cmp_exact, stretch_cmp_total, stretch_cmp_exact, one_place}
use Rattle.overlay_sweep.specs.declared.graphs.LayerGraph.{LayerGraph}
use Rattle.overlay_sweep.specs.LayerGraphs.{IsLayerGraph, ArePiecesFrom}
use Rattle.overlay_sweep.specs.PiecesAlong.{IsAlongSome, IsPieceAlong}
use Rattle.overlay_sweep.proofs.OwnLines.{IsUpon}
use Rattle.overlay_sweep.proofs.OwnSteps.{point_upto, stretch_to}
use Rattle.overlay_sweep.proofs.RunsAlong.{own_there}

-- an edge for the places where there is none
abbrev pub no_ends : EdgeEnds
no_ends = record { low = 0; high = 0 }

-- ---- a graph's edges by their places
module _ (p : Present) (g : LayerGraph) (h : IsLayerGraph p g) where
  pub ends_in : (s : Stretch) → Member s g.trace.stretches → Member (ends_of s) g.edges.items
  ends_in s m = subst (Member (ends_of s)) (sym h.edges) (in_ascending ends_cmp ends_cmp_total ends_cmp_exact (ends_of s) (map ends_of g.trace.stretches) (in_map ends_of s g.trace.stretches m))

  -- a stretch runs along each of them
  pub some_along : (e : EdgeEnds) → Member e g.edges.items → IsAlongSome g.trace.stretches e
  some_along e m =
      let s = of_map ends_of e g.trace.stretches (of_ascending ends_cmp ends_cmp_total ends_cmp_exact e (map ends_of g.trace.stretches) (subst (Member e) h.edges m)) in
      (s.0, s.1, sym s.2)

  pub edges_told : map (edge_between g.trace.points) g.edges.items ≡ (plane_of p).edges
  edges_told = ap (map (edge_between g.trace.points)) h.edges ∙ h.graph.edges

  pub edge_at : (e : Edge) → Contains (plane_of p).edges e → (edge_place (plane_of p) e < length g.edges.items) × (e ≡ edge_between g.trace.points (get_or g.edges.items (edge_place (plane_of p) e) no_ends))
  edge_at e E =
      let f = edge_between g.trace.points in
      let k = edge_place (plane_of p) e in
      let m = to_member (edges (graph p)) e E in
      let n : length (edges (graph p)) ≡ length g.edges.items = ap length (sym edges_told) ∙ length-map g.edges.items f in
      let w : k < length g.edges.items = subst (λ z. k < z) n (place_within same_edge edges_exact (edges (graph p)) e m) in
      (w, sym (at_place same_edge edges_exact (edges (graph p)) e (f no_ends) m) ∙ ap (λ es. get_or es k (f no_ends)) (sym edges_told) ∙ get_or-map f g.edges.items k no_ends (f no_ends) w)

  -- the stretches in their order are those of the trace
  pub stretch_out : (s : Stretch) → Member s g.stretches.items → Member s g.trace.stretches
  stretch_out s m = of_ascending stretch_cmp stretch_cmp_total stretch_cmp_exact s g.trace.stretches (subst (Member s) h.stretches m)

  pub stretch_in : (s : Stretch) → Member s g.trace.stretches → Member s g.stretches.items
  stretch_in s m = subst (Member s) (sym h.stretches) (in_ascending stretch_cmp stretch_cmp_total stretch_cmp_exact s g.trace.stretches m)

  pub stretches_up : IsAscending stretch_cmp g.stretches.items
  stretches_up = subst (IsAscending stretch_cmp) (sym h.stretches) (IsAscending-ascending stretch_cmp stretch_cmp_total g.trace.stretches)

  pub vertex_at : (k : ℕ) → k < length g.trace.points → Member (point_at g.trace.points k) (vertices p)
  vertex_at k l = subst (Member (point_at g.trace.points k)) h.graph.points (member_at g.trace.points k no_point l)

-- ---- a layer's pieces in the whole
module _ (layer w : Present) (first : ℕ) (fl : IsFit layer) (fw : IsFit w) (whole : LayerGraph) (g : IsLayerGraph w whole) (part : ArePiecesFrom first layer w) where
  dl : IsClosed (vertices layer) layer.pieces
  dl = vertices_closed geometry layer fl

  cl : IsClosed (vertices w) w.pieces
  cl = vertices_closed geometry w fw

  below : (i : ℕ) → i < length (map span_of_piece layer.pieces) → i < length layer.pieces
  below i l = subst (λ n. i < n) (length-map layer.pieces span_of_piece) l

  listed : (i : ℕ) → i < length layer.pieces → i < length (map span_of_piece layer.pieces)
  listed i l = subst (λ n. i < n) (sym (length-map layer.pieces span_of_piece)) l

  beyond : (i : ℕ) → i < length layer.pieces → first + i < length (map span_of_piece w.pieces)
  beyond i l = let n = length-map w.pieces span_of_piece in let b = part.within in omega arith

  -- a piece of the layer, by its span one of the whole
  moved : (k : Piece) → Member k layer.pieces → (m : Piece) × Member m w.pieces × (span_of_piece m ≡ span_of_piece k)
  moved k K =
      let q = place_of layer.pieces k K in
      let I = below q.0 q.1 in
      let m = piece_of w.pieces (first + q.0) (beyond q.0 I) in
      (m.0, m.1, sym m.2 ∙ part.same q.0 I ∙ q.2)

  holds : (k m : Piece) → span_of_piece m ≡ span_of_piece k → (r : Point) → on k r ≡ true → on m r ≡ true
  holds k m q r h = lies_on_piece m r (subst (λ (s : Span). LiesOn s r) (sym q) (on_lies k r h))

  -- a vertex of the layer is one of the whole
  kept : (r : Point) → IsVertexOf layer r → IsVertexOf w r
  kept r (inl e) = let m = moved e.piece e.piece_in in inl (record { piece = m.0; piece_in = m.1; end = subst (λ (s : Span). (r ≡ s.lower) ⊎ (r ≡ s.upper)) (sym m.2) e.end })
  kept r (inr (inl m)) = inr (inl (part.pins r m))
  kept r (inr (inr m)) =
      let a = moved m.one m.one_in in
      let b = moved m.other m.other_in in
      let line : Span → Line = λ s. s.line in
      inr (inr (record {
        one = a.0;
        other = b.0;
        one_in = a.1;
        other_in = b.1;
        lines_differ = λ q. m.lines_differ (sym (ap line a.2) ∙ q ∙ ap line b.2);
        proper = m.proper;
        on_one = holds m.one a.0 a.2 r m.on_one;
        on_other = holds m.other b.0 b.2 r m.on_other;
      }))

  among : (r : Point) → Member r (vertices layer) → Member r whole.trace.points
  among r m = subst (Member r) (sym g.graph.points) ((vertices_are w r fw).1 (kept r ((vertices_are layer r fl).0 m)))

  -- ---- a piece of the layer
  module _ (i : ℕ) (I : i < length layer.pieces) where
    there : (k : Piece) × Member k layer.pieces × (piece_at (map span_of_piece layer.pieces) i ≡ span_of_piece k)
    there = piece_of layer.pieces i (listed i I)

    lies : (r : Point) → LiesOn (piece_at (map span_of_piece layer.pieces) i) r → on there.0 r ≡ true
    lies r h = lies_on_piece there.0 r (subst (λ (s : Span). LiesOn s r) there.2 h)

    -- ---- and an edge of the whole that it runs along
    module _ (e : EdgeEnds) (m : IsPieceAlong whole.stretches.items e (first + i)) where
      pub low_within : e.low < length whole.trace.points
      low_within = subst (λ (x : EdgeEnds). x.low < length whole.trace.points) m.2 (g.trace.sound m.0 (stretch_out w whole g m.0 m.1)).low_in

      pub high_within : e.high < length whole.trace.points
      high_within = subst (λ (x : EdgeEnds). x.high < length whole.trace.points) m.2 (g.trace.sound m.0 (stretch_out w whole g m.0 m.1)).high_in

      step : IsStep (piece_at (map span_of_piece w.pieces)) (length (map span_of_piece w.pieces)) w.pins (first + i) (point_at whole.trace.points e.low) (point_at whole.trace.points e.high)
      step =
          subst (λ (x : EdgeEnds). IsStep (piece_at (map span_of_piece w.pieces)) (length (map span_of_piece w.pieces)) w.pins (first + i) (point_at whole.trace.points x.low) (point_at whole.trace.points x.high)) m.2
          (subst (λ j. IsStep (piece_at (map span_of_piece w.pieces)) (length (map span_of_piece w.pieces)) w.pins j (point_at whole.trace.points m.0.low) (point_at whole.trace.points m.0.high)) m.3 (g.trace.sound m.0 (stretch_out w whole g m.0 m.1)).step)

      low_on : LiesOn (piece_at (map span_of_piece layer.pieces) i) (point_at whole.trace.points e.low)
      low_on = subst (λ (s : Span). LiesOn s (point_at whole.trace.points e.low)) (part.same i I) step.first.1

      high_on : LiesOn (piece_at (map span_of_piece layer.pieces) i) (point_at whole.trace.points e.high)
      high_on = subst (λ (s : Span). LiesOn s (point_at whole.trace.points e.high)) (part.same i I) step.second.1

      -- it has a curve of the layer
      pub owned : has_curve_along layer (edge_between whole.trace.points e) ≡ true
      unfolding has_curve_along
      owned = any_in (runs_along (edge_between whole.trace.points e)) there.0 layer.pieces there.1 (and_in (lies (point_at whole.trace.points e.low) low_on) (lies (point_at whole.trace.points e.high) high_on))

      -- ---- the own edge that it lies on
      abbrev a : Point
      a = point_at whole.trace.points e.low

      abbrev b : Point
      b = point_at whole.trace.points e.high

      pub ahead : Lt a b
      ahead = record { is = step.ahead }

      pub low_proper : IsProper a
      low_proper = cl.proper a (vertex_at w whole g e.low low_within)

      pub high_proper : IsProper b
      high_proper = cl.proper b (vertex_at w whole g e.high high_within)

      abbrev k : Piece
      k = there.0

      is_upto : Point → Bool
      is_upto v = on k v && not (precedes a v)

      is_beyond : Point → Bool
      is_beyond v = on k v && precedes a v

      last_upto : (x : Point) × IsLast is_upto (vertices layer) x
      unfolding is_upto
      last_upto =
          let f = k.from in
          let A = on_out k a (lies a low_on) in
          let o : on k f ≡ true = on_in k f (record { line = dl.from_on k there.1; low = le_same f; high = le_trans A.low A.high }) in
          last_passing is_upto (vertices layer) (f, dl.from_in k there.1, and_in o (le_in A.low))

      first_beyond : (x : Point) × IsFirst is_beyond (vertices layer) x
      unfolding is_beyond
      first_beyond =
          let f = k.to in
          let B = on_out k b (lies b high_on) in
          let o : on k f ≡ true = on_in k f (record { line = dl.to_on k there.1; low = le_trans B.low B.high; high = le_same f }) in
          first_passing is_beyond (vertices layer) (f, dl.to_in k there.1, and_in o (lt_in (lt_le_lt ahead B.high)))

      pub own_edge : (f : Edge) × Member f (edges (graph layer)) × IsUpon f a × IsUpon f b
      unfolding is_upto is_beyond
      own_edge =
          let x = last_upto in
          let y = first_beyond in
          let c = x.0 in
          let d = y.0 in
          let X = and_true (on k c) (not (precedes a c)) x.1.passes in
          let Y = and_true (on k d) (precedes a d) y.1.passes in
          let low : Le c a = le_out c a X.1 in
          let beyond_a : Lt a d = lt_out a d Y.1 in
          let up : Lt c d = le_lt_lt low beyond_a in
          let none : (r : Point) → Member r (vertices layer) → precedes c r ≡ true → precedes r d ≡ true → on k r ≡ false = λ r R p q. not_true (on k r) (λ o.
          elim (decide (precedes a r)) [
            | inl z ↦ (y.1.first r R (and_in o z)).never (lt_out r d q)
            | inr z ↦ (x.1.last r R (and_in o (ap not z))).never (lt_out c r p)
          ]) in
          let f : Edge = record { low = c; high = d } in
          let F : Member f (edges (graph layer)) = (edges_are layer f).1 (record { piece = k; piece_in = there.1; first = x.1.here; last = y.1.here; forward = lt_in up; on_first = X.0; on_last = Y.0; none_between = none }) in
          let event = (g.trace.points_are d).0 (among d y.1.here) in
          let at_d : LiesOn (piece_at (map span_of_piece w.pieces) (first + i)) d = subst (λ (s : Span). LiesOn s d) (sym (part.same i I ∙ there.2)) (on_lies k d Y.0) in
          let high : Le b d = record { never = λ l. step.none d (event, at_d) beyond_a.is l.is } in
          let line : (r : Point) → on k r ≡ true → IsProper r → collinear c d r ≡ true = λ r R P. (dl.straight k there.1).span c d r (dl.proper c x.1.here) (dl.proper d y.1.here) P up (on_out k c X.0).line (on_out k d Y.0).line ∙ (on_out k r R).line in
          let ab : Le a b = le_lt ahead in (
            f,
            F,
            record { low = low; high = le_trans ab high; line = line a (lies a low_on) low_proper },
            record { low = le_trans low ab; high = high; line = line b (lies b high_on) high_proper },
          )

  -- ---- an own edge
  module _ (f : Edge) (F : Member f (edges (graph layer))) where
    edge : IsEdgeOf layer f.low f.high
    edge = (edges_are layer f).0 F

    straight : (r : Point) → IsProper r → collinear f.low f.high r ≡ along edge.piece r
    straight r R = (dl.straight edge.piece edge.piece_in).span f.low f.high r (dl.proper f.low edge.first) (dl.proper f.high edge.last) R (lt_out f.low f.high edge.forward) (on_out edge.piece f.low edge.on_first).line (on_out edge.piece f.high edge.on_last).line

    -- its piece holds what is on it
    on_piece : (r : Point) → IsProper r → IsUpon f r → on edge.piece r ≡ true
    on_piece r R u = on_in edge.piece r (on_between edge.piece f.low r f.high (on_out edge.piece f.low edge.on_first) (on_out edge.piece f.high edge.on_last) u.low u.high (sym (straight r R) ∙ u.line))

    -- so an edge of the whole on it has a curve of the layer
    pub curve_there : (e : EdgeEnds) → Member e whole.edges.items → IsUpon f (point_at whole.trace.points e.low) → IsUpon f (point_at whole.trace.points e.high) → has_curve_along layer (edge_between whole.trace.points e) ≡ true
    unfolding has_curve_along
    curve_there e m x y =
        let s = some_along w whole g e m in
        let S = g.trace.sound s.0 s.1 in
        let low_in = subst (λ (d : EdgeEnds). d.low < length whole.trace.points) s.2 S.low_in in
        let high_in = subst (λ (d : EdgeEnds). d.high < length whole.trace.points) s.2 S.high_in in
        any_in (runs_along (edge_between whole.trace.points e)) edge.piece layer.pieces edge.piece_in
        (and_in (on_piece (point_at whole.trace.points e.low) (cl.proper (point_at whole.trace.points e.low) (vertex_at w whole g e.low low_in)) x) (on_piece (point_at whole.trace.points e.high) (cl.proper (point_at whole.trace.points e.high) (vertex_at w whole g e.high high_in)) y))

  -- ---- a vertex of the whole inside an own edge
  module _ (f : Edge) (F : Member f (edges (graph layer))) (v : ℕ) (V : v < length whole.trace.points) (low : Lt f.low (point_at whole.trace.points v)) (high : Lt (point_at whole.trace.points v) f.high) (line : collinear f.low f.high (point_at whole.trace.points v) ≡ true) where
    abbrev q : Point
    q = point_at whole.trace.points v

    upon_q : IsUpon f q
    upon_q = record { low = le_lt low; high = le_lt high; line = line }

    on_q : on (edge f F).piece q ≡ true
    on_q = on_piece f F q (cl.proper q (vertex_at w whole g v V)) upon_q

    -- an edge of the whole on the own edge ends there
    pub edge_to : (e : EdgeEnds) × Member e whole.edges.items × (e.high ≡ v) × (e.low < v) × IsUpon f (point_at whole.trace.points e.low) × IsUpon f q
    edge_to =
        let own = edge f F in
        let k = own.piece in
        let n = place_of layer.pieces k own.piece_in in
        let I = below n.0 n.1 in
        let same : piece_at (map span_of_piece w.pieces) (first + n.0) ≡ span_of_piece k = part.same n.0 I ∙ n.2 in
        let lies_there : (r : Point) → on k r ≡ true → LiesOn (piece_at (map span_of_piece w.pieces) (first + n.0)) r = λ r o. subst (λ (s : Span). LiesOn s r) (sym same) (on_lies k r o) in
        let s = stretch_to (map span_of_piece w.pieces) w.pins whole.trace g.trace (first + n.0) (beyond n.0 I) f.low q (among f.low own.first) (member_at whole.trace.points v no_point V) (lies_there f.low own.on_first) (lies_there q on_q) low in
        let S = g.trace.sound s.0 s.1.among in
        let x = point_at whole.trace.points s.0.low in
        let X : IsProper x = cl.proper x (vertex_at w whole g s.0.low S.low_in) in
        let on_x : on k x ≡ true = lies_on_piece k x (subst (λ (z : Span). LiesOn z x) same s.1.on) in
        let place : s.0.low < v = elim (cases_lt s.0.low v) [ inl d ↦ d | inr d ↦ absurd (not_both x q s.1.upto.is (point_upto (map span_of_piece w.pieces) w.pins whole.trace g.trace v s.0.low d S.low_in)) ] in (
          ends_of s.0,
          ends_in w whole g s.0 s.1.among,
          one_place whole.trace.points g.trace.ascends s.0.high v S.high_in V s.1.ends,
          place,
          record { low = s.1.from; high = le_lt (lt_trans s.1.upto high); line = straight f F x X ∙ (on_out k x on_x).line },
          upon_q,
        )

  -- ---- an edge of the whole that has a curve of the layer
  pub run_along_ends : (e : EdgeEnds) → Member e whole.edges.items → has_curve_along layer (edge_between whole.trace.points e) ≡ true → (i : ℕ) × (i < length layer.pieces) × IsPieceAlong whole.stretches.items e (first + i)
  unfolding has_curve_along
  run_along_ends e m own_curve =
      let x = any_out (runs_along (edge_between whole.trace.points e)) layer.pieces own_curve in
      let q = place_of layer.pieces x.0 x.1 in
      let I : q.0 < length layer.pieces = below q.0 q.1 in
      let s = own_there w fw whole.trace g.trace g.graph layer first part e q.0 I x.0 q.2 (some_along w whole g e m) x.2 in
      (q.0, I, (s.0, stretch_in w whole g s.0 s.1, s.2, s.3))

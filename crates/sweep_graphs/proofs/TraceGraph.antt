-- What a sweep leaves of a present: its vertices, its edges, and what is directly below each vertex.
use Rattle.std.proofs.Common.{◌≡◌, ℕ, pos, ◌<ℤ◌, ◌<◌, Bool, true, false, arith, refl, sym, ap, ◌∙◌, subst, inl, inr, List, [], ◌∷◌, zero, suc, length, map, Less, int_cmp, is_lt}
use Rattle.std.specs.Prelude.{not, ◌&&◌, slice_index_or, Option, Some, None}
use Rattle.std.specs.List.{Contains}
use Rattle.std.specs.Option.{option_map}
use Rattle.std.proofs.lemmas.Int.{ints}
use Rattle.std.proofs.lemmas.Bool.{false≢true, and_parts, and_from, not-true, false_from_ne_true}
use Rattle.integers.proofs.Compare.{greater_out, greater_in}
use Rattle.exact_plane.specs.Line.{side_of}
use Rattle.exact_plane.specs.Point.{Point, IsPoint}
use Rattle.exact_plane.specs.PointOrder.{point_cmp}
use Rattle.exact_plane.specs.PointOrderLaws.{point_cmp_total}
use Rattle.exact_plane.proofs.Orders.{at_most_itself, less_at_most, at_most_both}
use Rattle.slab_faces.proofs.OverUnder.{under_in, under_out}
use Rattle.edge_predicates.specs.Highest.{IsSpanning, IsHighestBelow, none_below, highest}
use Rattle.edge_predicates.specs.Levels.{IsSeen}
use Rattle.face_roots.proofs.BelowVertices.{reaching}
use Rattle.face_roots.proofs.PointOrder.{before}
use Rattle.exact_plane.specs.Span.{Span, IsSpan, LiesOn, IsAtMost}
use Rattle.plane_graphs.specs.Ascending.{Member, ascending}
use Rattle.plane_graphs.specs.Fit.{IsFit}
use Rattle.plane_graphs.specs.Graph.{Edge, Mark, graph, edges, edge_cmp, mark_cmp, vertices}
use Rattle.plane_graphs.specs.Line.{IsProper, precedes as comes_first}
use Rattle.plane_graphs.specs.Piece.{Piece, Present, on}
use Rattle.plane_graphs.proofs.Ascending.{ascending_unique, ascending_is, Member-ascending, ascending-Member, IsAscending-ascending, IsAscending-map, to_member, from_member}
use Rattle.plane_graphs.proofs.Laws.{graph_is_plane}
use Rattle.plane_graphs.proofs.Lists.{clash, in_map, of_map}
use Rattle.plane_graphs.proofs.Marks.{On, on_in, on_out, on_between, le_lt, mark_in, mark_out}
use Rattle.plane_graphs.proofs.Meaning.{edges_are, edges_ascend, edge_cmp_total, vertices_are}
use Rattle.plane_graphs.proofs.Order.{lt_in, lt_out, lt_trans, lt_never, mark_cmp_total, mark_cmp_exact}
use Rattle.plane_graphs.proofs.Sorting.{member_at}
use Rattle.plane_graphs.proofs.Vertices.{vertices_ascend}
use Rattle.present_graphs.specs.Spans.{span_of_piece, lies_on}
use Rattle.present_graphs.proofs.HoldingSpan.{graph_ascends}
use Rattle.present_graphs.proofs.OnSpans.{on_lies, lies_on_piece, lies_on_in, lies_on_out}
use Rattle.slab_laws.specs.Skeleton.{HasWeight, IsPlaneSkeleton, side, under}
use Rattle.slab_laws.specs.Text.{skeleton}
use Rattle.slab_faces.proofs.InnerPoints.{before_in}
use Rattle.slab_faces.proofs.Member.{Member as Among, in_member, member_in}
use Rattle.slab_faces.proofs.Searches.{IsBest, best_of}
use Rattle.slab_faces.proofs.PlaneGraphs.{graph_is_plane_skeleton}
use Rattle.edge_predicates.proofs.Sides.{side_same}
use Rattle.sweep_events.specs.Below.{PassesBelow, IsPieceBelow}
use Rattle.sweep_events.specs.Events.{IsEvent}
use Rattle.sweep_events.specs.Places.{piece_at, AreSpans}
use Rattle.sweep_events.proofs.EventSteps.{in_order, not_both, less_chain, chain_less}
use Rattle.sweep_events.proofs.EventsAndVertices.{piece_of, place_of, event_is_vertex, vertex_is_event, spans_of}
use Rattle.sweep_events.proofs.Queue.{event_point}
use Rattle.sweep_graphs.specs.declared.trace.OpenStretch.{OpenStretch}
use Rattle.sweep_graphs.specs.declared.trace.Trace.{Trace}
use Rattle.sweep_graphs.specs.Traces.{point_at, no_point, IsStep, IsLastOn, IsOpenBelow, IsTrace}
use Rattle.sweep_graphs.specs.declared.edges.EdgeEnds.{EdgeEnds}
use Rattle.sweep_graphs.specs.declared.trace.Stretch.{Stretch}
use Rattle.sweep_graphs.specs.Edges.{ends_of, ends_cmp, edge_between, curve_at, mark_along}
use Rattle.sweep_graphs.proofs.EdgeOrders.{ends_cmp_total, ends_cmp_exact, one_place, edges_rise}
use Rattle.sweep_graphs.specs.TraceLaws.{IsTraceOf, TracesAreGraphs, EdgesBelowAreHighest}
use Rattle.sweep_graphs.proofs.FrontEdges.{in_order_below}

-- ---- pieces by place, with their curves
curved_piece : (ks : List Piece) (i : ℕ) → i < length (map span_of_piece ks) → (k : Piece) × Member k ks × (piece_at (map span_of_piece ks) i ≡ span_of_piece k) × (slice_index_or (map (λ x. x.curve) ks) i 0 ≡ k.curve)
curved_piece [] i h = absurd (omega arith)
curved_piece (k ∷ ks) zero h = (k, inl refl, refl, refl)
curved_piece (k ∷ ks) (suc i) h = let w = curved_piece ks i (omega arith) in (w.0, inr w.1, w.2, w.3)

curved_place : (ks : List Piece) (k : Piece) → Member k ks → (i : ℕ) × (i < length (map span_of_piece ks)) × (piece_at (map span_of_piece ks) i ≡ span_of_piece k) × (slice_index_or (map (λ x. x.curve) ks) i 0 ≡ k.curve)
curved_place [] k m = elim m [ ]
curved_place (x ∷ ks) k (inl e) = (0, omega arith, ap span_of_piece (sym e), ap (λ y. y.curve) (sym e))
curved_place (x ∷ ks) k (inr m) = let w = curved_place ks k m in (suc w.0, (let l = w.1 in omega arith), w.2, w.3)

module _ (p : Present) (fit : IsFit p) (spans : AreSpans (map span_of_piece p.pieces)) (pinned : (r : Point) → Member r p.pins → IsPoint r) where
  abbrev piece : ℕ → Span
  piece i = piece_at (map span_of_piece p.pieces) i

  abbrev n : ℕ
  n = length (map span_of_piece p.pieces)

  abbrev Event : Point → Type 0
  Event r = IsEvent (piece_at (map span_of_piece p.pieces)) (length (map span_of_piece p.pieces)) p.pins r

  abbrev Step : ℕ → Point → Point → Type 0
  Step i a b = IsStep (piece_at (map span_of_piece p.pieces)) (length (map span_of_piece p.pieces)) p.pins i a b

  plane : IsPlaneSkeleton (skeleton (graph p))
  plane = graph_is_plane_skeleton (graph p) (graph_is_plane p fit)

  point_of : (r : Point) → Event r → IsPoint r
  point_of r e = event_point (piece_at (map span_of_piece p.pieces)) (length (map span_of_piece p.pieces)) p.pins spans pinned r e

  proper_of : (r : Point) → Event r → IsProper r
  proper_of r e = let k = point_of r e in record { positive = k.range.positive; lowest = k.lowest }

  -- ---- events and vertices
  vertex_of : (r : Point) → Event r → Member r (vertices p)
  vertex_of r e = (vertices_are p r fit).1 (event_is_vertex p fit (spans_of p.pieces spans) r e)

  event_of : (r : Point) → Member r (vertices p) → Event r
  event_of r m = vertex_is_event p fit (spans_of p.pieces spans) r ((vertices_are p r fit).0 m)

  points_are : (graph p).points ≡ vertices p
  unfolding graph
  points_are = refl

  there : (r : Point) → Event r → Contains (graph p).points r
  there r e = subst (λ (vs : List Point). Contains vs r) (sym points_are) (from_member (vertices p) r (vertex_of r e))

  -- ---- steps and edges
  step_edge : (i : ℕ) (a b : Point) → Step i a b → Member (record { low = a; high = b }) (edges (graph p))
  step_edge i a b s =
      let w = piece_of p.pieces i s.within in
      let k = w.0 in
      let lies : (r : Point) → LiesOn (piece i) r → on k r ≡ true = λ r h. lies_on_piece k r (subst (λ (t : Span). LiesOn t r) w.2 h) in
      (edges_are p (record { low = a; high = b })).1 (record {
        piece = k;
        piece_in = w.1;
        first = vertex_of a s.first.0;
        last = vertex_of b s.second.0;
        forward = ap is_lt s.ahead;
        on_first = lies a s.first.1;
        on_last = lies b s.second.1;
        none_between = λ r m x y. false_from_ne_true (on k r) (λ o. s.none r (event_of r m, subst (λ (t : Span). LiesOn t r) (sym w.2) (on_lies k r o)) (lt_out a r x).is (lt_out r b y).is);
      })

  edge_step : (e : Edge) → Member e (edges (graph p)) → (i : ℕ) × Step i e.low e.high
  edge_step e m =
      let h = (edges_are p e).0 m in
      let w = place_of p.pieces h.piece h.piece_in in
      let lies : (r : Point) → on h.piece r ≡ true → LiesOn (piece w.0) r = λ r o. subst (λ (t : Span). LiesOn t r) (sym w.2) (on_lies h.piece r o) in (
        w.0,
        record {
          within = w.1;
          first = (event_of e.low h.first, lies e.low h.on_first);
          second = (event_of e.high h.last, lies e.high h.on_last);
          ahead = (lt_out e.low e.high h.forward).is;
          none = λ r R x y. clash (lies_on_piece h.piece r (subst (λ (t : Span). LiesOn t r) w.2 R.1)) (h.none_between r (vertex_of r R.0) (ap is_lt x) (ap is_lt y));
        },
      )

  -- ---- steps and marks
  step_mark : (i : ℕ) (a b : Point) → Step i a b → Member (record { low = a; high = b; curve = curve_at p i }) (graph p).marks
  unfolding graph
  step_mark i a b s =
      let w = curved_piece p.pieces i s.within in
      let k = w.0 in
      let at : (r : Point) → LiesOn (piece i) r → On k r = λ r h. on_out k r (lies_on_piece k r (subst (λ (t : Span). LiesOn t r) w.2 h)) in
      let A = at a s.first.1 in
      let B = at b s.second.1 in
      mark_in (vertices p) p.pieces (record { low = a; high = b; curve = curve_at p i }) (record {
        piece = k;
        here = w.1;
        curve = w.3;
        low_in = vertex_of a s.first.0;
        high_in = vertex_of b s.second.0;
        next = record {
          lt = record { is = s.ahead };
          at_p = A;
          at_q = B;
          none = λ r m x y o. s.none r (event_of r m, subst (λ (t : Span). LiesOn t r) (sym w.2) (on_lies k r (on_in k r (on_between k a r b A B (le_lt x) (le_lt y) o)))) x.is y.is;
        };
      })

  mark_step : (m : Mark) → Member m (graph p).marks → (i : ℕ) × Step i m.low m.high × (curve_at p i ≡ m.curve)
  unfolding graph
  mark_step m h =
      let k = mark_out (vertices p) p.pieces m h in
      let w = curved_place p.pieces k.piece k.here in
      let lies : (r : Point) → On k.piece r → LiesOn (piece w.0) r = λ r o. subst (λ (t : Span). LiesOn t r) (sym w.2) (on_lies k.piece r (on_in k.piece r o)) in (
        w.0,
        record {
          within = w.1;
          first = (event_of m.low k.low_in, lies m.low k.next.at_p);
          second = (event_of m.high k.high_in, lies m.high k.next.at_q);
          ahead = k.next.lt.is;
          none = λ r R x y. k.next.none r (vertex_of r R.0) (record { is = x }) (record { is = y }) (on_out k.piece r (lies_on_piece k.piece r (subst (λ (t : Span). LiesOn t r) w.2 R.1))).line;
        },
        w.3 ∙ sym k.curve,
      )

  -- ---- an edge's span
  edge_span : (i : ℕ) (a b : Point) → Step i a b → IsSpan (record { lower = a; upper = b; line = (piece i).line })
  edge_span i a b s = record { lower = point_of a s.first.0; upper = point_of b s.second.0; line = (spans i s.within).line; way = record { ascending = s.ahead; lower_on = s.first.1.on; upper_on = s.second.1.on } }

  same_sides : (i : ℕ) (a b q : Point) → Step i a b → int_cmp (side (record { low = a; high = b }) q) (pos 0) ≡ int_cmp (side_of (piece i).line q) (pos 0)
  same_sides i a b q s = side_same (record { lower = a; upper = b; line = (piece i).line }) (edge_span i a b s) q

  up_in : (i : ℕ) (a b q : Point) → Step i a b → pos 0 <ℤ side_of (piece i).line q → pos 0 <ℤ side (record { low = a; high = b }) q
  up_in i a b q s h = greater_out (side (record { low = a; high = b }) q) (pos 0) (same_sides i a b q s ∙ greater_in (side_of (piece i).line q) (pos 0) h)

  up_out : (i : ℕ) (a b q : Point) → Step i a b → pos 0 <ℤ side (record { low = a; high = b }) q → pos 0 <ℤ side_of (piece i).line q
  up_out i a b q s h = greater_out (side_of (piece i).line q) (pos 0) (sym (same_sides i a b q s) ∙ greater_in (side (record { low = a; high = b }) q) (pos 0) h)

  module _ (q : Point) (Q : Event q) where
    W : HasWeight q
    W = (point_of q Q).range.positive

    -- ---- a step that goes past q, on a piece that passes below q, is seen from q
    seen_here : (i : ℕ) (a b : Point) → Step i a b → point_cmp a q ≡ Less → point_cmp q b ≡ Less → pos 0 <ℤ side_of (piece i).line q → IsSeen (skeleton (graph p)) q (record { low = a; high = b })
    seen_here i a b s low high up = record {
      in' = from_member (edges (graph p)) (record { low = a; high = b }) (step_edge i a b s);
      spanning = record { from = before_in a q (proper_of a s.first.0) (proper_of q Q) (record { is = low }); to = before_in q b (proper_of q Q) (proper_of b s.second.0) (record { is = high }) };
      lies_under = under_in (record { low = a; high = b }) q (up_in i a b q s up);
    }

    -- ---- an edge that is seen from q is a step of a piece that passes below q, and goes past q
    record IsPast (i : ℕ) (f : Edge) : Type 0 where
      step : Step i f.low f.high
      below : PassesBelow (piece_at (map span_of_piece p.pieces)) (length (map span_of_piece p.pieces)) q i
      low : point_cmp f.low q ≡ Less
      high : point_cmp q f.high ≡ Less

    past_of : (f : Edge) → IsSeen (skeleton (graph p)) q f → (i : ℕ) × IsPast i f
    past_of f h =
        let s = edge_step f (to_member (edges (graph p)) f h.in') in
        let l = (before f.low q (proper_of f.low s.1.first.0).positive W h.spanning.from).is in
        let k = (before q f.high W (proper_of f.high s.1.second.0).positive h.spanning.to).is in (
          s.0,
          record {
            step = s.1;
            below = (s.1.within, record { begun = less_at_most (piece s.0).lower q (chain_less (piece s.0).lower f.low q s.1.first.1.from l); unended = less_chain q f.high (piece s.0).upper k s.1.second.1.upto }, up_out s.0 f.low f.high q s.1 (under_out f q h.lies_under));
            low = l;
            high = k;
          },
        )

    -- two steps of one piece that go past q are one
    one_step : (i : ℕ) (a b c d : Point) → Step i a b → Step i c d → point_cmp a q ≡ Less → point_cmp q b ≡ Less → point_cmp c q ≡ Less → point_cmp q d ≡ Less → (a ≡ c) × (b ≡ d)
    one_step i a b c d s t aq qb cq qd = (
      at_most_both a c (elim (in_order a c) [ inl h ↦ h | inr h ↦ absurd (t.none a s.first h (less_chain a q d aq (less_at_most q d qd))) ]) (elim (in_order c a) [ inl h ↦ h | inr h ↦ absurd (s.none c t.first h (less_chain c q b cq (less_at_most q b qb))) ]),
      at_most_both b d (elim (in_order b d) [ inl h ↦ h | inr h ↦ absurd (s.none d t.second (less_chain a q d aq (less_at_most q d qd)) h) ]) (elim (in_order d b) [ inl h ↦ h | inr h ↦ absurd (t.none b s.second (less_chain c q b cq (less_at_most q b qb)) h) ]),
    )

    seen_of : (f : Edge) → Contains (skeleton (graph p)).edges f → IsSpanning f q → under f q ≡ true → IsSeen (skeleton (graph p)) q f
    seen_of f F s u = record { in' = F; spanning = s; lies_under = u }

    nothing_below : IsPieceBelow (piece_at (map span_of_piece p.pieces)) (length (map span_of_piece p.pieces)) q None → IsHighestBelow (Contains (skeleton (graph p)).edges) q None
    nothing_below h = none_below (λ f F s. false_from_ne_true (under f q) (λ u. let k = past_of f (seen_of f F s u) in h k.0 k.1.below))

    edge_below : (j : ℕ) (a b : Point) → IsPieceBelow (piece_at (map span_of_piece p.pieces)) (length (map span_of_piece p.pieces)) q (Some j) → Step j a b → point_cmp a q ≡ Less → point_cmp q b ≡ Less → IsHighestBelow (Contains (skeleton (graph p)).edges) q (Some (record { low = a; high = b }))
    edge_below j a b h s low high =
        let e : Edge = record { low = a; high = b } in
        let m = seen_here j a b s low high h.0.2 in
        highest e m.in' m.spanning m.lies_under (λ f F w u.
        let v = seen_of f F w u in
        let k = past_of f v in
        elim (h.1 k.0 k.1.below) [
          | inl i ↦
              let o = one_step j f.low f.high a b (subst (λ x. Step x f.low f.high) i k.1.step) s k.1.low k.1.high low high in
              inl (λ i. record { low = o.0 i; high = o.1 i })
          | inr i ↦ in_order_below (skeleton (graph p)) plane q (there q Q) f e F m.in' (reaching (skeleton (graph p)) q f plane (there q Q) v) (reaching (skeleton (graph p)) q e plane (there q Q) m) (piece k.0).line (piece j).line (edge_span k.0 f.low f.high k.1.step) (edge_span j a b s) k.1.below.2 k.0 j i
        ])

    -- ---- a piece that passes below q has a step that goes past q
    module _ (j : ℕ) (h : PassesBelow (piece_at (map span_of_piece p.pieces)) (length (map span_of_piece p.pieces)) q j) where
      low_test : Point → Bool
      low_test v = lies_on (piece j) v && not (comes_first q v)

      high_test : Point → Bool
      high_test v = lies_on (piece j) v && comes_first q v

      never : (x : Point) → comes_first x x ≡ false
      never x = false_from_ne_true (comes_first x x) (λ k. lt_never (lt_out x x k))

      chain : (x y z : Point) → comes_first x y ≡ true → comes_first y z ≡ true → comes_first x z ≡ true
      chain x y z a b = lt_in (lt_trans (lt_out x y a) (lt_out y z b))

      own_ends : LiesOn (piece j) (piece j).lower × LiesOn (piece j) (piece j).upper
      own_ends =
          let s = spans j h.0 in
          let l = less_at_most (piece j).lower (piece j).upper s.way.ascending in
          (record { on = s.way.lower_on; from = at_most_itself (piece j).lower; upto = l }, record { on = s.way.upper_on; from = l; upto = at_most_itself (piece j).upper })

      listed : (r : Point) → Event r → Among (vertices p) r
      listed r e = in_member (vertices p) r (from_member (vertices p) r (vertex_of r e))

      not_first : (r : Point) → IsAtMost r q → not (comes_first q r) ≡ true
      not_first r k = ap not (false_from_ne_true (comes_first q r) (λ x. not_both q r (lt_out q r x).is k))

      at_most_of : (r : Point) → not (comes_first q r) ≡ true → IsAtMost r q
      at_most_of r k = elim (in_order r q) [ inl a ↦ a | inr a ↦ absurd (false≢true (sym (not-true (comes_first q r) k) ∙ ap is_lt a)) ]

      last_low : (x : Point) × IsBest low_test (λ u v. comes_first v u) (vertices p) x
      unfolding low_test
      last_low = elim (best_of low_test (λ u v. comes_first v u) (vertices p) never (λ x y z a b c u w. chain z y x w u)) [
        | inl none ↦ absurd (false≢true (sym (none (piece j).lower (listed (piece j).lower (inl (record { place = j; within = h.0; is_end = inl refl })))) ∙ and_from (lies_on (piece j) (piece j).lower) (not (comes_first q (piece j).lower)) (lies_on_in (piece j) (piece j).lower own_ends.0) (not_first (piece j).lower h.1.begun)))
        | inr b ↦ b
      ]

      first_high : (x : Point) × IsBest high_test comes_first (vertices p) x
      unfolding high_test
      first_high = elim (best_of high_test comes_first (vertices p) never (λ x y z a b c u w. chain x y z u w)) [
        | inl none ↦ absurd (false≢true (sym (none (piece j).upper (listed (piece j).upper (inl (record { place = j; within = h.0; is_end = inr refl })))) ∙ and_from (lies_on (piece j) (piece j).upper) (comes_first q (piece j).upper) (lies_on_in (piece j) (piece j).upper own_ends.1) (ap is_lt h.1.unended)))
        | inr b ↦ b
      ]

      off : (r : Point) → LiesOn (piece j) r → r ≡ q → ⊥
      off r o e = let z : side_of (piece j).line q ≡ pos 0 = subst (λ x. side_of (piece j).line x ≡ pos 0) e o.on in let u = h.2 in absurd (omega (arith, ints))

      pub goes_past : (a : Point) × (b : Point) × Step j a b × (point_cmp a q ≡ Less) × (point_cmp q b ≡ Less)
      unfolding low_test high_test
      goes_past =
          let x = last_low in
          let y = first_high in
          let u = and_parts (lies_on (piece j) x.0) (not (comes_first q x.0)) x.1.passes in
          let w = and_parts (lies_on (piece j) y.0) (comes_first q y.0) y.1.passes in
          let xl = lies_on_out (piece j) x.0 u.0 in
          let yl = lies_on_out (piece j) y.0 w.0 in
          let ev : (r : Point) → Among (vertices p) r → Event r = λ r m. event_of r (to_member (vertices p) r (member_in (vertices p) r m)) in
          let low : point_cmp x.0 q ≡ Less = elim (in_order q x.0) [ inl k ↦ absurd (off x.0 xl (at_most_both x.0 q (at_most_of x.0 u.1) k)) | inr k ↦ k ] in
          let high : point_cmp q y.0 ≡ Less = (lt_out q y.0 w.1).is in (
            x.0,
            y.0,
            record {
              within = h.0;
              first = (ev x.0 x.1.in', xl);
              second = (ev y.0 y.1.in', yl);
              ahead = less_chain x.0 q y.0 low (less_at_most q y.0 high);
              none = λ r R c d. elim (in_order r q) [
                | inl k ↦ false≢true (sym (x.1.best r (listed r R.0) (and_from (lies_on (piece j) r) (not (comes_first q r)) (lies_on_in (piece j) r R.1) (not_first r k))) ∙ ap is_lt c)
                | inr k ↦ false≢true (sym (y.1.best r (listed r R.0) (and_from (lies_on (piece j) r) (comes_first q r) (lies_on_in (piece j) r R.1) (ap is_lt k))) ∙ ap is_lt d)
              ];
            },
            low,
            high,
          )

    -- ---- from the last event on it that isn't beyond q
    module _ (j : ℕ) (h : PassesBelow (piece_at (map span_of_piece p.pieces)) (length (map span_of_piece p.pieces)) q j) (x : Point) (l : IsLastOn (piece_at (map span_of_piece p.pieces)) (length (map span_of_piece p.pieces)) p.pins (Some q) j x) where
      last_before : point_cmp x q ≡ Less
      last_before = elim (in_order q x) [ inl k ↦ absurd (off j h x l.on.1 (at_most_both x q l.upto k)) | inr k ↦ k ]

      -- the step from there goes past q
      ends_past : (b : Point) → Step j x b → point_cmp q b ≡ Less
      ends_past b s = elim (in_order b q) [ inl k ↦ absurd (not_both x b s.ahead (l.best b s.second k)) | inr k ↦ k ]

      -- and a step that goes past q is from there
      starts_there : (a b : Point) → Step j a b → point_cmp a q ≡ Less → point_cmp q b ≡ Less → a ≡ x
      starts_there a b s low high = at_most_both a x (l.best a s.first (less_at_most a q low)) (elim (in_order x a) [ inl k ↦ k | inr k ↦ absurd (s.none x l.on k (less_chain x q b last_before (less_at_most q b high))) ])

  -- ---- the whole
  module _ (t : Trace) (h : IsTrace (map span_of_piece p.pieces) p.pins t) where
    event_at : (k : ℕ) → k < length t.points → Event (point_at t.points k)
    event_at k l = (h.points_are (point_at t.points k)).0 (member_at t.points k no_point l)

    below_at : (k : ℕ) (o : Option OpenStretch) → k < length t.points → slice_index_or t.below k None ≡ o → IsOpenBelow (piece_at (map span_of_piece p.pieces)) (length (map span_of_piece p.pieces)) p.pins t.points (point_at t.points k) o
    below_at k o l z = subst (IsOpenBelow (piece_at (map span_of_piece p.pieces)) (length (map span_of_piece p.pieces)) p.pins t.points (point_at t.points k)) z (h.below_are k l)

    -- ---- edges and marks
    abbrev along : List EdgeEnds
    along = ascending ends_cmp (map ends_of t.stretches)

    stretch_of : (e : EdgeEnds) → Member e along → (s : Stretch) × Member s t.stretches × (e ≡ ends_of s)
    stretch_of e m = of_map ends_of e t.stretches (Member-ascending ends_cmp ends_cmp_total e (map ends_of t.stretches) m)

    along_in : (s : Stretch) → Member s t.stretches → Member (ends_of s) along
    along_in s m = ascending-Member ends_cmp ends_cmp_total (ends_of s) (map ends_of t.stretches) (λ x y _ _ q. ends_cmp_exact x y q) (in_map ends_of s t.stretches m)

    edges_told : map (edge_between t.points) along ≡ edges (graph p)
    edges_told =
        ascending_unique edge_cmp edge_cmp_total (map (edge_between t.points) along) (edges (graph p))
        (IsAscending-map ends_cmp edge_cmp (edge_between t.points) along (λ e f _ m l.
        let s = stretch_of f m in
        let g = h.sound s.0 s.1 in
        edges_rise t.points h.ascends e f (subst (λ x. x.low < length t.points) (sym s.2) g.low_in) (subst (λ x. x.high < length t.points) (sym s.2) g.high_in) l) (IsAscending-ascending ends_cmp ends_cmp_total (map ends_of t.stretches)))
        (edges_ascend (graph p))
        (λ d m.
        let e = of_map (edge_between t.points) d along m in
        let s = stretch_of e.0 e.1 in
        subst (λ x. Member x (edges (graph p))) (sym (e.2 ∙ ap (edge_between t.points) s.2)) (step_edge s.0.piece (point_at t.points s.0.low) (point_at t.points s.0.high) (h.sound s.0 s.1).step))
        (λ d m.
        let k = edge_step d m in
        let s = h.complete k.0 d.low d.high k.1 in
        let e : edge_between t.points (ends_of s.0) ≡ d = λ i. record { low = s.3 i; high = s.4 i } in
        subst (λ x. Member x (map (edge_between t.points) along)) e (in_map (edge_between t.points) (ends_of s.0) along (along_in s.0 s.1)))

    marks_told : ascending mark_cmp (map (mark_along p t.points) t.stretches) ≡ (graph p).marks
    marks_told =
        sym (ascending_is mark_cmp mark_cmp_total (map (mark_along p t.points) t.stretches) (graph p).marks (λ x y _ _ q. mark_cmp_exact x y q) (graph_ascends p)
        (λ m k.
        let w = mark_step m k in
        let s = h.complete w.0 m.low m.high w.1 in
        let e : mark_along p t.points s.0 ≡ m = (let c = ap (curve_at p) s.2 ∙ w.2 in λ i. record { low = s.3 i; high = s.4 i; curve = c i }) in
        subst (λ x. Member x (map (mark_along p t.points) t.stretches)) e (in_map (mark_along p t.points) s.0 t.stretches s.1))
        (λ m k.
        let s = of_map (mark_along p t.points) m t.stretches k in
        subst (λ x. Member x (graph p).marks) (sym s.2) (step_mark s.0.piece (point_at t.points s.0.low) (point_at t.points s.0.high) (h.sound s.0 s.1).step)))

    trace_of_present : IsTraceOf p t
    trace_of_present = record {
      points = ascending_unique point_cmp point_cmp_total t.points (vertices p) h.ascends (vertices_ascend p) (λ r m. vertex_of r ((h.points_are r).0 m)) (λ r m. (h.points_are r).1 (event_of r m));
      edges = edges_told;
      marks = marks_told;
      nothing = λ k l z. nothing_below (point_at t.points k) (event_at k l) (below_at k None l z);
      paired = h.paired;
      closed = λ k o m z.
          let l : k < length t.points = (let w = h.paired in omega arith) in
          let b = below_at k (Some o) l z in
          let c = goes_past (point_at t.points k) (event_at k l) o.piece b.0.0 in
          let s = h.complete o.piece c.0 c.1 c.2 in
          let g = h.sound s.0 s.1 in
          (s.0, s.1, (one_place t.points h.ascends s.0.low o.low g.low_in b.2 (s.3 ∙ starts_there (point_at t.points k) (event_at k l) o.piece b.0.0 (point_at t.points o.low) b.1 c.0 c.1 c.2 c.3 c.4), s.2));
      something = λ k o s l z m q.
          let b = below_at k (Some o) l z in
          let g = h.sound s m in
          let step : Step o.piece (point_at t.points o.low) (point_at t.points s.high) = subst (λ x. Step o.piece (point_at t.points x) (point_at t.points s.high)) q.0 (subst (λ x. Step x (point_at t.points s.low) (point_at t.points s.high)) q.1 g.step) in
          let low = last_before (point_at t.points k) (event_at k l) o.piece b.0.0 (point_at t.points o.low) b.1 in
          let high = ends_past (point_at t.points k) (event_at k l) o.piece b.0.0 (point_at t.points o.low) b.1 (point_at t.points s.high) step in
          subst (λ x. IsHighestBelow (Contains (skeleton (graph p)).edges) (point_at t.points k) (Some (record { low = point_at t.points x; high = point_at t.points s.high }))) (sym q.0)
          (edge_below (point_at t.points k) (event_at k l) o.piece (point_at t.points o.low) (point_at t.points s.high) b.0 step low high);
    }

pub traces_are_graphs : TracesAreGraphs
traces_are_graphs p t fit spans pinned h = trace_of_present p fit spans pinned t h

pub edges_below_are_highest : EdgesBelowAreHighest
edges_below_are_highest p t es h u k l = by (slice_index_or t.below k None) refl
  where
    Highest : Option EdgeEnds → Type 0
    Highest e = IsHighestBelow (Contains (skeleton (graph p)).edges) (point_at t.points k) (option_map (edge_between t.points) e)

    within : k < length t.below
    within = let w = h.paired in omega arith

    by : (o : Option OpenStretch) → slice_index_or t.below k None ≡ o → Highest (slice_index_or es k None)
    by None z = subst Highest (sym (u.nothing k within z)) (h.nothing k l z)
    by (Some o) z = let s = u.something k o within z in subst Highest (sym s.3) (h.something k o s.0 l z s.1 s.2)

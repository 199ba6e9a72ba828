-- The points of pieces are those of edges of the graph; so an envelope of edges is one of pieces.
use Rattle.std.proofs.Common.{◌≡◌, ℤ, pos, List, [], ◌∷◌, true, false, not, ◌&&◌, refl, sym, subst, ◌∙◌, inl, inr}
use Rattle.std.specs.Prelude.{◌*ℤ◌, ◌+ℤ◌, ◌-ℤ◌, ◌<ℤ◌, ◌||◌, Option}
use Rattle.std.proofs.lemmas.Bool.{false≢true}
use lib.Signed.{lt_z}
use Rattle.integers.proofs.Reify.{ring, sides}
use Rattle.integers.proofs.Signs.{cancel_zero}
use Rattle.integers.proofs.Tests.{not_true}
use Rattle.exact_plane.specs.Point.{Point, reduced}
use Rattle.exact_plane.specs.PointOrderLaws.{and_true}
use Rattle.plane_graphs.specs.Ascending.{Member}
use Rattle.plane_graphs.specs.Fit.{IsFit}
use Rattle.plane_graphs.specs.Graph.{Edge, mark, edges, graph, vertices, det, collinear}
use Rattle.plane_graphs.specs.Line.{IsProper, precedes}
use Rattle.plane_graphs.specs.Piece.{Piece, Present, along, on}
use Rattle.plane_graphs.proofs.Ascending.{from_member, to_member}
use Rattle.plane_graphs.proofs.Closed.{IsClosed, last_passing, first_passing}
use Rattle.plane_graphs.proofs.Crossed.{runs_lt}
use Rattle.plane_graphs.proofs.Lines.{geometry, span_runs, zero_out, collinear_in, reduced_is}
use Rattle.plane_graphs.proofs.Lists.{and_in}
use Rattle.plane_graphs.proofs.Marks.{Le, le_same, le_lt, le_lt_lt, le_out, le_in, le_trans, le_cases, On, on_out, on_in, on_between, Next, mark_in, mark_out}
use Rattle.plane_graphs.proofs.Laws.{graph_is_plane}
use Rattle.plane_graphs.proofs.Meaning.{edge_in, edge_out}
use Rattle.plane_graphs.proofs.Order.{Lt, lt_in, lt_out}
use Rattle.plane_graphs.proofs.Vertices.{vertices_ascend, vertices_closed}
use Rattle.slab_laws.specs.Skeleton as counted
use Rattle.slab_laws.specs.Skeleton.{Skeleton, left_of, lower_than, on_wall, side}
use Rattle.slab_laws.specs.Text.{skeleton}
use Rattle.slab_faces.proofs.Ints.{lt_z-scale}
use Rattle.slab_faces.proofs.PlaneGraphs.{comes_before, comes_runs, graph_is_plane_skeleton}
use Rattle.envelope_laws.specs.declared.which.Which.{Which}
use Rattle.envelope_laws.specs.declared.which.Which.TheVariants.{Lower, Upper}
use Rattle.envelope_laws.specs.Envelopes.{vertex_beyond, outline}
use Rattle.envelope_laws.specs.EnvelopeLaws.{IsOnEdge, IsOnAnEdge, IsOnAPiece, IsOutermostPoint, AreBetween, IsEnvelope, PiecesHaveEnvelopes}
use Rattle.envelope_laws.proofs.Outlines.{outlines_are_envelopes}

-- ---- points in their order, and by walls and heights
not_before : (p q : Point) → IsProper p → IsProper q → Le p q → counted.precedes q p ≡ false
not_before p q P Q l = not_true _ (λ h. l.never (runs_lt q p Q P (comes_runs q p h)))

not_less : (p q : Point) → IsProper p → IsProper q → counted.precedes q p ≡ false → Le p q
not_less p q P Q h = record { never = λ l. false≢true (sym h ∙ comes_before q p (span_runs q p Q P l)) }

line_out : (e : Edge) (t : Point) → collinear e.low e.high t ≡ true → side e t ≡ pos 0
unfolding collinear det side
line_out e t h = zero_out (side e t) h

module _ (p : Present) (fit : IsFit p) where
  closed : IsClosed (vertices p) p.pieces
  closed = vertices_closed geometry p fit

  -- ---- a point of a piece is on an edge
  module _ (k : Piece) (K : Member k p.pieces) (t : Point) (T : IsProper t) (o : On k t) where
    -- between two neighbours on the piece
    on_step : (a b : Point) → Member a (vertices p) → Member b (vertices p) → Next (vertices p) k a b → Le a t → Le t b → IsOnAnEdge (skeleton (graph p)) t
    unfolding graph
    on_step a b A B n low high =
        let e : Edge = record { low = a; high = b } in
        let PA = closed.proper a A in
        let PB = closed.proper b B in
        record {
          edge = e;
          is_edge = from_member (edges (graph p)) e (edge_in (graph p) (mark a b k.curve) (mark_in (vertices p) p.pieces (mark a b k.curve) (record { piece = k; here = K; curve = refl; low_in = A; high_in = B; next = n })));
          on = record {
            proper = T.positive;
            from = not_before a t PA T low;
            to = not_before t b T PB high;
            on = line_out e t ((closed.straight k K).span a b t PA PB T n.lt n.at_p.line n.at_q.line ∙ o.line);
          };
        }

    at_start : On k k.from
    at_start = record { line = closed.from_on k K; low = le_same k.from; high = le_trans o.low o.high }

    at_end : On k k.to
    at_end = record { line = closed.to_on k K; low = le_trans o.low o.high; high = le_same k.to }

    inside : (a r b : Point) → On k a → On k b → Lt a r → Lt r b → along k r ≡ true → on k r ≡ true
    inside a r b A B c d e = on_in k r (on_between k a r b A B (le_lt c) (le_lt d) e)

    -- from the last vertex on the piece that isn't after t to the first one after it
    before_end : Lt t k.to → IsOnAnEdge (skeleton (graph p)) t
    before_end l =
        let low = last_passing (λ v. on k v && not (precedes t v)) (vertices p) (k.from, closed.from_in k K, and_in (on_in k k.from at_start) (le_in o.low)) in
        let high = first_passing (λ v. on k v && precedes t v) (vertices p) (k.to, closed.to_in k K, and_in (on_in k k.to at_end) (lt_in l)) in
        let a = and_true (on k low.0) (not (precedes t low.0)) low.1.passes in
        let b = and_true (on k high.0) (precedes t high.0) high.1.passes in
        let before = le_out low.0 t a.1 in
        let after = lt_out t high.0 b.1 in
        let A = on_out k low.0 a.0 in
        let B = on_out k high.0 b.0 in
        on_step low.0 high.0 low.1.here high.1.here (record {
          lt = le_lt_lt before after;
          at_p = A;
          at_q = B;
          none = λ r R c d e.
              let at_r = inside low.0 r high.0 A B c d e in
              let never : Lt t r → ⊥ = λ n. (high.1.first r R (and_in at_r (lt_in n))).never d in
              (low.1.last r R (and_in at_r (le_in (record { never = never })))).never c;
        }) before (le_lt after)

    -- or, at the piece's end, from the last one before it
    when_end : t ≡ k.to → IsOnAnEdge (skeleton (graph p)) t
    when_end e =
        let low = last_passing (λ v. on k v && precedes v t) (vertices p) (k.from, closed.from_in k K, and_in (on_in k k.from at_start) (subst (λ x. precedes k.from x ≡ true) (sym e) (fit.piece k K).forward)) in
        let a = and_true (on k low.0) (precedes low.0 t) low.1.passes in
        let before = lt_out low.0 t a.1 in
        let A = on_out k low.0 a.0 in
        on_step low.0 t low.1.here (subst (λ x. Member x (vertices p)) (sym e) (closed.to_in k K)) (record {
          lt = before;
          at_p = A;
          at_q = o;
          none = λ r R c d l. (low.1.last r R (and_in (inside low.0 r t A o c d l) (lt_in d))).never c;
        }) (le_lt before) (le_same t)

    on_some : IsOnAnEdge (skeleton (graph p)) t
    on_some = elim (le_cases t k.to o.high) [ inl e ↦ when_end e | inr l ↦ before_end l ]

  covered : (t : Point) → IsOnAPiece p t → IsOnAnEdge (skeleton (graph p)) t
  covered t h = on_some h.piece h.piece_in t h.proper (on_out h.piece t h.on)

  -- ---- a point of an edge is on a piece
  on_piece : (t : Point) → IsProper t → IsOnAnEdge (skeleton (graph p)) t → IsOnAPiece p t
  unfolding graph side
  on_piece t T h =
      let w = edge_out (graph p) h.edge (to_member (edges (graph p)) h.edge h.is_edge) in
      let m = mark_out (vertices p) p.pieces w.0 w.1 in
      let k = m.piece in
      let A = closed.proper w.0.low m.low_in in
      let B = closed.proper w.0.high m.high_in in
      let on' = subst (λ e. IsOnEdge e t) w.2 h.on in
      let line = sym ((closed.straight k m.here).span w.0.low w.0.high t A B T m.next.lt m.next.at_p.line m.next.at_q.line) ∙ collinear_in w.0.low w.0.high t on'.on in
      record {
        piece = k;
        piece_in = m.here;
        proper = T;
        on = on_in k t (on_between k w.0.low t w.0.high m.next.at_p m.next.at_q (not_less w.0.low t A T on'.from) (not_less t w.0.high T B on'.to) line);
      }

-- ---- a point, and its numbers times a factor
abbrev times : ℤ → Point → Point
times f r = record { x = r.x *ℤ f; y = r.y *ℤ f; w = r.w *ℤ f }

first_out : (x f w : ℤ) → (x *ℤ f) *ℤ w ≡ f *ℤ (x *ℤ w)
first_out x f w = ring (x ∷ f ∷ w ∷ []) (search sides depth 40 fits 20000) tt

last_out : (x w f : ℤ) → x *ℤ (w *ℤ f) ≡ f *ℤ (x *ℤ w)
last_out x w f = ring (x ∷ w ∷ f ∷ []) (search sides depth 40 fits 20000) tt

out_of_sum : (a b c x y w f : ℤ) → a *ℤ (x *ℤ f) +ℤ b *ℤ (y *ℤ f) +ℤ c *ℤ (w *ℤ f) ≡ (a *ℤ x +ℤ b *ℤ y +ℤ c *ℤ w) *ℤ f
out_of_sum a b c x y w f = ring (a ∷ b ∷ c ∷ x ∷ y ∷ w ∷ f ∷ []) (search sides depth 40 fits 20000) tt

module _ (f : ℤ) (r : Point) (F : pos 0 <ℤ f) where
  left_times : (q : Point) → left_of (times f r) q ≡ left_of r q
  unfolding left_of
  left_times q = (λ i. lt_z (first_out r.x f q.w i) (last_out q.x r.w f i)) ∙ lt_z-scale f (r.x *ℤ q.w) (q.x *ℤ r.w) F

  right_times : (q : Point) → left_of q (times f r) ≡ left_of q r
  unfolding left_of
  right_times q = (λ i. lt_z (last_out q.x r.w f i) (first_out r.x f q.w i)) ∙ lt_z-scale f (q.x *ℤ r.w) (r.x *ℤ q.w) F

  lower_times : (q : Point) → lower_than (times f r) q ≡ lower_than r q
  unfolding lower_than
  lower_times q = (λ i. lt_z (first_out r.y f q.w i) (last_out q.y r.w f i)) ∙ lt_z-scale f (r.y *ℤ q.w) (q.y *ℤ r.w) F

  upper_times : (q : Point) → lower_than q (times f r) ≡ lower_than q r
  unfolding lower_than
  upper_times q = (λ i. lt_z (last_out q.y r.w f i) (first_out r.y f q.w i)) ∙ lt_z-scale f (q.y *ℤ r.w) (r.y *ℤ q.w) F

  wall_times : (q : Point) → on_wall (times f r) q ≡ on_wall r q
  wall_times q i = not (left_times q i) && not (right_times q i)

  beyond_times : (w : Which) (q : Point) → vertex_beyond w (times f r) q ≡ vertex_beyond w r q
  beyond_times Lower q = lower_times q
  beyond_times Upper q = upper_times q

  side_times : (e : Edge) → side e (times f r) ≡ side e r *ℤ f
  unfolding side
  side_times e = out_of_sum (e.low.y *ℤ e.high.w -ℤ e.high.y *ℤ e.low.w) (e.high.x *ℤ e.low.w -ℤ e.low.x *ℤ e.high.w) (e.low.x *ℤ e.high.y -ℤ e.high.x *ℤ e.low.y) r.x r.y r.w f

  on_times : (e : Edge) → IsProper r → IsOnEdge e (times f r) → IsOnEdge e r
  on_times e R h = record {
    proper = R.positive;
    from = (λ i. sym (left_times e.low) i || (not (sym (right_times e.low) i) && sym (lower_times e.low) i)) ∙ h.from;
    to = (λ i. sym (right_times e.high) i || (not (sym (left_times e.high) i) && sym (upper_times e.high) i)) ∙ h.to;
    on = cancel_zero F (sym (side_times e) ∙ h.on);
  }

-- ---- fewer points
fewer : (w : Which) (g : Skeleton) (IsThere IsHere : Point → Type 0) → ((t : Point) → IsHere t → IsThere t) → (vs : List Point) (os : List (Option Edge)) → AreBetween w g IsThere vs os → AreBetween w g IsHere vs os
fewer w g IsThere IsHere f [] os h = h
fewer w g IsThere IsHere f (v ∷ []) os h = h
fewer w g IsThere IsHere f (v ∷ z ∷ vs) [] h = absurd h
fewer w g IsThere IsHere f (v ∷ z ∷ vs) (o ∷ os) h = (record { ahead = h.0.ahead; everywhere = h.0.everywhere; none = λ t x. h.0.none t (f t x) }, fewer w g IsThere IsHere f (z ∷ vs) os h.1)

module _ (w : Which) (p : Present) (fit : IsFit p) where
  -- outermost among the points of pieces, and so of edges, whose points have lowest terms too
  outermost_of_all : (v : Point) → IsOutermostPoint w (IsOnAPiece p) v → IsOutermostPoint w (IsOnAnEdge (skeleton (graph p))) v
  outermost_of_all v out t h wall =
      let r = reduced_is t.x t.y t.w h.on.proper in
      let q = reduced t.x t.y t.w in
      let F = r.factor_pos in
      let e : times r.factor q ≡ t = λ i. record { x = r.x_is i; y = r.y_is i; w = r.w_is i } in
      let on' = on_times r.factor q F h.edge r.proper (subst (IsOnEdge h.edge) (sym e) h.on) in
      let wall' = sym (wall_times r.factor q F v) ∙ subst (λ x. on_wall x v ≡ true) (sym e) wall in
      subst (λ x. vertex_beyond w x v ≡ false) e (beyond_times r.factor q F w v ∙ out q (on_piece p fit q r.proper (record { edge = h.edge; is_edge = h.is_edge; on = on' })) wall')

  is_envelope : IsEnvelope w (skeleton (graph p)) (IsOnAPiece p) (outline w (skeleton (graph p)))
  unfolding graph
  is_envelope =
      let g = skeleton (graph p) in
      let o = outline w g in
      let whole = outlines_are_envelopes w g (graph_is_plane_skeleton (graph p) (graph_is_plane p fit)) (vertices_ascend p) in
      record {
        are = λ v V.
            let a = whole.are v V in
            let P = (closed p fit).proper v (to_member (vertices p) v a.0) in
            (a.0, on_piece p fit v P a.1, λ t h. a.2 t (covered p fit t h));
        all = λ v V h out. whole.all v V (covered p fit v h) (outermost_of_all v out);
        between = fewer w g (IsOnAnEdge g) (IsOnAPiece p) (covered p fit) o.vertices o.between whole.between;
        before = λ t h. whole.before t (covered p fit t h);
        after = λ t h. whole.after t (covered p fit t h);
      }

pub pieces_have_envelopes : PiecesHaveEnvelopes
pieces_have_envelopes w p fit = is_envelope w p fit

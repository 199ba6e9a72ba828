-- The status after the last event of an abscissa, and the edges of the model's slab on the right.
use Rattle.std.proofs.Common.{◌≡◌, ℕ, ◌<◌, ℤ, pos, ◌+ℤ◌, ◌-ℤ◌, ◌*ℤ◌, ◌<ℤ◌, ◌≤ℤ◌, refl, ap, sym, ◌∙◌, subst, arith, inl, inr, Bool, true, false, cond, not, ◌&&◌, List, [], ◌∷◌, ◌++◌, map, length, Contains, Ordering, Less, Equal, nat_cmp}
use Rattle.std.specs.Prelude.{◌⊎◌, ◌↔◌}
use Rattle.std.specs.List.{count_by, dedup, dedup_from, flat_map}
use Rattle.std.specs.Cmp.{tied_itself}
use Rattle.std.specs.Ordering.{is_gt}
use Rattle.std.proofs.lemmas.Bool.{cases_Bool, le-ltb}
use Rattle.std.proofs.lemmas.Int.{ints}
use lib.Dec.{ltb}
use lib.Signed.{lt_z}
use Rattle.integers.proofs.Compare.{less_out, equal_out, equal_in, greater_in}
use Rattle.integers.proofs.Reify.{ring, sides}
use Rattle.integers.proofs.Signs.{mul_pos}
use Rattle.integers.proofs.Tests.{not_true, first_less}
use Rattle.exact_plane.specs.Height.{height_cmp, height_over, height_under}
use Rattle.exact_plane.specs.Line.{Line}
use Rattle.exact_plane.specs.Point.{Point, IsPoint}
use Rattle.exact_plane.specs.Span.{Span, IsSpan, LiesOn, IsAtMost}
use Rattle.exact_plane.specs.PointOrderLaws.{and_true}
use Rattle.plane_graphs.specs.Ascending.{Member, IsAscending}
use Rattle.plane_graphs.specs.Graph.{Edge, edge_cmp, graph, edges, vertices}
use Rattle.plane_graphs.specs.Line.{precedes}
use Rattle.plane_graphs.specs.Piece.{Piece, Present, on}
use Rattle.plane_graphs.proofs.Ascending.{All-member, to_member, from_member}
use Rattle.plane_graphs.proofs.Crossed.{runs_lt}
use Rattle.plane_graphs.proofs.Laws.{graph_is_plane}
use Rattle.plane_graphs.proofs.Lists.{and_in, not_out, clash, in_filter, of_filter, of_flat_map, in_flat_map, IsAscending-filter}
use Rattle.plane_graphs.proofs.Marks.{On, on_in, le_same, le_lt}
use Rattle.plane_graphs.proofs.Meaning.{edge_cmp_total, edges_ascend, edges_are, vertices_are}
use Rattle.plane_graphs.proofs.Order.{Lt, lt_in, lt_out, lt_never, lt_trans}
use Rattle.slab_laws.specs.Meets.{IsOnWall}
use Rattle.slab_laws.specs.Skeleton.{HasWeight, left_of, gap, same_edge, IsPlaneSkeleton}
use Rattle.slab_laws.specs.Slabs.{spans, place, slab_right, reaches_right}
use Rattle.slab_laws.specs.Text.{skeleton}
use Rattle.slab_faces.proofs.Cells.{spans_right}
use Rattle.slab_faces.proofs.Member.{member_in, in_member, Member as Among}
use Rattle.slab_faces.proofs.Order.{gap-swap}
use Rattle.slab_faces.proofs.PlaneGraphs.{graph_is_plane_skeleton}
use Rattle.slab_faces.proofs.Searches.{IsBest, best_of}
use Rattle.slab_faces.proofs.Slabs.{IsSlab, IsThrough, through, by_gap, below_at, same_edge_is, same_edge_refl}
use Rattle.slab_faces.proofs.Sums.{each, sum_by-same, sum_by-none}
use Rattle.slab_faces.proofs.Walls.{left_of-asym, left_of-before, left_of-after, left_of-irrefl}
use Rattle.edge_predicates.proofs.Heights.{higher_is}
use Rattle.present_graphs.specs.Spans.{span_of_piece, lies_on}
use Rattle.present_graphs.proofs.OnSpans.{lies_on_out, lies_on_in, on_lies}
use Rattle.sweep_events.specs.Edges.{edges_along, edges_of_places, IsSlabFromBelow, AreEdgesOfSlab}
use Rattle.sweep_events.specs.Events.{IsEvent}
use Rattle.sweep_events.specs.SweepLaws.{IsSlabReached, EdgesOfStatus}
use Rattle.sweep_events.specs.Places.{piece_at}
use Rattle.sweep_events.specs.Slab.{IsRightOf, slab_cmp, IsAcross, IsInSlab}
use Rattle.sweep_events.proofs.EventsAndVertices.{piece_of, place_of, event_is_vertex, vertex_is_event, spans_of}
use Rattle.sweep_events.proofs.SlabPlaces.{IsSpanned, IsWeak, of_dedup, in_dedup, rising, numbered, less_below}
use Rattle.sweep_events.proofs.Queue.{event_point}
use Rattle.sweep_events.proofs.EventSteps.{not_both}
use Rattle.sweep_events.proofs.SlabList.{height_itself}

-- ---- points on the right
right_in : (p q : Point) → IsRightOf p q → left_of p q ≡ true
unfolding left_of
right_in p q h = let e : true ≡ lt_z (p.x *ℤ q.w) (q.x *ℤ p.w) = omega (arith, ints) in sym e

right_out : (p q : Point) → left_of p q ≡ true → IsRightOf p q
unfolding left_of
right_out p q h = omega (arith, ints)

not_right : (p q : Point) → (q.x *ℤ p.w) ≤ℤ (p.x *ℤ q.w) → left_of p q ≡ false
not_right p q h = not_true (left_of p q) (λ t. no (right_out p q t))
  where
    no : (p.x *ℤ q.w) <ℤ (q.x *ℤ p.w) → ⊥
    no k = omega (arith, ints)

weakly : (a b : Point) → left_of b a ≡ false → (a.x *ℤ b.w) ≤ℤ (b.x *ℤ a.w)
unfolding left_of
weakly a b h = omega (arith, ints)

-- a point between two abscissas
between : Point → Point → Point
between q v = record { x = q.x *ℤ v.w +ℤ v.x *ℤ q.w; y = pos 0; w = q.w *ℤ v.w +ℤ q.w *ℤ v.w }

module _ (q v : Point) (hq : HasWeight q) (hv : HasWeight v) (h : IsRightOf q v) where
  weighs : HasWeight (between q v)
  unfolding between
  weighs = let a = mul_pos {a = q.w} {b = v.w} hq hv in omega (arith, ints)

  after_first : IsRightOf q (between q v)
  unfolding between
  after_first =
      let a = mul_pos {a = v.x *ℤ q.w -ℤ q.x *ℤ v.w} {b = q.w} (omega (arith, ints)) hq in
      let e : (q.x *ℤ v.w +ℤ v.x *ℤ q.w) *ℤ q.w -ℤ q.x *ℤ (q.w *ℤ v.w +ℤ q.w *ℤ v.w) ≡ (v.x *ℤ q.w -ℤ q.x *ℤ v.w) *ℤ q.w = ring (q.x ∷ q.w ∷ v.x ∷ v.w ∷ []) (search sides depth 40 fits 20000) tt in
      omega (arith, ints)

  before_second : IsRightOf (between q v) v
  unfolding between
  before_second =
      let a = mul_pos {a = v.x *ℤ q.w -ℤ q.x *ℤ v.w} {b = v.w} (omega (arith, ints)) hv in
      let e : v.x *ℤ (q.w *ℤ v.w +ℤ q.w *ℤ v.w) -ℤ (q.x *ℤ v.w +ℤ v.x *ℤ q.w) *ℤ v.w ≡ (v.x *ℤ q.w -ℤ q.x *ℤ v.w) *ℤ v.w = ring (q.x ∷ q.w ∷ v.x ∷ v.w ∷ []) (search sides depth 40 fits 20000) tt in
      omega (arith, ints)

-- ---- heights, turned around
turned_less : (l m : Line) (t : Point) → height_cmp l m t ≡ Less → is_gt (height_cmp m l t) ≡ true
turned_less l m t h = ap is_gt (greater_in (height_over m t *ℤ height_under l t) (height_over l t *ℤ height_under m t) (less_out (height_over l t *ℤ height_under m t) (height_over m t *ℤ height_under l t) h))

turned_equal : (l m : Line) (t : Point) → height_cmp l m t ≡ Equal → height_cmp m l t ≡ Equal
turned_equal l m t h = equal_in (height_over m t *ℤ height_under l t) (height_over l t *ℤ height_under m t) (sym (equal_out (height_over l t *ℤ height_under m t) (height_over m t *ℤ height_under l t) h))

-- a list of which all are one element
single : {X : Type 0} (cmp : X → X → Ordering) → ((x : X) → cmp x x ≡ Less → ⊥) → (e : X) (xs : List X) → IsAscending cmp xs → Member e xs → ((z : X) → Member z xs → z ≡ e) → xs ≡ e ∷ []
single cmp never e [] a m f = absurd m
single cmp never e (x ∷ []) a m f = ap (λ z. z ∷ []) (f x (inl refl))
single cmp never e (x ∷ y ∷ ys) a m f = absurd (never x (subst (λ z. cmp x z ≡ Less) (f y (inr (inl refl)) ∙ sym (f x (inl refl))) a.0.0))

module _ (p : Present) (q : Point) (places : List ℕ) (at : IsSlabReached p q places) where
  abbrev piece : ℕ → Span
  piece i = piece_at (map span_of_piece p.pieces) i

  abbrev n : ℕ
  n = length (map span_of_piece p.pieces)

  abbrev slab : ℕ
  slab = slab_right (skeleton (graph p)) q

  plane : IsPlaneSkeleton (skeleton (graph p))
  plane = graph_is_plane_skeleton (graph p) (graph_is_plane p at.fit)

  points_are : (graph p).points ≡ vertices p
  unfolding graph
  points_are = refl

  -- ---- vertices and events
  abbrev Event : Point → Type 0
  Event r = IsEvent (piece_at (map span_of_piece p.pieces)) (length (map span_of_piece p.pieces)) p.pins r

  point_of : (r : Point) → Event r → IsPoint r
  point_of r e = event_point piece n p.pins at.spans at.pins r e

  vertex_of : (r : Point) → Event r → Contains (graph p).points r
  vertex_of r e = subst (λ (vs : List Point). Contains vs r) (sym points_are) (from_member (vertices p) r ((vertices_are p r at.fit).1 (event_is_vertex p at.fit (spans_of p.pieces at.spans) r e)))

  event_of : (r : Point) → Contains (graph p).points r → Event r
  event_of r c = vertex_is_event p at.fit (spans_of p.pieces at.spans) r ((vertices_are p r at.fit).0 (to_member (vertices p) r (subst (λ (vs : List Point). Contains vs r) points_are c)))

  hq : HasWeight q
  hq = (point_of q at.event).range.positive

  wall : IsOnWall (skeleton (graph p)) q
  wall = record { proper = hq; vertex = q; is_vertex = vertex_of q at.event; same = and_in (ap not (left_of-irrefl q)) (ap not (left_of-irrefl q)) }

  spans_is : (e : Edge) → Contains (edges (graph p)) e → spans (skeleton (graph p)) (slab_right (skeleton (graph p)) q) e ≡ reaches_right e q
  spans_is e E = spans_right (skeleton (graph p)) q e plane wall E

  -- ---- an edge on each piece
  module _ (k : Piece) (here : Member k p.pieces) (from : left_of q k.from ≡ false) (to : left_of q k.to ≡ true) where
    pub record IsThere (e : Edge) : Type 0 where
      pub edge : Member e (edges (graph p))
      pub low_on : on k e.low ≡ true
      pub high_on : on k e.high ≡ true
      pub low_upto : left_of q e.low ≡ false
      pub high_beyond : left_of q e.high ≡ true

    fits : On k k.from × On k k.to
    fits =
        let f = at.fit.piece k here in
        let l = lt_out k.from k.to f.forward in
        (record { line = f.from_on; low = le_same k.from; high = le_lt l }, record { line = f.to_on; low = le_lt l; high = le_same k.to })

    end_in : (r : Point) → (r ≡ k.from) ⊎ (r ≡ k.to) → Contains (vertices p) r
    end_in r e = from_member (vertices p) r ((vertices_are p r at.fit).1 (inl (record { piece = k; piece_in = here; end = e })))

    -- the last vertex on the piece up to the abscissa of q, and the first beyond it
    abbrev low_test : Point → Bool
    low_test v = on k v && not (left_of q v)

    abbrev high_test : Point → Bool
    high_test v = on k v && left_of q v

    never : (x : Point) → precedes x x ≡ false
    never x = not_true (precedes x x) (λ h. lt_never (lt_out x x h))

    chain : (x y z : Point) → precedes x y ≡ true → precedes y z ≡ true → precedes x z ≡ true
    chain x y z a b = lt_in (lt_trans (lt_out x y a) (lt_out y z b))

    last_low : (x : Point) × IsBest low_test (λ u v. precedes v u) (vertices p) x
    last_low = elim (best_of low_test (λ u v. precedes v u) (vertices p) never (λ x y z a b c h k. chain z y x k h)) [
      | inl none ↦ absurd (clash (and_in (on_in k k.from fits.0) (ap not from)) (none k.from (in_member (vertices p) k.from (end_in k.from (inl refl)))))
      | inr b ↦ b
    ]

    first_high : (x : Point) × IsBest high_test precedes (vertices p) x
    first_high = elim (best_of high_test precedes (vertices p) never (λ x y z a b c h k. chain x y z h k)) [
      | inl none ↦ absurd (clash (and_in (on_in k k.to fits.1) to) (none k.to (in_member (vertices p) k.to (end_in k.to (inr refl)))))
      | inr b ↦ b
    ]

    member_of : (x : Point) → Contains (vertices p) x → Member x (vertices p)
    member_of x c = to_member (vertices p) x c

    pub edge_there : (e : Edge) × IsThere e
    edge_there =
        let a = last_low in
        let b = first_high in
        let u = and_true (on k a.0) (not (left_of q a.0)) a.1.passes in
        let v = and_true (on k b.0) (left_of q b.0) b.1.passes in
        let ca = member_in (vertices p) a.0 a.1.in' in
        let cb = member_in (vertices p) b.0 b.1.in' in
        let e : Edge = record { low = a.0; high = b.0 } in (
          e,
          record {
            edge = (edges_are p e).1 (record {
              piece = k;
              piece_in = here;
              first = member_of a.0 ca;
              last = member_of b.0 cb;
              forward = ahead a.0 b.0 ca cb (not_out (left_of q a.0) u.1) v.1;
              on_first = u.0;
              on_last = v.0;
              none_between = λ r m x y. not_true (on k r) (λ o. elim (cases_Bool (left_of q r)) [
                | inl s ↦ clash y (b.1.best r (in_member (vertices p) r (from_member (vertices p) r m)) (and_in o s))
                | inr s ↦ clash x (a.1.best r (in_member (vertices p) r (from_member (vertices p) r m)) (and_in o (ap not s)))
              ]);
            });
            low_on = u.0;
            high_on = v.0;
            low_upto = not_out (left_of q a.0) u.1;
            high_beyond = v.1;
          },
        )
      where
        point_there : (x : Point) → Contains (vertices p) x → IsPoint x
        point_there x c = point_of x (event_of x (subst (λ (vs : List Point). Contains vs x) (sym points_are) c))

        ahead : (a b : Point) → Contains (vertices p) a → Contains (vertices p) b → left_of q a ≡ false → left_of q b ≡ true → precedes a b ≡ true
        ahead a b ca cb x y =
            let pa = point_there a ca in
            let pb = point_there b cb in
            let r = right_out a b (left_of-after a q b pa.range.positive hq pb.range.positive x y) in
            lt_in (runs_lt a b (record { positive = pa.range.positive; lowest = pa.lowest }) (record { positive = pb.range.positive; lowest = pb.lowest }) (inl (omega (arith, ints))))

  -- ---- edges of pieces
  record IsAlong (j : ℕ) (e : Edge) : Type 0 where
    edge : Contains (edges (graph p)) e
    spanned : spans (skeleton (graph p)) slab e ≡ true
    low_on : LiesOn (piece j) e.low
    high_on : LiesOn (piece j) e.high

  along_out : (j : ℕ) (e : Edge) → Member e (edges_along (skeleton (graph p)) slab (piece j)) → IsAlong j e
  along_out j e m =
      let a = of_filter (λ e. spans (skeleton (graph p)) slab e && (lies_on (piece j) e.low && lies_on (piece j) e.high)) e (edges (graph p)) m in
      let b = and_true (spans (skeleton (graph p)) slab e) (lies_on (piece j) e.low && lies_on (piece j) e.high) a.1 in
      let c = and_true (lies_on (piece j) e.low) (lies_on (piece j) e.high) b.1 in
      record { edge = from_member (edges (graph p)) e a.0; spanned = b.0; low_on = lies_on_out (piece j) e.low c.0; high_on = lies_on_out (piece j) e.high c.1 }

  along_in : (j : ℕ) (e : Edge) → IsAlong j e → Member e (edges_along (skeleton (graph p)) slab (piece j))
  along_in j e h =
      in_filter (λ e. spans (skeleton (graph p)) slab e && (lies_on (piece j) e.low && lies_on (piece j) e.high)) e (edges (graph p)) (to_member (edges (graph p)) e h.edge)
      (and_in h.spanned (and_in (lies_on_in (piece j) e.low h.low_on) (lies_on_in (piece j) e.high h.high_on)))

  -- each piece of the status runs along an edge
  along_there : (j : ℕ) → Member j places → (e : Edge) × IsAlong j e
  along_there j m =
      let a = (at.status.spans j).0 m in
      let w = piece_of p.pieces j a.0 in
      let k = w.0 in
      let s : IsAcross q (span_of_piece k) = subst (λ (t : Span). IsAcross q t) w.2 a.1 in
      let f = edge_there k w.1 (not_right q k.from s.begun) (right_in q k.to s.unended) in
      let e = f.0 in
      let E = from_member (edges (graph p)) e f.1.edge in (
        e,
        record {
          edge = E;
          spanned = spans_is e E ∙ and_in (ap not f.1.low_upto) f.1.high_beyond;
          low_on = subst (λ (t : Span). LiesOn t e.low) (sym w.2) (on_lies k e.low f.1.low_on);
          high_on = subst (λ (t : Span). LiesOn t e.high) (sym w.2) (on_lies k e.high f.1.high_on);
        },
      )

  -- and each edge of the slab has a piece of the status that runs along it
  has_piece : (e : Edge) → Contains (edges (graph p)) e → spans (skeleton (graph p)) slab e ≡ true → (j : ℕ) × Member j places × IsAlong j e
  has_piece e E h =
      let m = (edges_are p e).0 (to_member (edges (graph p)) e E) in
      let w = place_of p.pieces m.piece m.piece_in in
      let low : LiesOn (piece w.0) e.low = subst (λ (t : Span). LiesOn t e.low) (sym w.2) (on_lies m.piece e.low m.on_first) in
      let high : LiesOn (piece w.0) e.high = subst (λ (t : Span). LiesOn t e.high) (sym w.2) (on_lies m.piece e.high m.on_last) in
      let r = and_true (not (left_of q e.low)) (left_of q e.high) (sym (spans_is e E) ∙ h) in
      (w.0, (at.status.spans w.0).1 (w.1, across w.0 w.1 e E low high (not_out (left_of q e.low) r.0) r.1), record { edge = E; spanned = h; low_on = low; high_on = high })
    where
      -- a piece begins no later than a point on it, and ends no earlier
      upto_abscissa : (a b : Point) → IsPoint a → IsPoint b → IsAtMost a b → left_of b a ≡ false
      upto_abscissa a b ha hb l = not_true (left_of b a) (λ h. never a b l (runs_lt b a (record { positive = hb.range.positive; lowest = hb.lowest }) (record { positive = ha.range.positive; lowest = ha.lowest }) (inl (let r = right_out b a h in omega (arith, ints)))))
        where
          never : (a b : Point) → IsAtMost a b → Lt b a → ⊥
          never a b l k = not_both b a k.is l

      across : (j : ℕ) → j < n → (e : Edge) → Contains (edges (graph p)) e → LiesOn (piece j) e.low → LiesOn (piece j) e.high → left_of q e.low ≡ false → left_of q e.high ≡ true → IsAcross q (piece j)
      across j h e E low high a b =
          let s = at.spans j h in
          let pl = point_of e.low (event_of e.low (plane.lower_in e E)) in
          let ph = point_of e.high (event_of e.high (plane.upper_in e E)) in
          let l1 = upto_abscissa (piece j).lower e.low s.lower pl low.from in
          let u1 = upto_abscissa e.high (piece j).upper ph s.upper high.upto in
          record {
            begun = weakly (piece j).lower q (not_later (piece j).lower e.low q s.lower.range.positive pl.range.positive hq l1 a);
            unended = right_out q (piece j).upper (left_of-before q e.high (piece j).upper hq ph.range.positive s.upper.range.positive b u1);
          }
        where
          not_later : (a b c : Point) → HasWeight a → HasWeight b → HasWeight c → left_of b a ≡ false → left_of c b ≡ false → left_of c a ≡ false
          not_later a b c ha hb hc x y = not_true (left_of c a) (λ h. clash (left_of-before c a b hc ha hb h x) y)

  -- ---- with a point of the slab
  module _ (t : Point) (inside : IsInSlab piece n p.pins q t) where
    on_right : left_of q t ≡ true
    on_right = right_in q t inside.right

    before_t : (v : Point) → Contains (graph p).points v → left_of q v ≡ false → left_of v t ≡ true
    before_t v c h = left_of-after v q t (point_of v (event_of v c)).range.positive hq inside.proper h on_right

    after_t : (v : Point) → Contains (graph p).points v → left_of q v ≡ true → left_of t v ≡ true
    after_t v c h =
        let e = event_of v c in
        let pv = point_of v e in
        let pq = point_of q at.event in
        let l = runs_lt q v (record { positive = pq.range.positive; lowest = pq.lowest }) (record { positive = pv.range.positive; lowest = pv.lowest }) (inl (let r = right_out q v h in omega (arith, ints))) in
        right_in t v (inside.free v e l.is)

    is_slab : IsSlab (skeleton (graph p)) slab t
    is_slab = record {
      proper = inside.proper;
      spanned = λ e E. spans_is e E ∙ tests e (plane.lower_in e E) (plane.upper_in e E) (left_of q e.low) (left_of q e.high) refl refl;
    }
      where
        tests : (e : Edge) → Contains (graph p).points e.low → Contains (graph p).points e.high → (a b : Bool) → left_of q e.low ≡ a → left_of q e.high ≡ b → (not (left_of q e.low) && left_of q e.high) ≡ (left_of e.low t && left_of t e.high)
        tests e cl ch true b x y = ap (λ z. not z && left_of q e.high) x ∙ sym (ap (λ z. z && left_of t e.high) (left_of-asym t e.low (after_t e.low cl x)))
        tests e cl ch false true x y = (λ i. not (x i) && y i) ∙ sym (λ i. before_t e.low cl x i && after_t e.high ch y i)
        tests e cl ch false false x y = (λ i. not (x i) && y i) ∙ sym (λ i. before_t e.low cl x i && left_of-asym e.high t (before_t e.high ch y) i)

    spanned_of : (j : ℕ) (e : Edge) → IsAlong j e → IsSpanned (skeleton (graph p)) slab e
    spanned_of j e h = record { edge = h.edge; spanned = h.spanned }

    through_of : (j : ℕ) (e : Edge) → IsAlong j e → IsThrough e t
    through_of j e h = through (skeleton (graph p)) slab t e is_slab h.edge h.spanned

    long : (j : ℕ) (e : Edge) → IsAlong j e → left_of e.low e.high ≡ true
    long j e h =
        let pl = point_of e.low (event_of e.low (plane.lower_in e h.edge)) in
        let ph = point_of e.high (event_of e.high (plane.upper_in e h.edge)) in
        let w = through_of j e h in
        left_of-before e.low t e.high pl.range.positive inside.proper ph.range.positive w.from (left_of-asym t e.high w.to)

    part_is : (j : ℕ) (e : Edge) → j < n → IsAlong j e → IsSpan (record { lower = e.low; upper = e.high; line = (piece j).line })
    part_is j e l h =
        let pl = point_of e.low (event_of e.low (plane.lower_in e h.edge)) in
        let ph = point_of e.high (event_of e.high (plane.upper_in e h.edge)) in
        let r = right_out e.low e.high (long j e h) in
        record {
          lower = pl;
          upper = ph;
          line = (at.spans j l).line;
          way = record { ascending = (runs_lt e.low e.high (record { positive = pl.range.positive; lowest = pl.lowest }) (record { positive = ph.range.positive; lowest = ph.lowest }) (inl (omega (arith, ints)))).is; lower_on = h.low_on.on; upper_on = h.high_on.on };
        }

    module _ (i j : ℕ) (e f : Edge) (hi : i < n) (hj : j < n) (he : IsAlong i e) (hf : IsAlong j f) where
      over : is_gt (height_cmp (piece j).line (piece i).line t) ≡ lt_z (pos 0) (gap e f t)
      over = higher_is (record { lower = e.low; upper = e.high; line = (piece i).line }) (record { lower = f.low; upper = f.high; line = (piece j).line }) t (height_cmp (piece j).line (piece i).line t) (part_is i e hi he) (part_is j f hj hf) inside.proper (long i e he) (long j f hf) refl

    positive_by : (z : ℤ) → lt_z (pos 0) z ≡ true → pos 0 <ℤ z
    positive_by z h = omega (arith, ints)

    positive_not : (z : ℤ) → lt_z (pos 0) z ≡ false → pos 0 <ℤ z → ⊥
    positive_not z h k = omega (arith, ints)

    -- where one piece is not above another, its edge is the same one or has a lesser place
    edges_rise : (i j : ℕ) (e f : Edge) → i < n → j < n → IsAlong i e → IsAlong j f → (height_cmp (piece i).line (piece j).line t ≡ Less) ⊎ (height_cmp (piece i).line (piece j).line t ≡ Equal) → (e ≡ f) ⊎ (place (skeleton (graph p)) slab e < place (skeleton (graph p)) slab f)
    edges_rise i j e f hi hj he hf (inl h) =
        inr (less_below (skeleton (graph p)) slab t plane is_slab e f (spanned_of i e he) (spanned_of j f hf)
        (below_at (skeleton (graph p)) e f t plane he.edge hf.edge inside.proper (through_of i e he) (through_of j f hf) (positive_by (gap e f t) (sym (over i j e f hi hj he hf) ∙ turned_less (piece i).line (piece j).line t h))))
    edges_rise i j e f hi hj he hf (inr h) =
        by_gap (skeleton (graph p)) e f t plane he.edge hf.edge inside.proper (through_of i e he) (through_of j f hf)
        (λ k. absurd (positive_not (gap e f t) (sym (over i j e f hi hj he hf) ∙ ap is_gt (turned_equal (piece i).line (piece j).line t h)) k))
        (λ k. let s = gap-swap e f t in absurd (positive_not (gap f e t) (sym (over j i f e hj hi hf he) ∙ ap is_gt h) (omega (arith, ints))))
        (λ k. inl k)

    -- so a piece runs along one edge
    one_edge : (j : ℕ) → Member j places → (e : Edge) × IsAlong j e × (edges_along (skeleton (graph p)) slab (piece j) ≡ e ∷ [])
    one_edge j m =
        let w = along_there j m in
        let l = ((at.status.spans j).0 m).0 in (
          w.0,
          w.1,
          single edge_cmp (λ x h. let t = tied_itself edge_cmp_total x in cc) w.0 (edges_along (skeleton (graph p)) slab (piece j))
              (IsAscending-filter edge_cmp (λ e. spans (skeleton (graph p)) slab e && (lies_on (piece j) e.low && lies_on (piece j) e.high)) (edges (graph p)) (edges_ascend (graph p)))
              (along_in j w.0 w.1)
              (λ z k. let a = along_out j z k in same z w.0 (edges_rise j j z w.0 l l a w.1 (inr (height_itself (piece j).line t))) (edges_rise j j w.0 z l l w.1 a (inr (height_itself (piece j).line t)))),
        )
      where
        same : (z e : Edge) → (z ≡ e) ⊎ (place (skeleton (graph p)) slab z < place (skeleton (graph p)) slab e) → (e ≡ z) ⊎ (place (skeleton (graph p)) slab e < place (skeleton (graph p)) slab z) → z ≡ e
        same z e (inl a) b = a
        same z e (inr a) (inl b) = sym b
        same z e (inr a) (inr b) = absurd (omega (arith, a, b))

    -- ---- all of them
    abbrev along : ℕ → List Edge
    along j = edges_along (skeleton (graph p)) slab (piece j)

    abbrev number : Edge → ℕ
    number e = place (skeleton (graph p)) slab e

    weak : (js : List ℕ) → ((j : ℕ) → Member j js → Member j places) → IsAscending (slab_cmp piece t) js → IsWeak same_edge same_edge_is same_edge_refl number (flat_map along js)
    weak [] f a = tt
    weak (j ∷ js) f a =
        let w = one_edge j (f j (inl refl)) in
        subst (λ (es : List Edge). IsWeak same_edge same_edge_is same_edge_refl number (es ++ flat_map along js)) (sym w.2) (
          (λ z m. let u = of_flat_map along z js m in
              let k = u.0 in
              edges_rise j k w.0 z ((at.status.spans j).0 (f j (inl refl))).0 ((at.status.spans k).0 (f k (inr u.1))).0 w.1 (along_out k z u.2) (first_less (height_cmp (piece j).line (piece k).line t) (nat_cmp j k) (All-member (λ y. slab_cmp piece t j y ≡ Less) k js a.0 u.1))),
          weak js (λ i m. f i (inr m)) a.1,
        )

    every : (e : Edge) → Member e (flat_map along places) ↔ (Member e (edges (graph p)) × (spans (skeleton (graph p)) slab e ≡ true))
    every e = (
      (λ m. let u = of_flat_map along e places m in let a = along_out u.0 e u.2 in (to_member (edges (graph p)) e a.edge, a.spanned)),
      (λ h. let w = has_piece e (from_member (edges (graph p)) e h.0) h.1 in in_flat_map along w.0 e places w.1 (along_in w.0 e w.2)),
    )

    from_below : (es : List Edge) → flat_map along places ≡ es → IsSlabFromBelow (skeleton (graph p)) slab (dedup same_edge es)
    from_below [] k = record { spanned = λ e. ((λ m. absurd m), (λ h. subst (λ (es : List Edge). Member e es) k ((every e).1 h))); placed = λ i d l. absurd (omega (arith, l)) }
    from_below (x ∷ xs) k =
        record {
          spanned = λ e. ((λ m. (every e).0 (back e m)), (λ h. in_dedup same_edge same_edge_is same_edge_refl number x xs e (subst (λ (es : List Edge). Member e es) k ((every e).1 h))));
          placed = λ i d l. numbered (skeleton (graph p)) slab t plane is_slab 0 (dedup_from same_edge x xs) rises
              (λ e m. let h = (every e).0 (back e m) in (record { edge = from_member (edges (graph p)) e h.0; spanned = h.1 }, omega arith))
              (λ f h. inr (in_dedup same_edge same_edge_is same_edge_refl number x xs f (subst (λ (es : List Edge). Member f es) k ((every f).1 (to_member (edges (graph p)) f h.edge, h.spanned)))))
              none i d l
              ∙ omega arith;
        }
      where
        back : (e : Edge) → Member e (dedup_from same_edge x xs) → Member e (flat_map along places)
        back e m = subst (λ (es : List Edge). Member e es) (sym k) (of_dedup same_edge same_edge_is same_edge_refl number x xs e m)

        rises : IsAscending (λ u v. nat_cmp (number u) (number v)) (dedup_from same_edge x xs)
        rises = rising same_edge same_edge_is same_edge_refl number x xs (subst (λ (es : List Edge). IsWeak same_edge same_edge_is same_edge_refl number es) k (weak places (λ j m. m) (at.status.ascends t inside)))

        none : count_by (λ f. spans (skeleton (graph p)) slab f && ltb (number f) 0) (edges (graph p)) ≡ 0
        none = sum_by-same (λ f. cond (spans (skeleton (graph p)) slab f && ltb (number f) 0) 1 0) (λ f. 0) (edges (graph p)) (each _ (edges (graph p)) (λ f F. ap (λ b. cond {A = ℕ} b 1 0) (not_true _ (λ h. clash (and_true (spans (skeleton (graph p)) slab f) (ltb (number f) 0) h).1 (le-ltb (number f) 0 (omega arith)))))) ∙ sum_by-none (edges (graph p))

    pub edges_here : AreEdgesOfSlab (skeleton (graph p)) slab piece places
    edges_here = record { one_each = λ j m. let w = one_edge j m in (w.0, w.2); from_below = from_below (flat_map along places) refl }

  -- ---- where a vertex is on the right of q, there is such a point; where none is, the slab has no edge
  nearest : ((v : Point) → Contains (graph p).points v → left_of q v ≡ false) ⊎ ((v : Point) × Contains (graph p).points v × (left_of q v ≡ true) × ((r : Point) → Contains (graph p).points r → left_of q r ≡ true → left_of r v ≡ false))
  nearest = elim (best_of (λ v. left_of q v) left_of (graph p).points left_of-irrefl (λ x y z a b c h k. left_of-before x y z (positive x a) (positive y b) (positive z c) h (left_of-asym y z k))) [
    | inl none ↦ inl (λ v c. none v (in_member (graph p).points v c))
    | inr b ↦ inr (b.0, member_in (graph p).points b.0 b.1.in', b.1.passes, λ r c h. b.1.best r (in_member (graph p).points r c) h)
  ]
    where
      positive : (x : Point) → Among (graph p).points x → HasWeight x
      positive x m = (point_of x (event_of x (member_in (graph p).points x m))).range.positive

  pub edges_of : AreEdgesOfSlab (skeleton (graph p)) (slab_right (skeleton (graph p)) q) (λ i. piece_at (map span_of_piece p.pieces) i) places
  edges_of = by nearest
    where
      inner : (v : Point) → Contains (graph p).points v → left_of q v ≡ true → ((r : Point) → Contains (graph p).points r → left_of q r ≡ true → left_of r v ≡ false) → IsInSlab piece n p.pins q (between q v)
      inner v c h f =
          let hv = (point_of v (event_of v c)).range.positive in
          let r = right_out q v h in
          record {
            proper = weighs q v hq hv r;
            right = after_first q v hq hv r;
            free = λ w e b. let k = right_in q w (at.final w e b) in right_out (between q v) w (left_of-before (between q v) v w (weighs q v hq hv r) hv (point_of w e).range.positive (right_in (between q v) v (before_second q v hq hv r)) (f w (vertex_of w e) k));
          }

      no_piece : ((v : Point) → Contains (graph p).points v → left_of q v ≡ false) → (j : ℕ) → Member j places → ⊥
      no_piece none j m =
          let w = along_there j m in
          let r = and_true (not (left_of q w.0.low)) (left_of q w.0.high) (sym (spans_is w.0 w.1.edge) ∙ w.1.spanned) in
          clash r.1 (none w.0.high (plane.upper_in w.0 w.1.edge))

      no_edge : ((v : Point) → Contains (graph p).points v → left_of q v ≡ false) → (e : Edge) → Member e (edges (graph p)) → spans (skeleton (graph p)) slab e ≡ true → ⊥
      no_edge none e m h =
          let E = from_member (edges (graph p)) e m in
          let r = and_true (not (left_of q e.low)) (left_of q e.high) (sym (spans_is e E) ∙ h) in
          clash r.1 (none e.high (plane.upper_in e E))

      bare : ((v : Point) → Contains (graph p).points v → left_of q v ≡ false) → (js : List ℕ) → ((j : ℕ) → Member j js → ⊥) → IsSlabFromBelow (skeleton (graph p)) slab (edges_of_places (skeleton (graph p)) slab piece js)
      bare none [] f = record { spanned = λ e. ((λ m. absurd m), (λ h. absurd (no_edge none e h.0 h.1))); placed = λ i d l. absurd (omega (arith, l)) }
      bare none (j ∷ js) f = absurd (f j (inl refl))

      by : ((v : Point) → Contains (graph p).points v → left_of q v ≡ false) ⊎ ((v : Point) × Contains (graph p).points v × (left_of q v ≡ true) × ((r : Point) → Contains (graph p).points r → left_of q r ≡ true → left_of r v ≡ false)) → AreEdgesOfSlab (skeleton (graph p)) slab piece places
      by (inl none) = record { one_each = λ j m. absurd (no_piece none j m); from_below = bare none places (no_piece none) }
      by (inr b) = edges_here (between q b.0) (inner b.0 b.1 b.2 b.3)

pub edges_of_status : EdgesOfStatus
edges_of_status p q places at = edges_of p q places at

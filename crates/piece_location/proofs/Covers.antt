-- The edges of a piece cover it: a point between its ends that is no vertex is between the ends of one of them.
use Rattle.std.proofs.Common.{◌≡◌, ℕ, List, [], ◌∷◌, true, refl, sym, ap, ◌∙◌, subst, inl, inr, Less}
use Rattle.std.specs.List.{filter}
use Rattle.exact_plane.specs.Point.{Point}
use Rattle.exact_plane.specs.PointOrder.{point_cmp}
use Rattle.plane_graphs.specs.Ascending.{Member, IsAscending}
use Rattle.plane_graphs.specs.Fit.{IsFit}
use Rattle.plane_graphs.specs.Graph.{Mark, chain, chain_from, marks, vertices}
use Rattle.plane_graphs.specs.Line.{is_on}
use Rattle.exact_plane.specs.Segment.{line_of_segment}
use Rattle.plane_graphs.specs.Piece.{Piece, Present, along, on}
use Rattle.plane_graphs.specs.Strands.{HasOneSide}
use Rattle.plane_graphs.proofs.Ascending.{All-member}
use Rattle.plane_graphs.proofs.Closed.{IsClosed}
use Rattle.plane_graphs.proofs.Edges.{chain_is}
use Rattle.plane_graphs.proofs.Lines.{geometry}
use Rattle.plane_graphs.proofs.Lists.{IsAscending-filter, in_filter, of_filter}
use Rattle.plane_graphs.proofs.Marks.{On, le_lt, le_lt_lt, le_same, lt_le_lt, mark_in, mark_out, on_in, Next}
use Rattle.plane_graphs.proofs.Order.{Lt, Tri, lt_both, lt_out, lt_trans, tri}
use Rattle.plane_graphs.proofs.Order.Tri.{less, same, more}
use Rattle.plane_graphs.proofs.Vertices.{vertices_ascend, vertices_closed}

-- ---- in a chain
-- the point is between the ends of the mark's edge
pub record IsBetween (m : Mark) (q : Point) : Type 0 where
  pub from : Lt m.low q
  pub to : Lt q m.high

-- a mark of these marks has the point between its ends
abbrev pub HasBetween : List Mark → Point → Type 0
HasBetween ms q = (m : Mark) × Member m ms × IsBetween m q

module _ (q : Point) (c : ℕ) where
  later : (ms : List Mark) (n : Mark) → HasBetween ms q → HasBetween (n ∷ ms) q
  later ms n (m, h, b) = (m, inr h, b)

  step : (p x : Point) (ps : List Point) → Lt p q → (Lt x q → HasBetween (chain_from c x ps) q) → (x ≡ q → ⊥) → Tri x q → HasBetween (chain_from c p (x ∷ ps)) q
  unfolding chain_from
  step p x ps l next n (less h) = later (chain_from c x ps) _ (next h)
  step p x ps l next n (same e) = absurd (n e)
  step p x ps l next n (more h) = (record { low = p; high = x; curve = c }, inl refl, record { from = l; to = h })

  still : (x r : Point) (ps : List Point) → Member r (x ∷ ps) → Lt q r → Lt x q → Member r ps
  still x r ps (inl e) u l = absurd (lt_both u (subst (λ y. Lt y q) (sym e) l))
  still x r ps (inr m) u l = m

  -- the list goes on from before the point to behind it, and hasn't the point
  across : (p : Point) (ps : List Point) → Lt p q → (r : Point) → Member r ps → Lt q r → ((x : Point) → Member x ps → x ≡ q → ⊥) → HasBetween (chain_from c p ps) q
  across p [] l r m u n = absurd m
  across p (x ∷ ps) l r m u n = step p x ps l (λ h. across x ps h r (still x r ps m u h) u (λ y k. n y (inr k))) (n x (inl refl)) (tri x q)

  first_before : (p : Point) (ps : List Point) → IsAscending point_cmp (p ∷ ps) → (a : Point) → Member a (p ∷ ps) → Lt a q → Lt p q
  first_before p ps asc a (inl e) l = subst (λ y. Lt y q) e l
  first_before p ps asc a (inr m) l = lt_trans (record { is = All-member (λ y. point_cmp p y ≡ Less) a ps asc.0 m }) l

  pub chain_across : (ps : List Point) → IsAscending point_cmp ps → (a r : Point) → Member a ps → Lt a q → Member r ps → Lt q r → ((x : Point) → Member x ps → x ≡ q → ⊥) → HasBetween (chain c ps) q
  unfolding chain
  chain_across [] asc a r m l k u n = absurd m
  chain_across (p ∷ ps) asc a r m l k u n = let f = first_before p ps asc a m l in across p ps f r (still p r ps k u f) u (λ y i. n y (inr i))

-- ---- on a piece of a present
module _ (p : Present) (fit : IsFit p) where
  closed : IsClosed (vertices p) p.pieces
  closed = vertices_closed geometry p fit

  forward : (k : Piece) → Member k p.pieces → Lt k.from k.to
  forward k h = lt_out k.from k.to (fit.piece k h).forward

  from_on : (k : Piece) → Member k p.pieces → On k k.from
  from_on k h = record { line = (fit.piece k h).from_on; low = le_same k.from; high = le_lt (forward k h) }

  to_on : (k : Piece) → Member k p.pieces → On k k.to
  to_on k h = record { line = (fit.piece k h).to_on; low = le_lt (forward k h); high = le_same k.to }

  of_one : (k m : Piece) → Member m (k ∷ []) → m ≡ k
  of_one k m (inl e) = e
  of_one k m (inr h) = absurd h

  -- an edge of the piece has the point between its ends
  pub piece_covered : (k : Piece) → Member k p.pieces → (q : Point) → Lt k.from q → Lt q k.to → (Member q (vertices p) → ⊥) → (m : Mark) × Member m (marks (vertices p) p.pieces) × (m.curve ≡ k.curve) × IsBetween m q
  piece_covered k h q l u n =
      let vs = vertices p in
      let ps : List Point = filter (on k) vs in
      let asc : IsAscending point_cmp ps = IsAscending-filter point_cmp (on k) vs (vertices_ascend p) in
      let w = chain_across q k.curve ps asc k.from k.to (in_filter (on k) k.from vs (closed.from_in k h) (on_in k k.from (from_on k h))) l (in_filter (on k) k.to vs (closed.to_in k h) (on_in k k.to (to_on k h))) u (λ x m e. n (subst (λ y. Member y vs) e (of_filter (on k) x vs m).0)) in
      let i = mark_out vs (k ∷ []) w.0 (subst (λ ms. Member w.0 ms) (sym (chain_is vs (vertices_ascend p) k)) w.1) in
      let is = of_one k i.piece i.here in
      (w.0, mark_in vs p.pieces w.0 (record { piece = k; here = h; curve = i.curve ∙ ap (λ (z : Piece). z.curve) is; low_in = i.low_in; high_in = i.high_in; next = subst (λ z. Next vs z w.0.low w.0.high) is i.next }), i.curve ∙ ap (λ (z : Piece). z.curve) is, w.2)

  -- a piece that has an edge of the graph
  pub record HasEdge (m : Mark) (k : Piece) : Type 0 where
    pub here : Member k p.pieces
    pub curve : m.curve ≡ k.curve
    pub low_on : On k m.low
    pub high_on : On k m.high

  pub edge_held : (m : Mark) → Member m (marks (vertices p) p.pieces) → (k : Piece) × HasEdge m k
  edge_held m h = let i = mark_out (vertices p) p.pieces m h in (i.piece, record { here = i.here; curve = i.curve; low_on = i.next.at_p; high_on = i.next.at_q })

  pub held_between : (m : Mark) (k : Piece) (q : Point) → HasEdge m k → IsBetween m q → Lt k.from q × Lt q k.to
  held_between m k q h b = (le_lt_lt h.low_on.low b.from, lt_le_lt b.to h.high_on.high)

  same_along : (j k : Piece) → j.segment ≡ k.segment → (t : Point) → along k t ≡ along j t
  unfolding along
  same_along j k s t = ap (λ z. is_on (line_of_segment z) t) (sym s)

  -- where each curve has one side, each piece of a curve has on its line all edges of the curve
  pub on_each : HasOneSide p.pieces → (m : Mark) → Member m (marks (vertices p) p.pieces) → (k : Piece) → Member k p.pieces → m.curve ≡ k.curve → (along k m.low ≡ true) × (along k m.high ≡ true)
  on_each one m h k here e =
      let w = edge_held m h in
      let c = sym w.1.curve ∙ e in
      let s = fit.one_segment w.0 k w.1.here here (c, one w.0 k w.1.here here c) in
      (same_along w.0 k s m.low ∙ w.1.low_on.line, same_along w.0 k s m.high ∙ w.1.high_on.line)

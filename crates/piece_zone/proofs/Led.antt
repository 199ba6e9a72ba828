-- An edge of a piece leads to each point of the piece but the first.
use Rattle.std.proofs.Common.{◌≡◌, ℕ, List, [], ◌∷◌, sym, ap, ◌∙◌, subst, inl, inr, Less}
use Rattle.std.specs.List.{filter}
use Rattle.exact_plane.specs.Point.{Point}
use Rattle.exact_plane.specs.PointOrder.{point_cmp}
use Rattle.plane_graphs.specs.Ascending.{Member, IsAscending}
use Rattle.plane_graphs.specs.Fit.{IsFit}
use Rattle.plane_graphs.specs.Graph.{Mark, chain, chain_from, marks, vertices}
use Rattle.plane_graphs.specs.Piece.{Piece, Present, on}
use Rattle.plane_graphs.proofs.Ascending.{All-member}
use Rattle.plane_graphs.proofs.Closed.{IsClosed}
use Rattle.plane_graphs.proofs.Edges.{chain_is}
use Rattle.plane_graphs.proofs.Lines.{geometry}
use Rattle.plane_graphs.proofs.Lists.{IsAscending-filter, in_filter}
use Rattle.plane_graphs.proofs.Marks.{Le, On, le_lt, le_same, mark_in, mark_out, on_in, Next}
use Rattle.plane_graphs.proofs.Order.{Lt, Tri, lt_out, lt_trans, tri}
use Rattle.plane_graphs.proofs.Order.Tri.{less, same, more}
use Rattle.plane_graphs.proofs.Vertices.{vertices_ascend, vertices_closed}

-- ---- in a chain
-- the mark's edge begins before the point, and doesn't end before it
pub record IsLedBy (m : Mark) (q : Point) : Type 0 where
  pub from : Lt m.low q
  pub upto : Le q m.high

-- a mark of these marks does so
abbrev pub HasLed : List Mark → Point → Type 0
HasLed ms q = (m : Mark) × Member m ms × IsLedBy m q

module _ (q : Point) (c : ℕ) where
  later : (ms : List Mark) (n : Mark) → HasLed ms q → HasLed (n ∷ ms) q
  later ms n (m, h, b) = (m, inr h, b)

  step : (p x : Point) (ps : List Point) → Lt p q → (Lt x q → HasLed (chain_from c x ps) q) → Tri x q → HasLed (chain_from c p (x ∷ ps)) q
  unfolding chain_from
  step p x ps l next (less h) = later (chain_from c x ps) _ (next h)
  step p x ps l next (same e) = (record { low = p; high = x; curve = c }, inl (λ i. record { low = p; high = x; curve = c }), record { from = l; upto = subst (λ y. Le q y) (sym e) (le_same q) })
  step p x ps l next (more h) = (record { low = p; high = x; curve = c }, inl (λ i. record { low = p; high = x; curve = c }), record { from = l; upto = le_lt h })

  still : (x r : Point) (ps : List Point) → Member r (x ∷ ps) → Le q r → Lt x q → Member r ps
  still x r ps (inl e) u l = absurd (u.never (subst (λ y. Lt y q) (sym e) l))
  still x r ps (inr m) u l = m

  -- the list goes on from before the point to it, or behind it
  across : (p : Point) (ps : List Point) → Lt p q → (r : Point) → Member r ps → Le q r → HasLed (chain_from c p ps) q
  across p [] l r m u = absurd m
  across p (x ∷ ps) l r m u = step p x ps l (λ h. across x ps h r (still x r ps m u h) u) (tri x q)

  first_before : (p : Point) (ps : List Point) → IsAscending point_cmp (p ∷ ps) → (a : Point) → Member a (p ∷ ps) → Lt a q → Lt p q
  first_before p ps asc a (inl e) l = subst (λ y. Lt y q) e l
  first_before p ps asc a (inr m) l = lt_trans (record { is = All-member (λ y. point_cmp p y ≡ Less) a ps asc.0 m }) l

  chain_led : (ps : List Point) → IsAscending point_cmp ps → (a r : Point) → Member a ps → Lt a q → Member r ps → Le q r → HasLed (chain c ps) q
  unfolding chain
  chain_led [] asc a r m l k u = absurd m
  chain_led (p ∷ ps) asc a r m l k u = let f = first_before p ps asc a m l in across p ps f r (still p r ps k u f) u

-- ---- on a piece of a present
module _ (p : Present) (fit : IsFit p) where
  closed : IsClosed (vertices p) p.pieces
  closed = vertices_closed geometry p fit

  forward : (k : Piece) → Member k p.pieces → Lt k.from k.to
  forward k h = lt_out k.from k.to (fit.piece k h).forward

  -- both ends are vertices
  pub from_there : (k : Piece) → Member k p.pieces → Member k.from (vertices p)
  from_there k h = closed.from_in k h

  pub to_there : (k : Piece) → Member k p.pieces → Member k.to (vertices p)
  to_there k h = closed.to_in k h

  from_on : (k : Piece) → Member k p.pieces → On k k.from
  from_on k h = record { line = (fit.piece k h).from_on; low = le_same k.from; high = le_lt (forward k h) }

  to_on : (k : Piece) → Member k p.pieces → On k k.to
  to_on k h = record { line = (fit.piece k h).to_on; low = le_lt (forward k h); high = le_same k.to }

  of_one : (k m : Piece) → Member m (k ∷ []) → m ≡ k
  of_one k m (inl e) = e
  of_one k m (inr h) = absurd h

  pub piece_led : (k : Piece) → Member k p.pieces → (q : Point) → Lt k.from q → Le q k.to → (m : Mark) × Member m (marks (vertices p) p.pieces) × (m.curve ≡ k.curve) × IsLedBy m q
  piece_led k h q l u =
      let vs = vertices p in
      let ps : List Point = filter (on k) vs in
      let asc : IsAscending point_cmp ps = IsAscending-filter point_cmp (on k) vs (vertices_ascend p) in
      let w = chain_led q k.curve ps asc k.from k.to (in_filter (on k) k.from vs (closed.from_in k h) (on_in k k.from (from_on k h))) l (in_filter (on k) k.to vs (closed.to_in k h) (on_in k k.to (to_on k h))) u in
      let i = mark_out vs (k ∷ []) w.0 (subst (λ ms. Member w.0 ms) (sym (chain_is vs (vertices_ascend p) k)) w.1) in
      let is = of_one k i.piece i.here in
      (w.0, mark_in vs p.pieces w.0 (record { piece = k; here = h; curve = i.curve ∙ ap (λ (z : Piece). z.curve) is; low_in = i.low_in; high_in = i.high_in; next = subst (λ z. Next vs z w.0.low w.0.high) is i.next }), i.curve ∙ ap (λ (z : Piece). z.curve) is, w.2)

-- The curves of an edge, and the edges of a piece.
use Rattle.std.proofs.Common.{◌≡◌, ℕ, List, [], ◌∷◌, true, ◌&&◌, refl, sym, ap, ◌∙◌, subst, inl, inr, ⊎_elim, nat_cmp, Less}
use Rattle.std.specs.List.{filter}
use Rattle.std.proofs.lemmas.Cmp.{nat_cmp_total}
use Rattle.std.specs.Ordering.{ordering_then}
use Rattle.std.specs.Prelude.{map}
use Rattle.exact_plane.specs.Point.{Point}
use Rattle.exact_plane.specs.PointOrder.{point_cmp}
use Rattle.exact_plane.specs.PointOrderLaws.{and_true}
use Rattle.plane_graphs.specs.Line.{same_point, IsProper}
use Rattle.plane_graphs.specs.Ascending.{ascending, Member, IsAscending}
use Rattle.plane_graphs.specs.Piece.{Piece, along, on}
use Rattle.plane_graphs.specs.Graph.{Mark, mark_cmp, graph, is_at, marks, vertices, curves, chain, chain_from, mark}
use Rattle.plane_graphs.specs.GraphLaws.{CurvesOfEdge, EdgesOfPiece}
use Rattle.plane_graphs.proofs.Ascending.{ascending_unique, IsAscending-ascending, All-member}
use Rattle.plane_graphs.proofs.Lists.{in_map, of_map, and_in, of_ascending, in_ascending, any_out, in_filter, of_filter, IsAscending-filter}
use Rattle.plane_graphs.proofs.Order.{Lt, lt_never, lt_both, same_out, mark_cmp_total}
use Rattle.plane_graphs.proofs.Marks.{le_lt, on_between, On, on_out, on_in, Next, IsMark, mark_path, mark_out, mark_in, marks_ascend}
use Rattle.plane_graphs.proofs.Closed.{IsClosed, mark_line}
use Rattle.plane_graphs.proofs.Vertices.{vertices_closed, vertices_ascend}
use Rattle.plane_graphs.proofs.Lines.{geometry}
use Rattle.plane_graphs.proofs.Sorting.{all_members}
use Rattle.integers.proofs.Tests.{nat_exact}

pub same_list : (ms ns : List ℕ) → ((c : ℕ) → Member c ms → Member c ns) → ((c : ℕ) → Member c ns → Member c ms) → ascending nat_cmp ms ≡ ascending nat_cmp ns
same_list ms ns f g =
    ascending_unique nat_cmp nat_cmp_total (ascending nat_cmp ms) (ascending nat_cmp ns) (IsAscending-ascending nat_cmp nat_cmp_total ms) (IsAscending-ascending nat_cmp nat_cmp_total ns)
    (λ c h. in_ascending nat_cmp nat_cmp_total nat_exact c ns (f c (of_ascending nat_cmp nat_cmp_total nat_exact c ms h)))
    (λ c h. in_ascending nat_cmp nat_cmp_total nat_exact c ms (g c (of_ascending nat_cmp nat_cmp_total nat_exact c ns h)))

-- a piece with both ends of an edge has the edge
module _ (vs : List Point) (ks : List Piece) (cl : IsClosed vs ks) (m : Mark) (h : IsMark vs ks m) (k : Piece) (here : Member k ks) (x : On k m.low) (y : On k m.high) where
  same_along : (t : Point) → IsProper t → along h.piece t ≡ along k t
  same_along t pt = sym (mark_line vs ks cl m h t pt) ∙ (cl.straight k here).span m.low m.high t (cl.proper m.low h.low_in) (cl.proper m.high h.high_in) pt h.next.lt x.line y.line

  pub next_on_piece : Next vs k m.low m.high
  next_on_piece = record { lt = h.next.lt; at_p = x; at_q = y; none = λ r n a b e. h.next.none r n a b (same_along r (cl.proper r n) ∙ e) }

  pub mark_of_piece : IsMark vs ks (mark m.low m.high k.curve)
  mark_of_piece = record { piece = k; here = here; curve = refl; low_in = h.low_in; high_in = h.high_in; next = next_on_piece }

pub curves_of_edge : CurvesOfEdge
unfolding graph curves
curves_of_edge p a b fit e =
    let vs = vertices p in
    let ks = p.pieces in
    let cl = vertices_closed geometry p fit in
    let w = any_out (is_at a b) (marks vs ks) e in
    let v = and_true (same_point w.0.low a) (same_point w.0.high b) w.2 in
    let ea = same_out w.0.low a v.0 in
    let eb = same_out w.0.high b v.1 in
    same_list (map (λ m. m.curve) (filter (is_at a b) (marks vs ks))) (map (λ k. k.curve) (filter (λ k. on k a && on k b) ks))
    (λ c h.
    let i = of_map (λ (m : Mark). m.curve) c (filter (is_at a b) (marks vs ks)) h in
    let m = i.0 in
    let j = of_filter (is_at a b) m (marks vs ks) i.1 in
    let u = and_true (same_point m.low a) (same_point m.high b) j.1 in
    let o = mark_out vs ks m j.0 in
    subst (λ z. Member z (map (λ k. k.curve) (filter (λ k. on k a && on k b) ks))) (sym (i.2 ∙ o.curve))
    (in_map (λ (k : Piece). k.curve) o.piece (filter (λ k. on k a && on k b) ks) (in_filter (λ k. on k a && on k b) o.piece ks o.here (and_in (subst (λ z. on o.piece z ≡ true) (same_out m.low a u.0) (on_in o.piece m.low o.next.at_p)) (subst (λ z. on o.piece z ≡ true) (same_out m.high b u.1) (on_in o.piece m.high o.next.at_q))))))
    (λ c h.
    let i = of_map (λ (k : Piece). k.curve) c (filter (λ k. on k a && on k b) ks) h in
    let k = i.0 in
    let j = of_filter (λ k. on k a && on k b) k ks i.1 in
    let u = and_true (on k a) (on k b) j.1 in
    let n : Mark = mark w.0.low w.0.high k.curve in
    let made = mark_of_piece vs ks cl w.0 (mark_out vs ks w.0 w.1) k j.0 (subst (On k) (sym ea) (on_out k a u.0)) (subst (On k) (sym eb) (on_out k b u.1)) in
    subst (λ z. Member z (map (λ m. m.curve) (filter (is_at a b) (marks vs ks)))) (sym i.2)
    (in_map (λ (m : Mark). m.curve) n (filter (is_at a b) (marks vs ks)) (in_filter (is_at a b) n (marks vs ks) (mark_in vs ks n made) w.2)))

-- ---- neighbours in an ascending list
-- low and high stand next to each other in the list
pub record IsStep (ps : List Point) (m : Mark) : Type 0 where
  pub low_in : Member m.low ps
  pub high_in : Member m.high ps
  pub lt : Lt m.low m.high
  pub none : (r : Point) → Member r ps → Lt m.low r → Lt r m.high → ⊥

above : (p q : Point) (ps : List Point) → IsAscending point_cmp (p ∷ ps) → Member q ps → Lt p q
above p q ps a m = record { is = All-member (λ r. point_cmp p r ≡ Less) q ps a.0 m }

step_out : (c : ℕ) (p : Point) (ps : List Point) → IsAscending point_cmp (p ∷ ps) → (m : Mark) → Member m (chain_from c p ps) → IsStep (p ∷ ps) m × (m.curve ≡ c)
unfolding chain_from
step_out c p [] a m h = absurd h
step_out c p (q ∷ ps) a m (inl e) = (
  subst (IsStep (p ∷ q ∷ ps)) (sym e) (record {
    low_in = inl refl;
    high_in = inr (inl refl);
    lt = above p q (q ∷ ps) a (inl refl);
    none = λ r n l k. ⊎_elim (λ i. lt_never (subst (Lt p) i l)) (λ j. ⊎_elim (λ i. lt_never (subst (λ z. Lt z q) i k)) (λ i. lt_both k (above q r ps a.1 i)) j) n;
  }),
  ap (λ (z : Mark). z.curve) e,
)
step_out c p (q ∷ ps) a m (inr h) =
    let s = step_out c q ps a.1 m h in (
      record {
        low_in = inr s.0.low_in;
        high_in = inr s.0.high_in;
        lt = s.0.lt;
        none = λ r n l k. ⊎_elim (λ i. lt_both l (subst (λ z. Lt z m.low) (sym i) (above p m.low (q ∷ ps) a s.0.low_in))) (λ j. s.0.none r j l k) n;
      },
      s.1,
    )

step_in : (c : ℕ) (p : Point) (ps : List Point) → IsAscending point_cmp (p ∷ ps) → (m : Mark) → IsStep (p ∷ ps) m → m.curve ≡ c → Member m (chain_from c p ps)
unfolding chain_from
step_in c p [] a m s e = absurd (alone m s.low_in s.high_in s.lt)
  where
    alone : (m : Mark) → Member m.low (p ∷ []) → Member m.high (p ∷ []) → Lt m.low m.high → ⊥
    alone m (inl i) (inl j) l = lt_never (subst (λ z. Lt z p) i (subst (Lt m.low) j l))
    alone m (inl i) (inr j) l = j
    alone m (inr i) j l = i
step_in c p (q ∷ ps) a m s e = by (λ i j. step_in c q ps a.1 m (record { low_in = i; high_in = j; lt = s.lt; none = λ r n l k. s.none r (inr n) l k }) e) s.low_in s.high_in
  where
    q_next : Lt p q
    q_next = above p q (q ∷ ps) a (inl refl)

    by : (Member m.low (q ∷ ps) → Member m.high (q ∷ ps) → Member m (chain_from c q ps)) → Member m.low (p ∷ q ∷ ps) → Member m.high (p ∷ q ∷ ps) → Member m (record { low = p; high = q; curve = c } ∷ chain_from c q ps)
    by ih (inl i) (inl j) = absurd (lt_never (subst (λ z. Lt z p) i (subst (Lt m.low) j s.lt)))
    by ih (inl i) (inr (inl j)) = inl (mark_path m p q c i j e)
    by ih (inl i) (inr (inr j)) = absurd (s.none q (inr (inl refl)) (subst (λ z. Lt z q) (sym i) q_next) (above q m.high ps a.1 j))
    by ih (inr i) (inl j) = absurd (lt_both (above p m.low (q ∷ ps) a i) (subst (Lt m.low) j s.lt))
    by ih (inr i) (inr j) = inr (ih i j)

chain_out : (c : ℕ) (ps : List Point) → IsAscending point_cmp ps → (m : Mark) → Member m (chain c ps) → IsStep ps m × (m.curve ≡ c)
unfolding chain
chain_out c [] a m h = absurd h
chain_out c (p ∷ ps) a m h = step_out c p ps a m h

chain_in : (c : ℕ) (ps : List Point) → IsAscending point_cmp ps → (m : Mark) → IsStep ps m → m.curve ≡ c → Member m (chain c ps)
unfolding chain
chain_in c [] a m s e = absurd s.low_in
chain_in c (p ∷ ps) a m s e = step_in c p ps a m s e

lower_first : (m n : Mark) → Lt m.low n.low → mark_cmp m n ≡ Less
unfolding mark_cmp
lower_first m n l = ap (λ o. ordering_then o (ordering_then (point_cmp m.high n.high) (nat_cmp m.curve n.curve))) l.is

chain_ascends_from : (c : ℕ) (p : Point) (ps : List Point) → IsAscending point_cmp (p ∷ ps) → IsAscending mark_cmp (chain_from c p ps)
unfolding chain_from
chain_ascends_from c p [] a = tt
chain_ascends_from c p (q ∷ ps) a = (all_members (λ m. mark_cmp (mark p q c) m ≡ Less) (chain_from c q ps) (λ m h. lower_first (mark p q c) m (above p m.low (q ∷ ps) a (step_out c q ps a.1 m h).0.low_in)), chain_ascends_from c q ps a.1)

chain_ascends : (c : ℕ) (ps : List Point) → IsAscending point_cmp ps → IsAscending mark_cmp (chain c ps)
unfolding chain
chain_ascends c [] a = tt
chain_ascends c (p ∷ ps) a = chain_ascends_from c p ps a

module _ (vs : List Point) (asc : IsAscending point_cmp vs) (k : Piece) where
  pub chain_is : marks vs (k ∷ []) ≡ chain k.curve (filter (on k) vs)
  chain_is =
      let ps : List Point = filter (on k) vs in
      let a : IsAscending point_cmp (filter (on k) vs) = IsAscending-filter point_cmp (on k) vs asc in
      ascending_unique mark_cmp mark_cmp_total (marks vs (k ∷ [])) (chain k.curve (filter (on k) vs)) (marks_ascend vs (k ∷ [])) (chain_ascends k.curve (filter (on k) vs) a)
      (λ m h.
      let i = mark_out vs (k ∷ []) m h in
      let is : i.piece ≡ k = ⊎_elim (λ e. e) (λ z. absurd z) i.here in
      let x : Next vs k m.low m.high = subst (λ z. Next vs z m.low m.high) is i.next in
      chain_in k.curve ps a m (record {
        low_in = in_filter (on k) m.low vs i.low_in (on_in k m.low x.at_p);
        high_in = in_filter (on k) m.high vs i.high_in (on_in k m.high x.at_q);
        lt = x.lt;
        none = λ r n l u. let w = of_filter (on k) r vs n in x.none r w.0 l u (on_out k r w.1).line;
      }) (i.curve ∙ ap (λ (z : Piece). z.curve) is))
      (λ m h.
      let s = chain_out k.curve ps a m h in
      let x = of_filter (on k) m.low vs s.0.low_in in
      let y = of_filter (on k) m.high vs s.0.high_in in
      mark_in vs (k ∷ []) m (record {
        piece = k;
        here = inl refl;
        curve = s.1;
        low_in = x.0;
        high_in = y.0;
        next = record {
          lt = s.0.lt;
          at_p = on_out k m.low x.1;
          at_q = on_out k m.high y.1;
          none = λ r n l u e. s.0.none r (in_filter (on k) r vs n (on_in k r (on_between k m.low r m.high (on_out k m.low x.1) (on_out k m.high y.1) (le_lt l) (le_lt u) e))) l u;
        };
      }))

pub edges_of_piece : EdgesOfPiece
edges_of_piece p k fit here = chain_is (vertices p) (vertices_ascend p) k

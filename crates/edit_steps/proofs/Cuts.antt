-- The pieces that a cut leaves.
use Rattle.std.proofs.Common.{◌≡◌, List, [], ◌∷◌, Bool, true, false, cond, not, ◌&&◌, refl, sym, ap, ap₂, ◌∙◌, subst, inl, inr, ◌⊎◌, ⊎_elim}
use Rattle.plane_graphs.specs.Graph.{collinear, Mark, mark_cmp, is_at, marks, vertices}
use Rattle.std.specs.List.{flat_map, filter}
use Rattle.exact_plane.specs.Point.{Point}
use Rattle.plane_graphs.specs.Line.{precedes, same_point, are_parallel, crossing, IsProper}
use Rattle.exact_plane.specs.Segment.{line_of_segment}
use Rattle.exact_plane.specs.PointOrderLaws.{and_true}
use Rattle.plane_graphs.specs.Piece.{Piece, Present, along, on}
use Rattle.edit_steps.specs.Steps.{cut_piece, with_cut}
use Rattle.plane_graphs.specs.Fit.{IsFit, IsFitPiece, AreOfOneSide}
use Rattle.plane_graphs.specs.Ascending.{Member}
use Rattle.plane_graphs.proofs.Ascending.{ascending_unique}
use Rattle.plane_graphs.proofs.Lists.{and_in, not_out, not_in, clash, decide, of_flat_map, in_flat_map, in_filter, of_filter, in_left, in_right, in_either, if_out, if_true, if_false, one_if, if_one, IsAscending-filter}
use Rattle.plane_graphs.proofs.Order.{Lt, lt_in, lt_out, same_out, same_in, mark_cmp_total}
use Rattle.plane_graphs.proofs.Marks.{Le, le_same, le_lt, le_trans, lt_le_lt, le_lt_lt, le_both, On, on_out, on_in, IsMark, mark_out, mark_in, marks_ascend}
use Rattle.plane_graphs.proofs.Closed.{IsClosed, mark_line}
use Rattle.plane_graphs.proofs.Vertices.{IsVertex, IsCrossing, vertex_in, vertex_out}
use Rattle.plane_graphs.proofs.Vertices.IsVertex.{begins, finishes, pinned, crossed}
use Rattle.integers.proofs.Tests.{not_true}

-- where a piece after the cut comes from
pub data Source (a b : Point) (ks : List Piece) (j : Piece) : Type 0 where
  whole : Member j ks → (On j a → On j b → ⊥) → Source a b ks j
  under : (k : Piece) → Member k ks → On k a → On k b → Lt k.from a → j ≡ record k { to = a } → Source a b ks j
  over : (k : Piece) → Member k ks → On k a → On k b → Lt b k.to → j ≡ record k { from = b } → Source a b ks j

pub source_out : (a b : Point) (ks : List Piece) (j : Piece) → Member j (flat_map (cut_piece a b) ks) → Source a b ks j
unfolding cut_piece
source_out a b ks j h =
    let w = of_flat_map (cut_piece a b) j ks h in
    let k = w.0 in
    ⊎_elim
    (λ v. let o = and_true (on k a) (on k b) v.0 in
    ⊎_elim
    (λ m. let e = one_if (precedes k.from a) j (record k { to = a }) m in under k w.1 (on_out k a o.0) (on_out k b o.1) (lt_out k.from a e.0) e.1)
    (λ m. let e = one_if (precedes b k.to) j (record k { from = b }) m in over k w.1 (on_out k a o.0) (on_out k b o.1) (lt_out b k.to e.0) e.1)
    (in_either j (cond (precedes k.from a) (record k { to = a } ∷ []) []) (cond (precedes b k.to) (record k { from = b } ∷ []) []) v.1))
    (λ v. ⊎_elim (λ e. whole (subst (λ z. Member z ks) (sym e) w.1) (λ x y. clash (and_in (on_in k a (subst (λ z. On z a) e x)) (on_in k b (subst (λ z. On z b) e y))) v.0)) (λ z. absurd z) v.1)
    (if_out (on k a && on k b) j _ _ w.2)

pub source_in : (a b : Point) (ks : List Piece) (j : Piece) → Source a b ks j → Member j (flat_map (cut_piece a b) ks)
unfolding cut_piece
source_in a b ks j (whole h f) = in_flat_map (cut_piece a b) j j ks h (if_false (on j a && on j b) j _ _ (not_true (on j a && on j b) (λ e. let o = and_true (on j a) (on j b) e in f (on_out j a o.0) (on_out j b o.1))) (inl refl))
source_in a b ks j (under k h x y l e) = in_flat_map (cut_piece a b) k j ks h (if_true (on k a && on k b) j _ _ (and_in (on_in k a x) (on_in k b y)) (in_left j (cond (precedes k.from a) (record k { to = a } ∷ []) []) _ (if_one (precedes k.from a) j (record k { to = a }) (lt_in l) e)))
source_in a b ks j (over k h x y l e) = in_flat_map (cut_piece a b) k j ks h (if_true (on k a && on k b) j _ _ (and_in (on_in k a x) (on_in k b y)) (in_right j (cond (precedes k.from a) (record k { to = a } ∷ []) []) _ (if_one (precedes b k.to) j (record k { from = b }) (lt_in l) e)))

pub along_of : (j k : Piece) → j.segment ≡ k.segment → (t : Point) → along j t ≡ along k t
unfolding along
along_of j k e t = ap (λ s. along (record j { segment = s }) t) e

-- j is a part of k
pub record IsPart (j k : Piece) : Type 0 where
  pub curve : j.curve ≡ k.curve
  pub side : j.side ≡ k.side
  pub segment : j.segment ≡ k.segment
  pub low : Le k.from j.from
  pub high : Le j.to k.to

pub part_on : (j k : Piece) → IsPart j k → (t : Point) → On j t → On k t
part_on j k p t o = record { line = sym (along_of j k p.segment t) ∙ o.line; low = le_trans p.low o.low; high = le_trans o.high p.high }

part_itself : (k : Piece) → IsPart k k
part_itself k = record { curve = refl; side = refl; segment = refl; low = le_same k.from; high = le_same k.to }

part_under : (j k : Piece) (a : Point) → On k a → j ≡ record k { to = a } → IsPart j k
part_under j k a o e = subst (λ z. IsPart z k) (sym e) (record { curve = refl; side = refl; segment = refl; low = le_same k.from; high = o.high })

part_over : (j k : Piece) (b : Point) → On k b → j ≡ record k { from = b } → IsPart j k
part_over j k b o e = subst (λ z. IsPart z k) (sym e) (record { curve = refl; side = refl; segment = refl; low = o.low; high = le_same k.to })

pub record Parent (ks : List Piece) (j : Piece) : Type 0 where
  pub piece : Piece
  pub here : Member piece ks
  pub part : IsPart j piece

pub parent : (a b : Point) (ks : List Piece) (j : Piece) → Source a b ks j → Parent ks j
parent a b ks j (whole h f) = record { piece = j; here = h; part = part_itself j }
parent a b ks j (under k h x y l e) = record { piece = k; here = h; part = part_under j k a x e }
parent a b ks j (over k h x y l e) = record { piece = k; here = h; part = part_over j k b y e }

part_mark : (vs : List Point) (ks js : List Piece) (m : Mark) (h : IsMark vs js m) (q : Parent ks h.piece) → IsMark vs ks m
part_mark vs ks js m h q = record {
  piece = q.piece;
  here = q.here;
  curve = h.curve ∙ q.part.curve;
  low_in = h.low_in;
  high_in = h.high_in;
  next = record {
    lt = h.next.lt;
    at_p = part_on h.piece q.piece q.part m.low h.next.at_p;
    at_q = part_on h.piece q.piece q.part m.high h.next.at_q;
    none = λ r n x y e. h.next.none r n x y (along_of h.piece q.piece q.part.segment r ∙ e);
  };
}

module _ (vs : List Point) (ks : List Piece) (cl : IsClosed vs ks) (a b : Point) (m0 : Mark) (h0 : IsMark vs ks m0) (at_a : m0.low ≡ a) (at_b : m0.high ≡ b) where
  a_in : Member a vs
  a_in = subst (λ z. Member z vs) at_a h0.low_in

  b_in : Member b vs
  b_in = subst (λ z. Member z vs) at_b h0.high_in

  a_b : Lt a b
  a_b = subst (λ z. Lt a z) at_b (subst (λ z. Lt z m0.high) at_a h0.next.lt)

  -- no mark of what is left is at the edge
  not_at : (m : Mark) (j : Piece) → On j m.low → On j m.high → Source a b ks j → is_at a b m ≡ true → ⊥
  not_at m j x y s e = by s (and_true (same_point m.low a) (same_point m.high b) e)
    where
      by : Source a b ks j → (same_point m.low a ≡ true) × (same_point m.high b ≡ true) → ⊥
      by (whole h f) g = f (subst (On j) (same_out m.low a g.0) x) (subst (On j) (same_out m.high b g.1) y)
      by (under k h u v l i) g = (y.high).never (subst (λ z. Lt z m.high) (sym (ap (λ z. z.to) i)) (subst (λ z. Lt a z) (sym (same_out m.high b g.1)) a_b))
      by (over k h u v l i) g = (x.low).never (subst (λ z. Lt m.low z) (sym (ap (λ z. z.from) i)) (subst (λ z. Lt z b) (sym (same_out m.low a g.0)) a_b))

  cut_there : (m : Mark) → IsMark vs (flat_map (cut_piece a b) ks) m → Member m (filter (λ n. not (is_at a b n)) (marks vs ks))
  cut_there m h =
      let s = source_out a b ks h.piece h.here in
      in_filter (λ n. not (is_at a b n)) m (marks vs ks) (mark_in vs ks m (part_mark vs ks (flat_map (cut_piece a b) ks) m h (parent a b ks h.piece s))) (not_in (is_at a b m) (not_at m h.piece h.next.at_p h.next.at_q s))

  -- another mark of a piece that holds a and b is below a or above b
  beyond : (m : Mark) (h : IsMark vs ks m) → On h.piece a → On h.piece b → (is_at a b m ≡ true → ⊥) → Lt m.low b → Lt a m.high → ⊥
  beyond m h x y f l g =
      let line_a : (t : Point) → IsProper t → along h0.piece t ≡ along h.piece t = λ t pt.
      sym (mark_line vs ks cl m0 h0 t pt) ∙ (λ i. collinear (at_a i) (at_b i) t) ∙ (cl.straight h.piece h.here).span a b t (cl.proper a a_in) (cl.proper b b_in) pt a_b x.line y.line in
      let one : Le a m.low = record { never = λ k. h.next.none a a_in k g x.line } in
      let two : Le m.high b = record { never = λ k. h.next.none b b_in l k y.line } in
      let three : Le m.low a = record { never = λ k. h0.next.none m.low h.low_in (subst (λ z. Lt z m.low) (sym at_a) k) (subst (λ z. Lt m.low z) (sym at_b) l) (line_a m.low (cl.proper m.low h.low_in) ∙ h.next.at_p.line) } in
      let four : Le b m.high = record { never = λ k. h0.next.none m.high h.high_in (subst (λ z. Lt z m.high) (sym at_a) g) (subst (λ z. Lt m.high z) (sym at_b) k) (line_a m.high (cl.proper m.high h.high_in) ∙ h.next.at_q.line) } in
      f (and_in (same_in m.low a (le_both three one)) (same_in m.high b (le_both two four)))

  left_mark : (m : Mark) (h : IsMark vs ks m) → (is_at a b m ≡ true → ⊥) → (j : Piece) → Source a b ks j → IsPart j h.piece → On j m.low → On j m.high → IsMark vs (flat_map (cut_piece a b) ks) m
  left_mark m h f j s p x y = record {
    piece = j;
    here = source_in a b ks j s;
    curve = h.curve ∙ sym p.curve;
    low_in = h.low_in;
    high_in = h.high_in;
    next = record { lt = h.next.lt; at_p = x; at_q = y; none = λ r n u v e. h.next.none r n u v (sym (along_of j h.piece p.segment r) ∙ e) };
  }

  on_under : (k : Piece) (t : Point) → On k t → Le t a → On (record k { to = a }) t
  on_under k t o l = record { line = along_of (record k { to = a }) k refl t ∙ o.line; low = o.low; high = l }

  on_over : (k : Piece) (t : Point) → On k t → Le b t → On (record k { from = b }) t
  on_over k t o l = record { line = along_of (record k { from = b }) k refl t ∙ o.line; low = l; high = o.high }

  cut_back : (m : Mark) → IsMark vs ks m → (is_at a b m ≡ true → ⊥) → IsMark vs (flat_map (cut_piece a b) ks) m
  cut_back m h f = by (on h.piece a && on h.piece b) refl
    where
      sides : On h.piece a → On h.piece b → (Le m.high a) ⊎ (Le b m.low)
      sides x y = ⊎_elim (λ l. ⊎_elim (λ g. absurd (beyond m h x y f (lt_out m.low b l) (lt_out a m.high g))) (λ g. inl (record { never = λ k. clash (lt_in k) g })) (decide (precedes a m.high))) (λ l. inr (record { never = λ k. clash (lt_in k) l })) (decide (precedes m.low b))

      by : (c : Bool) → on h.piece a && on h.piece b ≡ c → IsMark vs (flat_map (cut_piece a b) ks) m
      by true e =
          let o = and_true (on h.piece a) (on h.piece b) e in
          let x = on_out h.piece a o.0 in
          let y = on_out h.piece b o.1 in
          ⊎_elim
          (λ l. let lower : Le m.low a = le_trans (le_lt h.next.lt) l in
          left_mark m h f (record h.piece { to = a }) (under h.piece h.here x y (le_lt_lt h.next.at_p.low (lt_le_lt h.next.lt l)) refl) (part_under (record h.piece { to = a }) h.piece a x refl) (on_under h.piece m.low h.next.at_p lower) (on_under h.piece m.high h.next.at_q l))
          (λ l. let upper : Le b m.high = le_trans l (le_lt h.next.lt) in
          left_mark m h f (record h.piece { from = b }) (over h.piece h.here x y (le_lt_lt l (lt_le_lt h.next.lt h.next.at_q.high)) refl) (part_over (record h.piece { from = b }) h.piece b y refl) (on_over h.piece m.low h.next.at_p l) (on_over h.piece m.high h.next.at_q upper))
          (sides x y)
      by false e = left_mark m h f h.piece (whole h.here (λ x y. clash (and_in (on_in h.piece a x) (on_in h.piece b y)) e)) (part_itself h.piece) h.next.at_p h.next.at_q

  pub cut_marks : filter (λ n. not (is_at a b n)) (marks vs ks) ≡ marks vs (flat_map (cut_piece a b) ks)
  cut_marks =
      ascending_unique mark_cmp mark_cmp_total (filter (λ n. not (is_at a b n)) (marks vs ks)) (marks vs (flat_map (cut_piece a b) ks)) (IsAscending-filter mark_cmp (λ n. not (is_at a b n)) (marks vs ks) (marks_ascend vs ks)) (marks_ascend vs (flat_map (cut_piece a b) ks))
      (λ m n. let k = of_filter (λ n. not (is_at a b n)) m (marks vs ks) n in mark_in vs (flat_map (cut_piece a b) ks) m (cut_back m (mark_out vs ks m k.0) (λ e. clash e (not_out (is_at a b m) k.1))))
      (λ m n. cut_there m (mark_out vs (flat_map (cut_piece a b) ks) m n))

-- ---- the vertices after a cut were there before
module _ (p : Present) (a b : Point) (a_here : Member a (vertices p)) (b_here : Member b (vertices p)) where
  end_was : (x : Point) (j : Piece) → Source a b p.pieces j → (x ≡ j.from) ⊎ (x ≡ j.to) → Member x (vertices p)
  end_was x j (whole h f) (inl e) = vertex_in p x (begins j h e)
  end_was x j (whole h f) (inr e) = vertex_in p x (finishes j h e)
  end_was x j (under k h u v l i) (inl e) = vertex_in p x (begins k h (e ∙ ap (λ z. z.from) i))
  end_was x j (under k h u v l i) (inr e) = subst (λ z. Member z (vertices p)) (sym (e ∙ ap (λ z. z.to) i)) a_here
  end_was x j (over k h u v l i) (inl e) = subst (λ z. Member z (vertices p)) (sym (e ∙ ap (λ z. z.from) i)) b_here
  end_was x j (over k h u v l i) (inr e) = vertex_in p x (finishes k h (e ∙ ap (λ z. z.to) i))

  crossing_was : (x : Point) → IsCrossing (with_cut p a b) x → IsCrossing p x
  crossing_was x c =
      let k = parent a b p.pieces c.one (source_out a b p.pieces c.one c.one_here) in
      let m = parent a b p.pieces c.other (source_out a b p.pieces c.other c.other_here) in
      record {
        one = k.piece;
        other = m.piece;
        one_here = k.here;
        other_here = m.here;
        apart = ap₂ (λ s t. are_parallel (line_of_segment s) (line_of_segment t)) (sym k.part.segment) (sym m.part.segment) ∙ c.apart;
        on_one = part_on c.one k.piece k.part x c.on_one;
        on_other = part_on c.other m.piece m.part x c.on_other;
        is = c.is ∙ ap₂ (λ s t. crossing (line_of_segment s) (line_of_segment t)) k.part.segment m.part.segment;
      }

  cut_was : (x : Point) → IsVertex (with_cut p a b) x → Member x (vertices p)
  cut_was x (begins k h e) = end_was x k (source_out a b p.pieces k h) (inl e)
  cut_was x (finishes k h e) = end_was x k (source_out a b p.pieces k h) (inr e)
  cut_was x (pinned h) = vertex_in p x (pinned h)
  cut_was x (crossed c) = vertex_in p x (crossed (crossing_was x c))

  pub cut_sub : (x : Point) → Member x (vertices (with_cut p a b)) → Member x (vertices p)
  cut_sub x m = cut_was x (vertex_out (with_cut p a b) x m)

-- ---- a cut keeps the present fit
module _ (p : Present) (fit : IsFit p) (a b : Point) (pa : IsProper a) (pb : IsProper b) (a_b : Lt a b) where
  not_before : (q r : Point) → Le r q → precedes q r ≡ false
  not_before q r l = not_true (precedes q r) (λ e. l.never (lt_out q r e))

  within : (q r : Point) → precedes q r ≡ false → Le r q
  within q r e = record { never = λ l. clash (lt_in l) e }

  fit_source : (j : Piece) → Source a b p.pieces j → IsFitPiece j
  fit_source j (whole h f) = fit.piece j h
  fit_source j (under k h x y l e) =
      let f = fit.piece k h in
      subst IsFitPiece (sym e) (record {
        lower = f.lower;
        upper = f.upper;
        ahead = f.ahead;
        from = f.from;
        to = pa;
        forward = lt_in l;
        from_on = along_of (record k { to = a }) k refl k.from ∙ f.from_on;
        to_on = along_of (record k { to = a }) k refl a ∙ x.line;
        from_within = f.from_within;
        to_within = not_before k.segment.upper a (le_trans x.high (within k.segment.upper k.to f.to_within));
        first_side = f.first_side;
        last_side = f.last_side;
      })
  fit_source j (over k h x y l e) =
      let f = fit.piece k h in
      subst IsFitPiece (sym e) (record {
        lower = f.lower;
        upper = f.upper;
        ahead = f.ahead;
        from = pb;
        to = f.to;
        forward = lt_in l;
        from_on = along_of (record k { from = b }) k refl b ∙ y.line;
        to_on = along_of (record k { from = b }) k refl k.to ∙ f.to_on;
        from_within = not_before b k.segment.lower (le_trans (within k.from k.segment.lower f.from_within) y.low);
        to_within = f.to_within;
        first_side = f.first_side;
        last_side = f.last_side;
      })

  not_both : (t : Point) → Le t a → Le b t → ⊥
  not_both t l g = (le_trans g l).never a_b

  to_a : Piece → Piece
  to_a k = record k { to = a }

  from_b : Piece → Piece
  from_b k = record k { from = b }

  -- two parts that share a point are one
  one_by : (i j : Piece) (t : Point) → On i t → On j t → (s : Source a b p.pieces i) → (u : Source a b p.pieces j) → (parent a b p.pieces i s).piece ≡ (parent a b p.pieces j u).piece → i ≡ j
  unfolding parent to_a from_b
  one_by i j t x y (whole h f) (whole g k) e = e
  one_by i j t x y (whole h f) (under k g u v l q) e = absurd (f (subst (λ z. On z a) (sym e) u) (subst (λ z. On z b) (sym e) v))
  one_by i j t x y (whole h f) (over k g u v l q) e = absurd (f (subst (λ z. On z a) (sym e) u) (subst (λ z. On z b) (sym e) v))
  one_by i j t x y (under k g u v l q) (whole h f) e = absurd (f (subst (λ z. On z a) e u) (subst (λ z. On z b) e v))
  one_by i j t x y (over k g u v l q) (whole h f) e = absurd (f (subst (λ z. On z a) e u) (subst (λ z. On z b) e v))
  one_by i j t x y (under k g u v l q) (under m h r s n o) e = q ∙ ap to_a e ∙ sym o
  one_by i j t x y (over k g u v l q) (over m h r s n o) e = q ∙ ap from_b e ∙ sym o
  one_by i j t x y (under k g u v l q) (over m h r s n o) e = absurd (not_both t (subst (λ z. Le t z) (ap (λ (z : Piece). z.to) q) x.high) (subst (λ z. Le z t) (ap (λ (z : Piece). z.from) o) y.low))
  one_by i j t x y (over k g u v l q) (under m h r s n o) e = absurd (not_both t (subst (λ z. Le t z) (ap (λ (z : Piece). z.to) o) y.high) (subst (λ z. Le z t) (ap (λ (z : Piece). z.from) q) x.low))

  of_parents : {i j k m : Piece} → IsPart i k → IsPart j m → AreOfOneSide i j → AreOfOneSide k m
  of_parents x y e = (sym x.curve ∙ e.0 ∙ y.curve, sym x.side ∙ e.1 ∙ y.side)

  pub fit_cut : IsFit (with_cut p a b)
  fit_cut = record {
    piece = λ k h. fit_source k (source_out a b p.pieces k h);
    pin = fit.pin;
    pins_ascend = fit.pins_ascend;
    one_segment = λ k m h g e.
        let x = parent a b p.pieces k (source_out a b p.pieces k h) in
        let y = parent a b p.pieces m (source_out a b p.pieces m g) in
        x.part.segment ∙ fit.one_segment x.piece y.piece x.here y.here (of_parents x.part y.part e) ∙ sym y.part.segment;
    one_piece = λ k m h g e t pt c d.
        let s = source_out a b p.pieces k h in
        let u = source_out a b p.pieces m g in
        let x = parent a b p.pieces k s in
        let y = parent a b p.pieces m u in
        one_by k m t (on_out k t c) (on_out m t d) s u (fit.one_piece x.piece y.piece x.here y.here (of_parents x.part y.part e) t pt (on_in x.piece t (part_on k x.piece x.part t (on_out k t c))) (on_in y.piece t (part_on m y.piece y.part t (on_out m t d))));
  }

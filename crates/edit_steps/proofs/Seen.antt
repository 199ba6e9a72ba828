-- What code can see at a vertex and along a piece.
use Rattle.std.proofs.Common.{◌≡◌, List, [], ◌∷◌, true, false, not, ◌&&◌, ◌||◌, refl, sym, ap, ◌∙◌, subst, inl, inr, ◌⊎◌, ⊎_elim, ℤ, ◌*ℤ◌, int_cmp, is_eq, Ordering, Less, Equal, Greater}
use Rattle.std.specs.Ordering.{ordering_reverse, int_eq}
use Rattle.std.proofs.lemmas.Cmp.{int_cmp_total, tied_itself}
use Rattle.std.specs.List.{list_any}
use Rattle.exact_plane.specs.Point.{Point}
use Rattle.exact_plane.specs.PointOrder.{point_cmp}
use Rattle.plane_graphs.specs.Line.{precedes, same_point, are_parallel, IsProper}
use Rattle.exact_plane.specs.Segment.{line_of_segment}
use Rattle.exact_plane.specs.PointOrderLaws.{and_true}
use Rattle.plane_graphs.specs.Ascending.{place, Member, IsAscending}
use Rattle.plane_graphs.specs.Piece.{Piece, Present, along, on}
use Rattle.plane_graphs.specs.Graph.{Mark, graph, graph_over, marks, vertices, mark}
use Rattle.edit_steps.specs.Steps.{points_without, with_piece}
use Rattle.plane_graphs.specs.Fit.{IsFit, IsFitPiece}
use Rattle.plane_graphs.specs.Strands.{strands, HasOneSide}
use Rattle.plane_graphs.proofs.Strands.{strands_fit, strands_one_side, strand_vertices}
use Rattle.edit_steps.specs.Allowed.{IsPassed}
use Rattle.edit_steps.specs.EditLaws.{IsLoose, LooseIsNoVertex, PassesThrough, MeetingPoints}
use Rattle.plane_graphs.proofs.Lists.{and_in, not_out, not_in, clash, decide, any_none, any_out, of_filter, or_left, or_right, in_either, in_left, in_right, IsAscending-filter, in_filter}
use Rattle.plane_graphs.proofs.Order.{Lt, lt_in, lt_out, lt_never, same_out, same_in, same_itself}
use Rattle.plane_graphs.proofs.Marks.{le_same, le_lt, le_cases, lt_le_lt, On, on_out, on_in, on_between, IsMark, mark_out, mark_in}
use Rattle.plane_graphs.proofs.Closed.{IsClosed, around, mark_line, inside_out, inside_in, first_passing, last_passing}
use Rattle.edit_steps.proofs.Tidy.{touches}
use Rattle.edit_steps.proofs.Folds.{closed_more, put_back}
use Rattle.edit_steps.proofs.Sound.{is_passed}
use Rattle.plane_graphs.proofs.Vertices.{IsVertex, IsProperPiece, proper_piece, vertex_in, vertex_out, vertices_closed}
use Rattle.plane_graphs.proofs.Vertices.IsVertex.{begins, finishes, pinned, crossed}
use Rattle.edit_steps.proofs.Edits.{vertices_more, fit_before}
use Rattle.plane_graphs.proofs.Lines.{geometry, crossing_is}
use Rattle.integers.proofs.Tests.{not_true}

reversed_eq : (o : Ordering) → is_eq (ordering_reverse o) ≡ is_eq o
reversed_eq Less = refl
reversed_eq Equal = refl
reversed_eq Greater = refl

swapped : (a b : ℤ) → int_eq a b ≡ int_eq b a
swapped a b = ap is_eq (int_cmp_total.antisymm a b) ∙ reversed_eq (int_cmp b a)

parallel_itself : (k : Piece) → are_parallel (line_of_segment k.segment) (line_of_segment k.segment) ≡ true
parallel_itself k = ap is_eq (tied_itself int_cmp_total ((line_of_segment k.segment).a *ℤ (line_of_segment k.segment).b))

-- two lines with two common points are parallel
shares_two : (k m : Piece) → IsProperPiece k → IsProperPiece m → are_parallel (line_of_segment k.segment) (line_of_segment m.segment) ≡ false → (u v : Point) → IsProper u → IsProper v → Lt u v → along k u ≡ true → along k v ≡ true → along m u ≡ true → along m v ≡ true → ⊥
shares_two k m hk hm e u v pu pv l a b c d =
    let same : u ≡ v = crossing_is k m hk hm e u pu a c ∙ sym (crossing_is k m hk hm e v pv b d) in
    lt_never (subst (λ z. Lt z v) same l)

module _ (p : Present) (fit : IsFit p) (one_side : HasOneSide p.pieces) (vs : List Point) (cl : IsClosed vs p.pieces) (x : Point) (here : Member x vs) where
  -- a piece through x goes on above it, or below it
  upwards : (k : Piece) → Member k p.pieces → On k x → Lt x k.to → (m : Mark) × IsMark vs p.pieces m × (m.low ≡ x) × (m.curve ≡ k.curve)
  upwards k h o l =
      let f = fit.piece k h in
      let at_to : on k k.to ≡ true = on_in k k.to (record { line = f.to_on; low = le_lt (lt_out k.from k.to f.forward); high = le_same k.to }) in
      let b = first_passing (λ v. precedes x v && on k v) vs (k.to, cl.to_in k h, and_in (lt_in l) at_to) in
      let w = and_true (precedes x b.0) (on k b.0) b.1.passes in
      let q_on = on_out k b.0 w.1 in (
        mark x b.0 k.curve,
        record {
          piece = k;
          here = h;
          curve = refl;
          low_in = here;
          high_in = b.1.here;
          next = record { lt = lt_out x b.0 w.0; at_p = o; at_q = q_on; none = λ r n i j e. (b.1.first r n (and_in (lt_in i) (on_in k r (on_between k x r b.0 o q_on (le_lt i) (le_lt j) e)))).never j };
        },
        refl,
        refl,
      )

  downwards : (k : Piece) → Member k p.pieces → On k x → Lt k.from x → (m : Mark) × IsMark vs p.pieces m × (m.high ≡ x) × (m.curve ≡ k.curve)
  downwards k h o l =
      let f = fit.piece k h in
      let at_from : on k k.from ≡ true = on_in k k.from (record { line = f.from_on; low = le_same k.from; high = le_lt (lt_out k.from k.to f.forward) }) in
      let b = last_passing (λ v. precedes v x && on k v) vs (k.from, cl.from_in k h, and_in (lt_in l) at_from) in
      let w = and_true (precedes b.0 x) (on k b.0) b.1.passes in
      let q_on = on_out k b.0 w.1 in (
        mark b.0 x k.curve,
        record {
          piece = k;
          here = h;
          curve = refl;
          low_in = b.1.here;
          high_in = here;
          next = record { lt = lt_out b.0 x w.0; at_p = q_on; at_q = o; none = λ r n i j e. (b.1.last r n (and_in (lt_in j) (on_in k r (on_between k b.0 r x q_on o (le_lt i) (le_lt j) e)))).never i };
        },
        refl,
        refl,
      )

  -- so it has an edge there
  some_edge : (k : Piece) → Member k p.pieces → On k x → (m : Mark) × IsMark vs p.pieces m × ((m.low ≡ x) ⊎ (m.high ≡ x)) × (m.curve ≡ k.curve)
  some_edge k h o =
      ⊎_elim
      (λ e. let d = downwards k h o (lt_le_lt (subst (Lt k.from) (sym e) (lt_out k.from k.to (fit.piece k h).forward)) (le_same x)) in (d.0, d.1, inr d.2, d.3))
      (λ l. let d = upwards k h o l in (d.0, d.1, inl d.2, d.3))
      (le_cases x k.to o.high)

  module _ (s : IsPassed (graph_over vs p.pieces p.pins) x) where
    -- a piece that has a mark of the curve of k at x is k
    same_piece : (k : Piece) → Member k p.pieces → On k x → (m : Mark) (h : IsMark vs p.pieces m) → On h.piece x → m.curve ≡ k.curve → h.piece ≡ k
    same_piece k h o m i u e = fit.one_piece h_piece k i.here h (sym i.curve ∙ e, one_side h_piece k i.here h (sym i.curve ∙ e)) x (cl.proper x here) (on_in i.piece x u) (on_in k x o)
      where
        h_piece : Piece
        h_piece = i.piece

    on_low : (k : Piece) → Member k p.pieces → On k x → Member (mark s.low x k.curve) (marks vs p.pieces) → On k s.low
    on_low k h o i = let a = mark_out vs p.pieces (mark s.low x k.curve) i in subst (λ z. On z s.low) (same_piece k h o (mark s.low x k.curve) a a.next.at_q refl) a.next.at_p

    on_high : (k : Piece) → Member k p.pieces → On k x → Member (mark x s.high k.curve) (marks vs p.pieces) → On k s.high
    on_high k h o i = let a = mark_out vs p.pieces (mark x s.high k.curve) i in subst (λ z. On z s.high) (same_piece k h o (mark x s.high k.curve) a a.next.at_p refl) a.next.at_q

    -- a piece through x holds both neighbours
    through : (k : Piece) → Member k p.pieces → On k x → On k s.low × On k s.high
    through k h o =
        let d = some_edge k h o in
        let m = d.0 in
        let t : (same_point m.low x || same_point m.high x) ≡ true = ⊎_elim (λ e. or_left (same_point m.low x) (same_point m.high x) (same_in m.low x e)) (λ e. or_right (same_point m.low x) (same_point m.high x) (same_in m.high x e)) d.2 in
        let i = mark_in vs p.pieces m d.1 in
        ⊎_elim
        (λ w. let u : Member (mark s.low x k.curve) (marks vs p.pieces) = subst (λ z. Member z (marks vs p.pieces)) (λ j. record { low = w.0 j; high = w.1 j; curve = d.3 j }) i in (on_low k h o u, on_high k h o (s.onwards k.curve u)))
        (λ w. let u : Member (mark x s.high k.curve) (marks vs p.pieces) = subst (λ z. Member z (marks vs p.pieces)) (λ j. record { low = w.0 j; high = w.1 j; curve = d.3 j }) i in (on_low k h o (s.back k.curve u), on_high k h o u))
        (s.only m i t)

    not_passed : IsVertex p x → (Member x p.pins → ⊥) → ⊥
    not_passed (begins k h e) f =
        let q = fit.piece k h in
        let o : On k x = subst (On k) (sym e) (record { line = q.from_on; low = le_same k.from; high = le_lt (lt_out k.from k.to q.forward) }) in
        (through k h o).0.low.never (subst (Lt s.low) e (lt_out s.low x s.below))
    not_passed (finishes k h e) f =
        let q = fit.piece k h in
        let o : On k x = subst (On k) (sym e) (record { line = q.to_on; low = le_lt (lt_out k.from k.to q.forward); high = le_same k.to }) in
        (through k h o).1.high.never (subst (λ z. Lt z s.high) e (lt_out x s.high s.above))
    not_passed (pinned h) f = f h
    not_passed (crossed c) f =
        let a = through c.one c.one_here c.on_one in
        let b = through c.other c.other_here c.on_other in
        let low_proper : IsProper s.low = cl.proper s.low (mark_out vs p.pieces (mark s.low x s.curve) s.some).low_in in
        shares_two c.one c.other (proper_piece c.one (fit.piece c.one c.one_here)) (proper_piece c.other (fit.piece c.other c.other_here)) c.apart s.low x low_proper (cl.proper x here) (lt_out s.low x s.below) a.0.line c.on_one.line b.0.line c.on_other.line

  bare_by : ((m : Mark) → Member m (marks vs p.pieces) → (same_point m.low x || same_point m.high x) ≡ false) → (k : Piece) → Member k p.pieces → On k x → ⊥
  bare_by f k h o =
      let d = some_edge k h o in
      let m = d.0 in
      clash (⊎_elim (λ e. or_left (same_point m.low x) (same_point m.high x) (same_in m.low x e)) (λ e. or_right (same_point m.low x) (same_point m.high x) (same_in m.high x e)) d.2) (f m (mark_in vs p.pieces m d.1))

  not_bare : ((m : Mark) → Member m (marks vs p.pieces) → (same_point m.low x || same_point m.high x) ≡ false) → IsVertex p x → (Member x p.pins → ⊥) → ⊥
  not_bare f (begins k h e) n = let q = fit.piece k h in bare_by f k h (subst (On k) (sym e) (record { line = q.from_on; low = le_same k.from; high = le_lt (lt_out k.from k.to q.forward) }))
  not_bare f (finishes k h e) n = let q = fit.piece k h in bare_by f k h (subst (On k) (sym e) (record { line = q.to_on; low = le_lt (lt_out k.from k.to q.forward); high = le_same k.to }))
  not_bare f (pinned h) n = n h
  not_bare f (crossed c) n = bare_by f c.one c.one_here c.on_one

loose_stays : (p : Present) (vs : List Point) (x : Point) → IsFit p → IsAscending point_cmp vs → ((q : Point) → Member q vs → IsProper q) → ((q : Point) → Member q (vertices p) → Member q vs) → Member x vs → (Member x (vertices p) → ⊥) → IsLoose (graph_over vs p.pieces p.pins) x × (Member x p.pins → ⊥)
loose_stays p vs x fit asc proper sub here f =
    let ws : List Point = points_without x vs in
    let old = vertices_closed geometry p fit in
    let into : (q : Point) → Member q (vertices p) → Member q (points_without x vs) = λ q m. in_filter (λ z. not (same_point z x)) q vs (sub q m) (not_in (same_point q x) (λ e. f (subst (λ z. Member z (vertices p)) (same_out q x e) m))) in
    let cl : IsClosed (points_without x vs) p.pieces = closed_more (vertices p) (points_without x vs) p.pieces old (IsAscending-filter point_cmp (λ z. not (same_point z x)) vs asc) into (λ q m. proper q (of_filter (λ z. not (same_point z x)) q vs m).0) in
    let new : Member x (points_without x vs) → ⊥ = λ m. clash (same_itself x) (not_out (same_point x x) (of_filter (λ z. not (same_point z x)) x vs m).1) in
    let is : vs ≡ place point_cmp x (points_without x vs) = put_back x vs asc here in (
      subst (λ z. IsLoose (graph_over z p.pieces p.pins) x) (sym is)
          (⊎_elim (λ e. inr (is_passed p.pieces p.pins ws cl x (proper x here) new e)) (λ e. inl (λ m k. not_true (touches x m) (λ h. any_none (touches x) m (marks (place point_cmp x ws) p.pieces) e k h))) (decide (list_any (touches x) (marks (place point_cmp x ws) p.pieces)))),
      λ n. f (vertex_in p x (pinned n)),
    )

-- where a curve has one side, what the curves of the edges tell
loose_goes : (p : Present) (vs : List Point) (x : Point) → IsFit p → HasOneSide p.pieces → IsAscending point_cmp vs → ((q : Point) → Member q vs → IsProper q) → ((q : Point) → Member q (vertices p) → Member q vs) → Member x vs → (Member x p.pins → ⊥) → IsLoose (graph_over vs p.pieces p.pins) x → Member x (vertices p) → ⊥
loose_goes p vs x fit one asc proper sub here n loose m =
    let cl = closed_more (vertices p) vs p.pieces (vertices_closed geometry p fit) asc sub proper in
    ⊎_elim (λ f. not_bare p fit one vs cl x here f (vertex_out p x m) n) (λ s. not_passed p fit one vs cl x here s (vertex_out p x m) n) loose

-- the sides told apart, the present has the same vertices
module _ (p : Present) (x : Point) where
  to_strands : Member x (vertices p) → Member x (vertices (strands p))
  to_strands = subst (Member x) (sym (strand_vertices p))

  from_strands : Member x (vertices (strands p)) → Member x (vertices p)
  from_strands = subst (Member x) (strand_vertices p)

pub loose_is_no_vertex : LooseIsNoVertex
loose_is_no_vertex = record {
  go = λ p vs x fit asc proper sub here n loose m. loose_goes (strands p) vs x (strands_fit p fit) (strands_one_side p fit) asc proper (λ q i. sub q (from_strands p q i)) here n loose (to_strands p x m);
  stay = λ p vs x fit asc proper sub here f.
      let a = loose_stays p vs x fit asc proper sub here f in
      let b = loose_stays (strands p) vs x (strands_fit p fit) asc proper (λ q i. sub q (from_strands p q i)) here (λ i. f (from_strands p x i)) in
      (a.0, b.0, a.1);
}

-- ---- along a new piece
module _ (p : Present) (k : Piece) (fit : IsFit (with_piece p k)) (x : Point) where
  old_fit : IsFit p
  old_fit = fit_before p k fit

  last_here : Member k (with_piece p k).pieces
  last_here = in_right k p.pieces (k ∷ []) (inl refl)

  fit_k : IsFitPiece k
  fit_k = fit.piece k last_here

  abbrev Meeting : Type 0
  Meeting = (x ≡ k.from) ⊎ ((x ≡ k.to) ⊎ (Member x (vertices p) ⊎ PassesThrough (graph p) k x))

  is_new : (j : Piece) → Member j (k ∷ []) → j ≡ k
  is_new j m = ⊎_elim (λ e. e) (λ z. absurd z) m

  -- where an old piece of another line meets it
  passes : (j : Piece) → Member j p.pieces → On j x → On k x → IsProper x → are_parallel (line_of_segment j.segment) (line_of_segment k.segment) ≡ false → (Member x (vertices p) → ⊥) → PassesThrough (graph p) k x
  unfolding graph
  passes j h o u pt e new =
      let cl = vertices_closed geometry p old_fit in
      let b = around (vertices p) p.pieces cl j h x pt new o in
      let m : Mark = mark b.low b.high j.curve in
      let is : IsMark (vertices p) p.pieces (mark b.low b.high j.curve) = record { piece = j; here = h; curve = refl; low_in = b.low_in; high_in = b.high_in; next = b.next } in
      record {
        proper = pt;
        here = on_in k x u;
        edge = m;
        edge_in = mark_in (vertices p) p.pieces m is;
        within = inside_in x m b.below b.above (mark_line (vertices p) p.pieces cl m is x pt ∙ o.line);
        apart = not_true (along k b.low && along k b.high) (λ a.
            let w = and_true (along k b.low) (along k b.high) a in
            shares_two j k (proper_piece j (old_fit.piece j h)) (proper_piece k fit_k) e b.low b.high (cl.proper b.low b.low_in) (cl.proper b.high b.high_in) b.next.lt b.next.at_p.line b.next.at_q.line w.0 w.1);
      }

  turned : (j : Piece) → are_parallel (line_of_segment k.segment) (line_of_segment j.segment) ≡ false → are_parallel (line_of_segment j.segment) (line_of_segment k.segment) ≡ false
  turned j e = sym (swapped ((line_of_segment k.segment).a *ℤ (line_of_segment j.segment).b) ((line_of_segment j.segment).a *ℤ (line_of_segment k.segment).b)) ∙ e

  meeting_by : IsVertex (with_piece p k) x → On k x → (Member x (vertices p) → ⊥) → Meeting
  meeting_by (begins j h e) u new = ⊎_elim (λ i. absurd (new (vertex_in p x (begins j i e)))) (λ i. inl (e ∙ ap (λ (z : Piece). z.from) (is_new j i))) (in_either j p.pieces (k ∷ []) h)
  meeting_by (finishes j h e) u new = ⊎_elim (λ i. absurd (new (vertex_in p x (finishes j i e)))) (λ i. inr (inl (e ∙ ap (λ (z : Piece). z.to) (is_new j i)))) (in_either j p.pieces (k ∷ []) h)
  meeting_by (pinned h) u new = absurd (new (vertex_in p x (pinned h)))
  meeting_by (crossed c) u new =
      let pt : IsProper x = (vertices_closed geometry (with_piece p k) fit).proper x (vertex_in (with_piece p k) x (crossed c)) in
      ⊎_elim
      (λ i. ⊎_elim
      (λ j. absurd (new (vertex_in p x (crossed (record { one = c.one; other = c.other; one_here = i; other_here = j; apart = c.apart; on_one = c.on_one; on_other = c.on_other; is = c.is })))))
      (λ j. inr (inr (inr (passes c.one i c.on_one u pt (subst (λ z. are_parallel (line_of_segment c.one.segment) (line_of_segment z.segment) ≡ false) (is_new c.other j) c.apart) new))))
      (in_either c.other p.pieces (k ∷ []) c.other_here))
      (λ i. ⊎_elim
      (λ j. inr (inr (inr (passes c.other j c.on_other u pt (turned c.other (subst (λ z. are_parallel (line_of_segment z.segment) (line_of_segment c.other.segment) ≡ false) (is_new c.one i) c.apart)) new))))
      (λ j. absurd (alone c.other (subst (λ z. are_parallel (line_of_segment z.segment) (line_of_segment c.other.segment) ≡ false) (is_new c.one i) c.apart) (is_new c.other j)))
      (in_either c.other p.pieces (k ∷ []) c.other_here))
      (in_either c.one p.pieces (k ∷ []) c.one_here)
    where
      alone : (o : Piece) → are_parallel (line_of_segment k.segment) (line_of_segment o.segment) ≡ false → o ≡ k → ⊥
      alone o e i = clash (parallel_itself k) (subst (λ z. are_parallel (line_of_segment k.segment) (line_of_segment z.segment) ≡ false) i e)

  all_by : Meeting → Member x (vertices (with_piece p k))
  unfolding graph
  all_by (inl e) = vertex_in (with_piece p k) x (begins k last_here e)
  all_by (inr (inl e)) = vertex_in (with_piece p k) x (finishes k last_here e)
  all_by (inr (inr (inl m))) = vertices_more p (with_piece p k) (λ j h. in_left j p.pieces (k ∷ []) h) (λ r h. h) x m
  all_by (inr (inr (inr s))) =
      let vs = vertices p in
      let cl = vertices_closed geometry p old_fit in
      let new = vertices_closed geometry (with_piece p k) fit in
      let i = mark_out (vertices p) p.pieces s.edge s.edge_in in
      let w = inside_out x s.edge s.within in
      let o : On i.piece x = on_between i.piece s.edge.low x s.edge.high i.next.at_p i.next.at_q (le_lt w.0) (le_lt w.1) (sym (mark_line (vertices p) p.pieces cl s.edge i x s.proper) ∙ w.2) in
      ⊎_elim (λ m. m)
      (λ l. clash (and_in (sym (l.same s.edge.low (cl.proper s.edge.low i.low_in)) ∙ i.next.at_p.line) (sym (l.same s.edge.high (cl.proper s.edge.high i.high_in)) ∙ i.next.at_q.line)) s.apart)
      (new.met i.piece k (in_left i.piece p.pieces (k ∷ []) i.here) last_here x s.proper o (on_out k x s.here))

pub meeting_points : MeetingPoints
meeting_points = record {
  are = λ p k x fit m o. ⊎_elim (λ e. let w = any_out (same_point x) (vertices p) e in inr (inr (inl (subst (λ z. Member z (vertices p)) (sym (same_out x w.0 w.2)) w.1)))) (λ e. meeting_by p k fit x (vertex_out (with_piece p k) x m) (on_out k x o) (λ n. any_none (same_point x) x (vertices p) e n (same_itself x))) (decide (list_any (same_point x) (vertices p)));
  all = λ p k x fit h. all_by p k fit x h;
}

-- The steps of an edit, where the sides of curves are told apart.
use Rattle.std.proofs.Common.{◌≡◌, ℕ, List, [], ◌∷◌, ◌++◌, Bool, true, false, cond, not, ◌&&◌, ◌||◌, refl, sym, ap, ap₂, ◌∙◌, subst, inl, inr, ⊎_elim}
use Rattle.std.specs.List.{list_any, flat_map}
use Rattle.exact_plane.specs.Point.{Point}
use Rattle.exact_plane.specs.PointOrder.{point_cmp}
use Rattle.plane_graphs.specs.Line.{same_point, precedes, IsProper}
use Rattle.plane_graphs.specs.Ascending.{place, Member}
use Rattle.plane_graphs.specs.Piece.{Piece, Present, on}
use Rattle.exact_plane.specs.PointOrderLaws.{and_true}
use Rattle.plane_graphs.specs.Graph.{Mark, mark, graph, graph_over, is_at, marks, vertices, inside}
use Rattle.plane_graphs.specs.Fit.{IsFit}
use Rattle.plane_graphs.specs.Strands.{strand, strand_piece, strand_pieces, strands}
use Rattle.edit_steps.specs.Steps.{Step, SplitEdge, MergeEdge, RemoveVertex, RemoveEdge, SetPin, ClearPin, points_without, apply, run, vertex_step_by, vertex_steps, tidy_step, tidy_steps, missing_points, with_tidying, cut_piece, with_cut, cut_steps, with_pin, pin_steps, without_pin, unpin_steps}
use Rattle.edit_steps.specs.Edits.{Edit, Insert, Drop, Cut, Pin, Unpin, Split, Merge, ClearAll, IsAccepted, after, steps}
use Rattle.plane_graphs.proofs.Lists.{in_map, not_out, of_filter, clash, any_in, any_out, any_none}
use Rattle.plane_graphs.proofs.Order.{same_out, same_in, same_itself}
use Rattle.plane_graphs.proofs.Marks.{Next, mark_out, mark_in}
use Rattle.plane_graphs.proofs.Closed.{IsClosed, inside_out, inside_in}
use Rattle.plane_graphs.proofs.Inner.{one_edge, inner_in}
use Rattle.plane_graphs.proofs.Lines.{geometry}
use Rattle.plane_graphs.proofs.Vertices.{vertices_closed, vertices_ascend}
use Rattle.plane_graphs.proofs.Strands.{of_strands, strand_on, strand_along, strands_fit, strand_vertices}
use Rattle.edit_steps.proofs.Split.{step_is, vertex_step}
use Rattle.edit_steps.proofs.Tidy.{touches, vertex_less}
use Rattle.edit_steps.proofs.Folds.{IsSum, missing_sum, closed_more, closed_place, grow_step, less_sum, put_back}
use Rattle.edit_steps.proofs.Edits.{unpin_sub, fit_unpin, pin_sum, is_r}
use Rattle.edit_steps.specs.EditLaws.{SeesNoCurve, StrandsFollow}
use Rattle.edit_steps.proofs.Cuts.{cut_marks, cut_sub}
use Rattle.edit_steps.proofs.Removals.{cut_leads}
use Rattle.edit_steps.proofs.Laws.{make_graph}

-- ---- the edges are the same
next_strand : (vs : List Point) (k : Piece) (p q : Point) → Next vs k p q → Next vs (strand_piece k) p q
next_strand vs k p q n = record {
  lt = n.lt;
  at_p = record { line = strand_along k p ∙ n.at_p.line; low = n.at_p.low; high = n.at_p.high };
  at_q = record { line = strand_along k q ∙ n.at_q.line; low = n.at_q.low; high = n.at_q.high };
  none = λ r m a b e. n.none r m a b (sym (strand_along k r) ∙ e);
}

next_curve : (vs : List Point) (k : Piece) (p q : Point) → Next vs (strand_piece k) p q → Next vs k p q
next_curve vs k p q n = record {
  lt = n.lt;
  at_p = record { line = sym (strand_along k p) ∙ n.at_p.line; low = n.at_p.low; high = n.at_p.high };
  at_q = record { line = sym (strand_along k q) ∙ n.at_q.line; low = n.at_q.low; high = n.at_q.high };
  none = λ r m a b e. n.none r m a b (strand_along k r ∙ e);
}

module _ (vs : List Point) (ks : List Piece) where
  -- a mark has a strand for the side of its piece
  pub to_strand : (m : Mark) → Member m (marks vs ks) → (k : Piece) × Member k ks × (m.curve ≡ k.curve) × Member (mark m.low m.high (strand k.curve k.side)) (marks vs (strand_pieces ks))
  to_strand m h =
      let i = mark_out vs ks m h in
      let k = i.piece in
      (k, i.here, i.curve, mark_in vs (strand_pieces ks) (mark m.low m.high (strand k.curve k.side)) (record { piece = strand_piece k; here = in_map strand_piece k ks i.here; curve = refl; low_in = i.low_in; high_in = i.high_in; next = next_strand vs k m.low m.high i.next }))

  pub of_strand : (m : Mark) → Member m (marks vs (strand_pieces ks)) → (k : Piece) × Member k ks × (m.curve ≡ strand k.curve k.side) × Member (mark m.low m.high k.curve) (marks vs ks)
  of_strand m h =
      let i = mark_out vs (strand_pieces ks) m h in
      let u = of_strands i.piece ks i.here in
      let k = u.0 in
      (k, u.1, i.curve ∙ ap (λ (z : Piece). z.curve) u.2, mark_in vs ks (mark m.low m.high k.curve) (record { piece = k; here = u.1; curve = refl; low_in = i.low_in; high_in = i.high_in; next = next_curve vs k m.low m.high (subst (λ z. Next vs z m.low m.high) u.2 i.next) }))

pub strands_closed : (vs : List Point) (p : Present) → IsFit p → ((q : Point) → Member q (vertices p) → Member q vs) → IsClosed vs p.pieces → IsClosed vs (strand_pieces p.pieces)
strands_closed vs p fit sub cl = closed_more (vertices (strands p)) vs (strand_pieces p.pieces) (vertices_closed geometry (strands p) (strands_fit p fit)) cl.ascend (λ q m. sub q (subst (Member q) (strand_vertices p) m)) cl.proper

-- ---- the same steps
module _ (vs : List Point) (ks : List Piece) (cl : IsClosed vs ks) (cs : IsClosed vs (strand_pieces ks)) (r : Point) (pr : IsProper r) (new : Member r vs → ⊥) where
  same_inside : (m : Mark) (c : ℕ) → inside r m ≡ true → inside r (mark m.low m.high c) ≡ true
  same_inside m c e = let i = inside_out r m e in inside_in r (mark m.low m.high c) i.0 i.1 i.2

  same_vertex : vertex_step_by r (marks vs (strand_pieces ks)) ≡ vertex_step_by r (marks vs ks)
  same_vertex =
      let js : List Piece = strand_pieces ks in
      ⊎_elim
      (λ a. ⊎_elim
      (λ b. let m = a.0 in
      let t = of_strand vs ks m a.1 in
      let n : Mark = mark m.low m.high t.0.curve in
      let e = one_edge vs ks cl r pr new n b.0 (inner_in vs ks cl r pr new n (mark_out vs ks n t.3) (same_inside m t.0.curve a.2)) (inner_in vs ks cl r pr new b.0 (mark_out vs ks b.0 b.1) b.2) in
      a.3 ∙ (λ i. SplitEdge (e.0 i) (e.1 i) r) ∙ sym b.3)
      (λ b. let m = a.0 in let t = of_strand vs ks m a.1 in absurd (b.0 (mark m.low m.high t.0.curve) t.3 (same_inside m t.0.curve a.2)))
      (step_is r (marks vs ks)))
      (λ a. ⊎_elim
      (λ b. let m = b.0 in let t = to_strand vs ks m b.1 in absurd (a.0 (mark m.low m.high (strand t.0.curve t.0.side)) t.3 (same_inside m (strand t.0.curve t.0.side) b.2)))
      (λ b. a.1 ∙ sym b.1)
      (step_is r (marks vs ks)))
      (step_is r (marks vs js))

any_same : (f : Mark → Bool) (ms ns : List Mark) → ((m : Mark) → Member m ms → f m ≡ true → list_any f ns ≡ true) → ((m : Mark) → Member m ns → f m ≡ true → list_any f ms ≡ true) → list_any f ms ≡ list_any f ns
any_same f ms ns a b = by (list_any f ms) (list_any f ns) refl refl
  where
    by : (x y : Bool) → list_any f ms ≡ x → list_any f ns ≡ y → x ≡ y
    by true true d e = refl
    by false false d e = refl
    by true false d e = let w = any_out f ms d in absurd (clash (a w.0 w.1 w.2) e)
    by false true d e = let w = any_out f ns e in absurd (clash (b w.0 w.1 w.2) d)

same_tidy : (vs : List Point) (ks : List Piece) (pins : List Point) (r : Point) → tidy_step r (graph_over vs (strand_pieces ks) pins) ≡ tidy_step r (graph_over vs ks pins)
unfolding tidy_step
same_tidy vs ks pins r =
    ap (λ b. cond b (MergeEdge r) (RemoveVertex r)) (any_same (touches r) (marks vs (strand_pieces ks)) (marks vs ks)
    (λ m h e. let t = of_strand vs ks m h in any_in (touches r) (mark m.low m.high t.0.curve) (marks vs ks) t.3 e)
    (λ m h e. let t = to_strand vs ks m h in any_in (touches r) (mark m.low m.high (strand t.0.curve t.0.side)) (marks vs (strand_pieces ks)) t.3 e))

-- ---- many of them
module _ (ks : List Piece) (pins : List Point) where
  pub same_grown : (rs us vs : List Point) → IsSum us rs vs → IsClosed vs ks → IsClosed vs (strand_pieces ks) → ((p : Point) → Member p rs → IsProper p) → vertex_steps rs (graph_over vs (strand_pieces ks) pins) ≡ vertex_steps rs (graph_over vs ks pins)
  unfolding vertex_steps
  same_grown [] us vs s cl cs g = refl
  same_grown (r ∷ rs) us vs s cl cs g =
      let pr = g r (inl refl) in
      let new : Member r vs → ⊥ = λ m. s.apart r (inl refl) m in
      let ih = same_grown rs us (place point_cmp r vs) (grow_step ks pins r rs us vs s cl) (closed_place vs ks r cl pr) (closed_place vs (strand_pieces ks) r cs pr) (λ p m. g p (inr m)) in
      ap₂ (λ x xs. x ∷ xs) (same_vertex vs ks cl cs r pr new) (ap (vertex_steps rs) (vertex_step vs (strand_pieces ks) pins cs r pr new) ∙ ih ∙ sym (ap (vertex_steps rs) (vertex_step vs ks pins cl r pr new)))

  less_is : (js : List Piece) (r : Point) (us vs : List Point) → IsClosed (points_without r us) js → us ≡ place point_cmp r (points_without r us) → IsProper r → (Member r (points_without r us) → ⊥) → apply (tidy_step r (graph_over us js pins)) (graph_over us js pins) ≡ graph_over (points_without r us) js pins
  less_is js r us vs c same pr new = ap (λ z. apply (tidy_step r (graph_over z js pins)) (graph_over z js pins)) same ∙ vertex_less (points_without r us) js pins c r pr new

  pub same_shrunk : (rs us vs : List Point) → IsSum us rs vs → IsClosed vs ks → IsClosed vs (strand_pieces ks) → ((p : Point) → Member p rs → IsProper p) → tidy_steps rs (graph_over us (strand_pieces ks) pins) ≡ tidy_steps rs (graph_over us ks pins)
  unfolding tidy_steps
  same_shrunk [] us vs s cl cs g = refl
  same_shrunk (r ∷ rs) us vs s cl cs g =
      let ws : List Point = points_without r us in
      let pr = g r (inl refl) in
      let t : IsSum (points_without r us) rs vs = less_sum ks pins r rs us vs s in
      let into : (p : Point) → Member p (points_without r us) → IsProper p = λ p m. ⊎_elim (λ n. g p (inr n)) (λ n. cl.proper p n) (t.either p m) in
      let new : Member r (points_without r us) → ⊥ = λ m. clash (same_in r r refl) (not_out (same_point r r) (of_filter (λ q. not (same_point q r)) r us m).1) in
      let same : us ≡ place point_cmp r (points_without r us) = put_back r us s.whole (s.from_rs r (inl refl)) in
      let a = less_is (strand_pieces ks) r us vs (closed_more vs ws (strand_pieces ks) cs t.whole t.from_vs into) same pr new in
      let b = less_is ks r us vs (closed_more vs ws ks cl t.whole t.from_vs into) same pr new in
      ap₂ (λ x xs. x ∷ xs) (same_tidy us ks pins r) (ap (tidy_steps rs) a ∙ same_shrunk rs ws vs t cl cs (λ p m. g p (inr m)) ∙ sym (ap (tidy_steps rs) b))

-- ---- edits without curves
pub same_tidying : (old new : Present) (firsts : List Step) → IsFit old → IsFit new → ((x : Point) → Member x (vertices new) → Member x (vertices old)) →
    run firsts (graph old) ≡ graph_over (vertices old) new.pieces new.pins → run firsts (graph (strands old)) ≡ graph_over (vertices (strands old)) (strand_pieces new.pieces) new.pins →
    with_tidying (strands old) (strands new) firsts ≡ with_tidying old new firsts
unfolding with_tidying
same_tidying old new firsts fo fn sub a b =
    let vs = vertices old in
    let ws = vertices new in
    let s = missing_sum vs ws (vertices_ascend old) sub in
    let cl = vertices_closed geometry new fn in
    ap (λ z. firsts ++ z)
    (ap (tidy_steps (missing_points (vertices (strands old)) (vertices (strands new)))) b
    ∙ ap₂ (λ x y. tidy_steps (missing_points x y) (graph_over x (strand_pieces new.pieces) new.pins)) (strand_vertices old) (strand_vertices new)
    ∙ same_shrunk new.pieces new.pins (missing_points vs ws) vs ws s cl (strands_closed ws new fn (λ q m. m) cl) (λ p m. (vertices_closed geometry old fo).proper p (s.from_rs p m))
    ∙ sym (ap (tidy_steps (missing_points vs ws)) a))

same_unpin : (p : Present) → IsFit p → (r : Point) → unpin_steps (strands p) r ≡ unpin_steps p r
unfolding unpin_steps graph run apply
same_unpin p fit r = same_tidying p (without_pin p r) (ClearPin r ∷ []) fit (fit_unpin geometry p r fit) (unpin_sub geometry p r) refl refl

same_pin : (p : Present) → IsFit p → (r : Point) → IsProper r → (Member r p.pins → ⊥) → pin_steps (strands p) r ≡ pin_steps p r
unfolding pin_steps graph
same_pin p fit r pr bare =
    let vs = vertices p in
    let rs = missing_points (r ∷ []) vs in
    let cl = vertices_closed geometry p fit in
    ap (λ z. z ++ (SetPin r ∷ []))
    (ap (λ x. vertex_steps (missing_points (r ∷ []) x) (graph_over x (strand_pieces p.pieces) p.pins)) (strand_vertices p)
    ∙ same_grown p.pieces p.pins rs (vertices (with_pin p r)) vs (pin_sum geometry p fit r pr bare) cl (strands_closed vs p fit (λ q m. m) cl) (λ x m. subst IsProper (sym (is_r geometry p fit r pr bare x m)) pr))

-- ---- a cut
gather_append : (xs ys : List Piece) → strand_pieces (xs ++ ys) ≡ strand_pieces xs ++ strand_pieces ys
gather_append [] ys = refl
gather_append (x ∷ xs) ys = ap (λ z. strand_piece x ∷ z) (gather_append xs ys)

cut_one : (a b : Point) (k : Piece) → cut_piece a b (strand_piece k) ≡ strand_pieces (cut_piece a b k)
unfolding cut_piece
cut_one a b k = ap (λ z. z) (by (on (strand_piece k) a && on (strand_piece k) b) (on k a && on k b) (precedes k.from a) (precedes b k.to) (ap₂ (λ x y. x && y) (strand_on k a) (strand_on k b)))
  where
    by : (u w s t : Bool) → u ≡ w →
        cond u (cond s (record (strand_piece k) { to = a } ∷ []) [] ++ cond t (record (strand_piece k) { from = b } ∷ []) []) (strand_piece k ∷ [])
        ≡ strand_pieces (cond w (cond s (record k { to = a } ∷ []) [] ++ cond t (record k { from = b } ∷ []) []) (k ∷ []))
    by u true true true e = ap (λ z. cond z (record (strand_piece k) { to = a } ∷ record (strand_piece k) { from = b } ∷ []) (strand_piece k ∷ [])) e
    by u true true false e = ap (λ z. cond z (record (strand_piece k) { to = a } ∷ []) (strand_piece k ∷ [])) e
    by u true false true e = ap (λ z. cond z (record (strand_piece k) { from = b } ∷ []) (strand_piece k ∷ [])) e
    by u true false false e = ap (λ z. cond z [] (strand_piece k ∷ [])) e
    by u false s t e = ap (λ z. cond z (cond s (record (strand_piece k) { to = a } ∷ []) [] ++ cond t (record (strand_piece k) { from = b } ∷ []) []) (strand_piece k ∷ [])) e

cut_all : (a b : Point) (ks : List Piece) → flat_map (cut_piece a b) (strand_pieces ks) ≡ strand_pieces (flat_map (cut_piece a b) ks)
cut_all a b [] = refl
cut_all a b (k ∷ ks) = ap₂ (λ x y. x ++ y) (cut_one a b k) (cut_all a b ks) ∙ sym (gather_append (cut_piece a b k) (flat_map (cut_piece a b) ks))

pub cut_after : (p : Present) (a b : Point) → with_cut (strands p) a b ≡ strands (with_cut p a b)
cut_after p a b = λ i. record { pieces = cut_all a b p.pieces i; pins = p.pins }

-- a test that sees no curves passes on an edge of strands too
strand_test : (p : Present) (f : Mark → Bool) → ((m : Mark) (c : ℕ) → f m ≡ true → f (mark m.low m.high c) ≡ true) → list_any f (marks (vertices p) p.pieces) ≡ true → list_any f (marks (vertices (strands p)) (strand_pieces p.pieces)) ≡ true
strand_test p f g e =
    let w = any_out f (marks (vertices p) p.pieces) e in
    let t = to_strand (vertices p) p.pieces w.0 w.1 in
    let n : Mark = mark w.0.low w.0.high (strand t.0.curve t.0.side) in
    any_in f n (marks (vertices (strands p)) (strand_pieces p.pieces)) (subst (λ z. Member n (marks z (strand_pieces p.pieces))) (sym (strand_vertices p)) t.3) (g w.0 (strand t.0.curve t.0.side) w.2)

removed : (p : Present) → IsFit p → (a b : Point) → list_any (is_at a b) (graph p).marks ≡ true → run (RemoveEdge a b ∷ []) (graph p) ≡ graph_over (vertices p) (with_cut p a b).pieces p.pins
unfolding run apply graph
removed p fit a b e =
    let w = any_out (is_at a b) (marks (vertices p) p.pieces) e in
    let v = and_true (same_point w.0.low a) (same_point w.0.high b) w.2 in
    λ i. record { points = vertices p; marks = cut_marks (vertices p) p.pieces (vertices_closed geometry p fit) a b w.0 (mark_out (vertices p) p.pieces w.0 w.1) (same_out w.0.low a v.0) (same_out w.0.high b v.1) i; pins = p.pins }

cut_accepted : (p : Present) (a b : Point) → list_any (is_at a b) (graph p).marks ≡ true → list_any (is_at a b) (graph (strands p)).marks ≡ true
unfolding graph
cut_accepted p a b e = strand_test p (is_at a b) (λ m c h. h) e

lost : (p : Present) → IsFit p → (a b : Point) → list_any (is_at a b) (graph p).marks ≡ true → (x : Point) → Member x (vertices (with_cut p a b)) → Member x (vertices p)
unfolding graph
lost p fit a b e x m =
    let w = any_out (is_at a b) (marks (vertices p) p.pieces) e in
    let v = and_true (same_point w.0.low a) (same_point w.0.high b) w.2 in
    let i = mark_out (vertices p) p.pieces w.0 w.1 in
    cut_sub p a b (subst (λ z. Member z (vertices p)) (same_out w.0.low a v.0) i.low_in) (subst (λ z. Member z (vertices p)) (same_out w.0.high b v.1) i.high_in) x m

same_cut : (p : Present) → IsFit p → (a b : Point) → list_any (is_at a b) (graph p).marks ≡ true → cut_steps (strands p) a b ≡ cut_steps p a b
unfolding cut_steps
same_cut p fit a b e =
    let m = cut_leads geometry p fit a b e in
    ap (λ z. with_tidying (strands p) z (RemoveEdge a b ∷ [])) (cut_after p a b)
    ∙ same_tidying p (with_cut p a b) (RemoveEdge a b ∷ []) fit m.1 (lost p fit a b e) (removed p fit a b e)
    (removed (strands p) (strands_fit p fit) a b (cut_accepted p a b e) ∙ (λ i. graph_over (vertices (strands p)) (cut_all a b p.pieces i) p.pins))

-- ---- the law
on_some : (r : Point) (ks : List Piece) → list_any (λ k. on k r) (strand_pieces ks) ≡ list_any (λ k. on k r) ks
on_some r [] = refl
on_some r (k ∷ ks) = ap₂ (λ x y. x || y) (strand_on k r) (on_some r ks)

split_test : (p : Present) (a b r : Point) → list_any (λ m. is_at a b m && inside r m) (graph p).marks ≡ true → list_any (λ m. is_at a b m && inside r m) (graph (strands p)).marks ≡ true
unfolding graph inside
split_test p a b r e = strand_test p (λ m. is_at a b m && inside r m) (λ m c h. h) e

accepted : (e : Edit) (p : Present) → SeesNoCurve e → IsAccepted e p → IsAccepted e (strands p)
unfolding IsAccepted
accepted (Insert c ss) p n h = absurd n
accepted (Drop c) p n h = absurd n
accepted (Cut a b) p n h = cut_accepted p a b h
accepted (Pin r) p n h = h
accepted (Unpin r) p n h = h
accepted (Split a b r) p n h = (h.0, split_test p a b r h.1)
accepted (Merge r) p n h = (h.0, ap (list_any (same_point r)) (strand_vertices (without_pin p r)) ∙ h.1, on_some r p.pieces ∙ h.2)
accepted ClearAll p n h = h

same_steps : (e : Edit) (p : Present) → SeesNoCurve e → IsFit p → IsAccepted e p → steps e (strands p) ≡ steps e p
unfolding steps IsAccepted
same_steps (Insert c ss) p n fit h = absurd n
same_steps (Drop c) p n fit h = absurd n
same_steps (Cut a b) p n fit h = same_cut p fit a b h
same_steps (Pin r) p n fit h = same_pin p fit r h.0 (λ m. any_none (same_point r) r p.pins h.1 m (same_itself r))
same_steps (Unpin r) p n fit h = same_unpin p fit r
same_steps (Split a b r) p n fit h = refl
same_steps (Merge r) p n fit h = refl
same_steps ClearAll p n fit h = refl

same_after : (e : Edit) (p : Present) → SeesNoCurve e → after e (strands p) ≡ strands (after e p)
unfolding after
same_after (Insert c ss) p n = absurd n
same_after (Drop c) p n = absurd n
same_after (Cut a b) p n = cut_after p a b
same_after (Pin r) p n = refl
same_after (Unpin r) p n = refl
same_after (Split a b r) p n = refl
same_after (Merge r) p n = refl
same_after ClearAll p n = refl

pub strands_follow : StrandsFollow
strands_follow = record {
  same = λ e p n fit h. same_steps e p n fit h;
  there = λ e p n fit h. ap (λ ss. run ss (graph (strands p))) (sym (same_steps e p n fit h)) ∙ make_graph e (strands p) (strands_fit p fit) (accepted e p n h) ∙ ap graph (same_after e p n);
}

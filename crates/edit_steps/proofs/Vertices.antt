-- Where vertices come and go.
use Rattle.std.proofs.Common.{◌≡◌, ℕ, [], ◌∷◌, Bool, true, false, not, ◌&&◌, refl, sym, ap, ap₂, ◌∙◌, subst, inl, inr, ◌⊎◌, ⊎_elim}
use Rattle.std.specs.List.{list_any}
use Rattle.exact_plane.specs.Point.{Point}
use Rattle.plane_graphs.specs.Line.{same_point, are_parallel, crossing}
use Rattle.exact_plane.specs.Segment.{line_of_segment}
use Rattle.exact_plane.specs.PointOrderLaws.{and_true}
use Rattle.plane_graphs.specs.Ascending.{Member}
use Rattle.plane_graphs.specs.Piece.{Piece, Present, along, on}
use Rattle.plane_graphs.specs.Graph.{Mark, graph, is_at, marks, vertices, collinear, same_curve}
use Rattle.edit_steps.specs.Steps.{with_piece, without_curve, with_cut}
use Rattle.plane_graphs.specs.Fit.{IsFit}
use Rattle.edit_steps.specs.EditLaws.{VerticesChange}
use Rattle.plane_graphs.proofs.Lists.{and_in, clash, decide, any_in, any_out, in_filter, in_either, in_left}
use Rattle.plane_graphs.proofs.Order.{Lt, lt_out, Tri, tri, same_out}
use Rattle.plane_graphs.proofs.Order.Tri.{less, same, more}
use Rattle.plane_graphs.proofs.Marks.{Le, le_same, le_cases, le_lt, le_lt_lt, lt_le_lt, On, on_out, on_in, mark_out}
use Rattle.plane_graphs.proofs.Closed.{IsClosed, inside_in}
use Rattle.plane_graphs.proofs.Plane.{no_vertex_inside}
use Rattle.plane_graphs.proofs.Vertices.{IsVertex, vertex_in, vertex_out, vertices_closed}
use Rattle.plane_graphs.proofs.Vertices.IsVertex.{begins, finishes, pinned, crossed}
use Rattle.edit_steps.proofs.Cuts.{source_in, along_of as same_line}
use Rattle.edit_steps.proofs.Cuts.Source.{whole, under, over}
use Rattle.edit_steps.proofs.Edits.{vertices_more}
use Rattle.plane_graphs.proofs.Lines.{geometry}

-- ---- where vertices come
come_by : (p : Present) (k : Piece) (x : Point) → (along k k.from ≡ true) → (along k k.to ≡ true) → Le k.from k.to → IsVertex (with_piece p k) x → (Member x (vertices p) → ⊥) → On k x
come_by p k x f t l (begins j h e) new = ⊎_elim (λ i. absurd (new (vertex_in p x (begins j i e)))) (λ i. ⊎_elim (λ u. subst (On k) (sym (e ∙ ap (λ (z : Piece). z.from) u)) (record { line = f; low = le_same k.from; high = l })) (λ z. absurd z) i) (in_either j p.pieces (k ∷ []) h)
come_by p k x f t l (finishes j h e) new = ⊎_elim (λ i. absurd (new (vertex_in p x (finishes j i e)))) (λ i. ⊎_elim (λ u. subst (On k) (sym (e ∙ ap (λ (z : Piece). z.to) u)) (record { line = t; low = l; high = le_same k.to })) (λ z. absurd z) i) (in_either j p.pieces (k ∷ []) h)
come_by p k x f t l (pinned h) new = absurd (new (vertex_in p x (pinned h)))
come_by p k x f t l (crossed c) new =
    ⊎_elim
    (λ i. ⊎_elim
    (λ j. absurd (new (vertex_in p x (crossed (record { one = c.one; other = c.other; one_here = i; other_here = j; apart = c.apart; on_one = c.on_one; on_other = c.on_other; is = c.is })))))
    (λ j. ⊎_elim (λ e. subst (λ z. On z x) e c.on_other) (λ z. absurd z) j)
    (in_either c.other p.pieces (k ∷ []) c.other_here))
    (λ i. ⊎_elim (λ e. subst (λ z. On z x) e c.on_one) (λ z. absurd z) i)
    (in_either c.one p.pieces (k ∷ []) c.one_here)

-- ---- where vertices go
module _ (p : Present) (c : ℕ) (fit : IsFit p) (x : Point) (gone : Member x (vertices (without_curve p c)) → ⊥) where
  kept : (k : Piece) → Member k p.pieces → same_curve k.curve c ≡ false → Member k (without_curve p c).pieces
  kept k h e = in_filter (λ k. not (same_curve k.curve c)) k p.pieces h (ap not e)

  found : (k : Piece) → Member k p.pieces → On k x → same_curve k.curve c ≡ true → list_any (λ k. same_curve k.curve c && on k x) p.pieces ≡ true
  found k h o e = any_in (λ k. same_curve k.curve c && on k x) k p.pieces h (and_in e (on_in k x o))

  at_from : (k : Piece) → Member k p.pieces → x ≡ k.from → On k x
  at_from k h e = let f = fit.piece k h in subst (On k) (sym e) (record { line = f.from_on; low = le_same k.from; high = le_lt (lt_out k.from k.to f.forward) })

  at_to : (k : Piece) → Member k p.pieces → x ≡ k.to → On k x
  at_to k h e = let f = fit.piece k h in subst (On k) (sym e) (record { line = f.to_on; low = le_lt (lt_out k.from k.to f.forward); high = le_same k.to })

  go_by : IsVertex p x → list_any (λ k. same_curve k.curve c && on k x) p.pieces ≡ true
  go_by (begins k h e) = ⊎_elim (λ i. found k h (at_from k h e) i) (λ i. absurd (gone (vertex_in (without_curve p c) x (begins k (kept k h i) e)))) (decide (same_curve k.curve c))
  go_by (finishes k h e) = ⊎_elim (λ i. found k h (at_to k h e) i) (λ i. absurd (gone (vertex_in (without_curve p c) x (finishes k (kept k h i) e)))) (decide (same_curve k.curve c))
  go_by (pinned h) = absurd (gone (vertex_in (without_curve p c) x (pinned h)))
  go_by (crossed d) =
      ⊎_elim (λ i. found d.one d.one_here d.on_one i)
      (λ i. ⊎_elim (λ j. found d.other d.other_here d.on_other j)
      (λ j. absurd (gone (vertex_in (without_curve p c) x (crossed (record { one = d.one; other = d.other; one_here = kept d.one d.one_here i; other_here = kept d.other d.other_here j; apart = d.apart; on_one = d.on_one; on_other = d.on_other; is = d.is })))))
      (decide (same_curve d.other.curve c)))
      (decide (same_curve d.one.curve c))

-- a cut loses no vertex but the two ends of the edge
module _ (p : Present) (a b : Point) (fit : IsFit p) (m : Mark) (hm : Member m (marks (vertices p) p.pieces)) (at_a : m.low ≡ a) (at_b : m.high ≡ b) (x : Point) (was : Member x (vertices p)) where
  -- x on a piece is an end, or it is on a part of the piece that is left
  part_with : (k : Piece) → Member k p.pieces → On k x → ((x ≡ a) ⊎ (x ≡ b)) ⊎ ((j : Piece) × Member j (with_cut p a b).pieces × On j x × (j.segment ≡ k.segment))
  part_with k h o = by (on k a && on k b) refl
    where
      cl : IsClosed (vertices p) p.pieces
      cl = vertices_closed geometry p fit

      not_inside : On k a → On k b → Lt a x → Lt x b → ⊥
      not_inside u v l r =
          let hk = mark_out (vertices p) p.pieces m hm in
          let e : collinear m.low m.high x ≡ true = (cl.straight k h).span m.low m.high x (cl.proper m.low hk.low_in) (cl.proper m.high hk.high_in) (cl.proper x was) hk.next.lt (subst (λ z. along k z ≡ true) (sym at_a) u.line) (subst (λ z. along k z ≡ true) (sym at_b) v.line) ∙ o.line in
          no_vertex_inside (vertices p) p.pieces cl m hk x was (inside_in x m (subst (λ z. Lt z x) (sym at_a) l) (subst (Lt x) (sym at_b) r) e)

      under_part : On k a → On k b → Lt x a → (j : Piece) × Member j (with_cut p a b).pieces × On j x × (j.segment ≡ k.segment)
      under_part u v l = (record k { to = a }, source_in a b p.pieces (record k { to = a }) (under k h u v (le_lt_lt o.low l) refl), record { line = same_line (record k { to = a }) k refl x ∙ o.line; low = o.low; high = le_lt l }, refl)

      over_part : On k a → On k b → Lt b x → (j : Piece) × Member j (with_cut p a b).pieces × On j x × (j.segment ≡ k.segment)
      over_part u v l = (record k { from = b }, source_in a b p.pieces (record k { from = b }) (over k h u v (lt_le_lt l o.high) refl), record { line = same_line (record k { from = b }) k refl x ∙ o.line; low = le_lt l; high = o.high }, refl)

      within : On k a → On k b → Tri x a → Tri x b → ((x ≡ a) ⊎ (x ≡ b)) ⊎ ((j : Piece) × Member j (with_cut p a b).pieces × On j x × (j.segment ≡ k.segment))
      within u v (less l) t = inr (under_part u v l)
      within u v (same e) t = inl (inl e)
      within u v (more l) (less r) = absurd (not_inside u v l r)
      within u v (more l) (same e) = inl (inr e)
      within u v (more l) (more r) = inr (over_part u v r)

      by : (c : Bool) → on k a && on k b ≡ c → ((x ≡ a) ⊎ (x ≡ b)) ⊎ ((j : Piece) × Member j (with_cut p a b).pieces × On j x × (j.segment ≡ k.segment))
      by true e = let w = and_true (on k a) (on k b) e in within (on_out k a w.0) (on_out k b w.1) (tri x a) (tri x b)
      by false e = inr (k, source_in a b p.pieces k (whole h (λ u v. clash (and_in (on_in k a u) (on_in k b v)) e)), o, refl)

  -- an end of a piece stays one
  end_stays : (k : Piece) → Member k p.pieces → (x ≡ k.from) ⊎ (x ≡ k.to) → ((x ≡ a) ⊎ (x ≡ b)) ⊎ IsVertex (with_cut p a b) x
  end_stays k h e = by (on k a && on k b) refl e
    where
      from_end : On k a → On k b → x ≡ k.from → (x ≡ a) ⊎ Lt k.from a → ((x ≡ a) ⊎ (x ≡ b)) ⊎ IsVertex (with_cut p a b) x
      from_end u v e (inl i) = inl (inl i)
      from_end u v e (inr l) = inr (begins (record k { to = a }) (source_in a b p.pieces (record k { to = a }) (under k h u v l refl)) e)

      to_end : On k a → On k b → x ≡ k.to → (x ≡ b) ⊎ Lt b k.to → ((x ≡ a) ⊎ (x ≡ b)) ⊎ IsVertex (with_cut p a b) x
      to_end u v e (inl i) = inl (inr i)
      to_end u v e (inr l) = inr (finishes (record k { from = b }) (source_in a b p.pieces (record k { from = b }) (over k h u v l refl)) e)

      by : (c : Bool) → on k a && on k b ≡ c → (x ≡ k.from) ⊎ (x ≡ k.to) → ((x ≡ a) ⊎ (x ≡ b)) ⊎ IsVertex (with_cut p a b) x
      by true i (inl e) = let w = and_true (on k a) (on k b) i in let u = on_out k a w.0 in from_end u (on_out k b w.1) e (⊎_elim (λ q. inl (e ∙ q)) (λ l. inr l) (le_cases k.from a u.low))
      by true i (inr e) = let w = and_true (on k a) (on k b) i in let v = on_out k b w.1 in to_end (on_out k a w.0) v e (⊎_elim (λ q. inl (e ∙ sym q)) (λ l. inr l) (le_cases b k.to v.high))
      by false i (inl e) = inr (begins k (source_in a b p.pieces k (whole h (λ u v. clash (and_in (on_in k a u) (on_in k b v)) i))) e)
      by false i (inr e) = inr (finishes k (source_in a b p.pieces k (whole h (λ u v. clash (and_in (on_in k a u) (on_in k b v)) i))) e)

  cut_by : IsVertex p x → ((x ≡ a) ⊎ (x ≡ b)) ⊎ IsVertex (with_cut p a b) x
  cut_by (begins k h e) = end_stays k h (inl e)
  cut_by (finishes k h e) = end_stays k h (inr e)
  cut_by (pinned h) = inr (pinned h)
  cut_by (crossed d) =
      ⊎_elim (λ e. inl e)
      (λ i. ⊎_elim (λ e. inl e)
      (λ j. inr (crossed (record {
        one = i.0;
        other = j.0;
        one_here = i.1;
        other_here = j.1;
        apart = ap₂ (λ s t. are_parallel (line_of_segment s) (line_of_segment t)) i.3 j.3 ∙ d.apart;
        on_one = i.2;
        on_other = j.2;
        is = d.is ∙ ap₂ (λ s t. crossing (line_of_segment s) (line_of_segment t)) (sym i.3) (sym j.3);
      })))
      (part_with d.other d.other_here d.on_other))
      (part_with d.one d.one_here d.on_one)

pub vertices_change : VerticesChange
unfolding graph
vertices_change = record {
  stay = λ p k x m. vertices_more p (with_piece p k) (λ j h. in_left j p.pieces (k ∷ []) h) (λ r h. h) x m;
  come = λ p k x f t l m new. on_in k x (come_by p k x f t (le_lt (lt_out k.from k.to l)) (vertex_out (with_piece p k) x m) new);
  go = λ p c x fit m gone. go_by p c fit x gone (vertex_out p x m);
  cut = λ p a b x fit e m gone.
      let w = any_out (is_at a b) (marks (vertices p) p.pieces) e in
      let v = and_true (same_point w.0.low a) (same_point w.0.high b) w.2 in
      ⊎_elim (λ i. i) (λ i. absurd (gone (vertex_in (with_cut p a b) x i))) (cut_by p a b fit w.0 w.1 (same_out w.0.low a v.0) (same_out w.0.high b v.1) x m (vertex_out p x m));
}

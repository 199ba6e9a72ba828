-- The steps of each edit lead to the graph of the new present, over plane graphs.
use Rattle.std.proofs.Common.{◌≡◌, List, [], ◌∷◌, ◌++◌, not, refl, sym, ap, ◌∙◌, subst, inl, inr, ◌⊎◌, ⊎_elim}
use Rattle.std.specs.List.{list_any}
use Rattle.std.specs.Prelude.{map}
use Rattle.exact_plane.specs.Point.{Point}
use Rattle.exact_plane.specs.PointOrder.{point_cmp}
use Rattle.exact_plane.specs.PointOrderLaws.{point_cmp_total, same_point as point_cmp_exact}
use Rattle.plane_graphs.specs.Line.{same_point, IsProper}
use Rattle.plane_graphs.specs.Ascending.{ascending, place, Member, IsAscending}
use Rattle.plane_graphs.specs.Piece.{Piece, Present}
use Rattle.plane_graphs.specs.Graph.{Mark, Graph, graph, graph_over, marks, vertices}
use Rattle.edit_steps.specs.Steps.{Step, SetPin, ClearPin, Clear, points_without, apply, run, vertex_steps, tidy_steps, missing_points, more_step, with_tidying, with_piece, with_pieces, path_steps, with_pin, pin_steps, without_pin, unpin_steps}
use Rattle.plane_graphs.specs.Plane.{IsPlane}
use Rattle.plane_graphs.specs.Fit.{IsFit}
use Rattle.edit_steps.specs.Allowed.{IsAllowed, AreSound}
use Rattle.plane_graphs.proofs.Lists.{not_out, not_in, clash, decide, of_place, in_place, any_out, any_none, in_filter, of_filter, in_left, in_right, in_either, IsAscending-filter}
use Rattle.plane_graphs.proofs.Order.{same_out, same_itself}
use Rattle.plane_graphs.proofs.Marks.{IsMark, mark_out, mark_in, marks_ascend}
use Rattle.plane_graphs.proofs.Closed.{IsClosed}
use Rattle.edit_steps.proofs.Folds.{IsSum, missing_sum, closed_more, grown, shrunk}
use Rattle.plane_graphs.proofs.Plane.{plane_over}
use Rattle.edit_steps.proofs.Changes.{marks_put}
use Rattle.edit_steps.proofs.Sound.{vertex_sound, tidy_sound, more_sound}
use Rattle.plane_graphs.proofs.Vertices.{Geometry, IsVertex, IsCrossing, vertex_in, vertex_out, vertices_ascend, vertices_closed}
use Rattle.plane_graphs.proofs.Vertices.IsVertex.{begins, finishes, pinned, crossed}

-- ---- runs
pub run_append : (xs ys : List Step) (g : Graph) → run (xs ++ ys) g ≡ run ys (run xs g)
unfolding run
run_append [] ys g = refl
run_append (x ∷ xs) ys g = run_append xs ys (apply x g)

pub sound_append : (xs ys : List Step) (g : Graph) → AreSound xs g → AreSound ys (run xs g) → AreSound (xs ++ ys) g
unfolding run
sound_append [] ys g a b = b
sound_append (x ∷ xs) ys g a b = (a.0, sound_append xs ys (apply x g) a.1 b)

-- the steps lead from g to h, and each is sound
pub record Leads (ss : List Step) (g h : Graph) : Type 0 where
  pub there : run ss g ≡ h
  pub sound : AreSound ss g

pub leads_on : (xs ys : List Step) (f g h : Graph) → Leads xs f g → Leads ys g h → Leads (xs ++ ys) f h
leads_on xs ys f g h a b = record {
  there = run_append xs ys f ∙ ap (run ys) a.there ∙ b.there;
  sound = sound_append xs ys f a.sound (subst (AreSound ys) (sym a.there) b.sound);
}

pub sum_closed : (us rs vs : List Point) (ks : List Piece) → IsSum us rs vs → IsClosed vs ks → ((p : Point) → Member p rs → IsProper p) → IsClosed us ks
sum_closed us rs vs ks s cl g = closed_more vs us ks cl s.whole s.from_vs (λ p m. ⊎_elim (λ n. g p n) (λ n. cl.proper p n) (s.either p m))

-- fewer pieces and pins
pub crossing_more : (p q : Present) → ((k : Piece) → Member k p.pieces → Member k q.pieces) → (x : Point) → IsCrossing p x → IsCrossing q x
crossing_more p q f x c = record { one = c.one; other = c.other; one_here = f c.one c.one_here; other_here = f c.other c.other_here; apart = c.apart; on_one = c.on_one; on_other = c.on_other; is = c.is }

vertex_more : (p q : Present) → ((k : Piece) → Member k p.pieces → Member k q.pieces) → ((r : Point) → Member r p.pins → Member r q.pins) → (x : Point) → IsVertex p x → IsVertex q x
vertex_more p q f g x (begins k h e) = begins k (f k h) e
vertex_more p q f g x (finishes k h e) = finishes k (f k h) e
vertex_more p q f g x (pinned h) = pinned (g x h)
vertex_more p q f g x (crossed c) = crossed (crossing_more p q f x c)

pub vertices_more : (p q : Present) → ((k : Piece) → Member k p.pieces → Member k q.pieces) → ((r : Point) → Member r p.pins → Member r q.pins) → (x : Point) → Member x (vertices p) → Member x (vertices q)
vertices_more p q f g x m = vertex_in q x (vertex_more p q f g x (vertex_out p x m))

pub fit_part : (p q : Present) → IsFit q → ((k : Piece) → Member k p.pieces → Member k q.pieces) → ((r : Point) → Member r p.pins → Member r q.pins) → IsAscending point_cmp p.pins → IsFit p
fit_part p q fit f g a = record {
  piece = λ k h. fit.piece k (f k h);
  pin = λ r h. fit.pin r (g r h);
  pins_ascend = a;
  one_segment = λ k m h i e. fit.one_segment k m (f k h) (f m i) e;
  one_piece = λ k m h i e. fit.one_piece k m (f k h) (f m i) e;
}

-- a present with one piece less
pub fit_before : (p : Present) (k : Piece) → IsFit (with_piece p k) → IsFit p
fit_before p k fit = fit_part p (with_piece p k) fit (λ m h. in_left m p.pieces (k ∷ []) h) (λ r h. h) fit.pins_ascend

module _ (geo : Geometry) where
  -- ---- the tidying
  pub tidied_leads : (old new : Present) (firsts : List Step) → IsFit old → IsFit new → ((x : Point) → Member x (vertices new) → Member x (vertices old)) →
      Leads firsts (graph old) (graph_over (vertices old) new.pieces new.pins) → Leads (with_tidying old new firsts) (graph old) (graph new)
  unfolding with_tidying graph
  tidied_leads old new firsts fo fn sub l =
      let vs = vertices old in
      let ws = vertices new in
      let cl = vertices_closed geo new fn in
      let s = missing_sum vs ws (vertices_ascend old) sub in
      let t = shrunk new.pieces new.pins (tidy_sound new.pieces new.pins) (missing_points vs ws) vs ws s cl (λ p m. (vertices_closed geo old fo).proper p (s.from_rs p m)) in
      leads_on firsts (tidy_steps (missing_points (vertices old) (vertices new)) (run firsts (graph old))) (graph old) (graph_over vs new.pieces new.pins) (graph new) l
      (subst (λ z. Leads (tidy_steps (missing_points vs ws) z) (graph_over vs new.pieces new.pins) (graph new)) (sym l.there) (record { there = t.0; sound = t.1 }))

  -- ---- a pin
  module _ (p : Present) (fit : IsFit p) (r : Point) (pr : IsProper r) (bare : Member r p.pins → ⊥) where
    pin_either : (x : Point) → IsVertex (with_pin p r) x → Member x (missing_points (r ∷ []) (vertices p)) ⊎ Member x (vertices p)
    unfolding missing_points
    pin_either x (begins k h e) = inr (vertex_in p x (begins k h e))
    pin_either x (finishes k h e) = inr (vertex_in p x (finishes k h e))
    pin_either x (pinned h) =
        ⊎_elim
        (λ e. ⊎_elim (λ b. let w = any_out (same_point x) (vertices p) b in inr (subst (λ q. Member q (vertices p)) (sym (same_out x w.0 w.2)) w.1)) (λ b. inl (in_filter (λ q. not (list_any (same_point q) (vertices p))) x (r ∷ []) (inl e) (not_in (list_any (same_point x) (vertices p)) (λ h. clash h b)))) (decide (list_any (same_point x) (vertices p))))
        (λ m. inr (vertex_in p x (pinned m)))
        (of_place point_cmp point_cmp_total point_cmp_exact x r p.pins h)
    pin_either x (crossed c) = inr (vertex_in p x (crossed (crossing_more (with_pin p r) p (λ k h. h) x c)))

    pub is_r : (x : Point) → Member x (missing_points (r ∷ []) (vertices p)) → x ≡ r
    unfolding missing_points
    is_r x m = ⊎_elim (λ e. e) (λ z. absurd z) (of_filter (λ q. not (list_any (same_point q) (vertices p))) x (r ∷ []) m).0

    pub pin_sum : IsSum (vertices (with_pin p r)) (missing_points (r ∷ []) (vertices p)) (vertices p)
    unfolding missing_points
    pin_sum = record {
      whole = vertices_ascend (with_pin p r);
      parts = IsAscending-filter point_cmp (λ q. not (list_any (same_point q) (vertices p))) (r ∷ []) (tt, tt);
      either = λ x m. pin_either x (vertex_out (with_pin p r) x m);
      from_rs = λ x m. vertex_in (with_pin p r) x (pinned (in_place point_cmp point_cmp_total point_cmp_exact x r p.pins (inl (is_r x m))));
      from_vs = λ x m. vertices_more p (with_pin p r) (λ k h. h) (λ q h. in_place point_cmp point_cmp_total point_cmp_exact q r p.pins (inr h)) x m;
      apart = λ x m n. any_none (same_point x) x (vertices p) (not_out (list_any (same_point x) (vertices p)) (of_filter (λ q. not (list_any (same_point q) (vertices p))) x (r ∷ []) m).1) n (same_itself x);
    }

    pub pin_leads : Leads (pin_steps p r) (graph p) (graph (with_pin p r))
    unfolding pin_steps graph run apply IsAllowed
    pin_leads =
        let cl = vertices_closed geo p fit in
        let proper : (x : Point) → Member x (missing_points (r ∷ []) (vertices p)) → IsProper x = λ x m. subst IsProper (sym (is_r x m)) pr in
        let g = grown p.pieces p.pins (vertex_sound p.pieces p.pins) (missing_points (r ∷ []) (vertices p)) (vertices (with_pin p r)) (vertices p) pin_sum cl proper in
        let c = sum_closed (vertices (with_pin p r)) (missing_points (r ∷ []) (vertices p)) (vertices p) p.pieces pin_sum cl proper in
        leads_on (vertex_steps (missing_points (r ∷ []) (vertices p)) (graph p)) (SetPin r ∷ []) (graph p) (graph_over (vertices (with_pin p r)) p.pieces p.pins) (graph (with_pin p r)) (record { there = g.0; sound = g.1 })
        (record { there = refl; sound = (record { allowed = (vertex_in (with_pin p r) r (pinned (in_place point_cmp point_cmp_total point_cmp_exact r r p.pins (inl refl))), bare); plane = plane_over (vertices (with_pin p r)) p.pieces c (place point_cmp r p.pins) }, tt) })

  pub fit_unpin : (p : Present) (r : Point) → IsFit p → IsFit (without_pin p r)
  fit_unpin p r fit = fit_part (without_pin p r) p fit (λ k h. h) (λ q h. (of_filter (λ z. not (same_point z r)) q p.pins h).0) (IsAscending-filter point_cmp (λ z. not (same_point z r)) p.pins fit.pins_ascend)

  pub unpin_sub : (p : Present) (r x : Point) → Member x (vertices (without_pin p r)) → Member x (vertices p)
  unpin_sub p r x m = vertices_more (without_pin p r) p (λ k h. h) (λ q h. (of_filter (λ z. not (same_point z r)) q p.pins h).0) x m

  pub unpin_leads : (p : Present) → IsFit p → (r : Point) → Member r p.pins → Leads (unpin_steps p r) (graph p) (graph (without_pin p r))
  unfolding unpin_steps graph run apply IsAllowed
  unpin_leads p fit r h =
      tidied_leads p (without_pin p r) (ClearPin r ∷ []) fit (fit_unpin p r fit) (unpin_sub p r)
      (record { there = refl; sound = (record { allowed = (vertex_in p r (pinned h), h); plane = plane_over (vertices p) p.pieces (vertices_closed geo p fit) (points_without r p.pins) }, tt) })

  pub clear_leads : (p : Present) → Leads (Clear ∷ []) (graph p) (graph (record { pieces = []; pins = [] }))
  unfolding graph run apply vertices marks ascending IsAllowed
  clear_leads p = record { there = refl; sound = (record { allowed = tt; plane = nothing }, tt) }
    where
      nothing : IsPlane (record { points = []; marks = []; pins = [] })
      nothing = record {
        points_ascend = tt;
        marks_ascend = tt;
        proper = λ q m. absurd m;
        low_in = λ m h. absurd h;
        high_in = λ m h. absurd h;
        forward = λ m h. absurd h;
        clear = λ m h. absurd h;
        apart = λ m n h. absurd h;
      }

  -- ---- more pieces, all of one curve
  pub path_leads : (p : Present) (js : List Piece) → IsFit (with_pieces p js) → ((j k : Piece) → Member j p.pieces → Member k js → j.curve ≡ k.curve → ⊥) → ((j k : Piece) → Member j js → Member k js → j.curve ≡ k.curve) →
      Leads (path_steps p js) (graph p) (graph (with_pieces p js))
  unfolding path_steps graph
  path_leads p js fit fresh one =
      let q : Present = with_pieces p js in
      let ks : List Piece = p.pieces in
      let more : (m : Piece) → Member m p.pieces → Member m (p.pieces ++ js) = λ m h. in_left m p.pieces js h in
      let vs : List Point = vertices (with_pieces p js) in
      let s = missing_sum vs (vertices p) (vertices_ascend q) (vertices_more p q more (λ r h. h)) in
      let old = vertices_closed geo p (fit_part p q fit more (λ r h. h) fit.pins_ascend) in
      let new = vertices_closed geo q fit in
      let proper : (x : Point) → Member x (missing_points vs (vertices p)) → IsProper x = λ x m. new.proper x (s.from_rs x m) in
      let g = grown ks p.pins (vertex_sound ks p.pins) (missing_points vs (vertices p)) vs (vertices p) s old proper in
      let t = marks_put (graph_over vs ks p.pins) (graph_over vs ks p.pins) (marks vs ks) (marks vs js) (marks vs (p.pieces ++ js)) (marks_ascend vs (p.pieces ++ js))
      (λ m h. either_piece vs ks js m (mark_out vs (p.pieces ++ js) m h))
      (λ m h. mark_in vs (p.pieces ++ js) m (mark_of vs js (p.pieces ++ js) (λ n i. in_right n p.pieces js i) m (mark_out vs js m h)))
      (λ m h. mark_in vs (p.pieces ++ js) m (mark_of vs ks (p.pieces ++ js) more m (mark_out vs ks m h)))
      (λ m xs h. more_sound vs ks js p.pins new fresh one m xs h) (marks_ascend vs ks) (marks_ascend vs js) in
      leads_on (vertex_steps (missing_points vs (vertices p)) (graph p)) (map (more_step (run (vertex_steps (missing_points vs (vertices p)) (graph p)) (graph p))) (marks vs js)) (graph p) (graph_over vs ks p.pins) (graph q) (record { there = g.0; sound = g.1 })
      (subst (λ z. Leads (map (more_step z) (marks vs js)) (graph_over vs ks p.pins) (graph q)) (sym g.0) (record { there = t.0; sound = t.1 }))
    where
      mark_of : (vs : List Point) (ks js : List Piece) → ((k : Piece) → Member k ks → Member k js) → (m : Mark) → IsMark vs ks m → IsMark vs js m
      mark_of vs ks js f m h = record { piece = h.piece; here = f h.piece h.here; curve = h.curve; low_in = h.low_in; high_in = h.high_in; next = h.next }

      with_here : (vs : List Point) (ks js : List Piece) (m : Mark) (h : IsMark vs ks m) → Member h.piece js → IsMark vs js m
      with_here vs ks js m h f = record { piece = h.piece; here = f; curve = h.curve; low_in = h.low_in; high_in = h.high_in; next = h.next }

      either_piece : (vs : List Point) (ks js : List Piece) (m : Mark) → IsMark vs (ks ++ js) m → Member m (marks vs js) ⊎ Member m (marks vs ks)
      either_piece vs ks js m h = ⊎_elim (λ i. inr (mark_in vs ks m (with_here vs (ks ++ js) ks m h i))) (λ i. inl (mark_in vs js m (with_here vs (ks ++ js) js m h i))) (in_either h.piece ks js h.here)

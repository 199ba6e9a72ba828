-- The meeting points of a segment and of the records' graph are the new vertices on its piece.
use Rattle.std.proofs.Common.{◌≡◌, ℕ, List, [], ◌∷◌, ◌++◌, true, false, not, ◌&&◌, cond, pos, refl, sym, ap, ap₂, ◌∙◌, subst, inl, inr, ◌⊎◌}
use Rattle.std.specs.List.{filter, flat_map}
use lib.Signed.{lt_z}
use Rattle.exact_plane.specs.Line.{Line, IsOn}
use Rattle.exact_plane.specs.Point.{Point}
use Rattle.exact_plane.specs.PointOrder.{point_cmp}
use Rattle.exact_plane.specs.PointOrderLaws.{point_cmp_total, same_point as point_cmp_exact, and_true}
use Rattle.exact_plane.specs.Segment.{Segment, line_of_segment}
use Rattle.plane_graphs.specs.Ascending.{Member, IsAscending, ascending}
use Rattle.plane_graphs.specs.Fit.{IsFit, IsFitPiece}
use Rattle.plane_graphs.specs.Graph.{Mark, Edge, mark, marks, graph, vertices, common_points, det, collinear, inside as inside_mark}
use Rattle.plane_graphs.specs.Line.{IsProper, IsProperLine, are_parallel, crossing}
use Rattle.plane_graphs.specs.Piece.{Piece, Present, along, on}
use Rattle.plane_graphs.proofs.Ascending.{ascending_unique, IsAscending-ascending}
use Rattle.plane_graphs.proofs.Closed.{IsClosed, mark_line, inside_in, inside_out}
use Rattle.plane_graphs.proofs.Lines.{geometry, crossing_proper, crossing_is, parallel_same, segment_line, along_out, zero_in}
use Rattle.plane_graphs.proofs.Lists.{and_in, not_out, clash, decide, in_map, of_map, in_filter, of_filter, in_left, in_right, in_either, in_flat_map, of_flat_map, in_ascending, of_ascending, if_out, if_false, if_one, one_if, IsAscending-filter}
use Rattle.plane_graphs.proofs.Marks.{le_same, le_lt, on_in, on_out, IsMark, mark_out}
use Rattle.plane_graphs.proofs.Order.{lt_out, lt_in}
use Rattle.plane_graphs.proofs.Vertices.{IsProperPiece, proper_piece, vertices_ascend, vertices_closed}
use Rattle.plane_graphs.proofs.Meaning.{parallel_itself}
use Rattle.slab_faces.proofs.InnerPoints.{before_out, inside_in as inside_counted}
use Rattle.edit_steps.specs.Edits.{whole_piece}
use Rattle.edit_steps.specs.EditLaws.{PassesThrough}
use Rattle.edit_steps.specs.Steps.{with_piece}
use Rattle.edit_steps.proofs.Edits.{fit_before}
use Rattle.edit_steps.proofs.Seen.{meeting_points as new_points}
use Rattle.slab_laws.specs.declared.names.DartId.{DartId}
use Rattle.slab_laws.specs.Skeleton.{inside, side, precedes}
use Rattle.slab_laws.specs.Sound.{IsGraphSound, points_of, edge_in}
use Rattle.slab_laws.specs.View.{View, HasDart, dart_id, point_in, source_in, twin_in, target_in, line_in}
use Rattle.rotation_order.proofs.Factors.{zero_between}
use Rattle.sound_views.proofs.NamedDarts.{twin_dart}
use Rattle.sound_views.proofs.NameTables.{has_name, name_has}
use Rattle.sound_changes.proofs.SplitCases.{edge_of_ends, ahead_by}
use Rattle.arr_notes.specs.Curves.{Curves, AreCurvesOf, IsForward, is_forward}
use Rattle.arr_notes.specs.RecordGraph.{drawn_graph}
use Rattle.sound_views.proofs.GraphDrawn.{twins_are_directed}
use Rattle.sound_changes.proofs.StepHolds.{mark_held, held_mark}
use Rattle.zone_walk.specs.Zone.{is_on_segment, passes, meeting_points}
use Rattle.sound_changes.proofs.Collinear.{one_line}
use Rattle.segment_insert.proofs.Makes.{some_curve}
use Rattle.integers.proofs.Tests.{not_true}

-- what is common to two pieces is where their lines cross, on both
pub record IsCommon (k m : Piece) (x : Point) : Type 0 where
  pub apart : are_parallel (line_of_segment k.segment) (line_of_segment m.segment) ≡ false
  pub is : x ≡ crossing (line_of_segment k.segment) (line_of_segment m.segment)
  pub on_one : on k x ≡ true
  pub on_other : on m x ≡ true

pub common_on : (k m : Piece) (x : Point) → Member x (common_points k m) → IsCommon k m x
unfolding common_points
common_on k m x i =
    let l = line_of_segment k.segment in
    let n = line_of_segment m.segment in
    let r = crossing l n in
    let found : Type 0 = (are_parallel l n ≡ false) × Member x (cond (on k r && on m r) (r ∷ []) []) in
    let o : found = elim (if_out (are_parallel l n) x [] (cond (on k r && on m r) (r ∷ []) []) i) [ inl z ↦ absurd z.1 | inr z ↦ z ] in
    let w = one_if (on k r && on m r) x r o.1 in
    let b = and_true (on k r) (on m r) w.0 in
    record { apart = o.0; is = w.1; on_one = subst (λ z. on k z ≡ true) (sym w.1) b.0; on_other = subst (λ z. on m z ≡ true) (sym w.1) b.1 }

module _ (v : View) (h : Curves) (s : IsGraphSound v) (a : AreCurvesOf v h) (p : Present) (g : Segment) (c number : ℕ) (stands : drawn_graph v h ≡ graph p) (fit : IsFit (with_piece p (whole_piece c number g))) where
  abbrev k : Piece
  k = whole_piece c number g

  abbrev q : Present
  q = with_piece p k

  abbrev l : Line
  l = line_of_segment g

  old_fit : IsFit p
  old_fit = fit_before p k fit

  k_here : Member k q.pieces
  k_here = in_right k p.pieces (k ∷ []) (inl refl)

  fit_k : IsFitPiece k
  fit_k = fit.piece k k_here

  proper_k : IsProperPiece k
  proper_k = proper_piece k fit_k

  proper_line : IsProperLine l
  proper_line = segment_line k proper_k

  closed : IsClosed (vertices p) p.pieces
  closed = vertices_closed geometry p old_fit

  points_same : points_of v ≡ vertices p
  unfolding drawn_graph graph
  points_same = ap (λ z. z.points) stands

  marks_same : (drawn_graph v h).marks ≡ marks (vertices p) p.pieces
  unfolding graph
  marks_same = ap (λ z. z.marks) stands

  -- ---- the pieces of edges
  record IsPieceOf (d : DartId) (j : Piece) : Type 0 where
    here : Member j p.pieces
    curve : ℕ
    there : Member (mark (point_in v (source_in v d)) (point_in v (target_in v d)) curve) (marks (vertices p) p.pieces)
    line : line_in v d ≡ line_of_segment j.segment

  piece_of_dart : (d : DartId) → IsForward v d → (j : Piece) × IsPieceOf d j
  piece_of_dart d f =
      let low = point_in v (source_in v d) in
      let high = point_in v (target_in v d) in
      let k = some_curve v h d a f in
      let m : Mark = mark low high k.0 in
      let t : Member m (marks (vertices p) p.pieces) = subst (λ z. Member m z) marks_same (mark_held v s.named h m d (record { forward = f; low = refl; high = refl; curve = k.1 })) in
      let i = mark_out (vertices p) p.pieces m t in (
        i.piece,
        record {
          here = i.here;
          curve = k.0;
          there = t;
          line = one_line (line_in v d) (line_of_segment i.piece.segment) low high (s.drawn.line d f.0) (segment_line i.piece (proper_piece i.piece (old_fit.piece i.piece i.here))) (closed.proper low i.low_in) (closed.proper high i.high_in) i.next.lt
              (s.drawn.starts d f.0) (s.drawn.ends d f.0) (along_out i.piece low i.next.at_p.line) (along_out i.piece high i.next.at_q.line);
        },
      )

  inside_by : (n : Mark) (x : Point) → IsMark (vertices p) p.pieces n → IsProper x → inside (edge_of_ends n.low n.high) x ≡ true → inside_mark x n ≡ true
  unfolding collinear det side
  inside_by n x i proper e =
      let E : Edge = edge_of_ends n.low n.high in
      let o = and_true (precedes n.low x && precedes x n.high) (not (lt_z (side E x) (pos 0)) && not (lt_z (pos 0) (side E x))) e in
      let b = and_true (precedes n.low x) (precedes x n.high) o.0 in
      let z = and_true (not (lt_z (side E x) (pos 0))) (not (lt_z (pos 0) (side E x))) o.1 in
      inside_in x n (before_out n.low x (closed.proper n.low i.low_in) proper b.0) (before_out x n.high proper (closed.proper n.high i.high_in) b.1)
      (zero_in (side E x) (zero_between (side E x) (not_out _ z.0) (not_out _ z.1)))

  -- ---- an edge that the segment passes through, by its forward dart
  module _ (d : DartId) (f : IsForward v d) (x : Point) where
    abbrev low : Point
    low = point_in v (source_in v d)

    abbrev high : Point
    high = point_in v (target_in v d)

    edge_is : edge_in v d ≡ edge_of_ends low high
    edge_is = ap (λ z. z.edge) (ahead_by low high f.1)

    passed : Member x (passes v g d) → PassesThrough (graph p) k x
    unfolding on along graph
    passed m =
        let j = piece_of_dart d f in
        let n : Mark = mark low high j.1.curve in
        let i = mark_out (vertices p) p.pieces n j.1.there in
        let there : Type 0 = (are_parallel l (line_in v d) ≡ false) × Member x (cond (is_on_segment g (crossing l (line_in v d)) && inside (edge_in v d) (crossing l (line_in v d))) (crossing l (line_in v d) ∷ []) []) in
        let o : there = elim (if_out (are_parallel l (line_in v d)) x [] (cond (is_on_segment g (crossing l (line_in v d)) && inside (edge_in v d) (crossing l (line_in v d))) (crossing l (line_in v d) ∷ []) []) m) [ inl z ↦ absurd z.1 | inr z ↦ z ] in
        let w = one_if (is_on_segment g (crossing l (line_in v d)) && inside (edge_in v d) (crossing l (line_in v d))) x (crossing l (line_in v d)) o.1 in
        let b = and_true (is_on_segment g (crossing l (line_in v d))) (inside (edge_in v d) (crossing l (line_in v d))) w.0 in
        let proper : IsProper x = subst IsProper (sym (w.1 ∙ ap (crossing l) j.1.line)) (crossing_proper k j.0 proper_k (proper_piece j.0 (old_fit.piece j.0 j.1.here)) (subst (λ z. are_parallel l z ≡ false) j.1.line o.0)) in
        let within : inside (edge_of_ends low high) x ≡ true = subst (λ z. inside (edge_of_ends low high) z ≡ true) (sym w.1) (subst (λ z. inside z (crossing l (line_in v d)) ≡ true) edge_is b.1) in
        record {
          proper = proper;
          here = subst (λ z. is_on_segment g z ≡ true) (sym w.1) b.0;
          edge = n;
          edge_in = j.1.there;
          within = inside_by n x i proper within;
          apart = not_true (along k low && along k high) (λ e.
              let w = and_true (along k low) (along k high) e in
              let same = one_line l (line_in v d) low high proper_line (s.drawn.line d f.0) (closed.proper low i.low_in) (closed.proper high i.high_in) i.next.lt (along_out k low w.0) (along_out k high w.1) (s.drawn.starts d f.0) (s.drawn.ends d f.0) in
              clash (parallel_itself l) (subst (λ z. are_parallel l z ≡ false) (sym same) o.0));
        }

  -- twins have one edge and one line
  passed_by : (d : DartId) → HasDart v d → (x : Point) → Member x (passes v g d) → PassesThrough (graph p) k x
  passed_by d has x m = elim (decide (is_forward v d)) [
    | inl f ↦ passed d (has, f) x m
    | inr f ↦
        let t = twin_in v d in
        passed t (s.twinned.has d has, twins_are_directed v s d has ∙ ap not f) x
        (subst (λ z. Member x (passes_by (edge_in v t) z)) (sym (s.twinned.line d has)) (subst (λ z. Member x (passes_by z (line_in v d))) (sym (ap (λ z. z.edge) (twin_dart v s d has))) m))
  ]
    where
      passes_by : Edge → Line → List Point
      passes_by e n = cond (are_parallel l n) [] (cond (is_on_segment g (crossing l n) && inside e (crossing l n)) (crossing l n ∷ []) [])

  -- ---- a point where the segment passes through an edge, among the records' darts
  came : (x : Point) → PassesThrough (graph p) k x → Member x (flat_map (λ r. passes v g (dart_id r.0)) v.darts)
  unfolding graph on along
  came x t =
      let n = t.edge in
      let i = mark_out (vertices p) p.pieces n t.edge_in in
      let j = i.piece in
      let r = held_mark v s.named h n (subst (λ z. Member n z) (sym marks_same) t.edge_in) in
      let d = r.0 in
      let f = r.1.forward in
      let w = inside_out x n t.within in
      let along_x : along j x ≡ true = sym (mark_line (vertices p) p.pieces closed n i x t.proper) ∙ w.2 in
      let proper_j = proper_piece j (old_fit.piece j i.here) in
      let line : line_in v d ≡ line_of_segment j.segment = one_line (line_in v d) (line_of_segment j.segment) n.low n.high (s.drawn.line d f.0) (segment_line j proper_j) (closed.proper n.low i.low_in) (closed.proper n.high i.high_in) i.next.lt
      (subst (IsOn (line_in v d)) r.1.low (s.drawn.starts d f.0)) (subst (IsOn (line_in v d)) r.1.high (s.drawn.ends d f.0)) (along_out j n.low i.next.at_p.line) (along_out j n.high i.next.at_q.line) in
      let here = on_out k x t.here in
      let apart : are_parallel l (line_of_segment j.segment) ≡ false = not_true _ (λ e.
      let one = parallel_same k j proper_k proper_j e x t.proper here.line along_x in
      clash (and_in (one.same n.low (closed.proper n.low i.low_in) ∙ i.next.at_p.line) (one.same n.high (closed.proper n.high i.high_in) ∙ i.next.at_q.line)) t.apart) in
      let is : x ≡ crossing l (line_in v d) = crossing_is k j proper_k proper_j apart x t.proper here.line along_x ∙ ap (crossing l) (sym line) in
      let edge : edge_in v d ≡ edge_of_ends n.low n.high = ap (λ z. z.edge) (ahead_by _ _ f.1) ∙ ap₂ edge_of_ends r.1.low r.1.high in
      let within : inside (edge_in v d) x ≡ true = subst (λ z. inside z x ≡ true) (sym edge) (inside_counted (edge_of_ends n.low n.high) x (closed.proper n.low i.low_in) (closed.proper n.high i.high_in) t.proper (and_in (and_in (lt_in w.0) (lt_in w.1)) w.2)) in
      let found : Member x (passes v g d) = if_false (are_parallel l (line_in v d)) x [] (cond (is_on_segment g (crossing l (line_in v d)) && inside (edge_in v d) (crossing l (line_in v d))) (crossing l (line_in v d) ∷ []) []) (subst (λ z. are_parallel l z ≡ false) (sym line) apart)
      (if_one (is_on_segment g (crossing l (line_in v d)) && inside (edge_in v d) (crossing l (line_in v d))) x (crossing l (line_in v d)) (subst (λ z. is_on_segment g z && inside (edge_in v d) z ≡ true) is (and_in t.here within)) is) in
      let row = of_map (λ z. z.0) d.0 v.darts (has_name v.darts d.0 f.0) in
      in_flat_map (λ r. passes v g (dart_id r.0)) row.0 x v.darts row.1 (subst (λ z. Member x (passes v g (dart_id z))) row.2 found)

  -- ---- all meeting points
  ends_on : (x : Point) → (x ≡ g.lower) ⊎ (x ≡ g.upper) → on k x ≡ true
  ends_on x (inl e) = subst (λ z. on k z ≡ true) (sym e) (on_in k g.lower (record { line = fit_k.from_on; low = le_same g.lower; high = le_lt (lt_out g.lower g.upper fit_k.forward) }))
  ends_on x (inr e) = subst (λ z. on k z ≡ true) (sym e) (on_in k g.upper (record { line = fit_k.to_on; low = le_lt (lt_out g.lower g.upper fit_k.forward); high = le_same g.upper }))

  abbrev candidates : List Point
  candidates = filter (is_on_segment g) (points_of v) ++ flat_map (λ r. passes v g (dart_id r.0)) v.darts

  abbrev new_on : List Point
  new_on = filter (on k) (vertices q)

  put : (x : Point) → (x ≡ g.lower) ⊎ ((x ≡ g.upper) ⊎ (Member x (vertices p) ⊎ PassesThrough (graph p) k x)) → on k x ≡ true → Member x new_on
  put x e o = in_filter (on k) x (vertices q) (new_points.all p k x fit e) o

  into : (x : Point) → Member x (g.lower ∷ g.upper ∷ candidates) → Member x new_on
  unfolding on along
  into x (inl e) = put x (inl e) (ends_on x (inl e))
  into x (inr (inl e)) = put x (inr (inl e)) (ends_on x (inr e))
  into x (inr (inr m)) = elim (in_either x (filter (is_on_segment g) (points_of v)) (flat_map (λ r. passes v g (dart_id r.0)) v.darts) m) [
    | inl n ↦ let o = of_filter (is_on_segment g) x (points_of v) n in put x (inr (inr (inl (subst (λ z. Member x z) points_same o.0)))) o.1
    | inr n ↦
        let o = of_flat_map (λ r. passes v g (dart_id r.0)) x v.darts n in
        let t = passed_by (dart_id o.0.0) (name_has v.darts o.0.0 (in_map (λ z. z.0) o.0 v.darts o.1)) x o.2 in
        put x (inr (inr (inr t))) t.here
  ]

  from : (x : Point) → Member x new_on → Member x (g.lower ∷ g.upper ∷ candidates)
  unfolding on along
  from x m =
      let o = of_filter (on k) x (vertices q) m in
      elim (new_points.are p k x fit o.0 o.1) [
        | inl e ↦ inl e
        | inr (inl e) ↦ inr (inl e)
        | inr (inr (inl n)) ↦ inr (inr (in_left x (filter (is_on_segment g) (points_of v)) (flat_map (λ r. passes v g (dart_id r.0)) v.darts) (in_filter (is_on_segment g) x (points_of v) (subst (λ z. Member x z) (sym points_same) n) o.1)))
        | inr (inr (inr t)) ↦ inr (inr (in_right x (filter (is_on_segment g) (points_of v)) (flat_map (λ r. passes v g (dart_id r.0)) v.darts) (came x t)))
      ]

  pub points_ascend : IsAscending point_cmp (meeting_points v g)
  unfolding meeting_points
  points_ascend = IsAscending-ascending point_cmp point_cmp_total _

  pub met : meeting_points v g ≡ new_on
  unfolding meeting_points
  met =
      ascending_unique point_cmp point_cmp_total (ascending point_cmp (g.lower ∷ g.upper ∷ candidates)) new_on (IsAscending-ascending point_cmp point_cmp_total _) (IsAscending-filter point_cmp (on k) (vertices q) (vertices_ascend q))
      (λ x m. into x (of_ascending point_cmp point_cmp_total point_cmp_exact x (g.lower ∷ g.upper ∷ candidates) m)) (λ x m. in_ascending point_cmp point_cmp_total point_cmp_exact x (g.lower ∷ g.upper ∷ candidates) (from x m))

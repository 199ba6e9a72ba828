-- The plan of a path tells the new vertices of a curve of its sides, and its marks.
use Rattle.std.proofs.Common.{◌≡◌, ◌&&◌, ℕ, List, [], ◌∷◌, ◌++◌, true, refl, sym, ap, ◌∙◌, subst, inl, inr, ⊎_elim}
use Rattle.std.specs.List.{filter, flat_map}
use Rattle.std.proofs.lemmas.List.{map-append}
use Rattle.exact_plane.specs.Point.{Point}
use Rattle.exact_plane.specs.Segment.{Segment}
use Rattle.plane_graphs.specs.Ascending.{Member, ascending}
use Rattle.plane_graphs.specs.Fit.{IsFit}
use Rattle.plane_graphs.specs.Graph.{Mark, mark_cmp, marks, chain, graph, vertices, common_points}
use Rattle.plane_graphs.specs.Piece.{Piece, Present, along, on}
use Rattle.plane_graphs.specs.Strands.{strand_piece, strand_pieces, strands}
use Rattle.plane_graphs.proofs.Lists.{in_either, in_left, in_right, in_filter, of_filter, if_false, if_one, and_in}
use Rattle.plane_graphs.proofs.Strands.{of_strands, strand_on, strand_vertices, strands_fit, strand_common}
use Rattle.edit_steps.specs.EditLaws.{ArePathPoints, IsSelfMeeting}
use Rattle.edit_steps.specs.Edits.{path_pieces, whole_piece}
use Rattle.edit_steps.specs.Steps.{with_piece, with_pieces}
use Rattle.edit_steps.proofs.Edits.{fit_part}
use Rattle.edit_steps.proofs.Laws.{side_out}
use Rattle.edit_steps.proofs.Together.{path_points_tell, vertices_together}
use Rattle.slab_laws.specs.Sound.{IsGraphSound}
use Rattle.slab_laws.specs.View.{View, Faces}
use Rattle.arr_notes.specs.Curves.{Curves, AreCurvesOf}
use Rattle.arr_notes.specs.RecordGraph.{drawn_graph}
use Rattle.zone_walk.specs.Zone.{meeting_points, points_of_meetings}
use Rattle.path_zone.specs.PathZone.{IsCrossing, IsPathZone, IsWhereSideMeets, IsWhereSidesMeet}
use Rattle.path_zone.specs.Plan.{PathPlan}
use Rattle.segment_insert.proofs.Halves.{side_piece, AreTold}
use Rattle.segment_insert.proofs.Passing.{common_on, met}

-- ---- one of the pieces that come
module _ (p : Present) (js : List Piece) (fit : IsFit (with_pieces p js)) (k : Piece) (here : Member k js) where
  among : (m : Piece) → Member m (p.pieces ++ (k ∷ [])) → Member m (p.pieces ++ js)
  among m i = ⊎_elim (λ o. in_left m p.pieces js o) (λ o. ⊎_elim (λ e. in_right m p.pieces js (subst (λ z. Member z js) (sym e) here)) (λ z. absurd z) o) (in_either m p.pieces (k ∷ []) i)

  fit_alone : IsFit (with_piece p k)
  fit_alone = fit_part (with_piece p k) (with_pieces p js) fit among (λ r h. h) fit.pins_ascend

-- ---- where sides are told apart
module _ (p : Present) (js : List Piece) (ps : List Point) (a : ArePathPoints p js ps) where
  -- sides told apart: the same vertices with some pieces more
  more_vertices : (ks : List Piece) → vertices (with_pieces (strands p) (strand_pieces ks)) ≡ vertices (with_pieces p ks)
  more_vertices ks = ap (λ (xs : List Piece). vertices (record { pieces = xs; pins = p.pins })) (sym (map-append strand_piece p.pieces ks)) ∙ strand_vertices (with_pieces p ks)

  meets_too : (x : Point) → IsSelfMeeting (strand_pieces js) x → IsSelfMeeting js x
  meets_too x s =
      let k = of_strands s.one js s.one_in in
      let m = of_strands s.other js s.other_in in
      record {
        one = k.0;
        other = m.0;
        one_in = k.1;
        other_in = m.1;
        common = subst (Member x) ((λ i. common_points (k.2 i) (m.2 i)) ∙ strand_common k.0 m.0) s.common;
      }

  pub points_apart : ArePathPoints (strands p) (strand_pieces js) ps
  points_apart = record {
    ascend = a.ascend;
    only = λ x m. subst (Member x) (sym (more_vertices js)) (a.only x m);
    each = λ j x i m o.
        let k = of_strands j js i in
        a.each k.0 x k.1 (subst (Member x) (more_vertices (k.0 ∷ [])) (subst (λ z. Member x (vertices (with_piece (strands p) z))) k.2 m)) (sym (strand_on k.0 x) ∙ subst (λ z. on z x ≡ true) k.2 o);
    own = λ x s. a.own x (meets_too x s);
  }

  -- the marks of the sides told apart
  pub strand_marks : IsFit (with_pieces p js) → marks (vertices (with_pieces p js)) (strand_pieces js) ≡ ascending mark_cmp (flat_map (λ k. chain k.curve (filter (on k) ps)) (strand_pieces js))
  strand_marks fit =
      let same : strands (with_pieces p js) ≡ with_pieces (strands p) (strand_pieces js) = ap (λ (xs : List Piece). record { pieces = xs; pins = p.pins }) (map-append strand_piece p.pieces js) in
      ap (λ vs. marks vs (strand_pieces js)) (sym (more_vertices js)) ∙ path_points_tell.marks (strands p) (strand_pieces js) ps (subst IsFit same (strands_fit (with_pieces p js) fit)) points_apart

-- ---- the plan's points
module _ (v : View) (h : Curves) (s : IsGraphSound v) (a : AreCurvesOf v h) (p : Present) (c : ℕ) (ss : List Segment) (f : Faces) (plan : PathPlan) (stands : drawn_graph v h ≡ graph p) (fit : IsFit (with_pieces p (path_pieces c ss))) (z : IsPathZone v f ss plan) where
  abbrev js : List Piece
  js = path_pieces c ss

  abbrev q : Present
  q = with_pieces p js

  abbrev ps : List Point
  ps = points_of_meetings plan.vertices

  -- the meeting points of a side are the new vertices on it
  met_one : (g : Segment) (n : ℕ) → Member (whole_piece c n g) js → meeting_points v g ≡ filter (on (whole_piece c n g)) (vertices (with_piece p (whole_piece c n g)))
  met_one g n i = met v h s a p g c n stands (fit_alone p js fit (whole_piece c n g) i)

  only_met : (x : Point) → IsWhereSideMeets v ss x → Member x (vertices q)
  only_met x w =
      let k = side_piece c 1 ss w.side w.side_in in
      let m = of_filter (on (whole_piece c k.0 w.side)) x (vertices (with_piece p (whole_piece c k.0 w.side))) (subst (Member x) (met_one w.side k.0 k.1) w.meets) in
      vertices_together.all p js x (inr (inl (record { piece = whole_piece c k.0 w.side; piece_in = k.1; vertex = m.0 })))

  -- where sides cross, their pieces do
  crossed : (one other : Segment) (n m : ℕ) (x : Point) → IsCrossing one other x → Member x (common_points (whole_piece c n one) (whole_piece c m other))
  unfolding common_points on along
  crossed one other n m x w =
      if_false _ x [] _ w.apart (if_one _ x _ (subst (λ r. (on (whole_piece c n one) r && on (whole_piece c m other) r) ≡ true) w.point (and_in w.on_first w.on_second)) w.point)

  only_own : (x : Point) → IsWhereSidesMeet ss x → Member x (vertices q)
  only_own x w =
      let k = side_piece c 1 ss w.one w.one_in in
      let m = side_piece c 1 ss w.other w.other_in in
      vertices_together.all p js x (inr (inr (record {
        one = whole_piece c k.0 w.one;
        other = whole_piece c m.0 w.other;
        one_in = k.1;
        other_in = m.1;
        common = crossed w.one w.other k.0 m.0 x w.crossing;
      })))

  there : (k : Piece) (x : Point) → Member k js → Member x (vertices (with_piece p k)) → on k x ≡ true → Member x ps
  there k x i m o =
      let w = side_out c 1 ss k i in
      let g = k.segment in
      let whole = w.whole in
      z.each g x w.segment_in (subst (Member x) (sym (met_one g k.side (subst (λ y. Member y js) whole i)))
      (in_filter (on (whole_piece c k.side g)) x (vertices (with_piece p (whole_piece c k.side g))) (subst (λ y. Member x (vertices (with_piece p y))) whole m) (subst (λ y. on y x ≡ true) whole o)))

  own_there : (x : Point) → IsSelfMeeting js x → Member x ps
  unfolding on along
  own_there x w =
      let k = side_out c 1 ss w.one w.one_in in
      let m = side_out c 1 ss w.other w.other_in in
      let i = common_on w.one w.other x w.common in
      z.own x (record {
        one = w.one.segment;
        other = w.other.segment;
        one_in = k.segment_in;
        other_in = m.segment_in;
        crossing = record {
          apart = i.apart;
          point = i.is;
          on_first = subst (λ y. on y x ≡ true) k.whole i.on_one;
          on_second = subst (λ y. on y x ≡ true) m.whole i.on_other;
        };
      })

  are_points : ArePathPoints p js ps
  are_points = record {
    ascend = z.ascend;
    only = λ x m. ⊎_elim (λ w. only_met x w) (λ w. only_own x w) (z.only x m);
    each = there;
    own = own_there;
  }

  pub path_told : (es zs : List Mark) → es ≡ ascending mark_cmp (flat_map (λ k. chain k.curve (filter (on k) ps)) js) → zs ≡ ascending mark_cmp (flat_map (λ k. chain k.curve (filter (on k) ps)) (strand_pieces js)) → AreTold p c ss ps es zs
  path_told es zs edges sides = record {
    points = are_points;
    edges = edges ∙ sym (path_points_tell.marks p js ps fit are_points);
    sides = sides ∙ sym (strand_marks p js ps are_points fit);
  }

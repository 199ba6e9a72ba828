-- The vertices of a present, and that they are closed where it is fit.
use Rattle.std.proofs.Common.{◌≡◌, [], ◌∷◌, ◌++◌, Bool, true, false, cond, ◌&&◌, refl, sym, subst, inl, inr, ◌⊎◌, ⊎_elim}
use Rattle.std.specs.List.{flat_map}
use Rattle.exact_plane.specs.Point.{Point}
use Rattle.exact_plane.specs.PointOrder.{point_cmp}
use Rattle.exact_plane.specs.PointOrderLaws.{point_cmp_total, same_point as point_cmp_exact, and_true}
use Rattle.plane_graphs.specs.Line.{IsWhole, are_parallel, crossing, IsProper}
use Rattle.exact_plane.specs.Segment.{line_of_segment}
use Rattle.plane_graphs.specs.Piece.{Piece, Present, along, on}
use Rattle.plane_graphs.specs.Graph.{vertices, ends, common_points}
use Rattle.plane_graphs.specs.Fit.{IsFit, IsFitPiece}
use Rattle.plane_graphs.specs.Ascending.{Member, IsAscending}
use Rattle.plane_graphs.proofs.Ascending.{IsAscending-ascending}
use Rattle.plane_graphs.proofs.Lists.{and_in, of_ascending, in_ascending, of_flat_map, in_flat_map, in_left, in_right, in_either, if_out, if_true, if_false}
use Rattle.plane_graphs.proofs.Order.{Lt, lt_out}
use Rattle.plane_graphs.proofs.Marks.{On, on_out, on_in}
use Rattle.plane_graphs.proofs.Closed.{IsClosed, IsStraight, SameLine}

pub record IsProperPiece (k : Piece) : Type 0 where
  pub lower : IsWhole k.segment.lower
  pub upper : IsWhole k.segment.upper
  pub ahead : Lt k.segment.lower k.segment.upper

-- what is used of numbers
pub record Geometry : Type 0 where
  pub straight : (k : Piece) → IsProperPiece k → IsStraight k
  pub crossing_proper : (k m : Piece) → IsProperPiece k → IsProperPiece m → are_parallel (line_of_segment k.segment) (line_of_segment m.segment) ≡ false → IsProper (crossing (line_of_segment k.segment) (line_of_segment m.segment))
  pub crossing_is : (k m : Piece) → IsProperPiece k → IsProperPiece m → are_parallel (line_of_segment k.segment) (line_of_segment m.segment) ≡ false → (t : Point) → IsProper t → along k t ≡ true → along m t ≡ true → t ≡ crossing (line_of_segment k.segment) (line_of_segment m.segment)
  pub parallel_same : (k m : Piece) → IsProperPiece k → IsProperPiece m → are_parallel (line_of_segment k.segment) (line_of_segment m.segment) ≡ true → (t : Point) → IsProper t → along k t ≡ true → along m t ≡ true → SameLine k m

pub record IsCrossing (p : Present) (x : Point) : Type 0 where
  pub one : Piece
  pub other : Piece
  pub one_here : Member one p.pieces
  pub other_here : Member other p.pieces
  pub apart : are_parallel (line_of_segment one.segment) (line_of_segment other.segment) ≡ false
  pub on_one : On one x
  pub on_other : On other x
  pub is : x ≡ crossing (line_of_segment one.segment) (line_of_segment other.segment)

pub data IsVertex (p : Present) (x : Point) : Type 0 where
  begins : (k : Piece) → Member k p.pieces → x ≡ k.from → IsVertex p x
  finishes : (k : Piece) → Member k p.pieces → x ≡ k.to → IsVertex p x
  pinned : Member x p.pins → IsVertex p x
  crossed : IsCrossing p x → IsVertex p x

pub common_out : (p : Present) (x : Point) (k m : Piece) → Member k p.pieces → Member m p.pieces → Member x (common_points k m) → IsVertex p x
unfolding common_points
common_out p x k m a b h =
    let l = line_of_segment k.segment in
    let n = line_of_segment m.segment in
    ⊎_elim (λ w. absurd w.1)
    (λ w. ⊎_elim
    (λ v. ⊎_elim
    (λ e. let c = and_true (on k (crossing l n)) (on m (crossing l n)) v.0 in
    crossed (record { one = k; other = m; one_here = a; other_here = b; apart = w.0; on_one = on_out k x (subst (λ z. on k z ≡ true) (sym e) c.0); on_other = on_out m x (subst (λ z. on m z ≡ true) (sym e) c.1); is = e }))
    (λ u. absurd u) v.1)
    (λ v. absurd v.1)
    (if_out (on k (crossing l n) && on m (crossing l n)) x (crossing l n ∷ []) [] w.1))
    (if_out (are_parallel l n) x [] (cond (on k (crossing l n) && on m (crossing l n)) (crossing l n ∷ []) []) h)

pub common_in : (p : Present) (x : Point) (c : IsCrossing p x) → Member x (common_points c.one c.other)
unfolding common_points
common_in p x c =
    let k = c.one in
    let m = c.other in
    let l = line_of_segment k.segment in
    let n = line_of_segment m.segment in
    if_false (are_parallel l n) x [] (cond (on k (crossing l n) && on m (crossing l n)) (crossing l n ∷ []) []) c.apart
    (if_true (on k (crossing l n) && on m (crossing l n)) x (crossing l n ∷ []) [] (and_in (subst (λ z. on k z ≡ true) c.is (on_in k x c.on_one)) (subst (λ z. on m z ≡ true) c.is (on_in m x c.on_other))) (inl c.is))

pub vertex_out : (p : Present) (x : Point) → Member x (vertices p) → IsVertex p x
unfolding vertices ends
vertex_out p x h =
    let a = of_ascending point_cmp point_cmp_total point_cmp_exact x _ h in
    ⊎_elim
    (λ m. let b = of_flat_map ends x p.pieces m in ⊎_elim (λ e. begins b.0 b.1 e) (λ r. ⊎_elim (λ e. finishes b.0 b.1 e) (λ z. absurd z) r) b.2)
    (λ m. ⊎_elim (λ n. pinned n)
    (λ n. let b = of_flat_map (λ k. flat_map (common_points k) p.pieces) x p.pieces n in
    let c = of_flat_map (common_points b.0) x p.pieces b.2 in
    common_out p x b.0 c.0 b.1 c.1 c.2)
    (in_either x p.pins (flat_map (λ k. flat_map (common_points k) p.pieces) p.pieces) m))
    (in_either x (flat_map ends p.pieces) (p.pins ++ flat_map (λ k. flat_map (common_points k) p.pieces) p.pieces) a)

place_of : (p : Present) (x : Point) → IsVertex p x → Member x (flat_map ends p.pieces ++ (p.pins ++ flat_map (λ k. flat_map (common_points k) p.pieces) p.pieces))
unfolding ends
place_of p x (begins k h e) = in_left x (flat_map ends p.pieces) _ (in_flat_map ends k x p.pieces h (inl e))
place_of p x (finishes k h e) = in_left x (flat_map ends p.pieces) _ (in_flat_map ends k x p.pieces h (inr (inl e)))
place_of p x (pinned h) = in_right x (flat_map ends p.pieces) _ (in_left x p.pins _ h)
place_of p x (crossed c) =
    in_right x (flat_map ends p.pieces) _ (in_right x p.pins _ (in_flat_map (λ k. flat_map (common_points k) p.pieces) c.one x p.pieces c.one_here (in_flat_map (common_points c.one) c.other x p.pieces c.other_here (common_in p x c))))

pub vertex_in : (p : Present) (x : Point) → IsVertex p x → Member x (vertices p)
unfolding vertices
vertex_in p x v = in_ascending point_cmp point_cmp_total point_cmp_exact x _ (place_of p x v)

pub vertices_ascend : (p : Present) → IsAscending point_cmp (vertices p)
unfolding vertices
vertices_ascend p = IsAscending-ascending point_cmp point_cmp_total _

pub proper_piece : (k : Piece) → IsFitPiece k → IsProperPiece k
proper_piece k f = record { lower = f.lower; upper = f.upper; ahead = lt_out k.segment.lower k.segment.upper f.ahead }

module _ (geo : Geometry) (p : Present) (fit : IsFit p) where
  vertex_proper : (x : Point) → IsVertex p x → IsProper x
  vertex_proper x (begins k h e) = subst IsProper (sym e) (fit.piece k h).from
  vertex_proper x (finishes k h e) = subst IsProper (sym e) (fit.piece k h).to
  vertex_proper x (pinned h) = fit.pin x h
  vertex_proper x (crossed c) = subst IsProper (sym c.is) (geo.crossing_proper c.one c.other (proper_piece c.one (fit.piece c.one c.one_here)) (proper_piece c.other (fit.piece c.other c.other_here)) c.apart)

  meets : (k m : Piece) → Member k p.pieces → Member m p.pieces → (t : Point) → IsProper t → On k t → On m t → (b : Bool) → are_parallel (line_of_segment k.segment) (line_of_segment m.segment) ≡ b → Member t (vertices p) ⊎ SameLine k m
  meets k m a b t pt h g true e = inr (geo.parallel_same k m (proper_piece k (fit.piece k a)) (proper_piece m (fit.piece m b)) e t pt h.line g.line)
  meets k m a b t pt h g false e =
      inl (vertex_in p t (crossed (record { one = k; other = m; one_here = a; other_here = b; apart = e; on_one = h; on_other = g; is = geo.crossing_is k m (proper_piece k (fit.piece k a)) (proper_piece m (fit.piece m b)) e t pt h.line g.line })))

  pub vertices_closed : IsClosed (vertices p) p.pieces
  vertices_closed = record {
    ascend = vertices_ascend p;
    proper = λ x m. vertex_proper x (vertex_out p x m);
    from_in = λ k h. vertex_in p k.from (begins k h refl);
    to_in = λ k h. vertex_in p k.to (finishes k h refl);
    from_on = λ k h. (fit.piece k h).from_on;
    to_on = λ k h. (fit.piece k h).to_on;
    straight = λ k h. geo.straight k (proper_piece k (fit.piece k h));
    met = λ k m a b t pt h g. meets k m a b t pt h g (are_parallel (line_of_segment k.segment) (line_of_segment m.segment)) refl;
  }

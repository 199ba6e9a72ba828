-- The sides of curves told apart.
use Rattle.std.proofs.Common.{◌≡◌, ℕ, ◌≤◌, ◌+◌, ◌*◌, List, [], ◌∷◌, ◌++◌, refl, sym, ap, ap₂, ◌∙◌, subst, arith}
use Rattle.std.specs.Prelude.{map}
use Rattle.std.specs.List.{flat_map}
use Rattle.exact_plane.specs.Point.{Point}
use Rattle.exact_plane.specs.PointOrder.{point_cmp}
use Rattle.plane_graphs.specs.Line.{IsProper}
use Rattle.plane_graphs.specs.Ascending.{Member, ascending}
use Rattle.plane_graphs.specs.Fit.{IsFit, IsFitPiece, AreOfOneSide}
use Rattle.plane_graphs.specs.Graph.{vertices, ends, common_points}
use Rattle.plane_graphs.specs.Piece.{Piece, Present, along, on}
use Rattle.plane_graphs.specs.Strands.{strand, strand_piece, strand_pieces, strands, HasOneSide, StrandsAreApart}
use Rattle.plane_graphs.proofs.Lists.{of_map}

-- ---- numbers of sides
strand_curve : (c d s t : ℕ) → s ≤ 8 → t ≤ 8 → strand c s ≡ strand d t → c ≡ d
strand_curve c d s t a b e = omega arith

strand_side : (c d s t : ℕ) → s ≤ 8 → t ≤ 8 → strand c s ≡ strand d t → s ≡ t
strand_side c d s t a b e = omega arith

-- ---- where points lie
pub strand_along : (k : Piece) (x : Point) → along (strand_piece k) x ≡ along k x
unfolding along
strand_along k x = refl

pub strand_on : (k : Piece) (x : Point) → on (strand_piece k) x ≡ on k x
unfolding on along
strand_on k x = refl

strand_ends : (k : Piece) → ends (strand_piece k) ≡ ends k
unfolding ends
strand_ends k = refl

pub strand_common : (k m : Piece) → common_points (strand_piece k) (strand_piece m) ≡ common_points k m
unfolding common_points on along
strand_common k m = refl

gathered : {X : Type 0} (f g : Piece → List X) → ((k : Piece) → f (strand_piece k) ≡ g k) → (ks : List Piece) → flat_map f (strand_pieces ks) ≡ flat_map g ks
gathered f g e [] = refl
gathered f g e (k ∷ ks) = ap₂ (λ x y. x ++ y) (e k) (gathered f g e ks)

pub strand_vertices : (p : Present) → vertices (strands p) ≡ vertices p
unfolding vertices
strand_vertices p =
    let ks : List Piece = p.pieces in
    ap₂ (λ x y. ascending point_cmp (x ++ (p.pins ++ y))) (gathered ends ends strand_ends ks)
    (gathered (λ k. flat_map (common_points k) (strand_pieces ks)) (λ k. flat_map (common_points k) ks) (λ k. gathered (common_points (strand_piece k)) (common_points k) (strand_common k) ks) ks)

-- ---- pieces
pub of_strands : (k : Piece) (ks : List Piece) → Member k (strand_pieces ks) → (m : Piece) × Member m ks × (k ≡ strand_piece m)
of_strands k ks h = of_map strand_piece k ks h

strand_fit : (k : Piece) → IsFitPiece k → IsFitPiece (strand_piece k)
strand_fit k f = record {
  lower = f.lower;
  upper = f.upper;
  ahead = f.ahead;
  from = f.from;
  to = f.to;
  forward = f.forward;
  from_on = strand_along k k.from ∙ f.from_on;
  to_on = strand_along k k.to ∙ f.to_on;
  from_within = f.from_within;
  to_within = f.to_within;
  first_side = f.first_side;
  last_side = f.last_side;
}

module _ (p : Present) (fit : IsFit p) where
  apart : (k m : Piece) → Member k p.pieces → Member m p.pieces → strand k.curve k.side ≡ strand m.curve m.side → AreOfOneSide k m
  apart k m h i e =
      let a = (fit.piece k h).last_side in
      let b = (fit.piece m i).last_side in
      (strand_curve k.curve m.curve k.side m.side a b e, strand_side k.curve m.curve k.side m.side a b e)

  origin : (k m : Piece) (u : (j : Piece) × Member j p.pieces × (k ≡ strand_piece j)) (w : (j : Piece) × Member j p.pieces × (m ≡ strand_piece j)) → k.curve ≡ m.curve → AreOfOneSide u.0 w.0
  origin k m u w e = apart u.0 w.0 u.1 w.1 (sym (ap (λ (z : Piece). z.curve) u.2) ∙ e ∙ ap (λ (z : Piece). z.curve) w.2)

  pub strands_fit : IsFit (strands p)
  strands_fit = record {
    piece = λ k h. let u = of_strands k p.pieces h in subst IsFitPiece (sym u.2) (strand_fit u.0 (fit.piece u.0 u.1));
    pin = fit.pin;
    pins_ascend = fit.pins_ascend;
    one_segment = λ k m h i e.
        let u = of_strands k p.pieces h in
        let w = of_strands m p.pieces i in
        ap (λ (z : Piece). z.segment) u.2 ∙ fit.one_segment u.0 w.0 u.1 w.1 (origin k m u w e.0) ∙ sym (ap (λ (z : Piece). z.segment) w.2);
    one_piece = λ k m h i e t pt x y.
        let u = of_strands k p.pieces h in
        let w = of_strands m p.pieces i in
        u.2 ∙ ap strand_piece (fit.one_piece u.0 w.0 u.1 w.1 (origin k m u w e.0) t pt (sym (strand_on u.0 t) ∙ ap (λ z. on z t) (sym u.2) ∙ x) (sym (strand_on w.0 t) ∙ ap (λ z. on z t) (sym w.2) ∙ y)) ∙ sym w.2;
  }

  pub strands_one_side : HasOneSide (strand_pieces p.pieces)
  strands_one_side k m h i e =
      let u = of_strands k p.pieces h in
      let w = of_strands m p.pieces i in
      ap (λ (z : Piece). z.side) u.2 ∙ (origin k m u w e).1 ∙ sym (ap (λ (z : Piece). z.side) w.2)

pub strands_are_apart : StrandsAreApart
strands_are_apart = record { fit = strands_fit; one_side = strands_one_side; vertices = strand_vertices }

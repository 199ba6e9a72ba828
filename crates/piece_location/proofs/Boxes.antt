-- The box of a piece that a point sees, or that goes through it, meets the ray down from the point.
use Rattle.std.proofs.Common.{◌≡◌, ℤ, pos, ◌<ℤ◌, true, false, not, ◌||◌, arith}
use Rattle.std.specs.Prelude.{ℕ, negsuc, ◌≤ℤ◌, int_lt}
use Rattle.std.specs.Int.{int_max, int_min}
use Rattle.std.proofs.lemmas.Int.{ints, by_lt_z, int_max_is, int_min_is}
use Rattle.integers.proofs.Decisions.{ge_in, lt_out}
use Rattle.integers.proofs.Tests.{not_true}
use Rattle.exact_plane.specs.Boxes.{ray_below}
use Rattle.exact_plane.specs.Line.{side_of}
use Rattle.exact_plane.specs.Point.{Point}
use Rattle.exact_plane.specs.WholeParts.{whole_parts}
use Rattle.exact_plane.proofs.WholeOrders.{before_by_whole}
use Rattle.plane_graphs.specs.Fit.{IsFitPiece}
use Rattle.plane_graphs.specs.Line.{IsProper}
use Rattle.plane_graphs.specs.Piece.{Piece}
use Rattle.plane_graphs.proofs.Lines.{along_out, segment_runs}
use Rattle.plane_graphs.proofs.Order.{Lt, lt_both, lt_out as lt_point}
use Rattle.plane_graphs.proofs.Vertices.{proper_piece}
use Rattle.slab_laws.specs.declared.present.Piece.{Piece as PieceInMemory}
use Rattle.slab_laws.specs.Pieces.{piece_of}
use Rattle.slab_laws.specs.Skeleton.{precedes, side}
use Rattle.slab_faces.proofs.InnerPoints.{before_in, before_out}
use Rattle.slab_faces.proofs.OverUnder.{under_out}
use Rattle.box_tree.specs.Entries.{is_met}
use Rattle.curve_pieces.specs.PieceRows.{entry_of}
use Rattle.locate_walk.proofs.Heights.{lower_by_whole, spanned_over}
use Rattle.piece_location.specs.Heights.{ends_of, line_of, IsOnLine, IsSpanned}
use Rattle.piece_location.proofs.OnLines.{over_edge, zero_on_edge}

not_less_max : (x y z : ℤ) → (y <ℤ z → ⊥) → int_lt (int_max x y) z ≡ false
not_less_max x y z f = not_true (int_lt (int_max x y) z) (λ h. let k = lt_out (int_max x y) z h in f (omega (arith, ints, int_max_is x y)))

not_less_min : (x y z : ℤ) → (z <ℤ x → ⊥) → int_lt z (int_min x y) ≡ false
not_less_min x y z f = not_true (int_lt z (int_min x y)) (λ h. let k = lt_out z (int_min x y) h in f (omega (arith, ints, int_min_is x y)))

not_less_min_both : (x y z : ℤ) → (z <ℤ x → z <ℤ y → ⊥) → int_lt z (int_min x y) ≡ false
not_less_min_both x y z f = not_true (int_lt z (int_min x y)) (λ h. let k = lt_out z (int_min x y) h in f (omega (arith, ints, int_min_is x y)) (omega (arith, ints, int_min_is x y)))

module _ (q : Point) (Q : IsProper q) (k : Piece) (f : IsFitPiece k) (s : IsSpanned q k) where
  on : IsOnLine (line_of k) (ends_of k)
  on = record { low_on = along_out k k.from f.from_on; high_on = along_out k k.to f.to_on }

  forward : precedes k.from k.to ≡ true
  forward = before_in k.from k.to f.from f.to (lt_point k.from k.to f.forward)

  not_over_ends : pos 0 ≤ℤ side_of (line_of k) q → side (ends_of k) q <ℤ pos 0 → ⊥
  not_over_ends w n =
      let r = segment_runs k (proper_piece k f) in
      by_lt_z (pos 0) (side_of (line_of k) q)
      (λ h. let u = under_out (ends_of k) q (over_edge (line_of k) (ends_of k) on q r f.from.positive f.to.positive Q.positive s forward h) in absurd (omega (arith, ints)))
      (λ h. let z : side_of (line_of k) q ≡ pos 0 = omega (arith, ints) in let y = zero_on_edge (line_of k) (ends_of k) on q r z in absurd (omega (arith, ints)))

  from_q : Lt k.from q
  from_q = before_out k.from q f.from Q s.from

  q_to : Lt q k.to
  q_to = before_out q k.to Q f.to s.to

  left : int_lt (whole_parts q).x (int_min (whole_parts k.from).x (whole_parts k.to).x) ≡ false
  left = not_less_min (whole_parts k.from).x (whole_parts k.to).x (whole_parts q).x (λ l. lt_both from_q (record { is = before_by_whole q k.from Q.positive f.from.positive l }))

  right : int_lt (int_max (whole_parts k.from).x (whole_parts k.to).x) (whole_parts q).x ≡ false
  right = not_less_max (whole_parts k.from).x (whole_parts k.to).x (whole_parts q).x (λ l. lt_both q_to (record { is = before_by_whole k.to q f.to.positive Q.positive l }))

  above : pos 0 ≤ℤ side_of (line_of k) q → int_lt (whole_parts q).y (int_min (whole_parts k.from).y (whole_parts k.to).y) ≡ false
  above w = not_less_min_both (whole_parts k.from).y (whole_parts k.to).y (whole_parts q).y (λ a b. not_over_ends w (spanned_over (ends_of k) q Q.positive s (lower_by_whole q k.from Q.positive f.from.positive a) (lower_by_whole q k.to Q.positive f.to.positive b)))

pub met_row : (q : Point) → IsProper q → (r : ℕ × PieceInMemory) → IsFitPiece (piece_of r.1) → IsSpanned q (piece_of r.1) → pos 0 ≤ℤ side_of (line_of (piece_of r.1)) q → negsuc 2147483647 ≤ℤ (entry_of r).bounds.greatest.y → is_met (ray_below (whole_parts q)) (entry_of r) ≡ true
met_row q Q r f s w low =
    let k = piece_of r.1 in
    let a = right q Q k f s in
    let b = left q Q k f s in
    let c = ge_in (entry_of r).bounds.greatest.y (negsuc 2147483647) low in
    let d = above q Q k f s w in
    λ i. not ((a i || b i) || (c i || d i))

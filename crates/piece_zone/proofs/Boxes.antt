-- The box of a piece that has a point of a segment meets the segment's box.
use Rattle.std.proofs.Common.{◌≡◌, ℤ, true, not, arith, ap, inl, inr}
use Rattle.std.specs.Prelude.{ℕ}
use Rattle.std.specs.Int.{int_max, int_min}
use Rattle.std.proofs.lemmas.Bool.{or_left, or_right}
use Rattle.std.proofs.lemmas.Int.{ints, int_max_is, int_min_is}
use Rattle.integers.proofs.Decisions.{or_out}
use Rattle.integers.proofs.Tests.{not_true}
use Rattle.exact_plane.specs.Boxes.{are_apart, are_ranges_apart, box_between}
use Rattle.exact_plane.specs.Point.{Point}
use Rattle.exact_plane.specs.Segment.{Segment, line_of_segment}
use Rattle.exact_plane.specs.Span.{LiesOn, span_of_segment}
use Rattle.exact_plane.specs.WholeParts.{are_beyond, bounding_box, excludes, whole_parts}
use Rattle.exact_plane.specs.declared.whole_parts.BoundingBox.{BoundingBox}
use Rattle.exact_plane.proofs.WholeOrders.{IsAlong, boxed}
use Rattle.plane_graphs.specs.Fit.{IsFitPiece}
use Rattle.plane_graphs.specs.Line.{IsProper}
use Rattle.plane_graphs.proofs.Lines.{along_out, segment_runs}
use Rattle.plane_graphs.proofs.Vertices.{proper_piece}
use Rattle.slab_laws.specs.declared.present.Piece.{Piece as PieceInMemory}
use Rattle.slab_laws.specs.Pieces.{piece_of}
use Rattle.box_tree.specs.Entries.{is_met}
use Rattle.counted_looks.proofs.Covered.{beyond_in}
use Rattle.curve_pieces.specs.PieceRows.{entry_of}
use Rattle.zone_walk.proofs.Courses.{IsCourse}
use Rattle.piece_zone.specs.Told.{span_of}

-- ---- a box apart from another one has no two points, of which it is the box, that might be on both sides of that one
beyond_ends : (s t least greatest : ℤ) → are_ranges_apart (int_min s t) (int_max s t) least greatest ≡ true → are_beyond s t least greatest ≡ true
beyond_ends s t least greatest =
    beyond_in (int_min s t) (int_max s t) s t least greatest
    (omega (arith, ints, int_min_is s t)) (omega (arith, ints, int_max_is s t)) (omega (arith, ints, int_min_is s t)) (omega (arith, ints, int_max_is s t))

apart_box : (a : BoundingBox) (p q : Point) → are_apart a (box_between p q) ≡ true → excludes a (whole_parts p) (whole_parts q) ≡ true
apart_box a p q e = elim (or_out _ _ e) [
  | inl x ↦ or_left _ _ (beyond_ends (whole_parts p).x (whole_parts q).x a.least.x a.greatest.x x)
  | inr y ↦ or_right _ _ (beyond_ends (whole_parts p).y (whole_parts q).y a.least.y a.greatest.y y)
]

-- ---- a point of both
pub met_row : (g : Segment) → IsCourse g → (r : ℕ × PieceInMemory) → IsFitPiece (piece_of r.1) → (q : Point) → IsProper q → LiesOn (span_of_segment g) q → LiesOn (span_of r.1) q → is_met (bounding_box (span_of_segment g)) (entry_of r) ≡ true
met_row g c r f q Q on_segment on_piece =
    ap not (not_true (are_apart (bounding_box (span_of_segment g)) (entry_of r).bounds) (λ e. boxed (span_of_segment g) (line_of_segment r.1.segment) r.1.from r.1.to q course part (apart_box (bounding_box (span_of_segment g)) r.1.from r.1.to e)))
  where
    course : IsAlong (line_of_segment g) g.lower g.upper q
    course = record { runs = c.line.runs; low_is = c.lower.positive; high_is = c.upper.positive; is = Q.positive; low_on = c.lower_on; high_on = c.upper_on; on = on_segment.on; from = on_segment.from; upto = on_segment.upto }

    part : IsAlong (line_of_segment r.1.segment) r.1.from r.1.to q
    part = record {
      runs = segment_runs (piece_of r.1) (proper_piece (piece_of r.1) f);
      low_is = f.from.positive;
      high_is = f.to.positive;
      is = Q.positive;
      low_on = along_out (piece_of r.1) r.1.from f.from_on;
      high_on = along_out (piece_of r.1) r.1.to f.to_on;
      on = on_piece.on;
      from = on_piece.from;
      upto = on_piece.upto;
    }

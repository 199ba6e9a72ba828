use Rattle.std.proofs.Common.{rules, pos, arith, sym, ◌∙◌}
use Rattle.std.specs.Prelude.{ℤ}
use Rattle.std.proofs.lemmas.Int.{ints}
use Rattle.integers.proofs.Tests.{lt_is}
use Rattle.exact_plane.specs.Line.{side_of}
use Rattle.edge_predicates.proofs.Sides.{at_zero, below_zero}
use Rattle.slab_laws.specs.Pieces.{piece_of}
use Rattle.piece_location.specs.Heights.{line_of}
use Rattle.piece_location.proofs.lies.lie_of.Goals as goal

pub returns-in-Minus : goal.returns-in-Minus
returns-in-Minus c =
    let z : ℤ = side_of (line_of (piece_of c.args.piece.now)) c.args.point.now in
    let n = lt_is z (pos 0) (below_zero z (sym c.orientation.ensures ∙ c.in-Minus.is)) in
    record {
      unseen = λ s. let o = s.over_line in absurd (omega (arith, ints));
      off = λ s. let o = s.on_line in absurd (omega (arith, ints));
    }

pub returns-in-Zero : goal.returns-in-Zero
returns-in-Zero c = record {
  spanning = record { from = search rules; to = search rules };
  on_line = at_zero (side_of (line_of (piece_of c.args.piece.now)) c.args.point.now) (sym c.orientation.ensures ∙ c.in-Zero.is);
}

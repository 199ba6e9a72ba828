use Rattle.std.proofs.Common.{◌≡◌, ℤ, pos, to_z, of_z, arith, sym, ap, ◌∙◌}
use Rattle.std.specs.Int.{w64}
use Rattle.std.proofs.lemmas.Int.{ints, to_z-of_z, fits_signed_from_abs}
use Rattle.exact_plane.specs.Segment.{segment, line_of_segment}
use Rattle.locate_landmarks.specs.Grid.{grid_number}
use Rattle.locate_landmarks.proofs.Corners.{level_made}
use Rattle.locate_landmarks.proofs.grid.level_of_row.Goals as goal

pub returns : goal.returns
returns c =
    let n = c.grid_number-y.result in
    let y : to_z w64 (of_z w64 n) ≡ grid_number c.args.row = to_z-of_z w64 n (fits_signed_from_abs w64 n (omega (arith, ints, c.grid_number-y.ensures, c.requires))) ∙ c.grid_number-y.ensures in
    let m = level_made (to_z w64 (of_z w64 n)) c.unwrap.result (sym c.new.ensures.value ∙ c.unwrap.ensures) in
    c.line_of.ensures.value ∙ ap line_of_segment (m ∙ ap (λ (z : ℤ). segment (pos 0) z (pos 1) z) y)

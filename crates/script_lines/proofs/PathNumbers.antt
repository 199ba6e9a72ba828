-- The points that the numbers of a path make.
use Rattle.std.proofs.Common.{◌≡◌, ◌≤◌, ◌+◌, ◌*◌, true, ◌-◌, ℤ, pos, to_z, of_z, List, [], ◌∷◌, ◌++◌, length, ap, ◌∙◌, arith}
use Rattle.std.specs.Prelude.{◌&&◌, drop, get_or, take, unsigned_abs}
use Rattle.std.specs.List.{list_all}
use Rattle.std.specs.Int.{w64, w128}
use Rattle.std.proofs.lemmas.Int.{ints}
use Rattle.std.proofs.Math.Facts.{to_z-of_z}
use Rattle.std.proofs.lemmas.Bool.{and_parts, leb-true}
use Rattle.std.proofs.lemmas.List.{append_assoc, length-append, take_all}
use Rattle.exact_plane.specs.declared.bounds.TheConstants.{MAX_COORDINATE}
use Rattle.exact_plane.specs.Segment.{is_coordinate, IsCoordinate}
use Rattle.script_lines.specs.Command.{pairs}

-- the points of the numbers in front are made, and the others are left
pub record Paired (numbers left : List ℤ) (points : List (ℤ × ℤ)) : Type 0 where
  pub made : points ++ pairs left ≡ pairs numbers
  pub range : list_all is_coordinate left ≡ true
  pub few : 2 * length points + length left ≤ 18

-- a coordinate is the same in fewer bits
abbrev narrowed : ℤ → ℤ
narrowed z = to_z w64 (of_z w64 (to_z w128 (of_z w128 z)))

same-narrowed : (z : ℤ) → is_coordinate z ≡ true → narrowed z ≡ z
same-narrowed z e =
    let within : IsCoordinate z = leb-true (unsigned_abs z) MAX_COORDINATE e in
    ap (λ (y : ℤ). to_z w64 (of_z w64 y)) (to_z-of_z {w = w128} {z = z} (grind (arith, ints, within))) ∙ to_z-of_z {w = w64} {z = z} (grind (arith, ints, within))

-- the next point is made
pub Paired-more : (numbers left : List ℤ) (points : List (ℤ × ℤ)) → 2 ≤ length left → Paired numbers left points
    → Paired numbers (take (length left - 2) (drop 2 left)) (points ++ (narrowed (get_or left 0 (pos 0)), narrowed (get_or left 1 (pos 0))) ∷ [])
Paired-more numbers [] points h p = absurd (omega (arith, h))
Paired-more numbers (x ∷ []) points h p = absurd (omega (arith, h))
Paired-more numbers (x ∷ y ∷ left) points h p =
    let all : take (length (x ∷ y ∷ left) - 2) left ≡ left = take_all (length (x ∷ y ∷ left) - 2) left (omega arith) in
    let here = and_parts (is_coordinate x) (is_coordinate y && list_all is_coordinate left) p.range in
    let range = and_parts (is_coordinate y) (list_all is_coordinate left) here.1 in
    let longer = length-append points ((x, y) ∷ []) in
    let few = p.few in
    rw (all, same-narrowed x here.0, same-narrowed y range.0) (record { made = append_assoc points ((x, y) ∷ []) (pairs left) ∙ p.made; range = range.1; few = omega (arith, longer, few) })

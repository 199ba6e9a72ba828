-- The points that the numbers of a batch make.
use Rattle.std.proofs.Common.{◌≡◌, ◌≤◌, ◌+◌, ◌*◌, ℤ, List, [], ◌∷◌, ◌++◌, length, Option, Some, None, refl, sym, ap, ◌∙◌, arith}
use Rattle.std.specs.Prelude.{drop, take, option_map}
use Rattle.std.specs.Option.{option_zip}
use Rattle.std.proofs.lemmas.List.{append_assoc, length-append}
use Rattle.exact_plane.specs.Point.{Point}
use Rattle.script_lines.specs.Command.{point_from, batch_from}

-- with these points in front
abbrev pub behind : List Point → Option (List Point) → Option (List Point)
behind points more = option_map (λ later. points ++ later) more

-- the points of the numbers in front are made, and the others are left
pub record Batched (numbers left : List ℤ) (points : List Point) : Type 0 where
  pub made : batch_from numbers ≡ behind points (batch_from left)
  pub few : 3 * length points + length left ≤ 24

-- a point, and those behind it
abbrev next : Option Point → Option (List Point) → Option (List Point)
next p later = option_map (λ both. both.0 ∷ both.1) (option_zip p later)

behind-more : (points : List Point) (p : Point) (later : Option (List Point)) → behind points (next (Some p) later) ≡ behind (points ++ p ∷ []) later
behind-more points p None = refl
behind-more points p (Some later) = ap Some (sym (append_assoc points (p ∷ []) later))

pub Batched-more : (numbers left : List ℤ) (points : List Point) (p : Point) → 3 ≤ length left → Batched numbers left points → Some p ≡ point_from (take 3 left)
    → Batched numbers (drop 3 left) (points ++ p ∷ [])
Batched-more numbers [] points p h b e = absurd (omega (arith, h))
Batched-more numbers (x ∷ []) points p h b e = absurd (omega (arith, h))
Batched-more numbers (x ∷ y ∷ []) points p h b e = absurd (omega (arith, h))
Batched-more numbers (x ∷ y ∷ w ∷ left) points p h b e =
    let longer = length-append points (p ∷ []) in
    let few = b.few in
    record { made = b.made ∙ ap (λ o. behind points (next o (batch_from left))) (sym e) ∙ behind-more points p (batch_from left); few = omega (arith, longer, few) }

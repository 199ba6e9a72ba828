-- How a path keeps its sides.
use Rattle.std.specs.Prelude.{◌≡◌, ◌≤◌, ◌-◌, ℕ, List, [], ◌∷◌, ◌++◌, length, take, replicate}
use Rattle.std.proofs.Common.{sym, arith}
use Rattle.std.proofs.lemmas.List.{length-take-le}
use Rattle.exact_plane.specs.declared.bounds.TheConstants.{MAX_SIDES}
use Rattle.exact_plane.specs.declared.path.Path.TheInside.{Inside}
use Rattle.exact_plane.specs.Segment.{Segment}

-- the sides in an array, whose rest repeats the first
abbrev pub padded : List Segment → List Segment
padded [] = []
padded (side ∷ sides) = (side ∷ sides) ++ replicate (MAX_SIDES - length (side ∷ sides)) side

-- the sides of a path are the first so many of an array
pub record IsPadded (sides : List Segment) (count : ℕ) : Type 0 where
  pub some : 1 ≤ count
  pub few : count ≤ MAX_SIDES
  pub room : length sides ≡ MAX_SIDES
  pub rest : sides ≡ padded (take count sides)

-- the sides tell how they are kept
pub padded_back : (a : Inside) → IsPadded a.sides a.count → record { sides = padded (take a.count a.sides); count = length (take a.count a.sides) } ≡ a
padded_back a h =
    let rest = sym h.rest in
    let count = length-take-le a.count a.sides (omega (arith, h.few, h.room)) in
    λ i. record { sides = rest i; count = count i }

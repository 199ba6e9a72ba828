-- The walk along the points for one side, and the walk over the sides.
use Rattle.std.proofs.Common.{◌≡◌, ℕ, suc, ◌+◌, ◌≤◌, ◌<◌, Bool, true, false, cond, List, [], ◌∷◌, ◌++◌, length, drop, get_or, Option, Some, None, refl, sym, ap, subst, ◌∙◌, arith, append_assoc}
use Rattle.std.proofs.lemmas.List.{append-nil, drop_all, drop_more}
use Rattle.exact_plane.specs.Point.{Point}
use Rattle.exact_plane.specs.Segment.{Segment}
use Rattle.side_parts.specs.declared.part.Part.{Part}
use Rattle.side_parts.specs.SideParts.{holds, part, part_after, parts_from, parts_of_sides}

-- what is found, and what is still to be found, are all
abbrev pub IsAdding : List Part → List Point → (Point → Bool) → ℕ → List Part → Option ℕ → ℕ → Type 0
IsAdding old points test j parts last at = parts ++ parts_from test j last at (drop at points) ≡ old ++ parts_from test j None 0 points

module _ (old : List Part) (points : List Point) (test : Point → Bool) (j : ℕ) where
  pub adding_as : (parts now : List Part) (last then : Option ℕ) (at : ℕ) → now ≡ parts → then ≡ last → IsAdding old points test j parts last at → IsAdding old points test j now then at
  adding_as parts now last then at p q s = subst (λ o. IsAdding old points test j now o at) (sym q) (subst (λ ts. IsAdding old points test j ts last at) (sym p) s)

  pub added_first : IsAdding old points test j old None 0
  added_first = refl

  module _ (parts : List Part) (last : Option ℕ) (at : ℕ) (s : IsAdding old points test j parts last at) where
    pub added_all : length points ≤ at → parts ≡ old ++ parts_from test j None 0 points
    unfolding parts_from
    added_all l = sym (append-nil parts) ∙ ap (λ ps. parts ++ parts_from test j last at ps) (sym (drop_all at points l)) ∙ s

    module _ (p : Point) (l : at < length points) (is : p ≡ get_or points at p) (b : Bool) (t : b ≡ test p) where
      rest : drop at points ≡ p ∷ drop (at + 1) points
      rest = drop_more points at p l ∙ ap (λ q. q ∷ drop (at + 1) points) (sym is)

      next : suc at ≡ at + 1
      next = omega arith

      step : parts ++ cond (test p) (part_after j last at ++ parts_from test j (Some at) (at + 1) (drop (at + 1) points)) (parts_from test j last (at + 1) (drop (at + 1) points)) ≡ old ++ parts_from test j None 0 points
      unfolding parts_from
      step = ap (λ n. parts ++ cond (test p) (part_after j last at ++ parts_from test j (Some at) n (drop (at + 1) points)) (parts_from test j last n (drop (at + 1) points))) (sym next) ∙ ap (λ ps. parts ++ parts_from test j last at ps) (sym rest) ∙ s

      pub added_none : b ≡ false → IsAdding old points test j parts last (at + 1)
      added_none e = ap (λ z. parts ++ cond z (part_after j last at ++ parts_from test j (Some at) (at + 1) (drop (at + 1) points)) (parts_from test j last (at + 1) (drop (at + 1) points))) (sym e ∙ t) ∙ step

      added_after : b ≡ true → (parts ++ part_after j last at) ++ parts_from test j (Some at) (at + 1) (drop (at + 1) points) ≡ old ++ parts_from test j None 0 points
      added_after e = append_assoc parts (part_after j last at) (parts_from test j (Some at) (at + 1) (drop (at + 1) points)) ∙ ap (λ z. parts ++ cond z (part_after j last at ++ parts_from test j (Some at) (at + 1) (drop (at + 1) points)) (parts_from test j last (at + 1) (drop (at + 1) points))) (sym e ∙ t) ∙ step

      pub added_begin : b ≡ true → last ≡ None → IsAdding old points test j parts (Some at) (at + 1)
      added_begin e n = ap (λ qs. qs ++ parts_from test j (Some at) (at + 1) (drop (at + 1) points)) (sym (append-nil parts) ∙ ap (λ o. parts ++ part_after j o at) (sym n)) ∙ added_after e

      pub added_one : (low : ℕ) (now : List Part) → b ≡ true → last ≡ Some low → now ≡ parts ++ part low at j ∷ [] → IsAdding old points test j now (Some at) (at + 1)
      added_one low now e n q = ap (λ qs. qs ++ parts_from test j (Some at) (at + 1) (drop (at + 1) points)) (q ∙ ap (λ o. parts ++ part_after j o at) (sym n)) ∙ added_after e

-- ---- all sides
abbrev pub IsGathering : List Point → List Segment → List Part → ℕ → Type 0
IsGathering points sides parts at = parts ++ parts_of_sides points at (drop at sides) ≡ parts_of_sides points 0 sides

module _ (points : List Point) (sides : List Segment) where
  pub gathered_first : (parts : List Part) → parts ≡ [] → IsGathering points sides parts 0
  gathered_first parts e = ap (λ ts. ts ++ parts_of_sides points 0 sides) e

  module _ (parts : List Part) (at : ℕ) (s : IsGathering points sides parts at) where
    pub gathered_all : length sides ≤ at → parts ≡ parts_of_sides points 0 sides
    unfolding parts_of_sides
    gathered_all l = sym (append-nil parts) ∙ ap (λ ss. parts ++ parts_of_sides points at ss) (sym (drop_all at sides l)) ∙ s

    pub gathered_on : (side : Segment) → at < length sides → side ≡ get_or sides at side → (now : List Part) → now ≡ parts ++ parts_from (holds side) at None 0 points → IsGathering points sides now (at + 1)
    unfolding parts_of_sides
    gathered_on side l is now q =
        let next : suc at ≡ at + 1 = omega arith in
        let rest : drop at sides ≡ side ∷ drop (at + 1) sides = drop_more sides at side l ∙ ap (λ z. z ∷ drop (at + 1) sides) (sym is) in
        ap (λ ts. ts ++ parts_of_sides points (at + 1) (drop (at + 1) sides)) q
        ∙ append_assoc parts (parts_from (holds side) at None 0 points) (parts_of_sides points (at + 1) (drop (at + 1) sides))
        ∙ ap (λ n. parts ++ (parts_from (holds side) at None 0 points ++ parts_of_sides points n (drop (at + 1) sides))) (sym next)
        ∙ ap (λ ss. parts ++ parts_of_sides points at ss) (sym rest)
        ∙ s

-- The list of all ends, made end by end.
use Rattle.std.proofs.Common.{◌≡◌, ℕ, ◌+◌, ◌<◌, true, false, List, [], ◌∷◌, ◌++◌, map, length, get_or, take, refl, ap, ◌∙◌, append_assoc}
use Rattle.std.specs.List.{range_with_len}
use Rattle.exact_plane.specs.Point.{Point}
use Rattle.plane_graphs.proofs.Sorting.{any_default}
use Rattle.dart_orbits.proofs.Ranges.{pushed_at}
use Rattle.region_rings.specs.declared.spokes.Spoke.{Spoke}
use Rattle.polygon_sets.specs.ClosedBorders.{no_dart, dart_at}
use Rattle.region_rings.specs.Spokes.{spoke, out_spoke, in_spoke}

module _ (ds : List (Point × Point)) (i : ℕ) (l : i < length ds) (d : Point × Point) (e : d ≡ get_or ds i d) where
  read : d ≡ dart_at ds i
  read = e ∙ any_default ds i d no_dart l

  pub one_out : (y : Spoke) (us vs : List Spoke) → y ≡ spoke d.0 d.1 true i → us ≡ take i (map (out_spoke ds) (range_with_len 0 (length ds))) → vs ≡ us ++ (y ∷ []) → vs ≡ take (i + 1) (map (out_spoke ds) (range_with_len 0 (length ds)))
  one_out y us vs f a b = pushed_at (out_spoke ds) (length ds) i y us vs l (f ∙ ap (λ (x : Point × Point). spoke x.0 x.1 true i) read) a b

  pub one_in : (y : Spoke) (bs us vs : List Spoke) → y ≡ spoke d.1 d.0 false i → us ≡ bs ++ take i (map (in_spoke ds) (range_with_len 0 (length ds))) → vs ≡ us ++ (y ∷ []) → vs ≡ bs ++ take (i + 1) (map (in_spoke ds) (range_with_len 0 (length ds)))
  one_in y bs us vs f a b =
      b ∙ (λ j. a j ++ (y ∷ [])) ∙ append_assoc bs (take i (map (in_spoke ds) (range_with_len 0 (length ds)))) (y ∷ [])
      ∙ ap (λ zs. bs ++ zs) (pushed_at (in_spoke ds) (length ds) i y (take i (map (in_spoke ds) (range_with_len 0 (length ds)))) (take i (map (in_spoke ds) (range_with_len 0 (length ds))) ++ (y ∷ [])) l (f ∙ ap (λ (x : Point × Point). spoke x.1 x.0 false i) read) refl refl)

-- What a world tells of the sets of its layers.
use Rattle.std.proofs.Common.{◌≡◌, true, false, List, map, Result, Ok, Err, sym, ap, ap₂, ◌∙◌}
use Rattle.std.specs.Prelude.{◌&&◌, Some, is_none, if◌then◌else◌, IfErr, IfOk, OnOk}
use Rattle.exact_plane.specs.Point.{Point}
use Rattle.plane_graphs.specs.Piece.{Present}
use Rattle.set_laws.specs.declared.op.Op.{Op}
use Rattle.set_laws.specs.PolygonSets.{IsClosedLayer, odd_end, region}
use Rattle.set_laws.proofs.OddEnds.{odd_end_is}
use Rattle.polygon_sets.specs.declared.region.Colour.TheVariants.{Red, Blue}
use Rattle.polygon_sets.specs.declared.region.RegionError.{RegionError}
use Rattle.polygon_sets.specs.declared.region.RegionError.TheVariants.{Open, NoMemory}
use Rattle.polygon_sets.specs.Regions.{dart_ends, IsRegionOfLayers, IsErrorOfLayers}
use Rattle.planar_run.specs.World.{blue_of, current, red_of, World}
use Rattle.planar_run.specs.Premises.{are_closed}
use Rattle.planar_run.specs.Refusals.{BarsRegion}

-- the region of both layers, or why there is none
abbrev IsTold : Op → World → Result (List (Point × Point)) RegionError → Type 0
IsTold op w r = IfOk r (λ ds. ds ≡ map dart_ends (region op (red_of w).layer.present (blue_of w).layer.present)) × OnOk r (are_closed w ≡ true) × IfErr r (λ e. BarsRegion e w)

-- ---- a red layer and a blue one are those of the world
module _ (op : Op) (w : World) (red blue : Present) (is_red : red ≡ (red_of w).layer.present) (is_blue : blue ≡ (blue_of w).layer.present) where
  closed_by : are_closed w ≡ (is_none (odd_end red) && is_none (odd_end blue))
  closed_by = sym (ap₂ (λ r b. is_none (odd_end r) && is_none (odd_end b)) is_red is_blue)

  both_closed : IsClosedLayer red → IsClosedLayer blue → are_closed w ≡ true
  both_closed r b = closed_by ∙ (λ i. is_none ((odd_end_is.none red).1 r i) && is_none ((odd_end_is.none blue).1 b i))

  red_open : (p : Point) → odd_end red ≡ Some p → are_closed w ≡ false
  red_open p e = closed_by ∙ (λ i. is_none (e i) && is_none (odd_end blue))

  blue_open : (p : Point) → IsClosedLayer red → odd_end blue ≡ Some p → are_closed w ≡ false
  blue_open p r e = closed_by ∙ (λ i. is_none ((odd_end_is.none red).1 r i) && is_none (e i))

  told : (r : Result (List (Point × Point)) RegionError) → IfOk r (λ ds. IsRegionOfLayers op red blue ds) → IfErr r (λ e. IsErrorOfLayers red blue e) → IsTold op w r
  told (Ok ds) is none = (is.darts ∙ ap₂ (λ r b. map dart_ends (region op r b)) is_red is_blue, both_closed is.red_closed is.blue_closed, tt)
  told (Err (Open Red p)) none is = (tt, tt, red_open p is)
  told (Err (Open Blue p)) none is = (tt, tt, blue_open p is.0 is.1)
  told (Err NoMemory) none is = (tt, tt, both_closed is.0 is.1)

-- ---- by which of its layers lines mean
module _ (op : Op) (w : World) (r : Result (List (Point × Point)) RegionError) where
  pub told_when_blue : w.is_blue ≡ true → IfOk r (λ ds. IsRegionOfLayers op w.other.layer.present w.layer.present ds) → IfErr r (λ e. IsErrorOfLayers w.other.layer.present w.layer.present e) → IsTold op w r
  told_when_blue e is none =
      told op w w.other.layer.present w.layer.present (sym (ap (λ b. (if b then w.other else current w).layer.present) e)) (sym (ap (λ b. (if b then current w else w.other).layer.present) e)) r is none

  pub told_when_red : w.is_blue ≡ false → IfOk r (λ ds. IsRegionOfLayers op w.layer.present w.other.layer.present ds) → IfErr r (λ e. IsErrorOfLayers w.layer.present w.other.layer.present e) → IsTold op w r
  told_when_red e is none =
      told op w w.layer.present w.other.layer.present (sym (ap (λ b. (if b then w.other else current w).layer.present) e)) (sym (ap (λ b. (if b then current w else w.other).layer.present) e)) r is none

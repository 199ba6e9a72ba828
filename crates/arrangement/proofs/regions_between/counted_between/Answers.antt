use Rattle.std.proofs.Common.{subst}
use Rattle.plane_graphs.specs.Fit.{IsFit}
use Rattle.slab_laws.specs.Pieces.{present_of}
use Rattle.polygon_sets.proofs.RegionLayers.{counts_told}
use Rattle.arrangement.proofs.regions_between.counted_between.Goals as goal

pub counted_rows-counted-requires : goal.counted_rows-counted-requires
counted_rows-counted-requires g c = record { red = c.in_ok-of_red.ensures.fit; blue = c.in_ok-of_blue.ensures.fit }

pub returns : goal.returns
returns g c =
    let e = c.in_ok-counted.ensures in
    let red = c.in_ok-of_red.ensures in
    let blue = c.in_ok-of_blue.ensures in record {
      red = subst IsFit red.present red.fit;
      blue = subst IsFit blue.present blue.fit;
      pieces = counts_told c.in_ok-counted.counted.rows c.in_ok-counted.counted.red.items c.in_ok-counted.counted.blue.items (present_of c.in_ok-of_red.of_red) (present_of c.in_ok-of_blue.of_blue) _ _ e.subdivision e.red e.blue red.present blue.present;
    }

use Rattle.std.proofs.Common.{true, sym, ◌∙◌}
use lib.Dec.{leb}
use Rattle.dart_orbits.specs.Ways.{row_in}
use Rattle.overlay_sweep.proofs.Cuts.{stands}
use Rattle.overlay_sweep.proofs.layers.stands_upto.Goals as goal

pub returns-in-Some : goal.returns-in-Some
returns-in-Some c = λ h. stands (λ k. leb (row_in c.args.darts.now k).source c.args.vertex) true c.args.around.now c.args.index c.in-Some.place.now c.in-Some.ensures.lookup.0 c.in-Some.ensures.lookup.1 (sym c.is_upto.ensures ∙ h)

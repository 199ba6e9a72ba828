use Rattle.std.proofs.Common.{◌∙◌}
use Rattle.plane_graphs.proofs.Lines.{point_is_proper}
use Rattle.arrangement.proofs.Located.{spot_located}
use Rattle.arrangement.proofs.arrangement.Arrangement.cell_of.Goals as goal

pub returns-clause-located : goal.returns-clause-located
returns-clause-located g c = λ p P at. c.cell_of.ensures.cell ∙ spot_located _ _ c.laws.ensures.layer _ c.laws.ensures.faced p c.args.spot (point_is_proper p P) at

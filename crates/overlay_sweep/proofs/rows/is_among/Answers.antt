use Rattle.std.proofs.Common.{◌∙◌}
use Rattle.overlay_sweep.proofs.GraphRows.{among_told}
use Rattle.overlay_sweep.proofs.rows.is_among.Goals as goal

pub returns : goal.returns
returns c = c.is_ok.ensures.value ∙ among_told c.args.points.now c.args.point.now c.binary_search.result c.requires c.binary_search.ensures.bound c.binary_search.ensures.position

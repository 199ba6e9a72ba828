use Rattle.std.proofs.Common.{◌∙◌}
use Rattle.subdivision_rows.proofs.Numbers.{cycles_many}
use Rattle.listed_faces.proofs.boundaries.boundary_count.Goals as goal

pub returns : goal.returns
returns c = c.len.ensures ∙ cycles_many c.lists.result.now c.args.rows.now c.lists.ensures.sound c.lists.ensures.drawing

use Rattle.std.proofs.Common.{◌∙◌}
use Rattle.locate_landmarks.proofs.Columns.{column_below}
use Rattle.locate_landmarks.proofs.landmarks.first_below.Goals as goal

pub returns-else-row_of-eq0 : goal.returns-else-row_of-eq0
returns-else-row_of-eq0 c = column_below c.args.glance.now.graph c.args.index c.args.last c.requires.map.sound.graph c.requires.last (λ e. c.if-row_of-eq0.false (c.row_of.ensures ∙ e))

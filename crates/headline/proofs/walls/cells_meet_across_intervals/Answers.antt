use Rattle.headline.proofs.IntervalCells.{border_as_beside, meet_across_intervals}
use Rattle.headline.proofs.walls.cells_meet_across_intervals.Goals as goal

pub returns : goal.returns
returns c = record { borders = border_as_beside; meet = meet_across_intervals }

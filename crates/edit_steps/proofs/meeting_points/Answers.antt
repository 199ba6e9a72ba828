use Rattle.edit_steps.proofs.Seen.{meeting_points as the_law}
use Rattle.edit_steps.proofs.meeting_points.Goals as goal

pub returns : goal.returns
returns c = the_law

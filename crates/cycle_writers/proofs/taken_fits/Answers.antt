use Rattle.cycle_writers.proofs.Taken.{taken_is_fit}
use Rattle.cycle_writers.proofs.taken_fits.Goals as goal

pub returns : goal.returns
returns c = taken_is_fit

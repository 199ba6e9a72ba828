use Rattle.planar_tests.proofs.Calming.{calm_left}
use Rattle.planar_tests.proofs.observers.rounds.leave.Goals as goal

pub returns-in-Ok-clause-calm : goal.returns-in-Ok-clause-calm
returns-in-Ok-clause-calm g c = calm_left _ _ _ _ c.in-Ok.ensures.left c.requires.calm

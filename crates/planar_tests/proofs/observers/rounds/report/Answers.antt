use Rattle.planar_tests.proofs.Calming.{calm_sound}
use Rattle.planar_tests.proofs.observers.rounds.report.Goals as goal

pub report-requires : goal.report-requires
report-requires g c = calm_sound _ c.requires.calm

use Rattle.planar_tests.proofs.Calming.{calm_attach, empty_sound}
use Rattle.planar_tests.proofs.observers.rounds.attach.Goals as goal

pub attach-requires-clause-sound : goal.attach-requires-clause-sound
attach-requires-clause-sound g c = empty_sound

pub returns-in-Ok : goal.returns-in-Ok
returns-in-Ok g c = record { calm = calm_attach _ _ _ c.in-Ok.ensures.attached c.requires.calm }

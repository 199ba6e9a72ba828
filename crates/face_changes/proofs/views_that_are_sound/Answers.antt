use Rattle.face_changes.proofs.SoundExamples.{views_that_are_sound}
use Rattle.face_changes.proofs.views_that_are_sound.Goals as goal

pub returns : goal.returns
returns c = views_that_are_sound

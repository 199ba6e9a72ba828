use Rattle.std.proofs.Common.{refl}
use Rattle.slab_laws.specs.View.{face_id}
use Rattle.arr_notes.specs.declared.change.Change.TheVariants.{Clear}
use Rattle.observer_bus.proofs.Hearing.{notes_heard}
use Rattle.planar_tests.specs.Calm.{empty_view}
use Rattle.planar_tests.proofs.Calming.{empty_sound}
use Rattle.planar_tests.proofs.observers.rounds.after.Goals as goal

pub say-requires-clause-sound : goal.say-requires-clause-sound
say-requires-clause-sound g c = empty_sound

pub say-requires-clause-fits : goal.say-requires-clause-fits
say-requires-clause-fits g c = notes_heard.after empty_view (Clear (face_id 0)) _ c.requires.calm tt empty_sound

pub returns-clause-calm : goal.returns-clause-calm
returns-clause-calm g c = c.say.ensures.holds empty_view c.requires.calm refl

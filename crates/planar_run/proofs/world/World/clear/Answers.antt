use Rattle.edit_steps.specs.Edits.{ClearAll}
use Rattle.planar_run.proofs.Worlds.{done_so, kept_so}
use Rattle.planar_run.proofs.world.World.clear.Goals as goal

pub returns-clause-done : goal.returns-clause-done
returns-clause-done g c = done_so ClearAll _ _ _ _ _ _ c.requires.kept.current c.laws.ensures.apart c.clear.ensures.edit

pub returns-clause-kept : goal.returns-clause-kept
returns-clause-kept g c = kept_so ClearAll _ _ _ c.requires.kept c.laws.ensures.apart c.clear.ensures.edit c.clear.ensures.limits c.clear.ensures.watched

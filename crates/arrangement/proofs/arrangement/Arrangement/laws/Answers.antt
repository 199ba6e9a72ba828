use Rattle.told_steps.proofs.NamedLayers.{layers_are_named}
use Rattle.arrangement.proofs.arrangement.Arrangement.laws.Goals as goal

pub returns-clause-named : goal.returns-clause-named
returns-clause-named g c = rw (← c.self.view_is) (layers_are_named _ _ c.self.invariant.0)

pub returns-clause-faced : goal.returns-clause-faced
returns-clause-faced g c = rw (← c.self.view_is) c.self.invariant.1.0.map.sound

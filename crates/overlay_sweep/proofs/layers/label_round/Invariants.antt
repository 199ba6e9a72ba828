use Rattle.std.proofs.Common.{◌-◌}
use Rattle.slab_laws.specs.SpansDrawn.{drawn}
use Rattle.overlay_sweep.proofs.LabelRounds.{IsTurning}
use Rattle.overlay_sweep.proofs.layers.label_round.Given as goal

abbrev pub invariant-turn : goal.invariant-turn
invariant-turn l = IsTurning (drawn l.points l.edges) l.vertex l.orbits.around.items l.from l.to l.known l.index l.label l.labels.items

abbrev pub decreases-turn : goal.decreases-turn
decreases-turn l = l.index - l.from

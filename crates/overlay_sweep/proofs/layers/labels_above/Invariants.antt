use Rattle.slab_laws.specs.SpansDrawn.{drawn}
use Rattle.overlay_sweep.proofs.LabelRounds.{IsPassing}
use Rattle.overlay_sweep.proofs.layers.labels_above.Given as goal

abbrev pub invariant-loop-vertex : goal.invariant-loop-vertex
invariant-loop-vertex l = IsPassing (drawn l.points l.edges) l.orbits.around.items l.known l.vertex l.from l.labels.items

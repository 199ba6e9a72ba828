use Rattle.slab_laws.specs.SpansDrawn.{drawn}
use Rattle.overlay_sweep.proofs.FaceLabels.{AreFacesUpto}
use Rattle.overlay_sweep.proofs.faces.labels_of_faces.Given as goal

abbrev pub invariant-loop-cycle : goal.invariant-loop-cycle
invariant-loop-cycle l = AreFacesUpto (drawn l.points l.edges) l.roots l.labels l.cycle l.faces.items

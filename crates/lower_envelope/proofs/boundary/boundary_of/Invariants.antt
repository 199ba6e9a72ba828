use Rattle.counted_looks.proofs.PartsSeen.{cycles_left}
use Rattle.lower_envelope.proofs.Boundaries.{AreCyclesRead, AreOfCycles}
use Rattle.lower_envelope.proofs.boundary.boundary_of.Given as goal

-- the darts of the cycles that were read are there
abbrev pub invariant-cycles : goal.invariant-cycles
invariant-cycles g l = AreCyclesRead (g.R.FaceLists.lists l.records) l.fn.face (λ done. AreOfCycles (g.R.Darts.graph l.records) (g.R.Faced.faces l.records) done l.found.items) l.at

abbrev pub decreases-cycles : goal.decreases-cycles
decreases-cycles g l = cycles_left (g.R.FaceLists.lists l.records) l.fn.face l.at

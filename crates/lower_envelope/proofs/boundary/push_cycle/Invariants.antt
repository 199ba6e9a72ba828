use Rattle.slab_laws.specs.View.{next_in}
use Rattle.boundary_cycles.proofs.NamedWalks.{ways}
use Rattle.lower_envelope.proofs.Boundaries.{IsGoneAlong}
use Rattle.lower_envelope.proofs.boundary.push_cycle.Given as goal

-- the darts that were met are put to those that were there
abbrev pub invariant-cycle : goal.invariant-cycle
invariant-cycle g l = IsGoneAlong (g.R.Darts.graph l.records) l.fn.first l.dart l.fn.found.items l.found.items

abbrev pub decreases-cycle : goal.decreases-cycle
decreases-cycle g l = ways (g.R.Darts.graph l.records) l.fn.first (next_in (g.R.Darts.graph l.records) l.dart)

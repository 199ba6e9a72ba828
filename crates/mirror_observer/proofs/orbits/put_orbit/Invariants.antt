use Rattle.slab_laws.specs.View.{next_in}
use Rattle.boundary_cycles.proofs.NamedWalks.{ways}
use Rattle.mirror_observer.specs.Tables.{darts_of}
use Rattle.mirror_observer.proofs.OrbitWalk.{IsPutting}
use Rattle.mirror_observer.proofs.orbits.put_orbit.Given as goal

abbrev pub invariant-orbit : goal.invariant-orbit
invariant-orbit l = IsPutting l.darts.entries l.d l.dart l.cycle l.fn.cycle_of.entries l.cycle_of.entries

abbrev pub decreases-orbit : goal.decreases-orbit
decreases-orbit l = ways (darts_of l.darts.entries) l.d (next_in (darts_of l.darts.entries) l.dart)

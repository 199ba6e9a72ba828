use Rattle.dart_orbits.proofs.WalkedCycles.{AreLed}
use Rattle.dart_orbits.proofs.leads.least_darts_by_walks.Given as goal

abbrev pub invariant-loop-first : goal.invariant-loop-first
invariant-loop-first l = AreLed l.nexts l.first l.leads.items

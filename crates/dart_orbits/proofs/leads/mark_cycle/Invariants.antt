use Rattle.std.proofs.Common.{length}
use Rattle.dart_orbits.proofs.Walks.{IsWalking, count_unmet}
use Rattle.dart_orbits.proofs.leads.mark_cycle.Given as goal

abbrev pub invariant-cycle : goal.invariant-cycle
invariant-cycle l = IsWalking l.nexts l.first l.fn.leads.items l.leads.items l.dart

abbrev pub decreases-cycle : goal.decreases-cycle
decreases-cycle l = count_unmet (length l.nexts) l.leads.items

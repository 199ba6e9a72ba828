use Rattle.std.proofs.Common.{◌≡◌}
use Rattle.library_tour.proofs.parcels.Parcels.bound_all.Given as goal

-- no land changes
abbrev pub invariant-loop-cycle : goal.invariant-loop-cycle
invariant-loop-cycle l = l.self.land ≡ l.fn.self.land

use Rattle.std.proofs.Common.{◌≡◌}
use Rattle.library_tour.proofs.parcels.Parcels.begin.Given as goal

-- no land changes
abbrev pub invariant-loop-row : goal.invariant-loop-row
invariant-loop-row l = l.self.land ≡ l.fn.self.land

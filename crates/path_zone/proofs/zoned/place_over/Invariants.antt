use Rattle.std.specs.Prelude.{⊤}
use Rattle.path_zone.proofs.zoned.place_over.Given as goal

abbrev pub invariant-zones : goal.invariant-zones
invariant-zones l = ⊤

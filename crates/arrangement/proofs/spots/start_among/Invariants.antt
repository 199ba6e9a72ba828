use Rattle.std.specs.Prelude.{⊤}
use Rattle.arrangement.proofs.spots.start_among.Given as goal

abbrev pub invariant-sides : goal.invariant-sides
invariant-sides l = ⊤

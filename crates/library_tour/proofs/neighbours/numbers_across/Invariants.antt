use Rattle.std.specs.Prelude.{◌≡◌}
use Rattle.library_tour.proofs.neighbours.numbers_across.Given as goal

-- the map means what it meant
abbrev pub invariant-darts : goal.invariant-darts
invariant-darts g l = l.map ≡ l.fn.map

use Rattle.std.proofs.Common.{◌≡◌, take}
use Rattle.slab_laws.specs.SpansDrawn.{drawn}
use Rattle.dart_orbits.specs.DartRows.{ahead_rows}
use Rattle.dart_orbits.proofs.rows.rows_ahead.Given as goal

abbrev pub invariant-loop-edge : goal.invariant-loop-edge
invariant-loop-edge l = l.rows.items ≡ take l.edge (ahead_rows (drawn l.points l.edges))

use Rattle.std.proofs.Common.{◌≡◌, take, map, filter}
use Rattle.slab_laws.specs.SpansDrawn.{drawn}
use Rattle.slab_laws.specs.Rows.{dart_list, dart_place}
use Rattle.dart_orbits.proofs.LeastDarts.{is_least}
use Rattle.dart_orbits.proofs.cycles.least_darts_among.Given as goal

abbrev pub invariant-loop-place : goal.invariant-loop-place
invariant-loop-place l =
    let g = drawn l.fn.points l.fn.edges in
    l.cycles.items ≡ map (dart_place g) (filter (is_least g) (take l.place (dart_list g)))

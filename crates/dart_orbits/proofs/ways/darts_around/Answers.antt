use Rattle.std.proofs.Common.{rules, map, ap, ◌∙◌, is_lt}
use Rattle.std.proofs.lemmas.List.Sorted.{IsPermutation-trans}
use Rattle.std.proofs.lemmas.Fn.{always_returns_same}
use Rattle.std.proofs.lemmas.List.MinMax.{ranks_by}
use Rattle.dart_orbits.specs.declared.ways.Way.{Way}
use Rattle.dart_orbits.specs.Ways.{ways_by, way_cmp, dart_of_way}
use Rattle.dart_orbits.proofs.NextPlaces.{edge_there}
use Rattle.dart_orbits.proofs.WayOrders.{way_cmp_total, around}
use Rattle.dart_orbits.proofs.ways.darts_around.Goals as goal

pub ways_of-requires : goal.ways_of-requires
ways_of-requires c = edge_there c.args.points.now c.args.edges.now c.args.darts.now c.requires.plane c.requires.darts

pub returns : goal.returns
returns c =
    let points = c.args.points.now in
    let edges = c.args.edges.now in
    let rows = c.args.darts.now in
    let ws = c.sort_unstable_by.new.self.items in
    around points edges rows c.requires.plane c.requires.darts c.in_ok-ways.ensures.spans ws
    (IsPermutation-trans (ways_by edges rows) c.in_ok-ways.ways.items ws c.in_ok-ways.ensures.ways c.sort_unstable_by.ensures.permutation)
    (c.sort_unstable_by.ensures.sorted (λ (v w : Way). is_lt (way_cmp v w)) (ranks_by way_cmp_total (λ (w : Way). w)) (always_returns_same _ _ _ (λ a r f' k. (ap is_lt (search rules), search rules))))
    c.in_ok-places.places.items (c.in_ok-places.ensures ∙ ap (map dart_of_way) c.deref.ensures.value)

use Rattle.std.proofs.Common.{ap, sym, ◌∙◌, subst, length, arith}
use Rattle.slab_laws.specs.SpansDrawn.{drawn}
use Rattle.dart_orbits.specs.Along.{ArePlacesAlong}
use Rattle.dart_orbits.proofs.NextPlaces.{edge_there}
use Rattle.dart_orbits.proofs.TwinPlaces.{are_once, twin_pushed, twins_done}
use Rattle.dart_orbits.proofs.twins.twins_of.Goals as goal

pub places_along-requires-clause-edges : goal.places_along-requires-clause-edges
places_along-requires-clause-edges c = edge_there c.args.points.now c.args.edges.now c.args.darts.now c.requires.plane c.requires.darts

pub places_along-requires-clause-once : goal.places_along-requires-clause-once
places_along-requires-clause-once c = are_once (drawn c.args.points.now c.args.edges.now) c.requires.plane c.args.darts.now c.requires.darts

pub places_along-requires-2-clause-edges : goal.places_along-requires-2-clause-edges
places_along-requires-2-clause-edges c = edge_there c.args.points.now c.args.edges.now c.args.darts.now c.requires.plane c.requires.darts

pub places_along-requires-2-clause-once : goal.places_along-requires-2-clause-once
places_along-requires-2-clause-once c = are_once (drawn c.args.points.now c.args.edges.now) c.requires.plane c.args.darts.now c.requires.darts

pub twin_among-requires-clause-ahead : goal.twin_among-requires-clause-ahead
twin_among-requires-clause-ahead c =
    let a = edge_there c.args.points.now c.args.edges.now c.args.darts.now c.requires.plane c.requires.darts c.loop-dart.dart-index c.loop-dart-test.true in
    let b = ap length c.deref.ensures.value ∙ c.in_ok-ahead.ensures.counted in
    omega arith

pub twin_among-requires-clause-back : goal.twin_among-requires-clause-back
twin_among-requires-clause-back c =
    let a = edge_there c.args.points.now c.args.edges.now c.args.darts.now c.requires.plane c.requires.darts c.loop-dart.dart-index c.loop-dart-test.true in
    let b = ap length c.deref-in-loop-dart.ensures.value ∙ c.in_ok-back.ensures.counted in
    omega arith

pub loop-dart-preserved : goal.loop-dart-preserved
loop-dart-preserved c =
    let rows = c.args.darts.now in
    twin_pushed (drawn c.args.points.now c.args.edges.now) c.requires.plane rows c.loop-dart.dart-index c.twin_among.result c.deref.result.now c.deref-in-loop-dart.result.now c.loop-dart.twins.items c.push.new.self.items c.requires.darts c.loop-dart-test.true
    (subst (ArePlacesAlong rows _ (length rows)) (sym c.deref.ensures.value) c.in_ok-ahead.ensures.along)
    (subst (ArePlacesAlong rows _ (length rows)) (sym c.deref-in-loop-dart.ensures.value) c.in_ok-back.ensures.along)
    c.twin_among.ensures c.loop-dart.invariant c.in_ok-push.ensures.items

pub returns : goal.returns
returns c = twins_done (drawn c.args.points.now c.args.edges.now) c.requires.plane c.args.darts.now c.loop-dart.dart-index c.loop-dart.twins.items c.requires.darts c.loop-dart-test.false c.loop-dart.invariant

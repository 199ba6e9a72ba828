use Rattle.std.proofs.Common.{sym, subst}
use Rattle.exact_plane.specs.WholeParts.{whole_parts}
use Rattle.slab_laws.specs.View.{View}
use Rattle.counted_looks.specs.declared.boundary_part.BoundaryPart.{BoundaryPart}
use Rattle.counted_looks.specs.Boundaries.{HasPart}
use Rattle.dcel_records.specs.RecordsView.{graph_of}
use Rattle.locate_walk.specs.Looks.{IsBelowOrNone, HasSeen}
use Rattle.locate_walk.proofs.BesidePoint.{told_beside, dart_beside}
use Rattle.locate_walk.proofs.Takes.{looked_may, looked_seen, looked_still}
use Rattle.locate_walk.proofs.highest.HighestLookerGlance.look.Goals as goal

pub look_closely-requires-clause-best : goal.look_closely-requires-clause-best
look_closely-requires-clause-best g c =
    let h = c.args.self.now in
    let m = c.requires.ready.1 in
    subst (λ (w : View). IsBelowOrNone w h.point h.best) (sym m.graph) m.best

pub returns-then-is_left_or_right_of-clause-seen : goal.returns-then-is_left_or_right_of-clause-seen
returns-then-is_left_or_right_of-clause-seen g c = λ d e.
    let v = graph_of c.args.sight.now in
    let h = c.args.self.now in
    let l = c.glimpse-looked.result in
    let has = subst (HasPart v) c.in-Dart.is c.requires.at in
    let told = told_beside c.whole_parts.result (whole_parts h.point) (whole_parts l.source) (whole_parts l.target) c.is_left_or_right_of.result c.whole_parts.ensures c.is_left_or_right_of.ensures c.if-is_left_or_right_of.true in
    subst (λ (t : BoundaryPart). HasSeen v h t) (sym c.in-Dart.is) (dart_beside v c.requires.ready.0 h c.requires.ready.1 c.in-Dart.dart has l c.glimpse-looked.ensures.look told)

pub returns-else-is_left_or_right_of-clause-ready : goal.returns-else-is_left_or_right_of-clause-ready
returns-else-is_left_or_right_of-clause-ready g c = looked_may (graph_of c.args.sight.now) c.args.self.now c.look_closely.new.self _ c.look_closely.ensures

pub returns-else-is_left_or_right_of-clause-seen : goal.returns-else-is_left_or_right_of-clause-seen
returns-else-is_left_or_right_of-clause-seen g c = λ d e.
    let v = graph_of c.args.sight.now in
    subst (λ (t : BoundaryPart). HasSeen v c.look_closely.new.self t) (sym c.in-Dart.is)
    (looked_seen v c.args.self.now c.look_closely.new.self _ c.look_closely.ensures c.requires.ready.0 c.requires.ready.1)

pub returns-else-is_left_or_right_of-clause-still : goal.returns-else-is_left_or_right_of-clause-still
returns-else-is_left_or_right_of-clause-still g c = λ t y d e.
    looked_still (graph_of c.args.sight.now) c.args.self.now c.look_closely.new.self _ c.look_closely.ensures c.requires.ready.0 c.requires.ready.1 t (y d e)

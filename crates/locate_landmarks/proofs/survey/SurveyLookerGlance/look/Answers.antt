use Rattle.std.proofs.Common.{sym, subst}
use Rattle.exact_plane.specs.WholeParts.{whole_parts}
use Rattle.slab_laws.specs.View.{View}
use Rattle.counted_looks.specs.declared.boundary_part.BoundaryPart.{BoundaryPart}
use Rattle.counted_looks.specs.Boundaries.{HasPart}
use Rattle.dcel_records.specs.RecordsView.{graph_of}
use Rattle.locate_walk.specs.Looks.{IsBelowOrNone, HasSeen}
use Rattle.locate_walk.proofs.BesidePoint.{told_beside, dart_beside}
use Rattle.locate_walk.proofs.Takes.{looked_seen, looked_still}
use Rattle.locate_landmarks.specs.Lowest.{IsAbove, IsEntry}
use Rattle.locate_landmarks.proofs.Surveyed.{survey_may}
use Rattle.locate_landmarks.proofs.survey.SurveyLookerGlance.look.Goals as goal

pub look_closely-requires-clause-lowest : goal.look_closely-requires-clause-lowest
look_closely-requires-clause-lowest g c =
    let m = c.requires.ready.1 in
    subst (λ (w : View). IsAbove w c.args.self.now.highest.point c.args.self.now.descent.lowest) (sym m.highest.graph) m.lowest

pub look_closely-requires-clause-best : goal.look_closely-requires-clause-best
look_closely-requires-clause-best g c =
    let h = c.args.self.now.highest in
    let m = c.requires.ready.1.highest in
    subst (λ (w : View). IsBelowOrNone w h.point h.best) (sym m.graph) m.best

pub look_closely-requires-clause-entry : goal.look_closely-requires-clause-entry
look_closely-requires-clause-entry g c =
    let m = c.requires.ready.1 in
    subst (λ (w : View). IsEntry w c.args.self.now.highest.point c.args.self.now.descent.entry) (sym m.highest.graph) m.entry

pub returns-then-is_left_or_right_of-clause-seen : goal.returns-then-is_left_or_right_of-clause-seen
returns-then-is_left_or_right_of-clause-seen g c = λ d e.
    let v = graph_of c.args.sight.now in
    let h = c.args.self.now.highest in
    let k = c.requires.ready.0.highest in
    let m = c.requires.ready.1.highest in
    let l = c.glimpse-looked.result in
    let has = subst (HasPart v) c.in-Dart.is c.requires.at in
    let told = told_beside c.whole_parts.result (whole_parts h.point) (whole_parts l.source) (whole_parts l.target) c.is_left_or_right_of.result c.whole_parts.ensures c.is_left_or_right_of.ensures c.if-is_left_or_right_of.true in
    subst (λ (t : BoundaryPart). HasSeen v h t) (sym c.in-Dart.is) (dart_beside v k h m c.in-Dart.dart has l c.glimpse-looked.ensures.look told)

pub returns-else-is_left_or_right_of-clause-ready : goal.returns-else-is_left_or_right_of-clause-ready
returns-else-is_left_or_right_of-clause-ready g c = survey_may (graph_of c.args.sight.now) c.args.self.now c.look_closely.new.self _ c.look_closely.ensures

pub returns-else-is_left_or_right_of-clause-seen : goal.returns-else-is_left_or_right_of-clause-seen
returns-else-is_left_or_right_of-clause-seen g c = λ d e.
    let v = graph_of c.args.sight.now in
    let l = c.look_closely.new.self.highest in
    subst (λ (t : BoundaryPart). HasSeen v l t) (sym c.in-Dart.is)
    (looked_seen v c.args.self.now.highest l _ c.look_closely.ensures.highest c.requires.ready.0.highest c.requires.ready.1.highest)

pub returns-else-is_left_or_right_of-clause-still : goal.returns-else-is_left_or_right_of-clause-still
returns-else-is_left_or_right_of-clause-still g c = λ t y d e.
    looked_still (graph_of c.args.sight.now) c.args.self.now.highest c.look_closely.new.self.highest _ c.look_closely.ensures.highest c.requires.ready.0.highest c.requires.ready.1.highest t (y d e)

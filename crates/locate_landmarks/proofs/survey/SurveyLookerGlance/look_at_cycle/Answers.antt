use Rattle.std.proofs.Common.{sym, ap, ◌∙◌, subst}
use Rattle.exact_plane.specs.WholeParts.{whole_parts}
use Rattle.exact_plane.specs.declared.whole_parts.WholeParts.{WholeParts}
use Rattle.slab_laws.specs.declared.names.DartId.{DartId}
use Rattle.slab_laws.specs.View.{View, HasDart}
use Rattle.exact_plane.specs.Boxes.{is_beside}
use Rattle.counted_looks.specs.declared.boundary_part.BoundaryPart.TheVariants.{Dart}
use Rattle.dcel_records.specs.RecordsView.{graph_of, lists_of}
use Rattle.locate_walk.specs.Looks.{IsBelowOrNone, HasSeen}
use Rattle.locate_walk.proofs.BesidePoint.{told_beside, dart_beside, beside_seen}
use Rattle.locate_walk.proofs.Takes.{looked_seen, looked_still}
use Rattle.locate_landmarks.specs.Lowest.{IsAbove, IsEntry}
use Rattle.locate_landmarks.proofs.Surveyed.{survey_may}
use Rattle.locate_landmarks.proofs.survey.SurveyLookerGlance.look_at_cycle.Goals as goal

pub look_closely-requires-clause-dart : goal.look_closely-requires-clause-dart
look_closely-requires-clause-dart g c =
    let m = c.requires.ready.1.highest in
    subst (λ (w : View). HasDart w c.glimpse_cycle-looked.result.dart) (sym m.graph)
    (subst (HasDart (graph_of c.args.sight.now)) (sym c.glimpse_cycle-looked.ensures.look.dart) (c.requires.darts c.args.cycle c.requires.cycle).0)

pub look_closely-requires-clause-lowest : goal.look_closely-requires-clause-lowest
look_closely-requires-clause-lowest g c =
    let m = c.requires.ready.1 in
    subst (λ (w : View). IsAbove w c.args.self.now.highest.point c.args.self.now.descent.lowest) (sym m.highest.graph) m.lowest

pub look_closely-requires-clause-best : goal.look_closely-requires-clause-best
look_closely-requires-clause-best g c =
    let h = c.args.self.now.highest in
    let m = c.requires.ready.1.highest in
    subst (λ (w : View). IsBelowOrNone w h.point h.best) (sym m.graph) m.best

pub look_closely-requires-clause-entry : goal.look_closely-requires-clause-entry
look_closely-requires-clause-entry g c =
    let m = c.requires.ready.1 in
    subst (λ (w : View). IsEntry w c.args.self.now.highest.point c.args.self.now.descent.entry) (sym m.highest.graph) m.entry

pub returns-then-is_left_or_right_of-clause-first : goal.returns-then-is_left_or_right_of-clause-first
returns-then-is_left_or_right_of-clause-first g c = λ d e.
    let h = c.args.self.now.highest in
    let on = c.requires.darts c.args.cycle c.requires.cycle in
    let area = c.glimpse_cycle-looked.result.area in
    let told = ap (λ (a : WholeParts). is_beside a area) (sym c.whole_parts-at.ensures) ∙ sym c.is_left_or_right_of.ensures ∙ c.if-is_left_or_right_of.true in
    let first = (lists_of c.args.sight.now).dart_on c.args.cycle in
    beside_seen (graph_of c.args.sight.now) c.requires.ready.0.highest h c.requires.ready.1.highest first on.0 area (c.glimpse_cycle-looked.ensures.look.area first on.0 on.1) told

pub returns-then-is_left_or_right_of-clause-whole : goal.returns-then-is_left_or_right_of-clause-whole
returns-then-is_left_or_right_of-clause-whole g c = λ t x has on d e.
    let h = c.args.self.now.highest in
    let area = c.glimpse_cycle-looked.result.area in
    let told = ap (λ (a : WholeParts). is_beside a area) (sym c.whole_parts-at.ensures) ∙ sym c.is_left_or_right_of.ensures ∙ c.if-is_left_or_right_of.true in
    beside_seen (graph_of c.args.sight.now) c.requires.ready.0.highest h c.requires.ready.1.highest x has area (c.glimpse_cycle-looked.ensures.look.area x has on) told

pub returns-then-not-is_left_or_right_of-clause-ready : goal.returns-then-not-is_left_or_right_of-clause-ready
returns-then-not-is_left_or_right_of-clause-ready g c = survey_may (graph_of c.args.sight.now) c.args.self.now c.look_closely.new.self _ c.look_closely.ensures

pub returns-then-not-is_left_or_right_of-clause-first : goal.returns-then-not-is_left_or_right_of-clause-first
returns-then-not-is_left_or_right_of-clause-first g c = λ d e.
    let v = graph_of c.args.sight.now in
    let l = c.look_closely.new.self.highest in
    subst (λ (x : DartId). HasSeen v l (Dart x)) c.glimpse_cycle-looked.ensures.look.dart
    (looked_seen v c.args.self.now.highest l _ c.look_closely.ensures.highest c.requires.ready.0.highest c.requires.ready.1.highest)

pub returns-then-not-is_left_or_right_of-clause-still : goal.returns-then-not-is_left_or_right_of-clause-still
returns-then-not-is_left_or_right_of-clause-still g c = λ t y d e.
    looked_still (graph_of c.args.sight.now) c.args.self.now.highest c.look_closely.new.self.highest _ c.look_closely.ensures.highest c.requires.ready.0.highest c.requires.ready.1.highest t (y d e)

pub returns-else-not-is_left_or_right_of-clause-first : goal.returns-else-not-is_left_or_right_of-clause-first
returns-else-not-is_left_or_right_of-clause-first g c = λ d e.
    let v = graph_of c.args.sight.now in
    let h = c.args.self.now.highest in
    let l = c.glimpse_cycle-looked.result.first in
    let on = c.requires.darts c.args.cycle c.requires.cycle in
    let look = c.glimpse_cycle-looked.ensures.look in
    let has = subst (HasDart v) (sym look.dart) on.0 in
    let told = told_beside c.whole_parts-at.result (whole_parts h.point) (whole_parts l.source) (whole_parts l.target) c.is_left_or_right_of-2.result c.whole_parts-at.ensures c.is_left_or_right_of-2.ensures c.if-not-is_left_or_right_of.false in
    subst (λ (x : DartId). HasSeen v h (Dart x)) look.dart (dart_beside v c.requires.ready.0.highest h c.requires.ready.1.highest c.glimpse_cycle-looked.result.dart has l look.first told)

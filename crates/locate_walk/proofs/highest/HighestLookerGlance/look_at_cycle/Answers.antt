use Rattle.std.proofs.Common.{sym, ap, ◌∙◌, subst}
use Rattle.exact_plane.specs.WholeParts.{whole_parts}
use Rattle.exact_plane.specs.declared.whole_parts.WholeParts.{WholeParts}
use Rattle.slab_laws.specs.declared.names.DartId.{DartId}
use Rattle.slab_laws.specs.View.{View, HasDart}
use Rattle.exact_plane.specs.Boxes.{is_beside_or_above}
use Rattle.counted_looks.specs.declared.boundary_part.BoundaryPart.TheVariants.{Dart}
use Rattle.dcel_records.specs.RecordsView.{graph_of, lists_of}
use Rattle.locate_walk.specs.Looks.{IsBelowOrNone, HasSeen}
use Rattle.locate_walk.proofs.BesidePoint.{told_beside, dart_beside, beside_or_above_seen}
use Rattle.locate_walk.proofs.Takes.{looked_may, looked_seen, looked_still}
use Rattle.locate_walk.proofs.highest.HighestLookerGlance.look_at_cycle.Goals as goal

pub look_closely-requires-clause-dart : goal.look_closely-requires-clause-dart
look_closely-requires-clause-dart g c =
    let m = c.requires.ready.1 in
    subst (λ (w : View). HasDart w c.glimpse_cycle-looked.result.dart) (sym m.graph)
    (subst (HasDart (graph_of c.args.sight.now)) (sym c.glimpse_cycle-looked.ensures.look.dart) (c.requires.darts c.args.cycle c.requires.cycle).0)

pub look_closely-requires-clause-best : goal.look_closely-requires-clause-best
look_closely-requires-clause-best g c =
    let h = c.args.self.now in
    let m = c.requires.ready.1 in
    subst (λ (w : View). IsBelowOrNone w h.point h.best) (sym m.graph) m.best

pub returns-then-is_beside_or_above-clause-first : goal.returns-then-is_beside_or_above-clause-first
returns-then-is_beside_or_above-clause-first g c = λ d e.
    let on = c.requires.darts c.args.cycle c.requires.cycle in
    let area = c.glimpse_cycle-looked.result.area in
    let told = ap (λ (a : WholeParts). is_beside_or_above a area) (sym c.whole_parts-at.ensures) ∙ sym c.is_beside_or_above.ensures ∙ c.if-is_beside_or_above.true in
    let first = (lists_of c.args.sight.now).dart_on c.args.cycle in
    beside_or_above_seen (graph_of c.args.sight.now) c.requires.ready.0 c.args.self.now c.requires.ready.1 first on.0 area (c.glimpse_cycle-looked.ensures.look.area first on.0 on.1) told

pub returns-then-is_beside_or_above-clause-whole : goal.returns-then-is_beside_or_above-clause-whole
returns-then-is_beside_or_above-clause-whole g c = λ t x has on d e.
    let area = c.glimpse_cycle-looked.result.area in
    let told = ap (λ (a : WholeParts). is_beside_or_above a area) (sym c.whole_parts-at.ensures) ∙ sym c.is_beside_or_above.ensures ∙ c.if-is_beside_or_above.true in
    beside_or_above_seen (graph_of c.args.sight.now) c.requires.ready.0 c.args.self.now c.requires.ready.1 x has area (c.glimpse_cycle-looked.ensures.look.area x has on) told

pub returns-then-not-is_left_or_right_of-clause-ready : goal.returns-then-not-is_left_or_right_of-clause-ready
returns-then-not-is_left_or_right_of-clause-ready g c = looked_may (graph_of c.args.sight.now) c.args.self.now c.look_closely.new.self _ c.look_closely.ensures

pub returns-then-not-is_left_or_right_of-clause-first : goal.returns-then-not-is_left_or_right_of-clause-first
returns-then-not-is_left_or_right_of-clause-first g c = λ d e.
    let v = graph_of c.args.sight.now in
    subst (λ (x : DartId). HasSeen v c.look_closely.new.self (Dart x)) c.glimpse_cycle-looked.ensures.look.dart
    (looked_seen v c.args.self.now c.look_closely.new.self _ c.look_closely.ensures c.requires.ready.0 c.requires.ready.1)

pub returns-then-not-is_left_or_right_of-clause-still : goal.returns-then-not-is_left_or_right_of-clause-still
returns-then-not-is_left_or_right_of-clause-still g c = λ t y d e.
    looked_still (graph_of c.args.sight.now) c.args.self.now c.look_closely.new.self _ c.look_closely.ensures c.requires.ready.0 c.requires.ready.1 t (y d e)

pub returns-else-not-is_left_or_right_of-clause-first : goal.returns-else-not-is_left_or_right_of-clause-first
returns-else-not-is_left_or_right_of-clause-first g c = λ d e.
    let v = graph_of c.args.sight.now in
    let l = c.glimpse_cycle-looked.result.first in
    let on = c.requires.darts c.args.cycle c.requires.cycle in
    let look = c.glimpse_cycle-looked.ensures.look in
    let has = subst (HasDart v) (sym look.dart) on.0 in
    let told = told_beside c.whole_parts-at.result (whole_parts c.args.self.now.point) (whole_parts l.source) (whole_parts l.target) c.is_left_or_right_of.result c.whole_parts-at.ensures c.is_left_or_right_of.ensures c.if-not-is_left_or_right_of.false in
    subst (λ (x : DartId). HasSeen v c.args.self.now (Dart x)) look.dart (dart_beside v c.requires.ready.0 c.args.self.now c.requires.ready.1 c.glimpse_cycle-looked.result.dart has l look.first told)

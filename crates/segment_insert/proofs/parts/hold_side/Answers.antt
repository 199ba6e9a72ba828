use Rattle.std.proofs.Common.{true, subst, inl, inr}
use Rattle.plane_graphs.specs.Strands.{strand}
use Rattle.curve_history.specs.Past.{curves_on, strands_on}
use Rattle.rotation_order.specs.Directions.{dart_direction}
use Rattle.rotation_order.specs.Place.{IsPlaceOf}
use Rattle.rotation_order.specs.declared.places.Place.TheVariants.{Along}
use Rattle.segment_insert.proofs.Linked.{side_there}
use Rattle.segment_insert.proofs.SideHeld.{along_it, drawn_along, from_to, never_bare, never_between}
use Rattle.segment_insert.proofs.parts.hold_side.Goals as goal

pub add_side-requires-clause-there : goal.add_side-requires-clause-there
add_side-requires-clause-there c =
    let v = c.args.records.now.graph in
    let d = c.in-Along.d in
    let at = from_to v c.requires.sound c.args.line.now c.args.u c.args.w c.requires.part d (subst (λ x. IsPlaceOf v c.args.u x (Along d)) c.along.ensures c.in-Along.ensures) in
    along_it v c.requires.sound c.args.line.now c.args.u c.args.w c.requires.part (curves_on c.args.history.now) c.args.curve.0 c.requires.there d at

pub add_side-requires-clause-new : goal.add_side-requires-clause-new
add_side-requires-clause-new c m =
    let v = c.args.records.now.graph in
    let d = c.in-Along.d in
    let at = from_to v c.requires.sound c.args.line.now c.args.u c.args.w c.requires.part d (subst (λ x. IsPlaceOf v c.args.u x (Along d)) c.along.ensures c.in-Along.ensures) in
    c.requires.new (drawn_along v c.requires.sound c.args.line.now c.args.u c.args.w c.requires.part (strands_on c.args.history.now) (strand c.args.curve.0 c.args.side) d at m)

pub unreachable-requires : goal.unreachable-requires
unreachable-requires c =
    let v = c.args.records.now.graph in
    let placed = subst (λ x. IsPlaceOf v c.args.u x c.place_at.result) c.along.ensures c.place_at.ensures in
    elim c.in-Bare.is [
      | inl e ↦ never_bare v c.requires.sound c.args.line.now c.args.u c.args.w c.requires.part (curves_on c.args.history.now) c.args.curve.0 c.requires.there (subst (IsPlaceOf v c.args.u (dart_direction c.args.line.now true)) e placed)
      | inr e ↦ never_between v c.requires.sound c.args.line.now c.args.u c.args.w c.requires.part (curves_on c.args.history.now) c.args.curve.0 c.requires.there e.0 e.1 (subst (IsPlaceOf v c.args.u (dart_direction c.args.line.now true)) e.2 placed)
    ]

pub returns-clause-strands : goal.returns-clause-strands
returns-clause-strands c =
    let v = c.args.records.now.graph in
    let s = c.requires.sound in
    let l = c.args.line.now in
    let d = c.in-Along.d in
    let at = from_to v s l c.args.u c.args.w c.requires.part d (subst (λ x. IsPlaceOf v c.args.u x (Along d)) c.along.ensures c.in-Along.ensures) in
    side_there v (curves_on c.args.history.now) s c.requires.curves l c.args.u c.args.w c.requires.part c.args.curve d at.forward at.source at.target c.args.history.now (strand c.args.curve.0 c.args.side) v c.add_side.new.history
    (c.add_side.ensures.strands v s c.requires.curves at.forward)

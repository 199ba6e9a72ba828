use Rattle.std.proofs.Common.{◌∙◌, ap, subst}
use Rattle.exact_plane.specs.Direction.{opposite}
use Rattle.rotation_order.specs.Place.{IsPlaceOf}
use Rattle.rotation_order.specs.declared.places.Place.TheVariants.{Between, Along}
use Rattle.segment_insert.proofs.PartDarts.{back_between, never_back}
use Rattle.segment_insert.proofs.edges.place_back.Goals as goal

pub unreachable-requires : goal.unreachable-requires
unreachable-requires c =
    let v = c.args.records.now.graph in
    never_back v c.requires.sound c.args.line.now c.args.u c.args.w c.requires.part c.in-Along.field-0 c.requires.no_edge
    (subst (λ x. IsPlaceOf v c.args.w x (Along c.in-Along.field-0)) (c.back.ensures ∙ ap opposite c.along.ensures) c.in-Along.ensures)

pub returns-in-Between : goal.returns-in-Between
returns-in-Between c =
    let v = c.args.records.now.graph in
    back_between v c.requires.sound c.args.line.now c.args.u c.args.w c.requires.part c.in-Between.a c.in-Between.field-1
    (subst (λ x. IsPlaceOf v c.args.w x (Between c.in-Between.a c.in-Between.field-1)) (c.back.ensures ∙ ap opposite c.along.ensures) c.in-Between.ensures)

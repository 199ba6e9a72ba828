use Rattle.std.proofs.Common.{subst}
use Rattle.plane_graphs.specs.Strands.{strand}
use Rattle.dcel_records.specs.SoundMaps.{map_of}
use Rattle.curve_history.specs.Past.{curves_on}
use Rattle.rotation_order.specs.Place.{IsPlaceOf}
use Rattle.rotation_order.specs.declared.places.Place.TheVariants.{Between, Along}
use Rattle.segment_insert.proofs.Linked.{not_held, curve_told, side_there}
use Rattle.segment_insert.proofs.PartDarts.{placed_on, none_between_darts, along_forward, along_ends}
use Rattle.segment_insert.proofs.edges.make_edge.Goals as goal

pub add_curve-requires-clause-forward : goal.add_curve-requires-clause-forward
add_curve-requires-clause-forward g c =
    let v = c.args.records.now.graph in
    let l = c.args.line.now in
    let s = c.requires.in_step.sound.graph in
    let o = c.requires.part in
    let d = c.in-Along.d in
    let k = placed_on v s l c.args.u c.args.w o (Along d) (subst (λ x. IsPlaceOf v c.args.u x (Along d)) c.along.ensures c.in-Along.ensures) in
    (k.out.0, along_forward v s l c.args.u c.args.w o d k)

pub add_curve-requires-clause-new : goal.add_curve-requires-clause-new
add_curve-requires-clause-new g c =
    let v = c.args.records.now.graph in
    let l = c.args.line.now in
    let s = c.requires.in_step.sound.graph in
    let o = c.requires.part in
    let d = c.in-Along.d in
    let k = placed_on v s l c.args.u c.args.w o (Along d) (subst (λ x. IsPlaceOf v c.args.u x (Along d)) c.along.ensures c.in-Along.ensures) in
    not_held v (curves_on c.args.history.now) s c.requires.in_step.curves l c.args.u c.args.w o c.args.curve d (k.out.0, along_forward v s l c.args.u c.args.w o d k) k.out.1 (along_ends v s l c.args.u c.args.w o d k) c.requires.plane

pub new_edge-requires-in-Between-clause-place : goal.new_edge-requires-in-Between-clause-place
new_edge-requires-in-Between-clause-place g c =
    let v = c.args.records.now.graph in
    let k = Between c.in-Between.a c.in-Between.field-1 in
    placed_on v c.requires.in_step.sound.graph c.args.line.now c.args.u c.args.w c.requires.part k (subst (λ x. IsPlaceOf v c.args.u x k) c.along.ensures c.in-Between.ensures)

pub new_edge-requires-in-Between-clause-no_edge : goal.new_edge-requires-in-Between-clause-no_edge
new_edge-requires-in-Between-clause-no_edge g c =
    let v = c.args.records.now.graph in
    let k = Between c.in-Between.a c.in-Between.field-1 in
    none_between_darts v c.requires.in_step.sound.graph c.args.line.now c.args.u c.args.w c.requires.part c.in-Between.a c.in-Between.field-1 (subst (λ x. IsPlaceOf v c.args.u x k) c.along.ensures c.in-Between.ensures)

pub returns-in-Along-clause-told : goal.returns-in-Along-clause-told
returns-in-Along-clause-told g c =
    let v = c.args.records.now.graph in
    let l = c.args.line.now in
    let s = c.requires.in_step.sound.graph in
    let o = c.requires.part in
    let d = c.in-Along.d in
    let k = placed_on v s l c.args.u c.args.w o (Along d) (subst (λ x. IsPlaceOf v c.args.u x (Along d)) c.along.ensures c.in-Along.ensures) in
    curve_told v (curves_on c.args.history.now) s c.requires.in_step.curves l c.args.u c.args.w o c.args.curve d (k.out.0, along_forward v s l c.args.u c.args.w o d k) k.out.1 (along_ends v s l c.args.u c.args.w o d k) (map_of c.args.records.now) _ _ (curves_on c.add_curve.new.history) c.add_curve.ensures.told

pub returns-in-Along-clause-strands : goal.returns-in-Along-clause-strands
returns-in-Along-clause-strands g c =
    let v = c.args.records.now.graph in
    let l = c.args.line.now in
    let s = c.requires.in_step.sound.graph in
    let o = c.requires.part in
    let d = c.in-Along.d in
    let k = placed_on v s l c.args.u c.args.w o (Along d) (subst (λ x. IsPlaceOf v c.args.u x (Along d)) c.along.ensures c.in-Along.ensures) in
    side_there v (curves_on c.args.history.now) s c.requires.in_step.curves l c.args.u c.args.w o c.args.curve d (k.out.0, along_forward v s l c.args.u c.args.w o d k) k.out.1 (along_ends v s l c.args.u c.args.w o d k) c.args.history.now (strand c.args.curve.0 c.args.side) v
    c.add_curve.new.history c.add_curve.ensures.strands

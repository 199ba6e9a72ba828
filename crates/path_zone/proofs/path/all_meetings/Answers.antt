use Rattle.dcel_records.specs.RecordsView.{tables_of}
use Rattle.std.proofs.Common.{◌++◌, refl, sym, ap, ◌∙◌, subst}
use Rattle.path_zone.specs.Begun.{AreInSweepOrder}
use Rattle.path_zone.specs.Zoned.{vertices_zoned}
use Rattle.path_zone.proofs.OnTheWay.{way_cut, way_each, way_first, way_looks, way_more, way_next, way_own, way_start}
use Rattle.path_zone.proofs.path.all_meetings.Goals as goal

pub in_sweep_order-requires : goal.in_sweep_order-requires
in_sweep_order-requires g c = (c.args.records.now.graph, tables_of c.args.records.now, c.requires.starts)

pub sides-init : goal.sides-init
sides-init g c =
    way_first c.args.records.now.graph (tables_of c.args.records.now) c.args.sides.now c.deref-one-items.result.now c.args.steps.now c.in_ok-zones.zones.items c.new-meetings.result.items _ c.in_ok-zones.ensures.items c.new-meetings.ensures.items refl

pub add_side-requires-clause-zones : goal.add_side-requires-clause-zones
add_side-requires-clause-zones g c = c.sides.invariant.zoned

pub add_side-requires-clause-start : goal.add_side-requires-clause-start
add_side-requires-clause-start g c =
    way_start c.args.records.now.graph (tables_of c.args.records.now) c.args.sides.now c.deref-one-items.result.now c.args.steps.now c.sides.zones.items c.sides.meetings.items c.sides.one-index c.sides.steps
    (subst (AreInSweepOrder c.args.records.now.graph (tables_of c.args.records.now) c.args.sides.now) (sym c.deref-one-items.ensures.value) (c.in_ok-begun.ensures c.args.records.now.graph (tables_of c.args.records.now) c.requires.starts)) c.sides.invariant c.one-item.result c.sides-test.true c.one-item.is

pub sides-preserved : goal.sides-preserved
sides-preserved g c =
    way_next c.args.records.now.graph (tables_of c.args.records.now) c.args.sides.now c.deref-one-items.result.now c.args.steps.now c.sides.zones.items c.sides.meetings.items c.sides.one-index c.sides.steps
    (subst (AreInSweepOrder c.args.records.now.graph (tables_of c.args.records.now) c.args.sides.now) (sym c.deref-one-items.ensures.value) (c.in_ok-begun.ensures c.args.records.now.graph (tables_of c.args.records.now) c.requires.starts)) c.sides.invariant c.one-item.result c.sides-test.true c.one-item.is
    c.add_side.new.steps c.add_side.ensures.looks c.add_side.new.meetings.items c.add_side.new.zones.items c.in_ok-add_side.ensures.side

pub returns-in_err-add_side-clause-looks : goal.returns-in_err-add_side-clause-looks
returns-in_err-add_side-clause-looks g c =
    way_cut c.args.records.now.graph (tables_of c.args.records.now) c.args.sides.now c.deref-one-items.result.now c.args.steps.now c.sides.zones.items c.sides.meetings.items c.sides.one-index c.sides.steps
    (subst (AreInSweepOrder c.args.records.now.graph (tables_of c.args.records.now) c.args.sides.now) (sym c.deref-one-items.ensures.value) (c.in_ok-begun.ensures c.args.records.now.graph (tables_of c.args.records.now) c.requires.starts)) c.sides.invariant c.one-item.result c.sides-test.true c.one-item.is
    c.add_side.new.steps c.add_side.ensures.looks

pub returns-in_err-add_vertices-clause-looks : goal.returns-in_err-add_vertices-clause-looks
returns-in_err-add_vertices-clause-looks g c =
    way_looks c.args.records.now.graph (tables_of c.args.records.now) c.args.sides.now c.deref-one-items.result.now c.args.steps.now c.sides.zones.items c.sides.meetings.items c.sides.one-index c.sides.steps
    (subst (AreInSweepOrder c.args.records.now.graph (tables_of c.args.records.now) c.args.sides.now) (sym c.deref-one-items.ensures.value) (c.in_ok-begun.ensures c.args.records.now.graph (tables_of c.args.records.now) c.requires.starts)) c.sides.invariant

pub returns-clause-more : goal.returns-clause-more
returns-clause-more g c =
    way_more c.args.records.now.graph (tables_of c.args.records.now) c.args.sides.now c.deref-one-items.result.now c.args.steps.now c.sides.zones.items c.sides.meetings.items c.sides.one-index c.sides.steps
    (subst (AreInSweepOrder c.args.records.now.graph (tables_of c.args.records.now) c.args.sides.now) (sym c.deref-one-items.ensures.value) (c.in_ok-begun.ensures c.args.records.now.graph (tables_of c.args.records.now) c.requires.starts)) c.sides.invariant c.sides-test.false c.add_vertices.new.meetings.items (c.in_ok-add_vertices.ensures ∙ ap (λ zs. c.sides.meetings.items ++ vertices_zoned zs) c.deref.ensures.value)

pub returns-clause-each : goal.returns-clause-each
returns-clause-each g c =
    way_each c.args.records.now.graph (tables_of c.args.records.now) c.args.sides.now c.deref-one-items.result.now c.args.steps.now c.sides.zones.items c.sides.meetings.items c.sides.one-index c.sides.steps
    (subst (AreInSweepOrder c.args.records.now.graph (tables_of c.args.records.now) c.args.sides.now) (sym c.deref-one-items.ensures.value) (c.in_ok-begun.ensures c.args.records.now.graph (tables_of c.args.records.now) c.requires.starts)) c.sides.invariant c.sides-test.false c.add_vertices.new.meetings.items (c.in_ok-add_vertices.ensures ∙ ap (λ zs. c.sides.meetings.items ++ vertices_zoned zs) c.deref.ensures.value)

pub returns-clause-own : goal.returns-clause-own
returns-clause-own g c =
    way_own c.args.records.now.graph (tables_of c.args.records.now) c.args.sides.now c.deref-one-items.result.now c.args.steps.now c.sides.zones.items c.sides.meetings.items c.sides.one-index c.sides.steps
    (subst (AreInSweepOrder c.args.records.now.graph (tables_of c.args.records.now) c.args.sides.now) (sym c.deref-one-items.ensures.value) (c.in_ok-begun.ensures c.args.records.now.graph (tables_of c.args.records.now) c.requires.starts)) c.sides.invariant c.sides-test.false c.add_vertices.new.meetings.items (c.in_ok-add_vertices.ensures ∙ ap (λ zs. c.sides.meetings.items ++ vertices_zoned zs) c.deref.ensures.value)

pub returns-clause-looks : goal.returns-clause-looks
returns-clause-looks g c =
    way_looks c.args.records.now.graph (tables_of c.args.records.now) c.args.sides.now c.deref-one-items.result.now c.args.steps.now c.sides.zones.items c.sides.meetings.items c.sides.one-index c.sides.steps
    (subst (AreInSweepOrder c.args.records.now.graph (tables_of c.args.records.now) c.args.sides.now) (sym c.deref-one-items.ensures.value) (c.in_ok-begun.ensures c.args.records.now.graph (tables_of c.args.records.now) c.requires.starts)) c.sides.invariant

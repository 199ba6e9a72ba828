use Rattle.std.proofs.Common.{sym, ◌∙◌}
use Rattle.sound_views.proofs.NamesMet.{vertex_has, fewer_vertices}
use Rattle.rotation_order.proofs.Points.{told_same, told_other}
use Rattle.slab_laws.specs.View.{point_in}
use Rattle.counted_looks.proofs.VerticesRead.{none_yet, one_at, one_elsewhere, is_found, all_counted}
use Rattle.counted_looks.proofs.vertices.look_at_vertices.Goals as goal

pub vertices-init : goal.vertices-init
vertices-init g c = none_yet c.args.records.now.graph c.args.point.now c.args.steps.now

pub vertices-smaller : goal.vertices-smaller
vertices-smaller g c = fewer_vertices c.args.records.now.graph c.vertices.last c.in-Some.vertex c.in-Some.ensures.ascend c.in-Some.ensures.after

pub vertices-smaller-then-eq : goal.vertices-smaller-then-eq
vertices-smaller-then-eq g c = fewer_vertices c.args.records.now.graph c.vertices.last c.in-Some.vertex c.in-Some.ensures.ascend c.in-Some.ensures.after

pub point-requires : goal.point-requires
point-requires g c = vertex_has c.args.records.now.graph c.vertices.last c.in-Some.vertex c.in-Some.ensures.ascend c.in-Some.ensures.after

pub vertices-preserved : goal.vertices-preserved
vertices-preserved g c =
    one_elsewhere c.args.records.now.graph c.args.point.now c.args.steps.now c.vertices.steps c.vertices.found c.vertices.last c.vertices.invariant c.in-Some.vertex c.in-Some.ensures.ascend c.in-Some.ensures.after c.tick.new.self c.tick.ensures
    (told_other c.point.result c.args.point.now (point_in c.args.records.now.graph c.in-Some.vertex) c.eq.result c.point.ensures c.eq.ensures c.if-eq.false)

pub vertices-preserved-then-eq : goal.vertices-preserved-then-eq
vertices-preserved-then-eq g c =
    one_at c.args.records.now.graph c.args.point.now c.args.steps.now c.vertices.steps c.vertices.found c.vertices.last c.vertices.invariant c.in-Some.vertex c.in-Some.ensures.ascend c.in-Some.ensures.after c.tick.new.self c.tick.ensures
    (told_same c.point.result c.args.point.now (point_in c.args.records.now.graph c.in-Some.vertex) c.eq.result c.point.ensures c.eq.ensures c.if-eq.true)

pub returns-clause-vertex : goal.returns-clause-vertex
returns-clause-vertex g c = is_found c.args.records.now.graph c.args.point.now c.args.steps.now c.vertices.steps c.vertices.found c.vertices.last c.vertices.invariant (sym c.in_default.is ∙ c.vertex_after.ensures.after)

pub returns-clause-looks : goal.returns-clause-looks
returns-clause-looks g c = all_counted c.args.records.now.graph c.args.point.now c.args.steps.now c.vertices.steps c.vertices.found c.vertices.last c.vertices.invariant (sym c.in_default.is ∙ c.vertex_after.ensures.after)

use Rattle.std.proofs.Common.{None, Some, sym, ◌∙◌}
use Rattle.slab_laws.specs.View.{View}
use Rattle.sound_views.proofs.NamesMet.{all_vertices, fewer_vertices, no_vertex_yet, one_vertex_more, vertex_has, vertices_still}
use Rattle.arrangement.proofs.OddEnds.{IsClearedBy, cleared_now, cleared_still, first_cleared, found_more, least_is}
use Rattle.arrangement.proofs.odd_ends.least_odd.Goals as goal

pub vertices-init : goal.vertices-init
vertices-init c = record { found = tt; cleared = no_vertex_yet c.args.records.now.graph (IsClearedBy c.args.records.now.graph c.args.history.now None) }

pub is_odd_at-requires-clause-vertex : goal.is_odd_at-requires-clause-vertex
is_odd_at-requires-clause-vertex c = vertex_has c.args.records.now.graph c.vertices.last c.in-Some.vertex c.in-Some.ensures.ascend c.in-Some.ensures.after

pub point-requires : goal.point-requires
point-requires c = vertex_has c.args.records.now.graph c.vertices.last c.in-Some.vertex c.in-Some.ensures.ascend c.in-Some.ensures.after

pub vertices-smaller-then-is_odd_at : goal.vertices-smaller-then-is_odd_at
vertices-smaller-then-is_odd_at c = fewer_vertices c.args.records.now.graph c.vertices.last c.in-Some.vertex c.in-Some.ensures.ascend c.in-Some.ensures.after

pub vertices-preserved-then-is_odd_at : goal.vertices-preserved-then-is_odd_at
vertices-preserved-then-is_odd_at c =
    let v : View = c.args.records.now.graph in
    let h = c.args.history.now in
    let l = c.requires in
    let o = c.vertices.least in
    let w = c.in-Some.vertex in
    let odd = sym c.if-is_odd_at.ensures in
    record {
      found = found_more v h l o w c.point.result c.lesser.result c.point.ensures c.lesser.ensures c.vertices.invariant.found odd;
      cleared = one_vertex_more v c.vertices.last w c.in-Some.ensures.ascend c.in-Some.ensures.after (IsClearedBy v h (Some c.lesser.result))
          (vertices_still v (IsClearedBy v h o) (IsClearedBy v h (Some c.lesser.result)) c.vertices.last (λ u k. cleared_still v h l o w c.point.result c.lesser.result c.point.ensures c.lesser.ensures u k) c.vertices.invariant.cleared)
          (cleared_now v h l o w c.point.result c.lesser.result c.point.ensures c.lesser.ensures);
    }

pub vertices-smaller : goal.vertices-smaller
vertices-smaller c = fewer_vertices c.args.records.now.graph c.vertices.last c.in-Some.vertex c.in-Some.ensures.ascend c.in-Some.ensures.after

pub vertices-preserved : goal.vertices-preserved
vertices-preserved c =
    let v : View = c.args.records.now.graph in
    let h = c.args.history.now in
    record {
      found = c.vertices.invariant.found;
      cleared = one_vertex_more v c.vertices.last c.in-Some.vertex c.in-Some.ensures.ascend c.in-Some.ensures.after (IsClearedBy v h c.vertices.least) c.vertices.invariant.cleared
          (first_cleared v h c.requires c.in-Some.vertex c.is_odd_at.result c.vertices.least c.is_odd_at.ensures c.if-is_odd_at.false);
    }

pub returns : goal.returns
returns c =
    let v : View = c.args.records.now.graph in
    let h = c.args.history.now in
    least_is v h c.requires c.vertices.least c.vertices.invariant.found
    (all_vertices v (IsClearedBy v h c.vertices.least) c.vertices.last (sym c.in_default.is ∙ c.vertex_after.ensures.after) c.vertices.invariant.cleared)

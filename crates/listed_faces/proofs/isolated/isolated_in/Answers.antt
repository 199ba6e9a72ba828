use Rattle.std.proofs.Common.{refl, sym, ◌∙◌}
use Rattle.sound_views.proofs.NamesMet.{vertex_has, fewer_vertices}
use Rattle.listed_faces.proofs.FoundVertices.{none_found, one_found, one_passed, all_found}
use Rattle.listed_faces.proofs.isolated.isolated_in.Goals as goal

pub vertices-init : goal.vertices-init
vertices-init g c = none_found (g.R.Darts.graph c.args.graph.now) (g.R.Faced.faces c.args.graph.now) c.args.face c.new-found.result.items c.new-found.ensures.items

pub is_isolated_in-requires-clause-vertex : goal.is_isolated_in-requires-clause-vertex
is_isolated_in-requires-clause-vertex g c = vertex_has (g.R.Darts.graph c.args.graph.now) c.vertices.last c.in-Some.vertex c.in-Some.ensures.ascend c.in-Some.ensures.after

pub vertices-smaller-in_ok-push : goal.vertices-smaller-in_ok-push
vertices-smaller-in_ok-push g c = fewer_vertices (g.R.Darts.graph c.args.graph.now) c.vertices.last c.in-Some.vertex c.in-Some.ensures.ascend c.in-Some.ensures.after

pub vertices-preserved-in_ok-push : goal.vertices-preserved-in_ok-push
vertices-preserved-in_ok-push g c =
    one_found (g.R.Darts.graph c.args.graph.now) (g.R.Faced.faces c.args.graph.now) c.args.face c.vertices.last c.in-Some.vertex c.vertices.found.items c.push.new.self.items c.vertices.invariant
    c.in-Some.ensures.ascend c.in-Some.ensures.after (sym c.is_isolated_in.ensures ∙ c.if-is_isolated_in.true) c.in_ok-push.ensures.items

pub vertices-smaller : goal.vertices-smaller
vertices-smaller g c = fewer_vertices (g.R.Darts.graph c.args.graph.now) c.vertices.last c.in-Some.vertex c.in-Some.ensures.ascend c.in-Some.ensures.after

pub vertices-preserved : goal.vertices-preserved
vertices-preserved g c =
    one_passed (g.R.Darts.graph c.args.graph.now) (g.R.Faced.faces c.args.graph.now) c.args.face c.vertices.last c.in-Some.vertex c.vertices.found.items c.vertices.found.items c.vertices.invariant
    c.in-Some.ensures.ascend c.in-Some.ensures.after (sym c.is_isolated_in.ensures ∙ c.if-is_isolated_in.false) refl

pub returns : goal.returns
returns g c =
    all_found (g.R.Darts.graph c.args.graph.now) (g.R.Faced.faces c.args.graph.now) c.args.face c.requires.complete c.vertices.last c.vertices.found.items c.vertex_after.ensures.ascend
    (sym c.in_default.is ∙ c.vertex_after.ensures.after) c.vertices.invariant

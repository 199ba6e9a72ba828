use Rattle.std.proofs.Common.{sym, ap, ◌∙◌, subst}
use Rattle.std.specs.Prelude.{Option, Some, None}
use Rattle.exact_plane.specs.Point.{Point}
use Rattle.plane_graphs.specs.Graph.{Edge}
use Rattle.slab_laws.specs.View.{point_in}
use Rattle.sound_views.proofs.ForwardDarts.{target_has}
use Rattle.vertical_laws.specs.Vertical.{Stop, vertex, edge}
use Rattle.vertical_laws.specs.VerticalText.{stop_text}
use Rattle.vertical_parts.specs.declared.vertical.Next.{Next}
use Rattle.vertical_parts.specs.VerticalParts.{IsNamed}
use Rattle.vertical_parts.proofs.LinesPut.{vertex_has, dart_forward, ends_are, stop_put}
use Rattle.vertical_parts.proofs.parts_text.put_stop.Goals as goal

pub point-requires : goal.point-requires
point-requires c = vertex_has c.args.records.now.graph c.args.next c.in-Vertex.vertex c.in-Vertex.is c.requires.named

pub source-requires : goal.source-requires
source-requires c = (dart_forward c.args.records.now.graph c.args.next c.in-Edge.dart c.in-Edge.is c.requires.named).0

pub point-lower-requires : goal.point-lower-requires
point-lower-requires c =
    let has = (dart_forward c.args.records.now.graph c.args.next c.in-Edge.dart c.in-Edge.is c.requires.named).0 in
    rw c.source.ensures (c.requires.map.sound.graph.linked.source c.in-Edge.dart has)

pub target-requires : goal.target-requires
target-requires c = (dart_forward c.args.records.now.graph c.args.next c.in-Edge.dart c.in-Edge.is c.requires.named).0

pub point-upper-requires : goal.point-upper-requires
point-upper-requires c =
    let v = c.args.records.now.graph in
    let has = (dart_forward v c.args.next c.in-Edge.dart c.in-Edge.is c.requires.named).0 in
    rw c.target.ensures (target_has v c.requires.map.sound.graph c.in-Edge.dart has)

pub returns-in-Vertex : goal.returns-in-Vertex
returns-in-Vertex c =
    let v = c.args.records.now.graph in
    let only = λ (o : Option Stop) (h : IsNamed v c.args.next o). (subst (λ (n : Next). IsNamed v n o) c.in-Vertex.is h).1 ∙ ap (λ (p : Point). Some (vertex p)) (sym c.point.ensures) in
    stop_put c.put_vertex.result v c.args.next (Some (vertex c.point.result)) c.args.out.now.items c.put_vertex.new.out.items only c.put_vertex.ensures

pub returns-in-Edge : goal.returns-in-Edge
returns-in-Edge c =
    let v = c.args.records.now.graph in
    let d = c.in-Edge.dart in
    let p = c.point-lower.result in
    let q = c.point-upper.result in
    let ahead = (dart_forward v c.args.next d c.in-Edge.is c.requires.named).1 in
    let ends = ends_are v d p q ahead (c.point-lower.ensures ∙ ap (point_in v) c.source.ensures) (c.point-upper.ensures ∙ ap (point_in v) c.target.ensures) in
    let only = λ (o : Option Stop) (h : IsNamed v c.args.next o). (subst (λ (n : Next). IsNamed v n o) c.in-Edge.is h).1 ∙ ap (λ (e : Edge). Some (edge e)) ends in
    stop_put c.put_edge.result v c.args.next (Some (edge (record { low = p; high = q }))) c.args.out.now.items c.put_edge.new.out.items only c.put_edge.ensures

pub returns-in-Open : goal.returns-in-Open
unfolding stop_text
returns-in-Open c =
    let v = c.args.records.now.graph in
    let only = λ (o : Option Stop) (h : IsNamed v c.args.next o). subst (λ (n : Next). IsNamed v n o) c.in-Open.is h in
    stop_put c.put_text.result v c.args.next None c.args.out.now.items c.put_text.new.out.items only c.put_text.ensures

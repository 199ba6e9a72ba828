use Rattle.std.proofs.Common.{sym, ap, ◌∙◌, map, subst}
use Rattle.slab_laws.specs.declared.names.CurveId.{CurveId}
use Rattle.slab_laws.specs.declared.names.VertexId.{VertexId}
use Rattle.slab_laws.specs.View.{HasVertex, point_in, twin_in}
use Rattle.slab_laws.specs.Sound.{edge_in}
use Rattle.arr_notes.specs.RecordGraph.{drawn_graph}
use Rattle.lower_envelope.proofs.CurvesRound.{edge_ends, edge_curves}
use Rattle.lower_envelope.proofs.EnvelopeLines.{edge_put}
use Rattle.lower_envelope.proofs.envelope_text.put_edge.Goals as goal

pub point-requires : goal.point-requires
point-requires g c = let v = g.R.Darts.graph c.args.records.now in subst (λ (w : VertexId). HasVertex v w) (sym c.source.ensures) (c.requires.sound.linked.source c.args.dart c.requires.forward.0)

pub point-requires-2 : goal.point-requires-2
point-requires-2 g c =
    let v = g.R.Darts.graph c.args.records.now in
    subst (λ (w : VertexId). HasVertex v w) (sym c.target.ensures) (c.requires.sound.linked.source (twin_in v c.args.dart) (c.requires.sound.twinned.has c.args.dart c.requires.forward.0))

pub returns : goal.returns
returns g c = λ h a lists.
    let v = g.R.Darts.graph c.args.records.now in
    let d = c.args.dart in
    let low = c.point.ensures ∙ ap (point_in v) c.source.ensures in
    let high = c.point-2.ensures ∙ ap (point_in v) c.target.ensures in
    edge_put c.put_curves.result (drawn_graph v h) (edge_in v d) c.point.result c.point-2.result (map (λ (k : CurveId). k.0) c.deref.result.now) c.args.out.now.items c.put_text.new.out.items c.put_point.new.out.items c.put_point-2.new.out.items c.put_curves.new.out.items
    c.in_ok-put_text.ensures c.in_ok-put_point.ensures c.in_ok-put_point-2.ensures c.put_curves.ensures
    (edge_ends v d c.requires.forward c.point.result c.point-2.result low high)
    (ap (map (λ (k : CurveId). k.0)) (c.deref.ensures.value ∙ c.in_ok-curves.ensures.curves) ∙ edge_curves v (g.R.Curved.curve_list c.args.records.now) c.requires.sound h a lists d c.requires.forward c.point.result c.point-2.result low high)

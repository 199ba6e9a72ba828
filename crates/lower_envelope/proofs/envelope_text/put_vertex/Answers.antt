use Rattle.std.proofs.Common.{ap, ◌∙◌, map}
use Rattle.slab_laws.specs.declared.names.CurveId.{CurveId}
use Rattle.slab_laws.specs.View.{point_in}
use Rattle.arr_notes.specs.RecordGraph.{drawn_graph}
use Rattle.lower_envelope.proofs.EnvelopeLines.{vertex_put}
use Rattle.lower_envelope.proofs.envelope_text.put_vertex.Goals as goal

pub returns : goal.returns
returns g c = λ h a lists.
    let v = g.R.Darts.graph c.args.records.now in
    vertex_put c.put_curves.result (drawn_graph v h) (point_in v c.args.vertex) c.point.result (map (λ (k : CurveId). k.0) c.deref.result.now) c.args.out.now.items c.put_text.new.out.items c.put_point.new.out.items c.put_curves.new.out.items
    c.in_ok-put_text.ensures c.in_ok-put_point.ensures c.put_curves.ensures c.point.ensures (ap (map (λ (k : CurveId). k.0)) c.deref.ensures.value ∙ c.in_ok-curves.ensures h a lists)

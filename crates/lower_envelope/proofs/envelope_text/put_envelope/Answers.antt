use Rattle.std.proofs.Common.{◌++◌, List, length, map, sym, ap, ap₂, ◌∙◌, subst}
use Rattle.std.specs.Prelude.{Option, Some}
use Rattle.std.specs.Option.{option_map}
use Rattle.std.proofs.lemmas.List.{length-map}
use Rattle.plane_graphs.specs.Ascending.{Member}
use Rattle.slab_laws.specs.declared.names.DartId.{DartId}
use Rattle.slab_laws.specs.declared.names.VertexId.{VertexId}
use Rattle.slab_laws.specs.Sound.{edge_in, skeleton_of}
use Rattle.slab_laws.specs.Text.{number}
use Rattle.slab_laws.specs.View.{point_in}
use Rattle.arr_notes.specs.RecordGraph.{drawn_graph}
use Rattle.sound_views.proofs.GraphDrawn.{graphs_are_drawn}
use Rattle.envelope_laws.specs.Envelopes.{outline}
use Rattle.envelope_laws.specs.EnvelopeText.{outline_lines}
use Rattle.lower_envelope.proofs.EnvelopeLines.{envelope_put}
use Rattle.lower_envelope.proofs.envelope_text.put_envelope.Goals as goal

pub put_outline-requires-clause-have : goal.put_outline-requires-clause-have
put_outline-requires-clause-have g c = λ u m. c.requires.envelope.have u (subst (λ (us : List VertexId). Member u us) c.as_slice-vertices.ensures m)

pub put_outline-requires-clause-forward : goal.put_outline-requires-clause-forward
put_outline-requires-clause-forward g c = λ d m. c.requires.envelope.forward d (subst (λ (os : List (Option DartId)). Member (Some d) os) c.as_slice.ensures m)

pub returns : goal.returns
unfolding number
returns g c = λ h a lists.
    let v = g.R.Darts.graph c.args.records.now in
    let d = drawn_graph v h in
    let o = outline c.args.which (skeleton_of v) in
    let e = c.requires.envelope in
    let vertices = ap (map (point_in v)) c.as_slice-vertices.ensures ∙ e.vertices in
    let between = ap (map (option_map (edge_in v))) c.as_slice.ensures ∙ e.between in
    envelope_put c.put_text-3.result c.args.which d o (length c.as_slice-vertices.result.now) c.args.out.now.items c.put_text.new.out.items c.put_number.new.out.items c.put_text-2.new.out.items c.put_outline.new.out.items c.put_text-3.new.out.items
    c.in_ok-put_text.ensures c.in_ok-put_number.ensures c.in_ok-put_text-2.ensures
    (c.in_ok-put_outline.ensures h a lists ∙ ap (λ t. c.put_text-2.new.out.items ++ t) (ap₂ (outline_lines d) vertices between))
    c.put_text-3.ensures
    (sym (length-map c.as_slice-vertices.result.now (point_in v)) ∙ ap length vertices)
    (ap (outline c.args.which) (sym (graphs_are_drawn v h c.requires.sound a)))

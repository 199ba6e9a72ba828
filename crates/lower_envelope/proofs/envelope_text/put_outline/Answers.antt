use Rattle.std.proofs.Common.{ap, ◌∙◌, get_or}
use Rattle.std.specs.Prelude.{None}
use Rattle.std.specs.Option.{option_map}
use Rattle.plane_graphs.proofs.Sorting.{member_at}
use Rattle.slab_laws.specs.Sound.{edge_in}
use Rattle.slab_laws.specs.View.{point_in, vertex_id}
use Rattle.arr_notes.specs.Curves.{IsForward}
use Rattle.arr_notes.specs.RecordGraph.{drawn_graph}
use Rattle.lower_envelope.proofs.EnvelopeLines.{no_lines, one_vertex, one_stretch, all_lines, where_some}
use Rattle.lower_envelope.proofs.envelope_text.put_outline.Goals as goal
use Rattle.lower_envelope.proofs.envelope_text.put_outline.Goals.{then-place-between+in_ok-put_stretch, else-place-between}

pub loop-place-init : goal.loop-place-init
loop-place-init g c = λ h a lists.
    let v = g.R.Darts.graph c.args.records.now in
    no_lines (drawn_graph v h) (point_in v) (option_map (edge_in v)) c.args.vertices.now c.args.between.now c.args.out.now.items

pub put_vertex-requires-clause-vertex : goal.put_vertex-requires-clause-vertex
put_vertex-requires-clause-vertex g c = c.requires.have _ (member_at c.args.vertices.now c.loop-place.place _ c.loop-place-test.true)

pub put_stretch-requires-clause-forward : goal.put_stretch-requires-clause-forward
put_stretch-requires-clause-forward g c = where_some (IsForward (g.R.Darts.graph c.args.records.now)) c.args.between.now (get_or c.args.between.now c.loop-place.place None) c.requires.forward (member_at c.args.between.now c.loop-place.place None c.if-place-between.true)

pub loop-place-preserved : goal.loop-place-preserved
loop-place-preserved g c = λ h a lists.
    let v = g.R.Darts.graph c.args.records.now in
    let was = c.loop-place.invariant h a lists in
    let vertex = c.in_ok-put_vertex.ensures h a lists in
    elim c.if-place-between.branch [
      | then-place-between+in_ok-put_stretch w ↦
          one_stretch (drawn_graph v h) (point_in v) (option_map (edge_in v)) c.args.vertices.now c.args.between.now c.loop-place.place c.args.out.now.items c.loop-place.out.items c.if-place-between.out.items was
          (vertex_id 0) None c.put_vertex.new.out.items c.loop-place-test.true w.if-place-between.true vertex (ap (λ o. o.items) w.out-is ∙ w.in_ok-put_stretch.ensures h a lists)
      | else-place-between w ↦
          one_vertex (drawn_graph v h) (point_in v) (option_map (edge_in v)) c.args.vertices.now c.args.between.now c.loop-place.place c.args.out.now.items c.loop-place.out.items c.if-place-between.out.items was
          (vertex_id 0) c.loop-place-test.true w.if-place-between.false (ap (λ o. o.items) w.out-is ∙ vertex)
    ]

pub returns : goal.returns
returns g c = λ h a lists.
    let v = g.R.Darts.graph c.args.records.now in
    all_lines (drawn_graph v h) (point_in v) (option_map (edge_in v)) c.args.vertices.now c.args.between.now c.loop-place.place c.args.out.now.items c.loop-place.out.items c.loop-place.out.items (c.loop-place.invariant h a lists) c.loop-place-test.false

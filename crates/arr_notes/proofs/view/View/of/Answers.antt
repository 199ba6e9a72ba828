use Rattle.std.proofs.Common.{map, ap, ◌∙◌}
use Rattle.std.specs.Prelude.{filter}
use Rattle.arr_notes.specs.Curves.{is_forward}
use Rattle.arr_notes.specs.ViewRows.{vertex_named, dart_named, edge_named, cycle_named}
use Rattle.arr_notes.proofs.ViewDrawn.{view_is_drawn, lines_are_drawn}
use Rattle.arr_notes.proofs.view.View.of.Goals as goal

pub invariant_of-result : goal.invariant_of-result
invariant_of-result g c =
    let v = g.R.Darts.graph c.args.records.now in
    let f = g.R.Faced.faces c.args.records.now in
    let k = g.R.Curved.curve_list c.args.records.now in
    lines_are_drawn v f k (record { vertices = c.in_ok-vertices.ensures.ascend; darts = c.in_ok-darts.ensures.ascend }) c.requires
    c.in_ok-vertex_rows.field-0 c.in_ok-dart_rows.field-0 c.in_ok-edge_rows.field-0 c.in_ok-cycle_rows.field-0 c.in_ok-copied.field-0
    (c.in_ok-vertex_rows.ensures ∙ ap (map (vertex_named v f)) (c.deref.ensures.value ∙ c.in_ok-vertices.ensures.names))
    (c.in_ok-dart_rows.ensures ∙ ap (map (dart_named v f)) (c.deref-2.ensures.value ∙ c.in_ok-darts.ensures.names))
    (c.in_ok-edge_rows.ensures ∙ ap (λ ds. map (edge_named v k) (filter (is_forward v) ds)) (c.deref-3.ensures.value ∙ c.in_ok-darts.ensures.names))
    (c.in_ok-cycle_rows.ensures ∙ ap (map (cycle_named f)) (c.deref-4.ensures.value ∙ c.in_ok-cycles.ensures.names))
    (c.in_ok-copied.ensures ∙ (c.deref-5.ensures.value ∙ c.in_ok-faces.ensures.names))

pub returns : goal.returns
returns g c =
    let v = g.R.Darts.graph c.args.records.now in
    let f = g.R.Faced.faces c.args.records.now in
    let k = g.R.Curved.curve_list c.args.records.now in
    view_is_drawn v f k (record { vertices = c.in_ok-vertices.ensures.ascend; darts = c.in_ok-darts.ensures.ascend }) c.requires
    c.in_ok-vertex_rows.field-0 c.in_ok-dart_rows.field-0 c.in_ok-edge_rows.field-0 c.in_ok-cycle_rows.field-0 c.in_ok-copied.field-0
    (c.in_ok-vertex_rows.ensures ∙ ap (map (vertex_named v f)) (c.deref.ensures.value ∙ c.in_ok-vertices.ensures.names))
    (c.in_ok-dart_rows.ensures ∙ ap (map (dart_named v f)) (c.deref-2.ensures.value ∙ c.in_ok-darts.ensures.names))
    (c.in_ok-edge_rows.ensures ∙ ap (λ ds. map (edge_named v k) (filter (is_forward v) ds)) (c.deref-3.ensures.value ∙ c.in_ok-darts.ensures.names))
    (c.in_ok-cycle_rows.ensures ∙ ap (map (cycle_named f)) (c.deref-4.ensures.value ∙ c.in_ok-cycles.ensures.names))
    (c.in_ok-copied.ensures ∙ (c.deref-5.ensures.value ∙ c.in_ok-faces.ensures.names))

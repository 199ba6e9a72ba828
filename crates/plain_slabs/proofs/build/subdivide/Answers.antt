use Rattle.std.proofs.Common.{sym, ap, subst, ◌∙◌}
use Rattle.plane_graphs.specs.Graph.{Graph, edges}
use Rattle.plane_graphs.specs.Plane.{IsPlane}
use Rattle.plane_graphs.proofs.Laws.{graph_is_plane}
use Rattle.slab_laws.specs.Pieces.{present_of}
use Rattle.slab_laws.specs.Subdivision.{subdivision}
use Rattle.slab_laws.specs.Text.{skeleton}
use Rattle.subdivision_rows.specs.Listed.{Drawing, view_of, faces_of, AreLinesOf}
use Rattle.slab_laws.specs.FacesSound.{IsSound}
use Rattle.subdivision_rows.proofs.ListsSound.{lists_are_sound}
use Rattle.subdivision_rows.proofs.RowsDrawn.{graph_is, lines_are}
use Rattle.subdivision_rows.specs.GraphInMemory.{drawing_in}
use Rattle.plain_slabs.proofs.build.subdivide.Goals as goal

pub plain_of-requires-clause-plane : goal.plain_of-requires-clause-plane
plain_of-requires-clause-plane c =
    let p = present_of c.args.present.now in
    let is = graph_is p c.in_ok-points.points.items c.in_ok-marks.marks.items c.in_ok-pins.pins.items c.in_ok-points.ensures c.in_ok-marks.ensures (c.in_ok-pins.ensures ∙ c.as_slice.ensures) in
    subst IsPlane (sym is) (graph_is_plane p c.requires)

pub plain_of-requires-clause-lines : goal.plain_of-requires-clause-lines
plain_of-requires-clause-lines c =
    let p = present_of c.args.present.now in
    let is = graph_is p c.in_ok-points.points.items c.in_ok-marks.marks.items c.in_ok-pins.pins.items c.in_ok-points.ensures c.in_ok-marks.ensures (c.in_ok-pins.ensures ∙ c.as_slice.ensures) in
    lines_are p c.in_ok-points.points.items c.in_ok-marks.marks.items c.in_ok-pins.pins.items c.in_ok-edges.edges.items is c.in_ok-edges.ensures.edges c.in_ok-edges.ensures.lines c.requires

pub plain_of-requires-clause-edges : goal.plain_of-requires-clause-edges
plain_of-requires-clause-edges c =
    let p = present_of c.args.present.now in
    let is = graph_is p c.in_ok-points.points.items c.in_ok-marks.marks.items c.in_ok-pins.pins.items c.in_ok-points.ensures c.in_ok-marks.ensures (c.in_ok-pins.ensures ∙ c.as_slice.ensures) in
    c.in_ok-edges.ensures.edges ∙ ap edges (sym is)

pub returns-clause-graph : goal.returns-clause-graph
returns-clause-graph c =
    let p = present_of c.args.present.now in
    let is = graph_is p c.in_ok-points.points.items c.in_ok-marks.marks.items c.in_ok-pins.pins.items c.in_ok-points.ensures c.in_ok-marks.ensures (c.in_ok-pins.ensures ∙ c.as_slice.ensures) in
    ap (λ (d : Drawing). d.graph) c.in_ok-plain.ensures ∙ is

pub returns-clause-subdivision : goal.returns-clause-subdivision
returns-clause-subdivision c =
    let p = present_of c.args.present.now in
    let is = graph_is p c.in_ok-points.points.items c.in_ok-marks.marks.items c.in_ok-pins.pins.items c.in_ok-points.ensures c.in_ok-marks.ensures (c.in_ok-pins.ensures ∙ c.as_slice.ensures) in
    ap (λ (d : Drawing). subdivision (skeleton d.graph)) c.in_ok-plain.ensures ∙ ap (λ (g : Graph). subdivision (skeleton g)) is

pub returns-clause-lines : goal.returns-clause-lines
returns-clause-lines c =
    let p = present_of c.args.present.now in
    let is = graph_is p c.in_ok-points.points.items c.in_ok-marks.marks.items c.in_ok-pins.pins.items c.in_ok-points.ensures c.in_ok-marks.ensures (c.in_ok-pins.ensures ∙ c.as_slice.ensures) in
    subst AreLinesOf (sym c.in_ok-plain.ensures) (lines_are p c.in_ok-points.points.items c.in_ok-marks.marks.items c.in_ok-pins.pins.items c.in_ok-edges.edges.items is c.in_ok-edges.ensures.edges c.in_ok-edges.ensures.lines c.requires)

pub returns-clause-stands : goal.returns-clause-stands
returns-clause-stands c =
    let p = present_of c.args.present.now in
    let is = graph_is p c.in_ok-points.points.items c.in_ok-marks.marks.items c.in_ok-pins.pins.items c.in_ok-points.ensures c.in_ok-marks.ensures (c.in_ok-pins.ensures ∙ c.as_slice.ensures) in
    let d : Drawing = drawing_in c.in_ok-points.points.items c.in_ok-marks.marks.items c.in_ok-pins.pins.items c.in_ok-edges.edges.items in
    let lines = lines_are p c.in_ok-points.points.items c.in_ok-marks.marks.items c.in_ok-pins.pins.items c.in_ok-edges.edges.items is c.in_ok-edges.ensures.edges c.in_ok-edges.ensures.lines c.requires in
    subst (λ (d : Drawing). IsSound (view_of d) (faces_of d)) (sym c.in_ok-plain.ensures) (lists_are_sound d (subst IsPlane (sym is) (graph_is_plane p c.requires)) lines)

use Rattle.std.proofs.Common.{◌≡◌, length, sym, ap, ◌∙◌, subst}
use Rattle.std.proofs.lemmas.List.{length-map}
use Rattle.plane_graphs.specs.Graph.{Graph}
use Rattle.slab_laws.specs.FacesSound.{IsSound}
use Rattle.set_laws.specs.PolygonSets.{pieces_along}
use Rattle.slab_laws.specs.Overlay.{overlay, overlay_skeleton}
use Rattle.slab_laws.specs.Skeleton.{Skeleton}
use Rattle.slab_laws.specs.Pieces.{present_of}
use Rattle.slab_laws.specs.Layers.{rows_of}
use Rattle.slab_laws.specs.Subdivision.{subdivision}
use Rattle.slab_laws.specs.Text.{skeleton}
use Rattle.overlay_laws.proofs.UnitedGraph.{united_plane, united_pins}
use Rattle.subdivision_rows.specs.Listed.{subdivision_in, view_of, faces_of}
use Rattle.subdivision_rows.specs.OverlayInMemory.{Overlaid}
use Rattle.subdivision_rows.proofs.OverlaidRows.{rows_sound}
use Rattle.overlay_sweep.proofs.join.overlay.Goals as goal

pub of-requires-clause-red : goal.of-requires-clause-red
of-requires-clause-red c =
    let whole = c.in_ok-counted.ensures.graph in
    let same : subdivision_in c.in_ok-counted.counted.rows ≡ overlay (present_of c.args.red.now) (present_of c.args.blue.now) = ap (λ (g : Graph). subdivision (skeleton g)) whole ∙ ap subdivision (united_plane (present_of c.args.red.now) (present_of c.args.blue.now)) in
    rows_sound (present_of c.args.red.now) c.in_ok-counted.counted.rows c.in_ok-of_red.of_red (c.in_ok-of_red.ensures.red ∙ ap (rows_of (present_of c.args.red.now)) (sym same))

pub of-requires-clause-blue : goal.of-requires-clause-blue
of-requires-clause-blue c =
    let whole = c.in_ok-counted.ensures.graph in
    let same : subdivision_in c.in_ok-counted.counted.rows ≡ overlay (present_of c.args.red.now) (present_of c.args.blue.now) = ap (λ (g : Graph). subdivision (skeleton g)) whole ∙ ap subdivision (united_plane (present_of c.args.red.now) (present_of c.args.blue.now)) in
    rows_sound (present_of c.args.blue.now) c.in_ok-counted.counted.rows c.in_ok-of_red.of_blue (c.in_ok-of_red.ensures.blue ∙ ap (rows_of (present_of c.args.blue.now)) (sym same))

pub of-requires-clause-red_pieces : goal.of-requires-clause-red_pieces
of-requires-clause-red_pieces c =
    let red = present_of c.args.red.now in
    let blue = present_of c.args.blue.now in
    let whole = c.in_ok-counted.ensures.graph in
    ap length c.in_ok-counted.ensures.red ∙ length-map (overlay_skeleton red blue).edges (pieces_along red) ∙ sym (ap (λ (g : Graph). length (skeleton g).edges) whole ∙ ap (λ (g : Skeleton). length g.edges) (united_plane red blue))

pub of-requires-clause-blue_pieces : goal.of-requires-clause-blue_pieces
of-requires-clause-blue_pieces c =
    let red = present_of c.args.red.now in
    let blue = present_of c.args.blue.now in
    let whole = c.in_ok-counted.ensures.graph in
    ap length c.in_ok-counted.ensures.blue ∙ length-map (overlay_skeleton red blue).edges (pieces_along blue) ∙ sym (ap (λ (g : Graph). length (skeleton g).edges) whole ∙ ap (λ (g : Skeleton). length g.edges) (united_plane red blue))

pub returns-clause-subdivision : goal.returns-clause-subdivision
returns-clause-subdivision c =
    let whole = c.in_ok-counted.ensures.graph in
    ap (λ (o : Overlaid). subdivision_in o.drawing) c.of.ensures ∙ ap (λ (g : Graph). subdivision (skeleton g)) whole ∙ ap subdivision (united_plane (present_of c.args.red.now) (present_of c.args.blue.now))

pub returns-clause-pins : goal.returns-clause-pins
returns-clause-pins c =
    let whole = c.in_ok-counted.ensures.graph in
    ap (λ (o : Overlaid). o.drawing.graph.pins) c.of.ensures ∙ ap (λ (g : Graph). g.pins) whole ∙ united_pins (present_of c.args.red.now) (present_of c.args.blue.now)

pub returns-clause-stands : goal.returns-clause-stands
returns-clause-stands c = subst (λ (o : Overlaid). IsSound (view_of o.drawing) (faces_of o.drawing)) (sym c.of.ensures) c.laws.ensures.stands

use Rattle.std.proofs.Common.{sym, ap, subst, ◌∙◌}
use Rattle.plane_graphs.specs.Fit.{IsFit}
use Rattle.plane_graphs.specs.Graph.{Graph, graph}
use Rattle.plane_graphs.specs.Piece.{Present}
use Rattle.plane_graphs.specs.Plane.{IsPlane}
use Rattle.plane_graphs.proofs.Laws.{graph_is_plane}
use Rattle.slab_laws.specs.Pieces.{present_of}
use Rattle.slab_laws.specs.Subdivision.{subdivision}
use Rattle.slab_laws.specs.Text.{skeleton}
use Rattle.overlay_laws.proofs.UnitedGraph.{united_plane, united_fit, united_pins}
use Rattle.plain_slabs.proofs.overlay.subdivide_united.Goals as goal

pub subdivide-requires : goal.subdivide-requires
subdivide-requires c = subst IsFit (sym c.in_ok-present.ensures) (united_fit (present_of c.args.red.now) (present_of c.args.blue.now) c.requires.red c.requires.blue)

pub returns-clause-subdivision : goal.returns-clause-subdivision
returns-clause-subdivision c =
    c.in_ok-plain.ensures.subdivision
    ∙ ap (λ (p : Present). subdivision (skeleton (graph p))) c.in_ok-present.ensures
    ∙ ap subdivision (united_plane (present_of c.args.red.now) (present_of c.args.blue.now))

pub returns-clause-pins : goal.returns-clause-pins
returns-clause-pins c =
    ap (λ (g : Graph). g.pins) c.in_ok-plain.ensures.graph
    ∙ ap (λ (p : Present). (graph p).pins) c.in_ok-present.ensures
    ∙ united_pins (present_of c.args.red.now) (present_of c.args.blue.now)

pub returns-clause-plane : goal.returns-clause-plane
returns-clause-plane c =
    let whole = c.in_ok-plain.ensures.graph ∙ ap (λ (p : Present). graph p) c.in_ok-present.ensures in
    subst IsPlane (sym whole) (graph_is_plane _ (united_fit (present_of c.args.red.now) (present_of c.args.blue.now) c.requires.red c.requires.blue))

use Rattle.std.proofs.Common.{List, map, ap, ◌∙◌}
use Rattle.exact_plane.specs.Span.{Span}
use Rattle.plane_graphs.specs.Graph.{Edge, edges}
use Rattle.set_laws.specs.PolygonSets.{pieces_along}
use Rattle.slab_laws.specs.Pieces.{present_of}
use Rattle.slab_laws.specs.SpansDrawn.{edge_of}
use Rattle.subdivision_rows.specs.Listed.{Drawing}
use Rattle.plain_slabs.proofs.overlay.pieces_of.Goals as goal

pub returns-clause-red : goal.returns-clause-red
returns-clause-red c =
    c.in_ok-of_red.ensures
    ∙ ap (λ (es : List Edge). map (pieces_along (present_of c.args.red.now)) es)
    (ap (λ (ss : List Span). map edge_of ss) c.deref.ensures.value ∙ c.lists.ensures.sound.edges_are ∙ ap (λ (d : Drawing). edges d.graph) (c.lists.ensures.drawing ∙ c.plain.view_is))

pub returns-clause-blue : goal.returns-clause-blue
returns-clause-blue c =
    c.in_ok-of_blue.ensures
    ∙ ap (λ (es : List Edge). map (pieces_along (present_of c.args.blue.now)) es)
    (ap (λ (ss : List Span). map edge_of ss) c.deref-2.ensures.value ∙ c.lists-2.ensures.sound.edges_are ∙ ap (λ (d : Drawing). edges d.graph) (c.lists-2.ensures.drawing ∙ c.plain.view_is))

use Rattle.std.proofs.Common.{sym, ap, subst, ◌∙◌}
use Rattle.plane_graphs.specs.Graph.{Graph}
use Rattle.slab_laws.specs.Subdivision.{subdivision}
use Rattle.slab_laws.specs.Text.{skeleton}
use Rattle.subdivision_rows.specs.Listed.{Drawing, view_of, faces_of, AreLinesOf}
use Rattle.slab_laws.specs.FacesSound.{IsSound}
use Rattle.subdivision_rows.proofs.ListsSound.{lists_are_sound}
use Rattle.plain_slabs.proofs.names.subdivide_of.Goals as goal

pub plain_of-requires : goal.plain_of-requires
plain_of-requires g c = record { plane = c.in_ok-parts.ensures.plane; lines = c.in_ok-parts.ensures.lines; edges = c.in_ok-parts.ensures.edges_are }

pub returns-clause-graph : goal.returns-clause-graph
returns-clause-graph g c = ap (λ (d : Drawing). d.graph) c.in_ok-plain.ensures ∙ c.in_ok-parts.ensures.graph

pub returns-clause-subdivision : goal.returns-clause-subdivision
returns-clause-subdivision g c = ap (λ (d : Drawing). subdivision (skeleton d.graph)) c.in_ok-plain.ensures ∙ ap (λ (g : Graph). subdivision (skeleton g)) c.in_ok-parts.ensures.graph

pub returns-clause-lines : goal.returns-clause-lines
returns-clause-lines g c = subst AreLinesOf (sym c.in_ok-plain.ensures) c.in_ok-parts.ensures.lines

pub returns-clause-stands : goal.returns-clause-stands
returns-clause-stands g c =
    subst (λ (d : Drawing). IsSound (view_of d) (faces_of d)) (sym c.in_ok-plain.ensures) (lists_are_sound _ c.in_ok-parts.ensures.plane c.in_ok-parts.ensures.lines)

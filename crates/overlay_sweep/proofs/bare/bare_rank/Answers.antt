use Rattle.std.proofs.Common.{ℕ, cond, sym, ap, ◌∙◌}
use Rattle.slab_laws.specs.Faces.{face_labels, face_of}
use Rattle.slab_laws.specs.Slabs.{left_cell}
use Rattle.slab_laws.specs.SpansDrawn.{drawn}
use Rattle.slab_laws.specs.Subdivision.{subdivision, rank}
use Rattle.sweep_graphs.specs.Traces.{point_at}
use Rattle.overlay_sweep.proofs.BareVertices.{under_there, under_in, over_edge, over_nothing}
use Rattle.overlay_sweep.proofs.bare.bare_rank.Goals as goal

pub edge_under-requires : goal.edge_under-requires
edge_under-requires c =
    let g = drawn c.args.points.now c.args.edges.now in
    under_there g c.requires.plane c.args.below.now c.requires.below c.args.vertex c.requires.vertex

pub returns-then-has_dart_at : goal.returns-then-has_dart_at
returns-then-has_dart_at c =
    let g = drawn c.args.points.now c.args.edges.now in
    let p = point_at g.vertices c.args.vertex in
    sym (ap (λ b. cond {A = ℕ} b 0 (rank (subdivision g) (face_of (face_labels g) (left_cell g p)))) (sym c.has_dart_at.ensures ∙ c.if-has_dart_at.true))

pub rank_above-requires-clause-edge : goal.rank_above-requires-clause-edge
rank_above-requires-clause-edge c =
    let g = drawn c.args.points.now c.args.edges.now in
    under_in g c.requires.plane c.args.below.now c.requires.below c.args.vertex c.requires.vertex c.in-Some.edge c.edge_under.result c.edge_under.ensures c.in-Some.is

pub returns-in-Some : goal.returns-in-Some
returns-in-Some c =
    let g = drawn c.args.points.now c.args.edges.now in
    c.rank_above.ensures ∙ over_edge g c.requires.plane c.args.below.now c.requires.below c.args.vertex c.requires.vertex c.in-Some.edge c.edge_under.result c.edge_under.ensures c.in-Some.is (sym c.has_dart_at.ensures ∙ c.if-has_dart_at.false)

pub returns-in-None : goal.returns-in-None
returns-in-None c =
    let g = drawn c.args.points.now c.args.edges.now in
    over_nothing g c.requires.plane c.args.below.now c.requires.below c.args.vertex c.requires.vertex c.edge_under.result c.edge_under.ensures c.in-None.is (sym c.has_dart_at.ensures ∙ c.if-has_dart_at.false)

use Rattle.std.proofs.Common.{ℕ, get_or, ap, ◌∙◌, arith}
use Rattle.slab_laws.specs.SpansDrawn.{drawn}
use Rattle.slab_laws.specs.Darts.{ahead}
use Rattle.dart_orbits.proofs.Listed.{dart_within}
use Rattle.sweep_graphs.specs.Edges.{edge_between}
use Rattle.overlay_sweep.proofs.BareVertices.{under_there, under_in}
use Rattle.overlay_sweep.proofs.LabelRounds.{nothing_under, edge_under}
use Rattle.overlay_sweep.proofs.layers.label_below.Goals as goal

pub edge_under-requires : goal.edge_under-requires
edge_under-requires c = under_there (drawn c.args.points.now c.args.edges.now) c.requires.plane c.args.below.now c.requires.below c.args.vertex c.requires.vertex

pub forward_dart-requires-clause-edge : goal.forward_dart-requires-clause-edge
forward_dart-requires-clause-edge c =
    under_in (drawn c.args.points.now c.args.edges.now) c.requires.plane c.args.below.now c.requires.below c.args.vertex c.requires.vertex c.in-Some.edge c.edge_under.result c.edge_under.ensures c.in-Some.is

pub label_at-requires : goal.label_at-requires
label_at-requires c =
    let g = drawn c.args.points.now c.args.edges.now in
    let E = under_in g c.requires.plane c.args.below.now c.requires.below c.args.vertex c.requires.vertex c.in-Some.edge c.edge_under.result c.edge_under.ensures c.in-Some.is in
    let w = dart_within g c.requires.plane (ahead (edge_between g.vertices c.in-Some.edge)) E in
    let n = c.requires.labels.counted in
    let q = c.forward_dart.ensures in
    omega arith

pub returns-in-Some : goal.returns-in-Some
returns-in-Some c =
    let g = drawn c.args.points.now c.args.edges.now in
    let E = under_in g c.requires.plane c.args.below.now c.requires.below c.args.vertex c.requires.vertex c.in-Some.edge c.edge_under.result c.edge_under.ensures c.in-Some.is in
    edge_under g c.requires.plane c.requires.ascend c.args.vertex c.requires.vertex c.args.known.now c.args.below.now c.requires.below c.in-Some.edge c.edge_under.result c.args.labels.now c.label_at.result c.edge_under.ensures c.in-Some.is E c.requires.labels
    (c.label_at.ensures ∙ ap (λ (k : ℕ). get_or c.args.labels.now k 0) c.forward_dart.ensures)

pub returns-in-None : goal.returns-in-None
returns-in-None c =
    nothing_under (drawn c.args.points.now c.args.edges.now) c.requires.plane c.requires.ascend c.args.vertex c.requires.vertex c.args.known.now c.args.below.now c.requires.below c.edge_under.result c.edge_under.ensures c.in-None.is

use Rattle.std.proofs.Common.{ℕ, ◌∷◌, [], ◌++◌, ap, ◌∙◌}
use Rattle.plane_graphs.proofs.Loops.{mapped, all_mapped}
use Rattle.plane_graphs.proofs.Sorting.{any_default}
use Rattle.slab_laws.specs.SpansDrawn.{drawn}
use Rattle.sweep_graphs.specs.Traces.{point_at, no_point}
use Rattle.overlay_sweep.specs.CycleFaces.{rank_round}
use Rattle.overlay_sweep.proofs.bare.bare_ranks.Goals as goal

pub loop-vertex-preserved : goal.loop-vertex-preserved
loop-vertex-preserved c =
    let g = drawn c.args.points.now c.args.edges.now in
    let i = c.loop-vertex.vertex in
    let p = point_at g.vertices i in
    mapped (rank_round g) g.vertices i p c.loop-vertex.bare.items c.push.new.self.items c.loop-vertex-test.true (any_default g.vertices i no_point p c.loop-vertex-test.true) c.loop-vertex.invariant
    (c.in_ok-push.ensures.items ∙ ap (λ (k : ℕ). c.loop-vertex.bare.items ++ k ∷ []) c.bare_rank.ensures)

pub returns : goal.returns
returns c =
    let g = drawn c.args.points.now c.args.edges.now in
    all_mapped (rank_round g) g.vertices c.loop-vertex.vertex c.loop-vertex.bare.items c.loop-vertex-test.false c.loop-vertex.invariant

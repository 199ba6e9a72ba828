use Rattle.std.proofs.Common.{[], map, sym, ap, ◌∙◌, subst}
use Rattle.std.specs.List.{flat_map}
use Rattle.exact_plane.specs.PointOrder.{point_cmp}
use Rattle.plane_graphs.specs.Ascending.{ascending, IsAscending}
use Rattle.plane_graphs.specs.Graph.{mark_cmp, graph, marks}
use Rattle.plane_graphs.proofs.Lists.{in_map}
use Rattle.plane_graphs.proofs.Vertices.{vertices_ascend}
use Rattle.slab_laws.specs.Pieces.{piece_of, present_of}
use Rattle.present_graphs.specs.Spans.{AreFit}
use Rattle.present_graphs.proofs.Chains.{chain_of, chains_are}
use Rattle.plane_graphs.proofs.Loops.{read_in, read_map, below_map, past_map, gathered, all_gathered}
use Rattle.present_graphs.proofs.marks.marks_of.Goals as goal

pub loop-piece-preserved : goal.loop-piece-preserved
loop-piece-preserved c =
    let ks = c.as_slice-piece-items.result.now in
    let i = c.loop-piece.piece-index in
    let k = c.piece-item.result in
    gathered (chain_of c.args.points.now) _ i (piece_of k) [] _ _ (below_map piece_of ks i c.loop-piece-test.true) (read_map piece_of ks i k c.loop-piece-test.true c.piece-item.is) c.loop-piece.invariant c.in_ok-add_marks.ensures

pub add_marks-requires : goal.add_marks-requires
add_marks-requires c =
    let ks = c.as_slice-piece-items.result.now in
    let k = c.piece-item.result in
    let fit : AreFit (map piece_of c.as_slice-piece-items.result.now) = subst (λ ls. AreFit (map piece_of ls)) (sym c.as_slice-piece-items.ensures) c.requires.fit.piece in
    fit (piece_of k) (in_map piece_of k ks (read_in ks c.loop-piece.piece-index k c.loop-piece-test.true c.piece-item.is))

pub returns : goal.returns
unfolding graph
returns c =
    let p = present_of c.args.present.now in
    let vs = c.args.points.now in
    let ks = c.as_slice-piece-items.result.now in
    let asc : IsAscending point_cmp c.args.points.now = subst (IsAscending point_cmp) (sym c.requires.points) (vertices_ascend p) in
    let all = all_gathered (chain_of vs) (map piece_of ks) c.loop-piece.piece-index [] _ (past_map piece_of ks c.loop-piece.piece-index c.loop-piece-test.false) c.loop-piece.invariant in
    c.arrange.ensures ∙ ap (ascending mark_cmp) (all ∙ ap (λ ls. flat_map (chain_of vs) (map piece_of ls)) c.as_slice-piece-items.ensures) ∙ chains_are vs asc p.pieces ∙ ap (λ us. marks us p.pieces) c.requires.points

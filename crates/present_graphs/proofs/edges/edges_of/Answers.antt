use Rattle.std.proofs.Common.{[], ◌∷◌, ◌++◌, map, sym, ap, ◌∙◌, subst, ⊎_elim}
use Rattle.std.proofs.lemmas.List.{map_push, take_all}
use Rattle.plane_graphs.specs.Ascending.{ascending, Member, IsAscending}
use Rattle.plane_graphs.specs.Graph.{mark_cmp, edge_cmp, edges, graph, edge_of as edge_of_mark}
use Rattle.plane_graphs.proofs.Lists.{clash, in_either}
use Rattle.slab_laws.specs.SpansDrawn.{edge_of}
use Rattle.slab_laws.specs.Pieces.{piece_of, present_of}
use Rattle.present_graphs.specs.Edges.{HasSpan, IsAlong, IsLast}
use Rattle.present_graphs.specs.Marks.{mark_of}
use Rattle.present_graphs.specs.Spans.{span_of_piece, AreFit}
use Rattle.present_graphs.proofs.LastEdge.{mark_again, mark_more}
use Rattle.present_graphs.proofs.HoldingSpan.{has_span, along_all, graph_ascends}
use Rattle.plane_graphs.proofs.Loops.{read_in, read_map, below_map, past_map}
use Rattle.present_graphs.proofs.edges.edges_of.Goals.{then-not-is_last+in_ok-push, else-not-is_last}
use Rattle.present_graphs.proofs.edges.edges_of.Goals as goal

pub loop-mark-init : goal.loop-mark-init
unfolding ascending
loop-mark-init c = record {
  edges = ap (map edge_of) c.new-edges.ensures.items;
  lines = λ s m. absurd (subst (λ ss. Member s ss) c.new-edges.ensures.items m);
}

pub loop-mark-preserved : goal.loop-mark-preserved
loop-mark-preserved c =
    let p = present_of c.args.present.now in
    let ms = map mark_of c.args.marks.now in
    let i = c.loop-mark.mark-index in
    let m = mark_of c.mark-item.result in
    let now = c.loop-mark.edges.items in
    let new = c.if-not-is_last.edges.items in
    let below = below_map mark_of c.args.marks.now i c.loop-mark-test.true in
    let reads = read_map mark_of c.args.marks.now i c.mark-item.result c.loop-mark-test.true c.mark-item.is in
    let asc : IsAscending mark_cmp (map mark_of c.args.marks.now) = subst (IsAscending mark_cmp) (sym c.requires.marks) (graph_ascends p) in
    let here : Member (mark_of c.mark-item.result) (graph (present_of c.args.present.now)).marks = subst (λ ns. Member (mark_of c.mark-item.result) ns) c.requires.marks (read_in ms i m below reads) in
    elim c.if-not-is_last.branch [
      | then-not-is_last+in_ok-push w ↦
          let spans = w.deref-then-not-is_last.ensures.value ∙ c.in_ok-spans.ensures.items ∙ ap (λ ks. map span_of_piece (map piece_of ks)) c.as_slice.ensures in
          let along : IsAlong (map span_of_piece (map piece_of c.args.present.now.pieces)) (mark_of c.mark-item.result) w.edge_along.result = subst (λ ss. IsAlong ss m w.edge_along.result) spans w.edge_along.ensures in
          let one = ap (λ es. es.items) w.edges-is ∙ w.in_ok-push.ensures.items in
          record {
            edges = mark_more ms i m below reads asc (map edge_of now) (map edge_of new) c.loop-mark.invariant.edges (λ l. clash (c.is_last.ensures.1 (subst (λ ss. IsLast (edge_of_mark m) (map edge_of ss)) (sym c.deref.ensures.value) l)) w.if-not-is_last.true)
                (ap (map edge_of) one ∙ map_push edge_of now w.edge_along.result ∙ ap (λ e. map edge_of now ++ e ∷ []) (λ j. record { low = along.lower j; high = along.upper j }));
            lines = λ s n. ⊎_elim (λ l. c.loop-mark.invariant.lines s l) (λ l. ⊎_elim (λ e. along_all p c.requires.fit m here s (subst (IsAlong (map span_of_piece p.pieces) m) (sym e) along)) (λ z. absurd z) l) (in_either s now (w.edge_along.result ∷ []) (subst (λ ss. Member s ss) one n));
          }
      | else-not-is_last w ↦ record {
        edges = mark_again ms i m below reads asc (map edge_of now) (map edge_of new) c.loop-mark.invariant.edges (subst (λ ss. IsLast (edge_of_mark m) (map edge_of ss)) c.deref.ensures.value (c.is_last.ensures.0 w.if-not-is_last.false)) (ap (λ es. map edge_of es.items) w.edges-is);
        lines = λ s n. c.loop-mark.invariant.lines s (subst (λ ss. Member s ss) (ap (λ es. es.items) w.edges-is) n);
      }
    ]

pub spans_of-requires : goal.spans_of-requires
spans_of-requires c = subst (λ ks. AreFit (map piece_of ks)) (sym c.as_slice.ensures) c.requires.fit.piece

pub edge_along-requires : goal.edge_along-requires
edge_along-requires c =
    let p = present_of c.args.present.now in
    let i = c.loop-mark.mark-index in
    let m = mark_of c.mark-item.result in
    let here = read_in (map mark_of c.args.marks.now) i m (below_map mark_of c.args.marks.now i c.loop-mark-test.true) (read_map mark_of c.args.marks.now i c.mark-item.result c.loop-mark-test.true c.mark-item.is) in
    let spans = c.deref-then-not-is_last.ensures.value ∙ c.in_ok-spans.ensures.items ∙ ap (λ ks. map span_of_piece (map piece_of ks)) c.as_slice.ensures in
    subst (λ ss. HasSpan ss m) (sym spans) (has_span p m (subst (λ ns. Member m ns) c.requires.marks here))

pub returns : goal.returns
unfolding edges
returns c =
    let ms = map mark_of c.args.marks.now in
    record {
      edges = c.loop-mark.invariant.edges ∙ ap (λ ns. ascending edge_cmp (map edge_of_mark ns)) (take_all c.loop-mark.mark-index ms (past_map mark_of c.args.marks.now c.loop-mark.mark-index c.loop-mark-test.false) ∙ c.requires.marks);
      lines = c.loop-mark.invariant.lines;
    }

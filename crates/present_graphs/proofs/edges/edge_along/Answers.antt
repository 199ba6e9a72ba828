use Rattle.std.proofs.Common.{sym, ap, ◌∙◌, subst}
use Rattle.exact_plane.specs.Line.{Line}
use Rattle.exact_plane.specs.Span.{Span, AreOnWay}
use Rattle.present_graphs.specs.Marks.{mark_of}
use Rattle.present_graphs.proofs.HoldingSpan.{one_passed, mark_way, told_on, told_off}
use Rattle.plane_graphs.proofs.Loops.{read_in}
use Rattle.present_graphs.proofs.edges.edge_along.Goals as goal

pub loop-span-preserved : goal.loop-span-preserved
loop-span-preserved c =
    let s = c.span-item.result in
    let m = mark_of c.args.mark.now in
    one_passed c.args.spans.now c.loop-span.span-index s m c.loop-span-test.true c.span-item.is c.loop-span.invariant (told_off s m c.holds_edge.result c.holds_edge.ensures c.if-holds_edge.false)

pub between-requires : goal.between-requires
between-requires c =
    let s = c.span-item.result in
    let m = mark_of c.args.mark.now in
    let way = mark_way c.args.spans.now s m c.requires (told_on s m c.holds_edge.result c.holds_edge.ensures c.if-holds_edge.true) in
    subst (λ (l : Line). AreOnWay m.low m.high l) (sym c.line.ensures) way

pub returns-then-holds_edge : goal.returns-then-holds_edge
returns-then-holds_edge c =
    let s = c.span-item.result in
    record {
      lower = ap (λ (t : Span). t.lower) c.between.ensures;
      upper = ap (λ (t : Span). t.upper) c.between.ensures;
      whole = s;
      whole_in = read_in c.args.spans.now c.loop-span.span-index s c.loop-span-test.true c.span-item.is;
      holds = told_on s (mark_of c.args.mark.now) c.holds_edge.result c.holds_edge.ensures c.if-holds_edge.true;
      line = ap (λ (t : Span). t.line) c.between.ensures ∙ c.line.ensures;
    }

use Rattle.std.proofs.Common.{ℕ, ◌<◌, length, sym, ap, ◌∙◌, subst}
use Rattle.exact_plane.specs.Line.{Line}
use Rattle.exact_plane.specs.Point.{Point}
use Rattle.exact_plane.specs.Span.{Span, AreOnWay}
use Rattle.sweep_events.specs.Places.{piece_at}
use Rattle.sweep_graphs.specs.declared.edges.EdgeEnds.{EdgeEnds}
use Rattle.sweep_graphs.specs.Traces.{point_at}
use Rattle.overlay_sweep.proofs.graphs.span_along.Goals as goal

pub line_at-line-requires : goal.line_at-line-requires
line_at-line-requires c =
    let s = c.piece_from.ensures in
    subst (λ (i : ℕ). i < length c.args.pieces.now) s.3 (c.requires.lines s.0 s.1).piece_in

pub vertex_at-low-requires : goal.vertex_at-low-requires
vertex_at-low-requires c =
    let s = c.piece_from.ensures in
    subst (λ (e : EdgeEnds). e.low < length c.args.points.now) s.2 (c.requires.lines s.0 s.1).low_in

pub vertex_at-high-requires : goal.vertex_at-high-requires
vertex_at-high-requires c =
    let s = c.piece_from.ensures in
    subst (λ (e : EdgeEnds). e.high < length c.args.points.now) s.2 (c.requires.lines s.0 s.1).high_in

pub between-requires : goal.between-requires
between-requires c =
    let s = c.piece_from.ensures in
    let e = c.args.edge.now in
    let way =
    subst (λ (i : ℕ). AreOnWay (point_at c.args.points.now e.low) (point_at c.args.points.now e.high) (piece_at c.args.pieces.now i).line) s.3
    (subst (λ (f : EdgeEnds). AreOnWay (point_at c.args.points.now f.low) (point_at c.args.points.now f.high) (piece_at c.args.pieces.now s.0.piece).line) s.2 (c.requires.lines s.0 s.1).way) in
    subst (λ (l : Line). AreOnWay c.vertex_at-low.result c.vertex_at-high.result l) (sym c.line_at-line.ensures)
    (subst (λ (a : Point). AreOnWay a c.vertex_at-high.result (piece_at c.args.pieces.now c.piece_from.result).line) (sym c.vertex_at-low.ensures)
    (subst (λ (b : Point). AreOnWay (point_at c.args.points.now e.low) b (piece_at c.args.pieces.now c.piece_from.result).line) (sym c.vertex_at-high.ensures) way))

pub returns : goal.returns
returns c =
    let low = ap (λ (t : Span). t.lower) c.between.ensures ∙ c.vertex_at-low.ensures in
    let high = ap (λ (t : Span). t.upper) c.between.ensures ∙ c.vertex_at-high.ensures in
    λ i. record { low = low i; high = high i }

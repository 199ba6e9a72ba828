use Rattle.std.proofs.Common.{List, sym, subst}
use Rattle.exact_plane.specs.Point.{Point}
use Rattle.exact_plane.specs.Span.{Span}
use Rattle.plane_graphs.specs.Ascending.{Member}
use Rattle.slab_laws.specs.Pieces.{present_of}
use Rattle.sweep_events.specs.Places.{AreSpans}
use Rattle.sweep_graphs.specs.Traces.{IsTrace}
use Rattle.sweep_graphs.proofs.TraceGraph.{traces_are_graphs}
use Rattle.overlay_sweep.proofs.TracedEdges.{by_place}
use Rattle.overlay_sweep.proofs.graphs.trace_of_present.Goals as goal

pub returns-clause-trace : goal.returns-clause-trace
returns-clause-trace c =
    subst (λ (ss : List Span). IsTrace ss c.args.present.now.pins c.in_ok-trace.trace) c.requires.pieces (subst (λ (rs : List Point). IsTrace c.args.pieces.now rs c.in_ok-trace.trace) c.as_slice-pins.ensures c.in_ok-trace.ensures)

pub returns-clause-graph : goal.returns-clause-graph
returns-clause-graph c =
    let p = present_of c.args.present.now in
    let h = subst (λ (ss : List Span). IsTrace ss c.args.present.now.pins c.in_ok-trace.trace) c.requires.pieces (subst (λ (rs : List Point). IsTrace c.args.pieces.now rs c.in_ok-trace.trace) c.as_slice-pins.ensures c.in_ok-trace.ensures) in
    traces_are_graphs p c.in_ok-trace.trace c.requires.fit (subst AreSpans c.requires.pieces (by_place c.args.pieces.now c.requires.spans))
    (λ r m. c.laws_of_each.ensures r (subst (λ (rs : List Point). Member r rs) (sym c.as_slice-pins.ensures) m)) h

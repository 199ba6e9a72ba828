use Rattle.std.proofs.Common.{ap, ◌∙◌, subst}
use Rattle.present_graphs.specs.Spans.{AreSpans}
use Rattle.slab_laws.specs.Overlay.{plane_of}
use Rattle.slab_laws.specs.Pieces.{present_of}
use Rattle.subdivision_rows.specs.Listed.{Drawing}
use Rattle.subdivision_rows.proofs.RowsDrawn.{graph_is}
use Rattle.overlay_sweep.proofs.GraphRows.{spans_are, ranks_are, sound_rows}
use Rattle.overlay_sweep.proofs.rows.rows_with.Goals as goal

pub of-requires : goal.of-requires
of-requires c =
    let p = present_of c.args.present in
    let g = c.args.graph in
    let h = c.requires.graph in
    let more = c.requires.more in
    sound_rows p _ c.requires.fit (record {
      graph_is = graph_is p c.into_vec.result.items c.args.more.marks.items c.into_vec-2.result.items (c.into_vec.ensures ∙ h.graph.points) more.marks c.into_vec-2.ensures;
      spans = subst AreSpans c.deref.ensures.value c.laws_of_spans.ensures;
      edges_are = spans_are p g h;
      pinned = more.pinned;
      darts = h.orbits.darts;
      twins = h.orbits.twins;
      nexts = h.orbits.nexts;
      in_cycles = h.orbits.in_cycles;
      kinds = more.kinds;
      cycle_ranks = ranks_are (plane_of p) g.ranks.items h.ranks;
      bare_ranks = more.bare_ranks;
      faces = more.faces;
    })

pub returns : goal.returns
returns c =
    let p = present_of c.args.present in
    ap (λ (d : Drawing). d.graph) c.of.ensures
    ∙ graph_is p c.into_vec.result.items c.args.more.marks.items c.into_vec-2.result.items (c.into_vec.ensures ∙ c.requires.graph.graph.points) c.requires.more.marks c.into_vec-2.ensures

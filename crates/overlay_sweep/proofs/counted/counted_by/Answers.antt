use Rattle.std.proofs.Common.{◌≡◌, length, arith, sym, ap, ◌∙◌, subst}
use Rattle.std.proofs.lemmas.List.{length-map}
use Rattle.plane_graphs.specs.Fit.{IsFit}
use Rattle.plane_graphs.specs.Graph.{graph}
use Rattle.plane_graphs.specs.Piece.{Present}
use Rattle.slab_laws.specs.Pieces.{piece_of, present_of}
use Rattle.overlay_laws.proofs.UnitedGraph.{united_fit}
use Rattle.sweep_graphs.specs.Edges.{curve_at}
use Rattle.overlay_sweep.specs.LayerGraphs.{IsLayerGraph}
use Rattle.overlay_sweep.proofs.Joined.{curves_by_place}
use Rattle.overlay_sweep.proofs.counted.counted_by.Goals as goal

pub rows_of-requires-clause-fit : goal.rows_of-requires-clause-fit
rows_of-requires-clause-fit c = subst IsFit (sym c.requires.present) (united_fit (present_of c.args.red.now) (present_of c.args.blue.now) c.requires.red c.requires.blue)

pub rows_of-requires-clause-graph : goal.rows_of-requires-clause-graph
rows_of-requires-clause-graph c = subst (λ p. IsLayerGraph p c.args.whole) (sym c.requires.present) c.requires.whole

pub rows_of-requires-clause-curves : goal.rows_of-requires-clause-curves
rows_of-requires-clause-curves c = λ i l.
    let a = length-map c.args.present.pieces piece_of in
    let b = ap (λ (p : Present). length p.pieces) c.requires.present in
    subst (λ (p : Present). curve_at p i ≡ i) (sym c.requires.present) (curves_by_place (present_of c.args.red.now) (present_of c.args.blue.now) i (omega arith))

pub returns-clause-graph : goal.returns-clause-graph
returns-clause-graph c = c.in_ok-rows.ensures.graph ∙ ap (λ (p : Present). graph p) c.requires.present

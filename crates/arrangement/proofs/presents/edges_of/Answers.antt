use Rattle.std.proofs.Common.{◌≡◌, sym}
use Rattle.std.proofs.lemmas.Result.{IfOk-weaker}
use Rattle.plane_graphs.specs.Piece.{Present}
use Rattle.slab_laws.specs.Overlay.{plane_of}
use Rattle.slab_laws.specs.Sound.{skeleton_of}
use Rattle.overlay_sweep.specs.OwnEdges.{AreOwnEdges}
use Rattle.told_steps.specs.RecordLayers.{layer_of}
use Rattle.arrangement.proofs.Layers.{skeleton_told}
use Rattle.arrangement.proofs.presents.edges_of.Goals as goal

pub returns : goal.returns
returns c =
    let v = c.layer.inside.records.graph in
    let past = c.layer.inside.history in
    rw (← c.layer.view_is) (IfOk-weaker c.own_edges.result (λ ks. (p : Present) → plane_of p ≡ skeleton_of v → AreOwnEdges p ks.items) (λ ks. AreOwnEdges (layer_of v past).present ks.items) (λ ks own. own (layer_of v past).present (sym (skeleton_told v past c.layer.invariant.0))) c.own_edges.ensures)

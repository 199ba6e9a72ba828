-- A layer's labels are told by the edges that have its curves.
use Rattle.std.proofs.Common.{sym, ◌∙◌}
use Rattle.plane_graphs.specs.Piece.{Present}
use Rattle.slab_laws.specs.Overlay.{both}
use Rattle.overlay_laws.specs.OverlayLaws.{HasConstantLabels}
use Rattle.overlay_laws.proofs.Labels.{labels_are_constant}
use Rattle.overlay_sweep.specs.KnownLabels.{AreLabelled, LabelsByKnownEdges}
use Rattle.overlay_sweep.specs.LayerLabels.{AreLabelsTold}
use Rattle.overlay_sweep.proofs.LayerLabels.{labels_by_own_edges}

labelled : (layer whole : Present) → AreLabelsTold layer whole → HasConstantLabels layer whole → AreLabelled layer whole
labelled layer whole told constant known k = record {
  constant = constant.one_label;
  first = told.first;
  own = λ e n E q. (let o = k.own e n E q in told.own e o.1.0 E o.1.1 o.1.2 o.0 ∙ sym o.1.3);
  other = λ e E q. told.other e E (k.other e E q);
}

pub labels_by_known_edges : LabelsByKnownEdges
labels_by_known_edges red blue fr fb =
    let t = labels_by_own_edges red blue fr fb in
    let c = labels_are_constant red blue fr fb in
    (labelled red (both red blue) t.0 c.0, labelled blue (both red blue) t.1 c.1)

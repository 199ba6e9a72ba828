-- Nothing is left: the one step, and the layer after it.
use Rattle.std.proofs.Common.{◌≡◌, [], ◌∷◌}
use Rattle.edit_steps.specs.Edits.{ClearAll, IsAccepted, after, steps}
use Rattle.edit_steps.specs.Layer.{IsAcceptedBy, layer_after}
use Rattle.edit_steps.specs.Steps.{Clear}
use Rattle.curve_history.specs.Past.{Past, curves_on}
use Rattle.arr_notes.specs.MapView.{MapView}
use Rattle.observer_bus.specs.Rounds.{BusRow}
use Rattle.told_steps.specs.RecordLayers.{IsLayer, layer_of}
use Rattle.told_steps.proofs.Layers.{steps_make_layers}
use Rattle.told_steps.proofs.ToldTogether.{told_runs_lawful}
use Rattle.told_steps.specs.SidedRuns.{IsSidedRun}

module _ (v : MapView) (p : Past) (b : BusRow) (w : MapView) (q : Past) (c : BusRow) (told : IsSidedRun v p b (Clear ∷ []) w q c) where
  pub clear_told : IsSidedRun v p b (steps ClearAll (layer_of v.graph p).present) w q c
  unfolding steps
  clear_told = told

  module _ (l : IsLayer v.graph p) (names : q.names ≡ []) (pieces : q.pieces ≡ []) (next : q.next ≡ p.next) where
    accepted : IsAcceptedBy ClearAll (layer_of v.graph p)
    unfolding IsAccepted
    accepted = tt

    pub clear_layer : IsLayer w.graph q × (layer_of w.graph q ≡ layer_after ClearAll (layer_of v.graph p))
    unfolding after
    clear_layer = steps_make_layers ClearAll v.graph p w.graph q l accepted (told_runs_lawful.steps v (curves_on p) b (steps ClearAll (layer_of v.graph p).present) w (curves_on q) c clear_told.told) clear_told.strands pieces names next

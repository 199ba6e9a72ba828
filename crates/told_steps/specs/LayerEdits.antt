-- What an edit makes of records and a history, and the layer that they are.
use Rattle.edit_steps.specs.Layer.{Layer, layer_after}
use Rattle.edit_steps.specs.Edits.{Edit, steps}
use Rattle.curve_history.specs.Past.{Past, curves_on}
use Rattle.told_steps.specs.RecordLayers.{layer_of, IsRunOfSteps}
use Rattle.dcel_records.specs.RecordsView.{RecordsView}
use Rattle.std.specs.Prelude.{◌≡◌}

-- the layer of records and their history (this project)
abbrev pub layer_at : RecordsView → Past → Layer
layer_at r p = layer_of r.graph p

-- the second records and history are the layer after an edit of the first (this project)
abbrev pub IsAfter : Edit → RecordsView → Past → RecordsView → Past → Type 0
IsAfter e r p s q = layer_at s q ≡ layer_after e (layer_at r p)

-- just the steps of an edit make of the first records and history the second (this project)
abbrev pub Makes : Edit → RecordsView → Past → RecordsView → Past → Type 0
Makes e r p s q = IsRunOfSteps r.graph (curves_on p) (steps e (layer_at r p).present) s.graph (curves_on q)

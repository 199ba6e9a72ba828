-- What a caller sees of an arrangement: the layer that it is, its limits, its records by name, and its observers.
use Rattle.std.specs.Prelude.{All, Option}
use Rattle.plane_graphs.specs.Graph.{graph}
use Rattle.edit_steps.specs.Edits.{Edit}
use Rattle.edit_steps.specs.Layer.{Layer}
use Rattle.edit_steps.specs.Refusals.{Bounds, Refusal, refusal}
use Rattle.slab_laws.specs.Subdivision.{Subdivision, subdivision}
use Rattle.slab_laws.specs.Text.{skeleton}
use Rattle.slab_laws.specs.View.{View, Faces}
use Rattle.arr_notes.specs.MapView.{MapView}
use Rattle.curve_history.specs.Past.{Past, curves_on}
use Rattle.curve_history.specs.declared.history.TheConstants.{LAST_CURVE}
use Rattle.told_steps.specs.RecordLayers.{layer_of}
use Rattle.observer_bus.specs.Rounds.{BusRow}
use Rattle.observer_bus.specs.Rows.{Meanings, bus_row}
use Rattle.observer_bus.specs.Seats.{Holds}
use Rattle.told_steps.specs.ToldRuns.{seen}
use Rattle.arrangement.specs.declared.arrangement.Arrangement.{Arrangement}
use Rattle.arrangement.specs.declared.limits.Limits.{Limits}

pub record Arranged : Type 0 where
  pub graph : View
  pub faces : Faces
  pub past : Past
  pub limits : Limits
  pub bus : BusRow

-- an arrangement as contracts see it: what its observers mean is handed in by one word, `Observer-dyn`
abbrev pub arranged : {X : Type 0} {F : X → Type 0} → Meanings X F → Arrangement X F → Arranged
arranged m a = record { graph = a.layer.graph; faces = a.layer.faces; past = a.layer.past; limits = a.limits; bus = bus_row m a.bus }

-- the records of the arrangement, whole: the graph with its cycles and faces (de Berg and others, doubly-connected edge list)
abbrev pub map_in : Arranged → MapView
map_in a = record { graph = a.graph; faces = a.faces }

-- each seated observer that tells a view holds that of the records (this project)
abbrev pub IsWatched : Arranged → Type 0
IsWatched a = All (Holds (seen (map_in a) (curves_on a.past))) a.bus.seats

-- the layer that the arrangement is (this project)
abbrev pub layer_in : Arranged → Layer
layer_in a = layer_of a.graph a.past

-- the subdivision of the plane by its present segments and points, built afresh
abbrev pub subdivision_by : Arranged → Subdivision
subdivision_by a = subdivision (skeleton (graph (layer_in a).present))

-- how much a layer may hold under these limits, and the last number that a curve may get (this project)
abbrev pub bounds_of : Limits → Bounds
bounds_of l = record { curves = l.curves; pieces = l.pieces; pins = l.pins; last = LAST_CURVE }

-- why an edit of the arrangement is refused (this project)
abbrev pub refusal_in : Arranged → Edit → Option Refusal
refusal_in a e = refusal (bounds_of a.limits) (layer_in a) e

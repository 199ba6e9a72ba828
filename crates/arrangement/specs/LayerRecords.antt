-- The records of a layer and their history, as contracts see the two together.
use Rattle.std.specs.Prelude.{◌≡◌, Bool, true, List, Option}
use Rattle.plane_graphs.specs.Graph.{graph}
use Rattle.slab_laws.specs.Subdivision.{Subdivision, subdivision}
use Rattle.slab_laws.specs.Text.{skeleton}
use Rattle.slab_laws.specs.View.{View, Faces}
use Rattle.dcel_records.specs.RecordsView.{RecordsView, tables_of}
use Rattle.dcel_records.specs.declared.spot.Spot.{Spot}
use Rattle.curve_history.specs.Past.{Past}
use Rattle.told_steps.specs.RecordLayers.{layer_of}
use Rattle.locate_landmarks.specs.Built.{IsBuiltFor as AreLandmarksOf}
use Rattle.locate_trapezoid.specs.Built.{IsBuiltFor}
use Rattle.locate_trapezoid.specs.declared.graph.SearchGraph.{SearchGraph}

-- the records by name, with their cycles and faces, and the history (this project)
pub record LayerRecordsView : Type 0 where
  pub graph : View
  pub faces : Faces
  pub past : Past

-- the subdivision of the plane by the layer's present segments and points, built afresh
abbrev pub subdivision_of : LayerRecordsView → Subdivision
subdivision_of l = subdivision (skeleton (graph (layer_of l.graph l.past).present))

-- where it is said to be, the trapezoidal map is built for these records (this project)
abbrev pub IsMappedWhere : Bool → RecordsView → Option SearchGraph → Type 0
IsMappedWhere mapped h t = mapped ≡ true → IsBuiltFor h.graph t

-- where they are said to be, the landmarks are found in these records (this project)
abbrev pub AreLandedWhere : Bool → RecordsView → List Spot → Type 0
AreLandedWhere landed h spots = landed ≡ true → AreLandmarksOf spots h.graph (tables_of h)

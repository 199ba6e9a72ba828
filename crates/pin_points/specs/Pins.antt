-- Which refusals the errors of pins stand for, and what a pin makes of what its point meets.
use Rattle.std.specs.Prelude.{◌≤◌, ℕ, List, [], ◌∷◌, Bool, false, Option, Some, None}
use Rattle.exact_plane.specs.Point.{Point}
use Rattle.plane_graphs.specs.Graph.{Graph}
use Rattle.edit_steps.specs.Refusals.{Refusal, Full as Passed, Pinned as Again, NotPinned as Bare}
use Rattle.edit_steps.specs.Allowed.{AreSound}
use Rattle.edit_steps.specs.Steps.{Step, missing_points, vertex_steps}
use Rattle.slab_laws.specs.View.{View, pinned_in}
use Rattle.arr_notes.specs.MapView.{MapView}
use Rattle.dcel_records.specs.RecordsView.{RecordsView}
use Rattle.dcel_records.specs.declared.spot.Met.{Met}
use Rattle.dcel_records.specs.declared.spot.Met.TheVariants.{Vertex}
use Rattle.curve_history.specs.Past.{Past, curves_on, strands_on}
use Rattle.arr_notes.specs.RecordGraph.{drawn_graph}
use Rattle.observer_bus.specs.Rounds.{BusRow}
use Rattle.told_steps.specs.SidedRuns.{IsSidedRun}
use Rattle.told_steps.specs.VertexMade.{pairs_at}
use Rattle.pin_points.specs.declared.pins.PinError.{PinError}
use Rattle.pin_points.specs.declared.pins.PinError.TheVariants.{Pinned, Full, NoMemory}
use Rattle.pin_points.specs.declared.pins.NotPinned.{NotPinned}

-- the refusal that a pin's error stands for; want of memory is none (this project)
abbrev pub pin_said : PinError → Option Refusal
pin_said Pinned = Some Again
pin_said (Full limit) = Some (Passed limit)
pin_said NoMemory = None

-- the refusal that an unpin's error stands for (this project)
abbrev pub unpin_said : NotPinned → Option Refusal
unpin_said error = Some Bare

-- whether a pinned vertex is met (this project)
abbrev pub is_pinned_met : View → Met → Bool
is_pinned_met v (Vertex w) = pinned_in v w
is_pinned_met v other = false

-- how many sides of curves run along the edge that is met (this project)
abbrev pub pairs_parted : Past → Met → ℕ
pairs_parted p at = pairs_at (strands_on p) at

-- without memory there is room for a vertex there, and for the edge that it parts (this project)
pub record HasRoomFor (at : Met) (r : RecordsView) (p : Past) : Type 0 where
  pub vertices : 1 ≤ r.spare_vertices
  pub darts : 2 ≤ r.spare_darts
  pub pairs : pairs_parted p at ≤ p.spare_pairs

-- the step that makes the point a vertex, where it is none
abbrev pub new_vertex_steps : Point → Graph → List Step
new_vertex_steps p g = vertex_steps (missing_points (p ∷ []) g.points) g

-- the point may become a vertex: the steps for it are sound
abbrev pub MayBecomeVertex : Point → Graph → Type 0
MayBecomeVertex p g = AreSound (new_vertex_steps p g) g

-- the point has become a vertex, by just these steps, each told
abbrev pub HasBecomeVertex : MapView → Past → BusRow → Point → MapView → Past → BusRow → Type 0
HasBecomeVertex m q b p w r c = IsSidedRun m q b (new_vertex_steps p (drawn_graph m.graph (curves_on q))) w r c

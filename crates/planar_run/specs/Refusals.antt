-- Why an edit isn't done, or a question not answered, by what there is in the world.
use Rattle.std.specs.Prelude.{◌≡◌, ℕ, true, false, Option}
use Rattle.plane_graphs.specs.Graph.{Edge}
use Rattle.edit_steps.specs.Edits.{Edit}
use Rattle.edit_steps.specs.Refusals.{Refusal, Full, Spent, Unknown, NoEdge, NotInside, Pinned, NotPinned, NoVertex, NotMergeable, refusal}
use Rattle.arrangement.specs.Answers.{HistoryError, Unknown as NoCurve, NoMemoryForEdges}
use Rattle.arrangement.specs.Arranged.{bounds_of}
use Rattle.arrangement.specs.declared.limits.TheConstants.Limits.{FULL}
use Rattle.arrangement.specs.declared.questions.EdgeError.{EdgeError}
use Rattle.arrangement.specs.declared.questions.EdgeError.TheVariants.{NoEdge as NoEdgeToTell, NoMemory as NoMemoryForCurves}
use Rattle.polygon_sets.specs.declared.region.RegionError.{RegionError}
use Rattle.polygon_sets.specs.declared.region.RegionError.TheVariants.{Open, NoMemory as NoMemoryForRegion}
use Rattle.planar_run.specs.World.{World}
use Rattle.planar_run.specs.Premises.{is_named, is_edge, are_closed}

-- why an edit of the world is refused, under the limits of a script (this project)
abbrev pub refusal_of : World → Edit → Option Refusal
refusal_of world edit = refusal (bounds_of FULL) world.layer edit

-- the number that tells a refusal (this project)
abbrev pub refusal_number : Refusal → ℕ
refusal_number (Full limit) = 17
refusal_number Spent = 18
refusal_number Unknown = 8
refusal_number NoEdge = 9
refusal_number NotInside = 11
refusal_number Pinned = 13
refusal_number NotPinned = 10
refusal_number NoVertex = 10
refusal_number NotMergeable = 12

-- the curves of an edge aren't told: there is no edge, or no memory
abbrev pub BarsEdge : EdgeError → Edge → World → Type 0
BarsEdge NoEdgeToTell e world = is_edge e world ≡ false
BarsEdge NoMemoryForCurves e world = is_edge e world ≡ true

-- the edges of a curve aren't told: no curve has the number, or there is no memory
abbrev pub BarsEdges : HistoryError → ℕ → World → Type 0
BarsEdges NoCurve c world = is_named c world ≡ false
BarsEdges NoMemoryForEdges c world = is_named c world ≡ true

-- the region isn't told: a layer isn't closed, or both are, and there is no memory
abbrev pub BarsRegion : RegionError → World → Type 0
BarsRegion (Open colour p) world = are_closed world ≡ false
BarsRegion NoMemoryForRegion world = are_closed world ≡ true

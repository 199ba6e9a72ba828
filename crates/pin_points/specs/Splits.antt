-- A split between two points, and which refusals its errors stand for.
use Rattle.std.specs.Prelude.{ℕ, Option, Some, None}
use Rattle.exact_plane.specs.Point.{Point}
use Rattle.edit_steps.specs.Edits.{Edit, Split}
use Rattle.edit_steps.specs.Refusals.{Refusal, Full as Passed, NoEdge as NotJoined, NotInside as Outside, split_refusal}
use Rattle.slab_laws.specs.Sound.{edge_between}
use Rattle.dcel_records.specs.RecordsView.{RecordsView}
use Rattle.curve_history.specs.Past.{Past}
use Rattle.dcel_records.specs.declared.spot.Met.TheVariants.{Edge}
use Rattle.slab_laws.specs.declared.names.DartId.{DartId}
use Rattle.record_orders.specs.Edges.{IsDartAlong}
use Rattle.pin_points.specs.Pins.{HasRoomFor}
use Rattle.pin_points.specs.declared.split.SplitError.{SplitError}
use Rattle.pin_points.specs.declared.split.SplitError.TheVariants.{NoEdge, NotInside, Full, NoMemory}
use Rattle.told_steps.specs.LayerEdits.{layer_at}

-- the edge between two points, which come in either order, gets the pin r inside it (CGAL manual, `split_edge`; the pin: this project)
abbrev pub split_at : Point → Point → Point → Edit
split_at p q r = Split (edge_between p q).low (edge_between p q).high r

-- the refusal that a split's error stands for; want of memory is none (this project)
abbrev pub split_said : SplitError → Option Refusal
split_said NoEdge = Some NotJoined
split_said NotInside = Some Outside
split_said (Full limit) = Some (Passed limit)
split_said NoMemory = None

-- there is room for a vertex inside the edge between two points, if there is one (this project)
abbrev pub HasRoomToSplit : RecordsView → Past → Point → Point → Type 0
HasRoomToSplit s past p q = (d : DartId) → IsDartAlong s.graph (edge_between p q) d → HasRoomFor (Edge d) s past

-- why the layer of records and history refuses the split of the edge between two points at a third (this project)
abbrev pub split_refusal_at : ℕ → RecordsView → Past → Point → Point → Point → Option Refusal
split_refusal_at pins s past p q r = split_refusal pins (layer_at s past) (edge_between p q).low (edge_between p q).high r

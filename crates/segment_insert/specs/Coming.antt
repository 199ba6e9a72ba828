-- Meeting points that become vertices one after the other: what the later ones meet, by what was told before the first of them came.
use Rattle.std.specs.Prelude.{◌≡◌, List, [], ◌∷◌, true}
use Rattle.exact_plane.specs.Point.{Point}
use Rattle.plane_graphs.specs.Line.{IsProper, precedes}
use Rattle.edit_steps.specs.Steps.{Step, vertex_steps, missing_points}
use Rattle.slab_laws.specs.declared.names.DartId.{DartId}
use Rattle.slab_laws.specs.declared.names.VertexId.{VertexId}
use Rattle.slab_laws.specs.View.{View, HasVertex, HasDart, point_in, target_in, next_in}
use Rattle.arr_notes.specs.Curves.{Curves, IsForward}
use Rattle.dcel_records.specs.declared.spot.Met.{Met}
use Rattle.dcel_records.specs.declared.spot.Met.TheVariants.{Vertex, Edge, Nothing}
use Rattle.dcel_records.specs.declared.spot.Spot.{Spot}
use Rattle.dcel_records.specs.Spots.{IsMet}
use Rattle.face_location.specs.Spots.{IsFaceNamed}
use Rattle.arr_notes.specs.MapView.{MapView}
use Rattle.arr_notes.specs.RecordGraph.{drawn_graph}
use Rattle.observer_bus.specs.Rounds.{BusRow}
use Rattle.curve_history.specs.Past.{Past, curves_on, strands_on}
use Rattle.told_steps.specs.SidedRuns.{IsSidedRun}
use Rattle.zone_walk.specs.declared.plan.Meeting.{Meeting}

-- the steps that make vertices of those points that are none
abbrev pub steps_at : View → Curves → List Point → List Step
steps_at v h ps = vertex_steps (missing_points ps (drawn_graph v h).points) (drawn_graph v h)

-- from a dart, over the parts of its edge that end below the point, to the part e that has the point inside (this project)
pub data LeadsTo (v : View) (p : Point) (e : DartId) : DartId → Type 0 where
  here : IsMet v p (Edge e) → LeadsTo v p e e
  onward : (d : DartId) → IsForward v d → precedes (point_in v (target_in v d)) p ≡ true → LeadsTo v p e (next_in v d) → LeadsTo v p e d

-- the edge of the dart has the point inside, or went in several parts of which one has
abbrev pub HasPart : View → Point → DartId → Type 0
HasPart v p d = (e : DartId) × LeadsTo v p e d

-- the point still meets this, where edges went in several since it was told: the part that has the point inside has the curves, or the sides of curves, of the edge (this project)
abbrev pub IsMetStill : View → Curves → Point → Met → Type 0
IsMetStill v h p (Vertex w) = IsMet v p (Vertex w)
IsMetStill v h p (Edge d) = (e : DartId) × LeadsTo v p e d × (h e ≡ h d)
IsMetStill v h p Nothing = IsMet v p Nothing

-- what the point meets now, by what was told before edges went in several: the part of its edge that has the point inside (this project)
abbrev pub IsMetNow : View → Point → Met → Met → Type 0
IsMetNow v p (Vertex w) now = (now ≡ Vertex w) × IsMet v p (Vertex w)
IsMetNow v p (Edge d) now = (e : DartId) × (now ≡ Edge e) × LeadsTo v p e d
IsMetNow v p Nothing now = (now ≡ Nothing) × IsMet v p Nothing

-- the meeting's point is the vertex x after its step, which observers are told, if it was none before; names of vertices stay, the sides of curves along the old edges stay, what was told of later points still says where they lie, and the faces named for points are still theirs (this project)
pub record IsMadeAt (v : MapView) (p : Past) (b : BusRow) (w : MapView) (q : Past) (c : BusRow) (m : Meeting) (x : VertexId) : Type 0 where
  pub told : IsSidedRun v p b (steps_at v.graph (curves_on p) (m.point ∷ [])) w q c
  pub has : HasVertex w.graph x
  pub point : point_in w.graph x ≡ m.point
  pub vertices : (u : VertexId) → HasVertex v.graph u → HasVertex w.graph u × (point_in w.graph u ≡ point_in v.graph u)
  pub sides : (d : DartId) → HasDart v.graph d → strands_on q d ≡ strands_on p d
  pub later : (r : Point) (s : Met) → IsProper r → precedes m.point r ≡ true → IsMetStill v.graph (strands_on p) r s → IsMetStill w.graph (strands_on q) r s
  pub faces : (r : Point) (s : Spot) → IsProper r → IsFaceNamed v.graph v.faces r s → IsFaceNamed w.graph w.faces r s

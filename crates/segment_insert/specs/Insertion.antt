-- What an insertion makes and answers, and what its parts ask and do.
use Rattle.std.specs.Prelude.{◌≡◌, ◌≤◌, ◌+◌, ◌*◌, ℕ, List, [], ◌∷◌, length, Option, Some, None, true, Contains}
use Rattle.exact_plane.specs.Point.{Point}
use Rattle.exact_plane.specs.PointOrder.{point_cmp}
use Rattle.exact_plane.specs.Segment.{Segment}
use Rattle.plane_graphs.specs.Ascending.{Member, IsAscending}
use Rattle.edit_steps.specs.Refusals.{Refusal, Full as Passed, Spent as LastDrawn, insertion_refusal}
use Rattle.slab_laws.specs.View.{View, Faces, HasVertex, point_in}
use Rattle.arr_notes.specs.Curves.{Curves}
use Rattle.curve_history.specs.declared.history.TheConstants.{LAST_CURVE}
use Rattle.curve_history.specs.Past.{Past}
use Rattle.told_steps.specs.LayerEdits.{layer_at}
use Rattle.dcel_records.specs.RecordsView.{RecordsView}
use Rattle.dcel_records.specs.declared.records.Room.{Room}
use Rattle.dcel_records.specs.declared.spot.Met.TheVariants.{Vertex}
use Rattle.dcel_records.specs.Spots.{met_of}
use Rattle.face_location.specs.Spots.{IsSpotOf}
use Rattle.told_steps.specs.VertexMade.{pairs_at}
use Rattle.zone_walk.specs.declared.plan.Meeting.{Meeting}
use Rattle.zone_walk.specs.declared.plan.ZonePlan.{ZonePlan}
use Rattle.zone_walk.specs.Zone.{is_on_segment, points_of_meetings}
use Rattle.segment_insert.specs.declared.insertion.InsertError.{InsertError}
use Rattle.segment_insert.specs.declared.insertion.InsertError.TheVariants.{Full, Spent, NoMemory}

-- the refusal that an error stands for; want of memory is none (this project)
abbrev pub insert_said : InsertError → Option Refusal
insert_said (Full limit) = Some (Passed limit)
insert_said Spent = Some LastDrawn
insert_said NoMemory = None

-- why the layer of records and history refuses one more curve of so many sides (this project)
abbrev pub refusal_of_sides : ℕ → ℕ → ℕ → RecordsView → Past → Option Refusal
refusal_of_sides sides curves pieces r p = insertion_refusal sides curves pieces LAST_CURVE (layer_at r p)

-- why it refuses one more segment (this project)
abbrev pub refusal_at : ℕ → ℕ → RecordsView → Past → Option Refusal
refusal_at curves pieces r p = refusal_of_sides 1 curves pieces r p

-- the meetings ascend, each with the spot where it lies (this project)
pub record AreMeetings (v : View) (f : Faces) (ms : List Meeting) : Type 0 where
  pub ascend : IsAscending point_cmp (points_of_meetings ms)
  pub spots : (m : Meeting) → Contains ms m → IsSpotOf v f m.point m.spot

-- each meeting is a vertex, told by its name (this project)
abbrev pub IsNamedVertex : View → Meeting → Type 0
IsNamedVertex v m = (w : _) × ((met_of m.spot) ≡ Vertex w) × HasVertex v w × (point_in v w ≡ m.point)

pub record AreVertices (v : View) (ms : List Meeting) : Type 0 where
  pub ascend : IsAscending point_cmp (points_of_meetings ms)
  pub named : (m : Meeting) → Contains ms m → IsNamedVertex v m

-- every vertex on the segment is among the points (this project)
abbrev pub AreAllOn : View → Segment → List Point → Type 0
AreAllOn v s ps = (w : _) → HasVertex v w → is_on_segment s (point_in v w) ≡ true → Member (point_in v w) ps

-- how many pairs of an edge and a side of a curve come with the splits: the sides along each edge that is split, on its new part
abbrev pub pairs_to_part : Curves → List Meeting → ℕ
pairs_to_part h [] = 0
pairs_to_part h (m ∷ ms) = pairs_at h (met_of m.spot) + pairs_to_part h ms

-- without memory there is this room, room for one more name and for so many more pieces, and for the pairs that come where edges have these sides of curves: those of the splits, and so many more on the sides' own edges (this project)
pub record HasRoomFor (room : Room) (ms : List Meeting) (sides more : ℕ) (h : Curves) (r : RecordsView) (p : Past) : Type 0 where
  pub vertices : room.vertices ≤ r.spare_vertices
  pub darts : 2 * room.edges ≤ r.spare_darts
  pub cycles : room.cycles ≤ r.faces.spare_cycles
  pub faces : room.faces ≤ r.faces.spare_faces
  pub names : 1 ≤ p.spare_names
  pub pieces : sides ≤ p.spare_pieces
  pub pairs : more + pairs_to_part h ms ≤ p.spare_pairs

-- there is room for what the plan of a segment makes (this project)
abbrev pub HasRoomForPlan : ZonePlan → Curves → RecordsView → Past → Type 0
HasRoomForPlan z h r p = HasRoomFor z.room z.vertices 1 (length z.vertices) h r p

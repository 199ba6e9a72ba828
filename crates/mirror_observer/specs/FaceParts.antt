-- What a mirror makes of cycles and faces where an edge comes or goes: what it can write while the darts are as they were, and what waits until they
-- are as they will be, since a walk along a new cycle reads them.
use Rattle.std.specs.Prelude.{◌≡◌, ◌≢◌, ℕ, List, Option, Some, None}
use Rattle.std.specs.Option.{option_map}
use Rattle.slab_laws.specs.declared.names.CycleId.{CycleId}
use Rattle.slab_laws.specs.declared.names.CycleKind.TheVariants.{Inner, Outer}
use Rattle.slab_laws.specs.declared.names.DartId.{DartId}
use Rattle.slab_laws.specs.declared.names.VertexId.{VertexId}
use Rattle.slab_laws.specs.FacesSound.{IsSound}
use Rattle.slab_laws.specs.View.{View, Faces, HasDart, source_in, twin_in, cycle_in, face_in}
use Rattle.arr_notes.specs.FaceSteps.{step_faces, new_hole, grows, joins, vanishes, shrinks, unites}
use Rattle.arr_notes.specs.FacesTold.{bare_end, bared_end}
use Rattle.arr_notes.specs.FaceWriters.{on_cycle, off_cycles, with_cycle, with_face, orbit_on, moved_to}
use Rattle.arr_notes.specs.ViewChanges.{no_rows}
use Rattle.arr_notes.specs.declared.faces.Linked.{Linked}
use Rattle.arr_notes.specs.declared.faces.Linked.TheVariants.{NewHole, Grows, Joins, Splits}
use Rattle.arr_notes.specs.declared.faces.Unlinked.{Unlinked}
use Rattle.arr_notes.specs.declared.faces.Unlinked.TheVariants.{Vanishes, Shrinks, Breaks, Unites}
use Rattle.mirror_observer.specs.declared.tables.DartEntry.{DartEntry}
use Rattle.mirror_observer.specs.declared.tables.VertexEntry.{VertexEntry}
use Rattle.mirror_observer.specs.Tables.{graph_of, darts_of}

-- ---- an edge that comes
abbrev pub linked_first : DartId → DartId → VertexId → VertexId → Option DartId → Linked → Faces → Faces
linked_first d m u v at_u (NewHole cycle face) f = step_faces no_rows f (new_hole d m u v cycle face)
linked_first d m u v at_u (Grows cycle) f = step_faces no_rows f (grows d m (bare_end at_u u v) cycle)
linked_first d m u v at_u (Joins kept gone) f = step_faces no_rows f (joins d m kept gone)
linked_first d m u v at_u (Splits kept fresh fresh_dart fresh_face moved) f = on_cycle m kept (on_cycle d kept f)

abbrev pub linked_then : View → Linked → Faces → Faces
linked_then w (NewHole cycle face) f = f
linked_then w (Grows cycle) f = f
linked_then w (Joins kept gone) f = f
linked_then w (Splits kept fresh fresh_dart fresh_face moved) f = moved_to moved.cycles moved.vertices fresh_face (with_cycle fresh Outer fresh_face (with_face fresh_face (orbit_on w fresh_dart fresh f)))

-- ---- an edge that goes
abbrev pub unlinked_first : View → DartId → Unlinked → Faces → Faces
unlinked_first v d (Vanishes cycle face) f = step_faces no_rows f (vanishes d (twin_in v d) (source_in v d) (source_in v (twin_in v d)) cycle face)
unlinked_first v d (Shrinks cycle face) f = step_faces no_rows f (shrinks d (twin_in v d) (bared_end v d) cycle face)
unlinked_first v d (Breaks kept fresh fresh_dart) f = off_cycles (twin_in v d) (off_cycles d f)
unlinked_first v d (Unites kept gone gone_face moved) f = step_faces no_rows f (unites d (twin_in v d) kept gone gone_face moved.cycles moved.vertices)

abbrev pub unlinked_then : View → Unlinked → Faces → Faces
unlinked_then w (Vanishes cycle face) f = f
unlinked_then w (Shrinks cycle face) f = f
unlinked_then w (Breaks kept fresh fresh_dart) f = with_cycle fresh Inner (face_in f kept) (orbit_on w fresh_dart fresh f)
unlinked_then w (Unites kept gone gone_face moved) f = f

-- ---- where the darts of a cycle are looked for
-- with some vertices the darts are a sound graph, and these its cycles and faces
abbrev pub AreFacesSound : List (ℕ × DartEntry) → Faces → Type 0
AreFacesSound ds f = (vs : List (ℕ × VertexEntry)) × IsSound (graph_of vs ds) f

-- the dart that comes in before a place, where there is one
abbrev pub before_place : View → Option DartId → Option DartId
before_place v at = option_map (twin_in v) at

-- where neither is a dart on the cycle, no dart is
abbrev pub IsFoundAt : List (ℕ × DartEntry) → Faces → CycleId → Option DartId → Option DartId → Type 0
IsFoundAt ds f cycle first second = ((d : DartId) → first ≡ Some d → cycle_in f d ≢ cycle) → ((d : DartId) → second ≡ Some d → cycle_in f d ≢ cycle) → (k : DartId) → HasDart (darts_of ds) k → cycle_in f k ≢ cycle

-- and what is such a dart has an entry
abbrev pub HasEntry : List (ℕ × DartEntry) → Option DartId → Type 0
HasEntry ds None = Unit {0}
HasEntry ds (Some d) = HasDart (darts_of ds) d

-- a cycle that goes is at one of the places
abbrev pub AreJoinedAt : List (ℕ × DartEntry) → Faces → Option DartId → Option DartId → Linked → Type 0
AreJoinedAt ds f first second (Joins kept gone) = IsFoundAt ds f gone first second
AreJoinedAt ds f first second other = Unit {0}

-- a cycle that goes is that of one of the darts
abbrev pub AreUnitedAt : List (ℕ × DartEntry) → Faces → DartId → DartId → Unlinked → Type 0
AreUnitedAt ds f d m (Unites kept gone gone_face moved) = IsFoundAt ds f gone (Some d) (Some m)
AreUnitedAt ds f d m other = Unit {0}

-- What each change makes of the tables of cycles and faces.
use Rattle.std.specs.Prelude.{List, [], ◌∷◌}
use Rattle.slab_laws.specs.declared.names.CycleId.{CycleId}
use Rattle.slab_laws.specs.declared.names.CycleKind.TheVariants.{Inner, Outer}
use Rattle.slab_laws.specs.declared.names.DartId.{DartId}
use Rattle.slab_laws.specs.declared.names.FaceId.{FaceId}
use Rattle.slab_laws.specs.declared.names.VertexId.{VertexId}
use Rattle.slab_laws.specs.View.{View, Faces, cycle_in, face_in}
use Rattle.arr_notes.specs.FaceWriters.{on_cycle, off_cycles, bare_in, not_bare, with_cycle, without_cycle, with_face, without_face, recycled, orbit_on, moved_to}

-- the part of a change that speaks of cycles and faces: all names that it takes, whichever view they were read in;
-- u and v are the ends of the edge, d and m its darts (CGAL manual, `Arr_observer`: what is notified of faces and boundaries; the list is this project's)
pub data FaceChange : Type 0 where
  comes_bare : VertexId → FaceId → FaceChange
  goes_bare : VertexId → FaceChange
  in_two : (d t n m : DartId) → FaceChange
  in_one : (n m : DartId) → FaceChange
  new_hole : (d m : DartId) (u v : VertexId) → CycleId → FaceId → FaceChange
  grows : (d m : DartId) (bare : VertexId) → CycleId → FaceChange
  joins : (d m : DartId) (kept gone : CycleId) → FaceChange
  splits : (d m : DartId) (kept fresh : CycleId) (fresh_dart : DartId) (fresh_face : FaceId) → List CycleId → List VertexId → FaceChange
  vanishes : (d m : DartId) (u v : VertexId) → CycleId → FaceId → FaceChange
  shrinks : (d m : DartId) (bare : VertexId) → CycleId → FaceId → FaceChange
  breaks : (d m : DartId) (kept fresh : CycleId) (fresh_dart : DartId) → FaceChange
  unites : (d m : DartId) (kept gone : CycleId) (gone_face : FaceId) → List CycleId → List VertexId → FaceChange
  cleared : FaceId → FaceChange
  as_it_was : FaceChange

-- the tables after the change; w is the view after it, which is read for the orbit of the fresh dart alone (this project)
abbrev pub step_faces : View → Faces → FaceChange → Faces
-- an isolated vertex, and an edge in two: n and m, of the new part, are on the cycles of d and of its twin t
step_faces w f (comes_bare u face) = bare_in u face f
step_faces w f (goes_bare u) = not_bare u f
step_faces w f (in_two d t n m) = on_cycle m (cycle_in f t) (on_cycle n (cycle_in f d) f)
step_faces w f (in_one n m) = off_cycles m (off_cycles n f)
-- an edge that comes
step_faces w f (new_hole d m u v cycle face) = on_cycle m cycle (on_cycle d cycle (with_cycle cycle Inner face (not_bare v (not_bare u f))))
step_faces w f (grows d m u cycle) = on_cycle m cycle (on_cycle d cycle (not_bare u f))
step_faces w f (joins d m kept gone) = without_cycle gone (recycled gone kept (on_cycle m kept (on_cycle d kept f)))
step_faces w f (splits d m kept fresh fresh_dart fresh_face cycles vertices) =
    moved_to cycles vertices fresh_face (with_cycle fresh Outer fresh_face (with_face fresh_face (orbit_on w fresh_dart fresh (on_cycle m kept (on_cycle d kept f)))))
-- an edge that goes
step_faces w f (vanishes d m u v cycle face) = bare_in v face (bare_in u face (without_cycle cycle (off_cycles m (off_cycles d f))))
step_faces w f (shrinks d m u cycle face) = bare_in u face (off_cycles m (off_cycles d f))
step_faces w f (breaks d m kept fresh fresh_dart) = with_cycle fresh Inner (face_in f kept) (orbit_on w fresh_dart fresh (off_cycles m (off_cycles d f)))
step_faces w f (unites d m kept gone gone_face cycles vertices) =
    without_face gone_face (without_cycle gone (moved_to cycles vertices (face_in f kept) (recycled gone kept (off_cycles m (off_cycles d f)))))
-- all gone
step_faces w f (cleared face) = record { cycle_of = []; bare = []; cycles = []; faces = face.0 ∷ [] }
step_faces w f as_it_was = f

use Rattle.std.proofs.Common.{◌≡◌, [], drop}
use Rattle.arr_notes.specs.FaceWriters.{moved_to}
use Rattle.mirror_observer.specs.FaceTables.{faces_in}
use Rattle.mirror_observer.proofs.faces.FaceTables.move_vertices.Given as goal

-- those to come are still to move
abbrev pub invariant-loop-v : goal.invariant-loop-v
invariant-loop-v l = moved_to [] (drop l.v-index l.list) l.face (faces_in l.self) ≡ moved_to [] l.list l.face (faces_in l.fn.self)

use Rattle.std.proofs.Common.{◌≡◌, [], drop}
use Rattle.arr_notes.specs.FaceWriters.{moved_to}
use Rattle.mirror_observer.specs.FaceTables.{faces_in}
use Rattle.mirror_observer.proofs.faces.FaceTables.move_cycles.Given as goal

-- those to come are still to move
abbrev pub invariant-loop-cycle : goal.invariant-loop-cycle
invariant-loop-cycle l = moved_to (drop l.cycle-index l.list) [] l.face (faces_in l.self) ≡ moved_to l.list [] l.face (faces_in l.fn.self)

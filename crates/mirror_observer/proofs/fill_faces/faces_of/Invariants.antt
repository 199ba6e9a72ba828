use Rattle.std.proofs.Common.{◌≡◌, take}
use Rattle.mirror_observer.proofs.FillingFaces.{face_numbers}
use Rattle.mirror_observer.proofs.fill_faces.faces_of.Given as goal

abbrev pub invariant-loop-face : goal.invariant-loop-face
invariant-loop-face l = l.faces.keys ≡ face_numbers (take l.face-index l.list)

use Rattle.std.proofs.Common.{◌≡◌, flat_map, take}
use Rattle.mirror_observer.proofs.FillingFaces.{bare_in_row}
use Rattle.mirror_observer.proofs.fill_faces.faces_of_vertices.Given as goal

abbrev pub invariant-loop-row : goal.invariant-loop-row
invariant-loop-row l = l.bare.entries ≡ flat_map bare_in_row (take l.row-index l.list)

use Rattle.std.proofs.Common.{◌≡◌, take, filter}
use Rattle.slab_laws.specs.View.{cycle_in}
use Rattle.subdivision_rows.specs.Listed.{faces_of}
use Rattle.listed_faces.specs.Boundaries.{bounds}
use Rattle.listed_faces.proofs.boundaries.boundaries_of.Given as goal

-- those of the darts so far that are on boundaries of the face
abbrev pub invariant-boundaries : goal.invariant-boundaries
invariant-boundaries l = l.found.items ≡ filter (λ d. bounds (faces_of l.rows) l.face l.kind (cycle_in (faces_of l.rows) d)) (take l.dart-index l.dart-items)

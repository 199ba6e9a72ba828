use Rattle.std.proofs.Common.{◌≡◌, List}
use Rattle.slab_laws.specs.declared.names.DartId.{DartId}
use Rattle.locate_landmarks.proofs.Along.{IsAlongTo}
use Rattle.locate_landmarks.proofs.horizontal.go_along.Given as goal

-- the way so far, of which the last face is still to be looked at
abbrev pub invariant-faces : goal.invariant-faces
invariant-faces g l = (l.ahead.course.now ≡ l.course) × ((ds : List DartId) × IsAlongTo l.glance l.course l.fn.first l.fn.steps ds l.face l.ahead.last l.steps)

use Rattle.std.proofs.Common.{◌≡◌, List}
use Rattle.slab_laws.specs.declared.names.DartId.{DartId}
use Rattle.dcel_records.specs.RecordsView.{tables_of}
use Rattle.locate_landmarks.specs.Lowest.{floor_in}
use Rattle.locate_landmarks.specs.Walks.{IsUnder}
use Rattle.locate_landmarks.proofs.Downward.{IsDownTo}
use Rattle.locate_landmarks.proofs.walk.go_upright.Given as goal

-- the way so far, of which the last face is still to be looked at
abbrev pub invariant-faces : goal.invariant-faces
invariant-faces g l = record {
  under : IsUnder l.glance.graph (tables_of l.glance) l.point l.face l.descent.lowest l.descent.entry;
  downward : l.descent.downward ≡ l.fn.downward;
  way : (ds : List DartId) × IsDownTo l.glance l.point l.fn.downward l.fn.first l.fn.steps ds l.face l.descent.lowest l.steps;
}

-- the edges of the slab that are below the lowest one above the point
abbrev pub decreases-faces : goal.decreases-faces
decreases-faces g l = floor_in l.glance.graph l.point l.descent.lowest

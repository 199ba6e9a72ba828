use Rattle.slab_laws.specs.View.{HasDart}
use Rattle.library_tour.proofs.walk.walk.Given as goal

-- the dart that is looked at has a record
abbrev pub invariant-boundary : goal.invariant-boundary
invariant-boundary g l = HasDart (g.R.Darts.graph l.records) l.dart

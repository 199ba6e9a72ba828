use Rattle.std.proofs.Common.{Bool}
use Rattle.slab_laws.specs.declared.names.DartId.{DartId}
use Rattle.slab_laws.specs.View.{next_in}
use Rattle.boundary_cycles.proofs.NamedWalks.{ways, IsWalked}
use Rattle.boundary_cycles.proofs.ExtentsMet.{AreCovered}
use Rattle.boundary_cycles.proofs.extents.extent_of.Given as goal

-- the walk stands before a dart, and the extent covers those met
abbrev pub invariant-cycle : goal.invariant-cycle
invariant-cycle g l =
    let v = g.R.Darts.graph l.records in
    (seen : DartId → Bool) × IsWalked v l.d l.dart seen × AreCovered v l.extent seen

abbrev pub decreases-cycle : goal.decreases-cycle
decreases-cycle g l = let v = g.R.Darts.graph l.records in ways v l.d (next_in v l.dart)

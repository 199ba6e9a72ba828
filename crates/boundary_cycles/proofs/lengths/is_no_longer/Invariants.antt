use Rattle.std.proofs.Common.{◌≡◌, Bool}
use Rattle.slab_laws.specs.declared.names.DartId.{DartId}
use Rattle.slab_laws.specs.View.{next_in}
use Rattle.boundary_cycles.proofs.LengthsMet.{met}
use Rattle.boundary_cycles.proofs.NamedWalks.{ways, IsWalked}
use Rattle.boundary_cycles.proofs.lengths.is_no_longer.Given as goal

-- both walks stand before a dart, and have met as many
abbrev pub invariant-both : goal.invariant-both
invariant-both g l =
    let v = g.R.Darts.graph l.records in
    (seen : DartId → Bool) × (other : DartId → Bool) × IsWalked v l.d l.first seen × IsWalked v l.e l.second other × (met v seen ≡ met v other)

abbrev pub decreases-both : goal.decreases-both
decreases-both g l = let v = g.R.Darts.graph l.records in ways v l.d (next_in v l.first)

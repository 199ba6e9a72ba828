use Rattle.std.proofs.Common.{◌≡◌, ◌+◌, Bool, true}
use Rattle.slab_laws.specs.declared.names.DartId.{DartId}
use Rattle.slab_laws.specs.View.{next_in}
use Rattle.boundary_cycles.proofs.LengthsMet.{met}
use Rattle.boundary_cycles.proofs.NamedWalks.{ways, more, IsWalked}
use Rattle.counted_looks.specs.declared.boundary_part.BoundaryPart.{BoundaryPart}
use Rattle.counted_looks.specs.declared.boundary_part.BoundaryPart.TheVariants.{Dart}
use Rattle.counted_looks.proofs.boundary.look_round.Given as goal

-- the darts that the walk has met and the last one, after which it stands, were looked at, a step each but for the first
abbrev pub invariant-round : goal.invariant-round
invariant-round g l =
    let v = g.S.NameCalls.graph l.sight in
    (last : DartId)
    × (passed : DartId → Bool)
    × record {
      next : l.dart ≡ next_in v last;
      walked : IsWalked v l.fn.first last passed;
      kept : (k : _) → g.K.Looker.may_look v k l.fn.looker → g.K.Looker.may_look v k l.looker;
      still : (t : BoundaryPart) → g.K.Looker.has_seen v l.fn.looker t → g.K.Looker.has_seen v l.looker t;
      seen : (d : DartId) → more last passed d ≡ true → g.K.Looker.has_seen v l.looker (Dart d);
      count : l.steps ≡ l.fn.steps + met v passed;
    }

abbrev pub decreases-round : goal.decreases-round
decreases-round g l = ways (g.S.NameCalls.graph l.sight) l.fn.first l.dart

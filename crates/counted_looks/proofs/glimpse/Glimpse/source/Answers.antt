use Rattle.std.proofs.Common.{sym, subst}
use Rattle.slab_laws.specs.View.{HasVertex}
use Rattle.counted_looks.proofs.glimpse.Glimpse.source.Goals as goal

pub point-requires : goal.point-requires
point-requires c = subst (HasVertex c.self.inside.records.now.graph) (sym c.source.ensures) (c.laws.ensures.sources c.self.inside.dart c.self.invariant)

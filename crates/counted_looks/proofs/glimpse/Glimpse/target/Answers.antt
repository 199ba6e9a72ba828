use Rattle.std.proofs.Common.{sym, subst}
use Rattle.slab_laws.specs.View.{HasVertex, twin_in}
use Rattle.counted_looks.proofs.glimpse.Glimpse.target.Goals as goal

pub point-requires : goal.point-requires
point-requires c =
    let v = c.self.inside.records.now.graph in
    subst (HasVertex v) (sym c.target.ensures) (c.laws.ensures.sources (twin_in v c.self.inside.dart) (c.laws.ensures.twinned.has c.self.inside.dart c.self.invariant))

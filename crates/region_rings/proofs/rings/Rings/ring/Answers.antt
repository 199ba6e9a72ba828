use Rattle.std.proofs.Common.{ℕ, List, length, sym, subst}
use Rattle.exact_plane.specs.Point.{Point}
use Rattle.region_rings.specs.Cycles.{AreCut}
use Rattle.region_rings.proofs.rings.Rings.ring.Goals as goal

pub ring_in-requires-clause-cut : goal.ring_in-requires-clause-cut
ring_in-requires-clause-cut c =
    subst (λ (ps : List Point). AreCut (length ps) c.deref-2.result.now) (sym c.deref.ensures.value)
    (subst (λ (xs : List ℕ). AreCut (length c.self.inside.points.items) xs) (sym c.deref-2.ensures.value) c.self.invariant.cut)

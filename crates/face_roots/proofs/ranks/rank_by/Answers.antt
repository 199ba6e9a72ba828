use Rattle.std.proofs.Common.{subst, sym, refl}
use Rattle.face_roots.specs.CycleRanks.{IsAboveOf}
use Rattle.face_roots.proofs.ranks.rank_by.Goals as goal

pub rank_at-requires : goal.rank_at-requires
rank_at-requires c = c.requires c.in-Above.place (subst (λ r. IsAboveOf r c.in-Above.place) (sym c.in-Above.is) refl)

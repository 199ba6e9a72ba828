use Rattle.std.proofs.Common.{subst, IfSome, IfNone}
use Rattle.slab_laws.specs.View.{IsOutOf}
use Rattle.slab_laws.specs.declared.names.DartId.{DartId}
use Rattle.mirror_observer.proofs.DartsOut.{outs_found, outs_missed}
use Rattle.mirror_observer.proofs.seen.SeenDarts.out_of.Goals as goal

pub returns-clause-some : goal.returns-clause-some
returns-clause-some c = subst (λ w. IfSome c.out_at.result (IsOutOf w.graph c.args.v)) c.self.view_is (outs_found c.self.inside.tables.now c.self.inside.outs.entries c.self.invariant.1 c.args.v c.out_at.result c.out_at.ensures)

pub returns-clause-none : goal.returns-clause-none
returns-clause-none c = subst (λ w. IfNone c.out_at.result ((d : DartId) → ¬ IsOutOf w.graph c.args.v d)) c.self.view_is (outs_missed c.self.inside.tables.now c.self.inside.outs.entries c.self.invariant.1 c.args.v c.out_at.result c.out_at.ensures)

use Rattle.std.proofs.Common.{sym, subst}
use Rattle.slab_laws.specs.View.{HasDart}
use Rattle.counted_looks.proofs.looker.Looker.look_at_cycle.Goals as goal

pub look-requires-clause-at : goal.look-requires-clause-at
look-requires-clause-at g c = subst (HasDart (g.S.NameCalls.graph c.args.sight.now)) (sym c.dart_on.ensures) (c.requires.darts c.args.cycle c.requires.cycle).0

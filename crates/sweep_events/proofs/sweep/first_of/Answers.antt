use Rattle.std.proofs.Common.{refl}
use Rattle.sweep_events.proofs.FirstPoint.{first_key, no_key}
use Rattle.sweep_events.proofs.sweep.first_of.Goals as goal

pub returns-in_default-clause-none : goal.returns-in_default-clause-none
returns-in_default-clause-none c = no_key c.args.queue.now.keys c.in_default.ensures.variant.1

pub returns-clause-some : goal.returns-clause-some
returns-clause-some c = let e = c.in-Some.ensures in first_key c.args.queue.now.keys c.in-Some.first.now e.first (e.variant.0 refl) e.all_from

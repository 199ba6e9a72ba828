use Rattle.std.proofs.Common.{subst}
use Rattle.sweep_events.specs.Begun.{queue_of}
use Rattle.sweep_events.specs.Sweep.{Swept, HasStatus, HasSlab}
use Rattle.sweep_events.proofs.Exchanged.{has_slab}
use Rattle.sweep_events.proofs.sweep.Sweep.status.Goals as goal

pub returns-clause-status : goal.returns-clause-status
returns-clause-status c = subst (λ (u : Swept). HasStatus u) c.self.view_is c.self.invariant.1.status

pub returns-clause-slab : goal.returns-clause-slab
returns-clause-slab c = subst (λ (u : Swept). HasSlab u) c.self.view_is (has_slab (record { pieces = c.self.inside.pieces.items; pins = c.self.inside.pins.items; last = c.self.inside.last; status = c.self.inside.status.items }) (queue_of c.self.inside.queue.keys c.self.inside.starts.items c.self.inside.begun) c.self.invariant.1)

use Rattle.std.proofs.Common.{length, ap}
use Rattle.sweep_graphs.proofs.TraceLists.{bound_by}
use Rattle.sweep_graphs.proofs.trace.Tracer.note.Goals as goal

pub add_stretches-requires : goal.add_stretches-requires
add_stretches-requires c = bound_by c.args.event.now.ends c.as_slice.result.now (length c.args.self.now.lasts.items) (length c.deref.result.now) c.as_slice.ensures (ap length c.deref.ensures.value) c.requires.ends

pub add_stretches-requires-2 : goal.add_stretches-requires-2
add_stretches-requires-2 c = bound_by c.args.event.now.passes c.as_slice-2.result.now (length c.args.self.now.lasts.items) (length c.deref-2.result.now) c.as_slice-2.ensures (ap length c.deref-2.ensures.value) c.requires.passes

pub set_lasts-requires : goal.set_lasts-requires
set_lasts-requires c = bound_by c.args.event.now.passes c.as_slice-3.result.now (length c.args.self.now.lasts.items) (length c.args.self.now.lasts.items) c.as_slice-3.ensures (λ i. length c.args.self.now.lasts.items) c.requires.passes

pub set_lasts-requires-2 : goal.set_lasts-requires-2
set_lasts-requires-2 c = bound_by c.args.event.now.starts c.as_slice-4.result.now (length c.args.self.now.lasts.items) (length c.set_lasts.new.lasts.items) c.as_slice-4.ensures c.set_lasts.ensures.length c.requires.starts

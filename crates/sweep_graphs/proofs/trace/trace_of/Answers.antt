use Rattle.std.proofs.Common.{◌∙◌}
use Rattle.sweep_graphs.specs.Traces.{traced_of}
use Rattle.sweep_graphs.proofs.Tracing.{ends_within, starts_within, passes_within, below_within, traced_here, traced_over, over_of}
use Rattle.sweep_graphs.proofs.trace.trace_of.Goals as goal

pub note-requires-clause-ends : goal.note-requires-clause-ends
note-requires-clause-ends c = ends_within c.args.pieces.now c.args.pins.now c.in_ok-sweep.ensures.spans c.loop-tracer.sweep c.next_event.new.self (traced_of c.loop-tracer.tracer) c.loop-tracer.invariant.pieces c.loop-tracer.invariant.pins c.loop-tracer.invariant.traced c.in_ok-event.field-0 c.in-Some.event c.in-Some.is c.in_ok-event.ensures.next

pub note-requires-clause-starts : goal.note-requires-clause-starts
note-requires-clause-starts c = starts_within c.args.pieces.now c.args.pins.now c.in_ok-sweep.ensures.spans c.loop-tracer.sweep c.next_event.new.self (traced_of c.loop-tracer.tracer) c.loop-tracer.invariant.pieces c.loop-tracer.invariant.pins c.loop-tracer.invariant.traced c.in_ok-event.field-0 c.in-Some.event c.in-Some.is c.in_ok-event.ensures.next

pub note-requires-clause-passes : goal.note-requires-clause-passes
note-requires-clause-passes c = passes_within c.args.pieces.now c.args.pins.now c.in_ok-sweep.ensures.spans c.loop-tracer.sweep c.next_event.new.self (traced_of c.loop-tracer.tracer) c.loop-tracer.invariant.pieces c.loop-tracer.invariant.pins c.loop-tracer.invariant.traced c.in_ok-event.field-0 c.in-Some.event c.in-Some.is c.in_ok-event.ensures.next

pub note-requires-clause-below : goal.note-requires-clause-below
note-requires-clause-below c = below_within c.args.pieces.now c.args.pins.now c.in_ok-sweep.ensures.spans c.loop-tracer.sweep c.next_event.new.self (traced_of c.loop-tracer.tracer) c.loop-tracer.invariant.pieces c.loop-tracer.invariant.pins c.loop-tracer.invariant.traced c.in_ok-event.field-0 c.in-Some.event c.in-Some.is c.in_ok-event.ensures.next c.in_ok-event.ensures.moves c.next_event.ensures.stays.0 c.below.result c.below.ensures

pub loop-tracer-preserved : goal.loop-tracer-preserved
loop-tracer-preserved c = record {
  pieces = c.next_event.ensures.stays.0 ∙ c.loop-tracer.invariant.pieces;
  pins = c.next_event.ensures.stays.1 ∙ c.loop-tracer.invariant.pins;
  traced = traced_here c.args.pieces.now c.args.pins.now c.in_ok-sweep.ensures.spans c.loop-tracer.sweep c.next_event.new.self (traced_of c.loop-tracer.tracer) c.loop-tracer.invariant.pieces c.loop-tracer.invariant.pins c.loop-tracer.invariant.traced c.in_ok-event.field-0 c.in-Some.event c.in-Some.is c.in_ok-event.ensures.next c.in_ok-event.ensures.moves c.next_event.ensures.stays.0 c.below.result c.below.ensures (traced_of c.note.new.self) c.in_ok-note.ensures;
}

pub returns : goal.returns
returns c =
    traced_over c.args.pieces.now c.args.pins.now c.loop-tracer.sweep (traced_of c.loop-tracer.tracer) c.loop-tracer.invariant.pieces c.loop-tracer.invariant.pins c.loop-tracer.invariant.traced
    (over_of c.loop-tracer.sweep c.next_event.new.self c.in_ok-event.field-0 c.in_default.is c.in_ok-event.ensures.none)

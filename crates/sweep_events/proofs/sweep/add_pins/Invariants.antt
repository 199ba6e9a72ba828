use Rattle.sweep_events.specs.FirstQueue.{HasPins}
use Rattle.sweep_events.proofs.sweep.add_pins.Given as goal

abbrev pub invariant-loop-pin : goal.invariant-loop-pin
invariant-loop-pin l = HasPins l.pins l.pin-index l.fn.queue.keys l.queue.keys

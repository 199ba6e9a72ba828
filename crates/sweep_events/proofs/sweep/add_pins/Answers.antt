use Rattle.sweep_events.proofs.FirstQueue.{pins_more}
use Rattle.sweep_events.proofs.sweep.add_pins.Goals as goal

pub loop-pin-preserved : goal.loop-pin-preserved
loop-pin-preserved c = pins_more c.args.pins.now c.loop-pin.pin-index c.pin-item.result c.args.queue.now.keys c.loop-pin.queue.keys c.insert.new.self.keys c.loop-pin-test.true c.pin-item.is c.laws.ensures c.loop-pin.invariant c.in_ok-insert.ensures.keys

use Rattle.plane_graphs.proofs.Loops.{mapped, all_mapped}
use Rattle.sweep_events.specs.declared.places.PlacedLine.{PlacedLine}
use Rattle.sweep_events.proofs.places.fill_places.Goals as goal

pub loop-line-preserved : goal.loop-line-preserved
loop-line-preserved c = mapped (λ (s : PlacedLine). s.place) c.args.lines.now c.loop-line.line-index c.line-item.result c.loop-line.places.items _ c.loop-line-test.true c.line-item.is c.loop-line.invariant c.in_ok-push.ensures.items

pub returns : goal.returns
returns c = all_mapped (λ (s : PlacedLine). s.place) c.args.lines.now c.loop-line.line-index c.loop-line.places.items c.loop-line-test.false c.loop-line.invariant

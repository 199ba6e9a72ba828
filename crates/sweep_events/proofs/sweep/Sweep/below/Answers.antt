use Rattle.sweep_events.specs.Sweep.{Swept}
use Rattle.sweep_events.proofs.PieceBelow.{none_kept, highest_kept}
use Rattle.sweep_events.proofs.sweep.Sweep.below.Goals as goal

pub returns-then-self-eq0 : goal.returns-then-self-eq0
returns-then-self-eq0 c =
    let s : Swept = record { pieces = c.self.inside.pieces.items; pins = c.self.inside.pins.items; last = c.self.inside.last; status = c.self.inside.status.items } in
    none_kept s c.args.self.now c.self.view_is c.self.invariant.1.status c.self.inside.below c.self.invariant.0.2 c.if-self-eq0.true

pub returns : goal.returns
returns c =
    let s : Swept = record { pieces = c.self.inside.pieces.items; pins = c.self.inside.pins.items; last = c.self.inside.last; status = c.self.inside.status.items } in
    highest_kept s c.args.self.now c.self.view_is c.self.invariant.1.status c.self.inside.below c.self.invariant.0.2 c.index.result.now c.if-self-eq0.false c.index.ensures

use Rattle.arrangement.proofs.overlaid.Overlay.laws.Goals as goal

pub returns : goal.returns
returns c = rw (← c.self.view_is) (record { stands = c.self.invariant })

use Rattle.overlay_sweep.proofs.known.is_cut.Goals as goal

pub returns : goal.returns
returns c = λ h. (c.stands_before.ensures c.if-not-stands_before.false, c.stands_beyond.ensures h)

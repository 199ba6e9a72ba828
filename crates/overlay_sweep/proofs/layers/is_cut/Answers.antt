use Rattle.overlay_sweep.proofs.layers.is_cut.Goals as goal

pub returns : goal.returns
returns c = λ h. (c.stands_upto.ensures c.if-not-stands_upto.false, c.stands_beyond.ensures h)

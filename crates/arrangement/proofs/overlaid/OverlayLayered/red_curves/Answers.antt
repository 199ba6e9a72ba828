use Rattle.arrangement.proofs.overlaid.OverlayLayered.red_curves.Goals as goal

pub returns-clause-ascend : goal.returns-clause-ascend
returns-clause-ascend c = rw (← c.self.view_is) c.red_curves.ensures.ascend

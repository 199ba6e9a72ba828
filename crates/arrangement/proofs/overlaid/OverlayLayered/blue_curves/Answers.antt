use Rattle.arrangement.proofs.overlaid.OverlayLayered.blue_curves.Goals as goal

pub returns-clause-ascend : goal.returns-clause-ascend
returns-clause-ascend c = rw (← c.self.view_is) c.blue_curves.ensures.ascend

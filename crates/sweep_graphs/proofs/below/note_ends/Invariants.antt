use Rattle.sweep_graphs.proofs.below.note_ends.Given as goal

abbrev pub decreases-ends : goal.decreases-ends
decreases-ends l = l.place

use Rattle.arrangement.proofs.arrangement.Arrangement.round.Goals as goal

pub new-requires-clause-sound : goal.new-requires-clause-sound
new-requires-clause-sound g c = c.self.invariant.0.sound

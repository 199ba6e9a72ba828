use Rattle.arrangement.proofs.arrangement.Arrangement.along.Goals as goal

pub new-requires-clause-sound : goal.new-requires-clause-sound
new-requires-clause-sound g c = c.self.invariant.1.0.map.sound

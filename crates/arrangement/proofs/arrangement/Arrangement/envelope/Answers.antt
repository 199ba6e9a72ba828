use Rattle.arrangement.proofs.arrangement.Arrangement.envelope.Goals as goal

pub envelope_of-requires-clause-sound : goal.envelope_of-requires-clause-sound
envelope_of-requires-clause-sound g c = c.self.invariant.1.0.map.sound

pub envelope_of-requires-clause-darts : goal.envelope_of-requires-clause-darts
envelope_of-requires-clause-darts g c = c.self.invariant.1.0.map.darts

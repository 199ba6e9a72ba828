use Rattle.arrangement.proofs.arrangement.Arrangement.vertical_parts.Goals as goal

pub parts-requires : goal.parts-requires
parts-requires g c = c.self.invariant.1.0.map

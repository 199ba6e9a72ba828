use Rattle.library_tour.proofs.walk.walk.Goals as goal

-- a dart that has a record leaves a vertex that has one
pub point-requires : goal.point-requires
point-requires g c = rw c.source.ensures (c.requires.sound.linked.source c.boundary.dart c.boundary.invariant)

-- and the dart that follows has a record too
pub boundary-preserved : goal.boundary-preserved
boundary-preserved g c = rw c.next-dart.ensures (c.requires.sound.linked.has c.boundary.dart c.boundary.invariant)

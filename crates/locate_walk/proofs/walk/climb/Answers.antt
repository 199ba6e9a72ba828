use Rattle.locate_walk.proofs.walk.climb.Goals as goal

pub returns-in-Some-clause-spot : goal.returns-in-Some-clause-spot
returns-in-Some-clause-spot g c = record { met = c.in-Some.ensures.vertex; face = tt }

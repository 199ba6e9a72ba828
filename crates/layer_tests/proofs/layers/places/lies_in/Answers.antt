use Rattle.layer_tests.proofs.layers.places.lies_in.Goals as goal

pub returns-in_err-locate : goal.returns-in_err-locate
returns-in_err-locate g c = record { watched = rw c.locate.ensures.same c.loop-strategy.invariant }

pub returns-then-ne : goal.returns-then-ne
returns-then-ne g c = record { watched = rw c.locate.ensures.same c.loop-strategy.invariant }

pub loop-strategy-preserved : goal.loop-strategy-preserved
loop-strategy-preserved g c = rw c.locate.ensures.same c.loop-strategy.invariant

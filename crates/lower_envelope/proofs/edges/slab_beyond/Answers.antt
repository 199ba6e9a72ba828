use Rattle.std.proofs.Common.{◌∙◌, sym}
use Rattle.lower_envelope.proofs.Numbers.{weight_at, told_by_place}
use Rattle.lower_envelope.proofs.edges.slab_beyond.Goals as goal

pub slab_of-requires-clause-at : goal.slab_of-requires-clause-at
slab_of-requires-clause-at c = weight_at c.args.points.now c.requires.order c.args.place c.index-points-place.result c.requires.place c.index-points-place.is

pub returns-then-is_last_on_wall : goal.returns-then-is_last_on_wall
returns-then-is_last_on_wall c = told_by_place c.args.points.now c.requires.order c.args.place c.requires.place (sym c.is_last_on_wall.ensures ∙ c.if-is_last_on_wall.true)

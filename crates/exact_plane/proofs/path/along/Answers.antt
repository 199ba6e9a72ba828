use Rattle.std.proofs.Common.{refl, arith}
use Rattle.exact_plane.proofs.PathLaws.{equal_neighbours, Joined-more, IsPadded-joined}
use Rattle.exact_plane.proofs.path.along.Goals as goal

pub returns-in_default-side : goal.returns-in_default-side
returns-in_default-side c = rw (equal_neighbours c.args.points.now c.loop-place.place _ _ _ (omega arith) c.in_default-side.ensures) refl

pub loop-place-preserved : goal.loop-place-preserved
loop-place-preserved c = Joined-more c.args.points.now c.loop-place.place c.loop-place.sides _ _ c.in-Some-side.side (omega arith) (omega (arith, c.requires.count.few)) c.in-Some-side.ensures c.loop-place.invariant

pub invariant_of-result : goal.invariant_of-result
invariant_of-result c = IsPadded-joined c.args.points.now c.loop-place.sides c.loop-place.place c.requires.count (omega (arith, c.requires.count.some, c.loop-place-test.false, c.loop-place.auto.place-end)) c.loop-place.invariant

use Rattle.std.proofs.Common.{refl, inl, inr}
use Rattle.std.proofs.lemmas.Int.{ints}
use Rattle.std.proofs.Common.{arith}
use Rattle.locate_landmarks.proofs.Nearest.{is_nearest}
use Rattle.locate_landmarks.proofs.grid.nearest.Goals as goal

pub returns-then-number-weight-clause-nearest : goal.returns-then-number-weight-clause-nearest
returns-then-number-weight-clause-nearest c = is_nearest c.args.number c.args.weight 0 (omega (arith, ints, c.requires.positive)) (omega arith) (inl refl) (inr (omega (arith, ints, c.if-number-weight.true)))

pub returns-then-number-weight-2-clause-nearest : goal.returns-then-number-weight-2-clause-nearest
returns-then-number-weight-2-clause-nearest c = is_nearest c.args.number c.args.weight 1 (omega (arith, ints, c.requires.positive)) (omega arith) (inr (omega (arith, ints, c.if-number-weight.false))) (inr (omega (arith, ints, c.if-number-weight-2.true)))

pub returns-then-number-weight-3-clause-nearest : goal.returns-then-number-weight-3-clause-nearest
returns-then-number-weight-3-clause-nearest c = is_nearest c.args.number c.args.weight 2 (omega (arith, ints, c.requires.positive)) (omega arith) (inr (omega (arith, ints, c.if-number-weight-2.false))) (inr (omega (arith, ints, c.if-number-weight-3.true)))

pub returns-then-number-weight-4-clause-nearest : goal.returns-then-number-weight-4-clause-nearest
returns-then-number-weight-4-clause-nearest c = is_nearest c.args.number c.args.weight 3 (omega (arith, ints, c.requires.positive)) (omega arith) (inr (omega (arith, ints, c.if-number-weight-3.false))) (inr (omega (arith, ints, c.if-number-weight-4.true)))

pub returns-then-number-weight-5-clause-nearest : goal.returns-then-number-weight-5-clause-nearest
returns-then-number-weight-5-clause-nearest c = is_nearest c.args.number c.args.weight 4 (omega (arith, ints, c.requires.positive)) (omega arith) (inr (omega (arith, ints, c.if-number-weight-4.false))) (inr (omega (arith, ints, c.if-number-weight-5.true)))

pub returns-then-number-weight-6-clause-nearest : goal.returns-then-number-weight-6-clause-nearest
returns-then-number-weight-6-clause-nearest c = is_nearest c.args.number c.args.weight 5 (omega (arith, ints, c.requires.positive)) (omega arith) (inr (omega (arith, ints, c.if-number-weight-5.false))) (inr (omega (arith, ints, c.if-number-weight-6.true)))

pub returns-else-number-weight-6-clause-nearest : goal.returns-else-number-weight-6-clause-nearest
returns-else-number-weight-6-clause-nearest c = is_nearest c.args.number c.args.weight 6 (omega (arith, ints, c.requires.positive)) (omega arith) (inr (omega (arith, ints, c.if-number-weight-6.false))) (inl refl)

use Rattle.std.proofs.Common.{◌≡◌, ◌<◌, ℕ, true}
use Rattle.locate_trapezoid.specs.Scattered.{is_marked, IsTaken}
use Rattle.locate_trapezoid.proofs.scatter.scattered.Given as goal

abbrev pub invariant-draws : goal.invariant-draws
invariant-draws l = IsTaken l.tests l.marks.items l.order.items

abbrev pub invariant-rest : goal.invariant-rest
invariant-rest l = record {
  taken : IsTaken l.tests l.marks.items l.order.items;
  marked : (j : ℕ) → j < l.place → is_marked l.marks.items j ≡ true;
}

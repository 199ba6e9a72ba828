use Rattle.std.proofs.Common.{◌≡◌, fold, map}
use Rattle.plain_slabs.specs.MetNumbers.{met}
use Rattle.plain_slabs.proofs.numbers.pass_backwards.Given as goal

abbrev pub invariant-loop-link : goal.invariant-loop-link
invariant-loop-link l = l.table ≡ fold met l.initial.table (map (λ m. m.now) l.yielded)

use Rattle.std.proofs.Common.{ap, set}
use Rattle.plain_slabs.specs.MetNumbers.{met}
use Rattle.plain_slabs.proofs.numbers.meet.Goals as goal

pub returns-clause-table : goal.returns-clause-table
unfolding met
returns-clause-table c = ap (λ m. set (set c.args.table.now c.args.link.now.one m) c.args.link.now.other m) c.min-low.ensures

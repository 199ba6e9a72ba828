use Rattle.std.proofs.Common.{arith, rules}
use Rattle.outside.proofs.Gives.{GivesCount-after}
use Rattle.outside.proofs.memory.MemorySourceSource.read.Goals as goal

pub returns-clause-bytes : goal.returns-clause-bytes
returns-clause-bytes c = GivesCount-after c.self.inside.bytes.items c.deref-2.result.now c.args.self.now.rest c.copy_from_slice.new.self c.args.buf.now c.self.inside.at c.min-count.result c.self.inside.chunk c.deref-2.ensures.value (search rules) c.self.invariant.1 (omega arith) c.copy_from_slice.ensures.after

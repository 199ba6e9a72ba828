-- a write that was interrupted appended nothing
use Rattle.std.specs.Io.KnownBytes.{Keeps}
use Rattle.outside.proofs.standard.write_past_signals.Given as goal

abbrev pub invariant-tries : goal.invariant-tries
invariant-tries g l = Keeps (g.W.Write.contents l.fn.writer) (g.W.Write.contents l.writer)

use Rattle.curve_history.specs.Cuts.{kept_whole}
use Rattle.curve_history.proofs.Walked.{IsWalked}
use Rattle.curve_history.proofs.cuts.remove_spent.Given as goal

abbrev pub invariant-each : goal.invariant-each
invariant-each l = IsWalked (kept_whole l.p l.q) l.fn.pieces l.pieces l.counter l.at

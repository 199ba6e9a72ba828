use Rattle.curve_history.proofs.Walked.{as_it_is, IsWalked}
use Rattle.curve_history.proofs.cuts.name_at.Given as goal

abbrev pub invariant-each : goal.invariant-each
invariant-each l = IsWalked as_it_is l.pieces l.pieces l.counter l.at

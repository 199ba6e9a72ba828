use Rattle.edit_steps.specs.Steps.{cut_piece}
use Rattle.curve_history.proofs.Walked.{IsWalked}
use Rattle.curve_history.proofs.cuts.cut_run.Given as goal

abbrev pub invariant-each : goal.invariant-each
invariant-each l = IsWalked (cut_piece l.p l.q) l.fn.pieces l.pieces l.counter l.at

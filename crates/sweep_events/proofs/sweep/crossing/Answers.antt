use Rattle.std.proofs.Common.{sym, ◌∙◌}
use Rattle.exact_plane.proofs.Meetings.{same_line-is}
use Rattle.sweep_events.proofs.QueueInserts.{none_is}
use Rattle.sweep_events.proofs.sweep.crossing.Goals as goal

pub returns-then-eq : goal.returns-then-eq
returns-then-eq c = none_is c.args.first.now c.args.second.now (sym c.line.ensures ∙ same_line-is c.line.result c.line-2.result (sym c.eq.ensures ∙ c.if-eq.true) ∙ c.line-2.ensures)

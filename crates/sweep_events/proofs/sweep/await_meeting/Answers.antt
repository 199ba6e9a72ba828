use Rattle.std.proofs.Common.{sym, ◌∙◌}
use Rattle.sweep_events.proofs.QueueInserts.{grown_by, there_by}
use Rattle.sweep_events.proofs.sweep.await_meeting.Goals as goal

pub returns-in_ok-insert-clause-grown : goal.returns-in_ok-insert-clause-grown
returns-in_ok-insert-clause-grown c = grown_by c.args.first.now c.args.second.now c.args.point.now c.in-Some.meeting c.crossing.result c.crossing.ensures c.in-Some.is (sym c.lt.ensures ∙ c.if-lt.true) c.args.queue.now.keys c.insert.new.self.keys c.in_ok-insert.ensures.keys

pub returns-in_ok-insert-clause-there : goal.returns-in_ok-insert-clause-there
returns-in_ok-insert-clause-there c = there_by c.args.first.now c.args.second.now c.args.point.now c.in-Some.meeting c.crossing.result c.crossing.ensures c.in-Some.is (sym c.lt.ensures ∙ c.if-lt.true) c.args.queue.now.keys c.insert.new.self.keys c.in_ok-insert.ensures.keys

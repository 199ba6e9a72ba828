use Rattle.present_graphs.proofs.Meets.{one_line, lines_differ, shared_by_one, shared_not_at, shared_at}
use Rattle.present_graphs.proofs.vertices.crossing.Goals as goal

pub returns-then-eq : goal.returns-then-eq
returns-then-eq c x =
    let s = c.args.first.now in
    let t = c.args.second.now in
    shared_by_one s t x (one_line s t c.line.result c.line-2.result c.line.ensures c.line-2.ensures c.eq.result c.eq.ensures c.if-eq.true)

pub returns-in-Apart : goal.returns-in-Apart
returns-in-Apart c x = shared_not_at c.args.first.now c.args.second.now x c.span_meeting.result c.span_meeting.ensures c.in-Apart.is

pub returns-in-At : goal.returns-in-At
returns-in-At c x =
    let s = c.args.first.now in
    let t = c.args.second.now in
    shared_at s t x c.in-At.point (lines_differ s t c.line.result c.line-2.result c.line.ensures c.line-2.ensures c.eq.result c.eq.ensures c.if-eq.false) c.in-At.ensures

use Rattle.std.specs.List.{splice}
use Rattle.sweep_events.specs.Seams.{MeetAtSeam, AreThere}
use Rattle.sweep_events.proofs.QueueInserts.{grown_both, there_stays, on_ok}
use Rattle.sweep_events.proofs.sweep.await_seams.Goals as goal

pub returns-clause-grown : goal.returns-clause-grown
returns-clause-grown c =
    let t = c.args.exchange.now in
    let Meets = MeetAtSeam c.args.pieces.now (splice c.args.status.now t.low t.high c.args.run.now) in
    grown_both (Meets t.low) (Meets t.top) c.args.point.now c.args.queue.now.keys c.await_seam.new.queue.keys c.await_seam-2.new.queue.keys c.await_seam.ensures.grown c.await_seam-2.ensures.grown

pub returns-clause-first : goal.returns-clause-first
returns-clause-first c =
    let t = c.args.exchange.now in
    let q = c.args.point.now in
    let Meets = MeetAtSeam c.args.pieces.now (splice c.args.status.now t.low t.high c.args.run.now) in
    let b = c.await_seam.new.queue.keys in
    let d = c.await_seam-2.new.queue.keys in
    on_ok c.await_seam-2.result (AreThere (Meets t.low) q d) (there_stays (Meets t.low) (Meets t.top) q c.args.queue.now.keys b d c.in_ok-await_seam.ensures.there c.await_seam-2.ensures.grown)

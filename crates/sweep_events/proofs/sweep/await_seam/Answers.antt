use Rattle.std.proofs.Common.{ℕ, ◌<◌, ◌-◌, arith, sym, ap, ◌∙◌, subst}
use Rattle.std.specs.List.{splice}
use Rattle.plane_graphs.specs.Ascending.{Member}
use Rattle.plane_graphs.proofs.Sorting.{member_at}
use Rattle.sweep_events.specs.Seams.{MeetAtSeam, AreThere}
use Rattle.sweep_events.specs.Places.{piece_at}
use Rattle.sweep_events.specs.Events.{AreMeeting}
use Rattle.sweep_events.proofs.QueueInserts.{got, seam_grown, seam_there, if_all_ok}
use Rattle.sweep_events.proofs.sweep.await_seam.Goals as goal

pub at_place-requires : goal.at_place-requires
at_place-requires c =
    let after = splice c.args.status.now c.args.exchange.now.low c.args.exchange.now.high c.args.run.now in
    let w = got after (c.args.seam - 1) c.in-Some.below (sym c.place_after.ensures ∙ c.in-Some.is) in
    c.requires.places c.in-Some.below (subst (λ (k : ℕ). Member k after) (sym w.1) (member_at after (c.args.seam - 1) 0 w.0))

pub at_place-requires-2 : goal.at_place-requires-2
at_place-requires-2 c =
    let after = splice c.args.status.now c.args.exchange.now.low c.args.exchange.now.high c.args.run.now in
    let w = got after c.args.seam c.in-Some-place_after.above (sym c.place_after-2.ensures ∙ c.in-Some-place_after.is) in
    c.requires.places c.in-Some-place_after.above (subst (λ (k : ℕ). Member k after) (sym w.1) (member_at after c.args.seam 0 w.0))

pub returns-clause-grown : goal.returns-clause-grown
returns-clause-grown c =
    let ps = c.args.pieces.now in
    let after = splice c.args.status.now c.args.exchange.now.low c.args.exchange.now.high c.args.run.now in
    let v = got after (c.args.seam - 1) c.in-Some.below (sym c.place_after.ensures ∙ c.in-Some.is) in
    let w = got after c.args.seam c.in-Some-place_after.above (sym c.place_after-2.ensures ∙ c.in-Some-place_after.is) in
    let first : 0 < c.args.seam = (let a = c.if-seam-eq0.false in omega (arith, a)) in
    seam_grown ps after c.args.seam c.args.point.now c.at_place.result.now c.at_place-2.result.now c.args.queue.now.keys c.await_meeting.new.queue.keys first w.0 (c.at_place.ensures ∙ ap (piece_at ps) v.1) (c.at_place-2.ensures ∙ ap (piece_at ps) w.1) c.await_meeting.ensures.grown

pub returns-clause-there : goal.returns-clause-there
returns-clause-there c =
    let ps = c.args.pieces.now in
    let q = c.args.point.now in
    let after = splice c.args.status.now c.args.exchange.now.low c.args.exchange.now.high c.args.run.now in
    let new = c.await_meeting.new.queue.keys in
    let v = got after (c.args.seam - 1) c.in-Some.below (sym c.place_after.ensures ∙ c.in-Some.is) in
    let w = got after c.args.seam c.in-Some-place_after.above (sym c.place_after-2.ensures ∙ c.in-Some-place_after.is) in
    if_all_ok c.await_meeting.result (AreThere (AreMeeting c.at_place.result.now c.at_place-2.result.now) q new) (AreThere (MeetAtSeam ps after c.args.seam) q new)
    (λ h. seam_there ps after c.args.seam q c.at_place.result.now c.at_place-2.result.now new (c.at_place.ensures ∙ ap (piece_at ps) v.1) (c.at_place-2.ensures ∙ ap (piece_at ps) w.1) h)
    c.await_meeting.ensures.there

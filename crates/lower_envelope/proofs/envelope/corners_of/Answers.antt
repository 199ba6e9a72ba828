use Rattle.std.proofs.Common.{◌∙◌, ap, sym}
use Rattle.lower_envelope.specs.Corners.{corner_at}
use Rattle.lower_envelope.proofs.Told.{none_upto, corner_more, corner_missing}
use Rattle.lower_envelope.proofs.envelope.corners_of.Goals as goal
use Rattle.lower_envelope.proofs.envelope.corners_of.Goals.{in-Some+in_ok-push, in_default}

pub loop-place-init : goal.loop-place-init
loop-place-init c = c.new-corners.ensures.items ∙ sym (none_upto (corner_at c.args.which c.args.ends.now c.args.slabs.now))

pub loop-place-preserved : goal.loop-place-preserved
loop-place-preserved c =
    let f = corner_at c.args.which c.args.ends.now c.args.slabs.now in
    elim c.match-corner_of.branch [
      | in-Some+in_ok-push w ↦ corner_more f c.loop-place.place c.corner_of.result w.in-Some.corner c.loop-place.corners.items c.match-corner_of.corners.items c.corner_of.ensures w.in-Some.is c.loop-place.invariant (ap (λ x. x.items) w.corners-is ∙ w.in_ok-push.ensures.items)
      | in_default w ↦ corner_missing f c.loop-place.place c.corner_of.result c.loop-place.corners.items c.match-corner_of.corners.items c.corner_of.ensures w.in_default.is c.loop-place.invariant (ap (λ x. x.items) w.corners-is)
    ]

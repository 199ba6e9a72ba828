use Rattle.std.proofs.Common.{Err, w64, ap, sym, ◌∙◌}
use Rattle.std.proofs.lemmas.Int.{to_z-of_z}
use Rattle.exact_plane.specs.declared.segment.SegmentError.TheVariants.{Equal, Range}
use Rattle.planar_run.specs.Answer.{one_side, segment_refusal}
use Rattle.planar_run.proofs.Replied.{drawn_by, not_drawn, same_segment, undrawn_by, four, seven}
use Rattle.planar_run.proofs.edits.segment.Goals as goal

pub returns-in-Ok-clause-answered : goal.returns-in-Ok-clause-answered
returns-in-Ok-clause-answered g c =
    let a = c.args in
    let r = c.ranges in
    let is = ap one_side (c.in-Ok.ensures.value ∙ same_segment _ _ _ _ a.x1 a.y1 a.x2 a.y2 (to_z-of_z w64 a.x1 r.x1) (to_z-of_z w64 a.y1 r.y1) (to_z-of_z w64 a.x2 r.x2) (to_z-of_z w64 a.y2 r.y2)) in
    drawn_by c.insert.result _ _ _ _ _ is c.insert.ensures.answered

pub returns-in-Ok-clause-err : goal.returns-in-Ok-clause-err
returns-in-Ok-clause-err g c =
    let a = c.args in
    let r = c.ranges in
    let is = ap one_side (c.in-Ok.ensures.value ∙ same_segment _ _ _ _ a.x1 a.y1 a.x2 a.y2 (to_z-of_z w64 a.x1 r.x1) (to_z-of_z w64 a.y1 r.y1) (to_z-of_z w64 a.x2 r.x2) (to_z-of_z w64 a.y2 r.y2)) in
    undrawn_by c.insert.result _ _ _ _ is c.insert.ensures.err

pub returns-in-Err-Range-clause-answered : goal.returns-in-Err-Range-clause-answered
returns-in-Err-Range-clause-answered g c =
    let a = c.args in
    let r = c.ranges in
    let is = c.in-Err-Range.ensures.value ∙ same_segment _ _ _ _ a.x1 a.y1 a.x2 a.y2 (to_z-of_z w64 a.x1 r.x1) (to_z-of_z w64 a.y1 r.y1) (to_z-of_z w64 a.x2 r.x2) (to_z-of_z w64 a.y2 r.y2) in
    not_drawn (segment_refusal Range) _ (ap one_side (sym (ap Err c.in-Err-Range.field-0-is) ∙ is)) (c.set.ensures ∙ four)

pub returns-in-Err-Equal-clause-answered : goal.returns-in-Err-Equal-clause-answered
returns-in-Err-Equal-clause-answered g c =
    let a = c.args in
    let r = c.ranges in
    let is = c.in-Err-Equal.ensures.value ∙ same_segment _ _ _ _ a.x1 a.y1 a.x2 a.y2 (to_z-of_z w64 a.x1 r.x1) (to_z-of_z w64 a.y1 r.y1) (to_z-of_z w64 a.x2 r.x2) (to_z-of_z w64 a.y2 r.y2) in
    not_drawn (segment_refusal Equal) _ (ap one_side (sym (ap Err c.in-Err-Equal.field-0-is) ∙ is)) (c.set-in-Err-Equal.ensures ∙ seven)

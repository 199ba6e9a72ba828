use Rattle.std.proofs.Common.{Err, ap, sym, ◌∙◌}
use Rattle.exact_plane.specs.Path.{path_of}
use Rattle.exact_plane.specs.declared.path.PathError.TheVariants.{Count, Equal, Range}
use Rattle.planar_run.specs.Answer.{path_refusal, path_sides}
use Rattle.planar_run.proofs.Replied.{drawn_by, not_drawn, undrawn_by, two, four, seven}
use Rattle.planar_run.proofs.edits.path.Goals as goal

pub returns-in-Ok-clause-answered : goal.returns-in-Ok-clause-answered
returns-in-Ok-clause-answered g c = drawn_by c.insert_path.result _ _ _ _ _ (ap path_sides (c.in-Ok.ensures.value ∙ ap path_of c.as_slice.ensures.value)) c.insert_path.ensures.answered

pub returns-in-Ok-clause-err : goal.returns-in-Ok-clause-err
returns-in-Ok-clause-err g c = undrawn_by c.insert_path.result _ _ _ _ (ap path_sides (c.in-Ok.ensures.value ∙ ap path_of c.as_slice.ensures.value)) c.insert_path.ensures.err

pub returns-in-Err-Count-clause-answered : goal.returns-in-Err-Count-clause-answered
returns-in-Err-Count-clause-answered g c =
    not_drawn (path_refusal Count) _ (ap path_sides (sym (ap Err c.in-Err-Count.field-0-is) ∙ c.in-Err-Count.ensures.value ∙ ap path_of c.as_slice.ensures.value)) (c.set.ensures ∙ two)

pub returns-in-Err-Range-clause-answered : goal.returns-in-Err-Range-clause-answered
returns-in-Err-Range-clause-answered g c =
    not_drawn (path_refusal Range) _ (ap path_sides (sym (ap Err c.in-Err-Range.field-0-is) ∙ c.in-Err-Range.ensures.value ∙ ap path_of c.as_slice.ensures.value)) (c.set-in-Err-Range.ensures ∙ four)

pub returns-in-Err-Equal-clause-answered : goal.returns-in-Err-Equal-clause-answered
returns-in-Err-Equal-clause-answered g c =
    not_drawn (path_refusal Equal) _ (ap path_sides (sym (ap Err c.in-Err-Equal.field-0-is) ∙ c.in-Err-Equal.ensures.value ∙ ap path_of c.as_slice.ensures.value)) (c.set-in-Err-Equal.ensures ∙ seven)

use Rattle.std.proofs.Common.{refl, ◌∙◌, arith}
use Rattle.curve_history.proofs.Cutting.{same_rests, all_leave, kept_plan}
use Rattle.curve_history.proofs.Walked.{length-modelled}
use Rattle.curve_history.proofs.cuts.cut_all.Goals as goal

pub cut_run-requires-clause-plan : goal.cut_run-requires-clause-plan
cut_run-requires-clause-plan c = kept_plan _ _ _ _ c.remove_spent.ensures.items _ _ c.requires.plan refl refl (omega (arith, c.len-end.ensures, length-modelled c.remove_spent.new.pieces.rows))

pub cut_run-requires-clause-some : goal.cut_run-requires-clause-some
cut_run-requires-clause-some c = all_leave _ _ _ _ c.remove_spent.ensures.items

pub returns-then-plan : goal.returns-then-plan
returns-then-plan c = c.cut_run.ensures ∙ same_rests _ _ _ _ c.remove_spent.ensures.items

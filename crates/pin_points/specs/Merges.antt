-- Which refusal a merge's error stands for.
use Rattle.std.specs.Prelude.{Option, Some}
use Rattle.edit_steps.specs.Refusals.{Refusal, NoVertex as NoneThere, NotMergeable as NoneToMerge}
use Rattle.pin_points.specs.declared.merge.MergeError.{MergeError}
use Rattle.pin_points.specs.declared.merge.MergeError.TheVariants.{NoVertex, NotMergeable}

-- the refusal that a merge's error stands for (this project)
abbrev pub merge_said : MergeError → Option Refusal
merge_said NoVertex = Some NoneThere
merge_said NotMergeable = Some NoneToMerge

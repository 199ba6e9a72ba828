use Rattle.std.proofs.Common.{sym, ◌∙◌}
use Rattle.curve_history.proofs.passed.is_abreast.Goals as goal

pub returns-clause-yes : goal.returns-clause-yes
returns-clause-yes g c = λ t. (c.says_strand.ensures.runs t, sym c.passes.ensures ∙ c.if-not-passes.false)

pub returns-clause-no : goal.returns-clause-no
returns-clause-no g c = λ f s. absurd (c.says_strand.ensures.not f s)

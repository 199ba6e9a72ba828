use Rattle.std.proofs.Common.{sym, ◌∙◌}
use Rattle.path_zone.proofs.Plain.{at_end, not_apart}
use Rattle.path_zone.proofs.zoned.is_plain.Goals as goal

pub returns-then-are_apart : goal.returns-then-are_apart
returns-then-are_apart c e v f a b x h = absurd (not_apart c.args.side.now c.args.other.now v f a b x h (sym c.are_apart.ensures ∙ e))

pub returns-else-are_apart : goal.returns-else-are_apart
returns-else-are_apart c e v f a b x h = at_end c.args.side.now c.args.other.now v f a b x h (sym c.share_end.ensures ∙ e)

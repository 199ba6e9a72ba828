use Rattle.plain_slabs.proofs.TurnCases.{sooner_parted, sooner_together}
use Rattle.plain_slabs.proofs.turns.comes_first_clockwise.Goals as goal

pub returns-then-is_later-is_earlier : goal.returns-then-is_later-is_earlier
returns-then-is_later-is_earlier c = sooner_parted _ _ _ _ _ c.is_earlier-is_later.ensures c.is_earlier.ensures c.if-is_later-is_earlier.true

pub returns : goal.returns
returns c = sooner_together _ _ _ _ _ _ c.is_earlier-is_later.ensures c.is_earlier.ensures c.is_earlier-2.ensures c.if-is_later-is_earlier.false

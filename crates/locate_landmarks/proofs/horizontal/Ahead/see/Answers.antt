use Rattle.std.proofs.Common.{inl, refl}
use Rattle.locate_landmarks.proofs.horizontal.Ahead.see.Goals as goal

pub returns-then-is_above_or_below-clause-later : goal.returns-then-is_above_or_below-clause-later
returns-then-is_above_or_below-clause-later c = inl refl

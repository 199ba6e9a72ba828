use Rattle.std.proofs.Common.{◌≡◌, ℕ, ◌+◌, ◌<◌, [], ◌∷◌, ◌++◌, refl, lit<}
use Rattle.std.specs.Prelude.{codes, decimal}
use Rattle.std.proofs.lemmas.Fmt.{decimal_digit}
use Rattle.planar_run.specs.Text.{line_of}
use Rattle.planar_run.proofs.answer.refusal.Goals as goal

printed : (n : ℕ) → n < 10 → codes "refused " ++ (48 + n) ∷ 10 ∷ [] ≡ line_of (codes "refused " ++ decimal n)
printed n h = rw (decimal_digit n h) refl

pub returns-in-Word-clause-text : goal.returns-in-Word-clause-text
returns-in-Word-clause-text c = rw c.in-Word.is (printed 1 (lit< tt))

pub returns-in-Count-clause-text : goal.returns-in-Count-clause-text
returns-in-Count-clause-text c = rw c.in-Count.is (printed 2 (lit< tt))

pub returns-in-Number-clause-text : goal.returns-in-Number-clause-text
returns-in-Number-clause-text c = rw c.in-Number.is (printed 3 (lit< tt))

pub returns-in-Range-clause-text : goal.returns-in-Range-clause-text
returns-in-Range-clause-text c = rw c.in-Range.is (printed 4 (lit< tt))

pub returns-in-Long-clause-text : goal.returns-in-Long-clause-text
returns-in-Long-clause-text c = rw c.in-Long.is (printed 5 (lit< tt))

pub returns-in-Byte-clause-text : goal.returns-in-Byte-clause-text
returns-in-Byte-clause-text c = rw c.in-Byte.is (printed 6 (lit< tt))

use Rattle.std.proofs.Common.{◌≡◌, ℕ, ◌<◌, ◌≤◌, None}
use Rattle.slab.specs.Slab.{get}
use Rattle.dcel_records.proofs.keys.key_after.Given as goal

abbrev pub invariant-loop-k : goal.invariant-loop-k
invariant-loop-k g l = (j : ℕ) → l.first ≤ j → j < l.k → get l.slab j ≡ None

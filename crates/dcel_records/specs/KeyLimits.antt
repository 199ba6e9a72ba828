-- Where the keys of a slab end.
use Rattle.std.specs.Prelude.{◌≡◌, ℕ, ◌≤◌, None}
use Rattle.slab.specs.Slab.{Slab, get}

-- no key from the limit on has a value (this project)
abbrev pub HasNoKeyFrom : {X : Type 0} → Slab X → ℕ → Type 0
HasNoKeyFrom s limit = (k : ℕ) → limit ≤ k → get s k ≡ None

-- What a table ends as, where a `&mut` to one of its rows is returned.
use Rattle.std.specs.Prelude.{ℕ}
use Rattle.std.specs.Borrow.{Lends, Fml, RattleType, MutBor}
use Rattle.slab.specs.Slab.{Slab, with_value}
use Rattle.dcel_records.specs.contracts.table.Table.{the_row}

-- once the borrow r ends, the key has the last row written through r
abbrev pub lends_row : (T : RattleType) → MutBor (Slab T.Denot) → ℕ → MutBor T.Denot → Fml
lends_row T s key r = Lends (the_row T) T s r (with_value s.now key)

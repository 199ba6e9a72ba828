-- What a tree is seen as.
use Rattle.std.specs.Prelude.{ℕ, List}
use Rattle.box_tree.specs.declared.entry.Entry.{Entry}

-- its entries, and the number of nodes on its longest way down
pub record Grown : Type 0 where
  pub entries : List Entry
  pub height : ℕ

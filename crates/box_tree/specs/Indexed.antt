-- What a box tree is seen as.
use Rattle.std.specs.Prelude.{ℕ, ◌≤◌, ◌+◌, List}
use Rattle.box_tree.specs.declared.entry.Entry.{Entry}

-- its entries, and for how many more it has memory
pub record Indexed : Type 0 where
  pub entries : List Entry
  pub room : ℕ

-- the tree is at most 96 nodes high, and each entry for which there is memory may stand beside it
pub record IsRoomy (height deepest spare capacity : ℕ) : Type 0 where
  pub low : height ≤ 96
  pub room : deepest + spare ≤ capacity

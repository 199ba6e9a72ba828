-- What a tree is seen as, and what holds at its root.
use Rattle.std.specs.Prelude.{ℕ, Bool, true, false, Option, Some, None, suc, max, ◌+◌, ◌≤◌, List, [], ◌∷◌, ◌++◌}
use Rattle.box_tree.specs.declared.entry.Entry.{Entry}
use Rattle.box_tree.specs.declared.tree.Link.{Link}
use Rattle.box_tree.specs.declared.tree.Link.TheVariants.{Empty, Node}
use Rattle.box_tree.specs.Entries.{AllWithin}
use Rattle.box_tree.specs.Grown.{Grown}

-- the entries, that of the root first
abbrev pub entries : Link → List Entry
entries Empty = []
entries (Node n) = n.value.entry ∷ n.value.low.entries ++ n.value.high.entries

-- the number of nodes on the longest way down
abbrev pub height : Link → ℕ
height Empty = 0
height (Node n) = suc (max n.value.low.height n.value.high.height)

abbrev pub grown : Link → Grown
grown l = record { entries = entries l; height = height l }

-- the node's box covers the boxes of all entries in it
abbrev pub IsCovered : Link → Type 0
IsCovered Empty = Unit {0}
IsCovered (Node n) = AllWithin n.value.cover (n.value.entry ∷ n.value.low.entries ++ n.value.high.entries)

-- it is no higher than there are levels from its fork on
abbrev pub IsLow : Link → Type 0
IsLow Empty = Unit {0}
IsLow (Node n) = suc (max n.value.low.height n.value.high.height) + n.value.fork ≤ 96

-- what is handed back where not all found a place
abbrev pub left_over : Bool → Entry → Option Entry
left_over true e = None
left_over false e = Some e

-- The cells of links in their order, and the labels of cells that stand in a list.
use Rattle.std.specs.Prelude.{ℕ, List, [], ◌∷◌}
use Rattle.std.specs.List.{slice_index_or}
use Rattle.std.specs.Ordering.{ordering_then, nat_cmp}
use Rattle.std.specs.declared.cmp.Ordering.{Ordering}
use Rattle.slab_laws.specs.declared.slab_cell.SlabCell.{SlabCell}
use Rattle.slab_laws.specs.declared.classes.Link.{Link}
use Rattle.slab_laws.specs.declared.classes.Label.{Label}

-- by slab, then by place
abbrev pub cell_cmp : SlabCell → SlabCell → Ordering
cell_cmp c d = ordering_then (nat_cmp c.slab d.slab) (nat_cmp c.place d.place)

-- the two cells of a link
abbrev pub ends : Link SlabCell → List SlabCell
ends l = l.one ∷ l.other ∷ []

-- the cell with the number k in the list, which is below its length
abbrev pub cell_at : List SlabCell → ℕ → SlabCell
cell_at cells k = slice_index_or cells k (record { slab = 0; place = 0 })

-- the link of the cells with the link's numbers
abbrev pub link_at : List SlabCell → Link ℕ → Link SlabCell
link_at cells l = record { one = cell_at cells l.one; other = cell_at cells l.other }

-- each cell of the first list with the cell of the second one at the same place, while both have one
abbrev pub labels : List SlabCell → List SlabCell → List (Label SlabCell)
labels [] ls = []
labels (c ∷ cs) [] = []
labels (c ∷ cs) (l ∷ ls) = record { item = c; least = l } ∷ labels cs ls

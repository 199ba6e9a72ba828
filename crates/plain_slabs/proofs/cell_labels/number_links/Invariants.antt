use Rattle.std.proofs.Common.{◌≡◌, take, length, map}
use Rattle.plain_slabs.specs.MetNumbers.{AreBelow}
use Rattle.plain_slabs.specs.CellLabels.{link_at}
use Rattle.plain_slabs.proofs.cell_labels.number_links.Given as goal

abbrev pub invariant-loop-link : goal.invariant-loop-link
invariant-loop-link l = AreBelow (length l.cells) l.numbered.items × (map (link_at l.cells) l.numbered.items ≡ take l.link-index l.links)

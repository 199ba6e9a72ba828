use Rattle.std.proofs.Common.{◌≡◌, take}
use Rattle.std.specs.Prelude.{flat_map}
use Rattle.plain_slabs.specs.CellLabels.{ends}
use Rattle.plain_slabs.proofs.cell_labels.gather.Given as goal

abbrev pub invariant-loop-link : goal.invariant-loop-link
invariant-loop-link l = l.cells.items ≡ flat_map ends (take l.link-index l.links)

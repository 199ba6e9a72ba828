use Rattle.std.proofs.Common.{◌≡◌, map, take}
use Rattle.overlay_sweep.specs.GraphRows.{kind_of_root}
use Rattle.overlay_sweep.proofs.rows.kinds_of.Given as goal

abbrev pub invariant-loop-root : goal.invariant-loop-root
invariant-loop-root l = l.kinds.items ≡ map kind_of_root (take l.root-index l.roots)

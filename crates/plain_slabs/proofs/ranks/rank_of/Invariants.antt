use Rattle.std.proofs.Common.{◌≡◌, ◌+◌, drop}
use Rattle.std.specs.List.{position_or_len}
use Rattle.slab_laws.specs.Faces.{same_cell}
use Rattle.plain_slabs.proofs.ranks.rank_of.Given as goal

abbrev pub invariant-loop-i : goal.invariant-loop-i
invariant-loop-i l = position_or_len (same_cell l.face) l.faces ≡ l.i + position_or_len (same_cell l.face) (drop l.i l.faces)

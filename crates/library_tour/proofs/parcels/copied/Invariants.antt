use Rattle.std.proofs.Common.{◌≡◌, take}
use Rattle.library_tour.specs.Parcels.{copied}
use Rattle.library_tour.proofs.parcels.copied.Given as goal

-- what is in the face, of the land so far
abbrev pub invariant-loop-one : goal.invariant-loop-one
invariant-loop-one l = l.copies.items ≡ copied l.from l.to (take l.one-index l.all)

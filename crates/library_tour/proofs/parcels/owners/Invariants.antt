use Rattle.std.proofs.Common.{◌≡◌, take}
use Rattle.library_tour.specs.Parcels.{owners}
use Rattle.library_tour.proofs.parcels.owners.Given as goal

-- the parcels of the land so far
abbrev pub invariant-loop-one : goal.invariant-loop-one
invariant-loop-one l = l.parcels.items ≡ owners l.face (take l.one-index l.all)

use Rattle.std.proofs.Common.{◌≡◌, take, map}
use Rattle.library_tour.specs.Parcels.{moved_one}
use Rattle.library_tour.proofs.parcels.moved.Given as goal

-- the land so far
abbrev pub invariant-loop-one : goal.invariant-loop-one
invariant-loop-one l = l.land.items ≡ map (moved_one l.from l.to) (take l.one-index l.all)

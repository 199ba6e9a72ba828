use Rattle.arrangement.specs.Arranged.{arranged, IsWatched}
use Rattle.library_tour.proofs.maps.draw_all.Given as goal

-- observers have followed the map so far
abbrev pub invariant-segments : goal.invariant-segments
invariant-segments g l = IsWatched (arranged (goal.Observer-dyn g) l.map)

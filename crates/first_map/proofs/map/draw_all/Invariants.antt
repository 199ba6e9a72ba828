use Rattle.arrangement.specs.Arranged.{arranged, IsWatched}
use Rattle.first_map.proofs.map.draw_all.Given as goal

-- observers have followed the map so far
abbrev pub invariant-sides : goal.invariant-sides
invariant-sides g l = IsWatched (arranged (goal.Observer-dyn g) l.map)

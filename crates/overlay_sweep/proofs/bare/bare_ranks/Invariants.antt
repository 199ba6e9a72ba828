use Rattle.std.proofs.Common.{◌≡◌, map, take}
use Rattle.slab_laws.specs.SpansDrawn.{drawn}
use Rattle.overlay_sweep.specs.CycleFaces.{rank_round}
use Rattle.overlay_sweep.proofs.bare.bare_ranks.Given as goal

abbrev pub invariant-loop-vertex : goal.invariant-loop-vertex
invariant-loop-vertex l = l.bare.items ≡ map (rank_round (drawn l.points l.edges)) (take l.vertex l.points)

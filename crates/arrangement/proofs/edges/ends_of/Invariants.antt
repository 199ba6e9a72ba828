use Rattle.std.proofs.Common.{◌≡◌, map, take}
use Rattle.arrangement.proofs.edges.ends_of.Given as goal

abbrev pub invariant-loop-edge : goal.invariant-loop-edge
invariant-loop-edge l = l.ends.items ≡ map (λ k. (k.source, k.target)) (take l.edge-index l.edges)

use Rattle.std.proofs.Common.{◌≡◌, take}
use Rattle.own_edges.proofs.EdgesOwned.{owned_by}
use Rattle.own_edges.proofs.edges.own_edges.Given as goal

abbrev pub invariant-names : goal.invariant-names
invariant-names l = l.edges.items ≡ owned_by l.records (take l.name-index l.name-items)

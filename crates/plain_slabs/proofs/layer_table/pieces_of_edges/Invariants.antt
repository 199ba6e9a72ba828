use Rattle.std.proofs.Common.{◌≡◌, map, take}
use Rattle.set_laws.specs.PolygonSets.{pieces_along}
use Rattle.slab_laws.specs.Pieces.{present_of}
use Rattle.slab_laws.specs.SpansDrawn.{edge_of}
use Rattle.plain_slabs.proofs.layer_table.pieces_of_edges.Given as goal

abbrev pub invariant-loop-edge : goal.invariant-loop-edge
invariant-loop-edge l = l.counts.items ≡ map (pieces_along (present_of l.layer)) (take l.edge-index (map edge_of l.edges))

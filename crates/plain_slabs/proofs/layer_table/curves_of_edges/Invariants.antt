use Rattle.std.proofs.Common.{◌≡◌, map, take}
use Rattle.slab_laws.specs.Pieces.{present_of}
use Rattle.slab_laws.specs.SpansDrawn.{edge_of}
use Rattle.slab_laws.specs.Overlay.{curves_along}
use Rattle.subdivision_rows.specs.LayerTables.{numbers_in}
use Rattle.plain_slabs.proofs.layer_table.curves_of_edges.Given as goal

abbrev pub invariant-loop-edge : goal.invariant-loop-edge
invariant-loop-edge l = numbers_in l.rows.items ≡ map (curves_along (present_of l.layer)) (take l.edge-index (map edge_of l.edges))

use Rattle.std.proofs.Common.{◌≡◌, take}
use Rattle.slab_laws.specs.SpansDrawn.{drawn}
use Rattle.slab_laws.specs.Faces.{is_lowest, wall_links}
use Rattle.plain_slabs.specs.PlaceTables.{table, places_in}
use Rattle.plain_slabs.proofs.Loops.{gathered}
use Rattle.plain_slabs.proofs.links.link_cells.Given as goal

abbrev pub invariant-loop-wall : goal.invariant-loop-wall
invariant-loop-wall l =
    (l.list.items ≡ gathered (is_lowest l.points) (wall_links (drawn l.points l.edges)) (take l.wall-index l.points))
    × (l.places.below.items ≡ places_in (table l.points l.edges) l.places.slab)

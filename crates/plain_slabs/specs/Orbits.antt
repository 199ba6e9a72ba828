-- The tables of darts and cycles, and of faces, that are made on the way.
use Rattle.std.specs.Prelude.{◌≡◌, map}
use Rattle.std.specs.List.{position_or_len}
use Rattle.slab_laws.specs.Faces.{same_cell}
use Rattle.slab_laws.specs.Rows.{dart_rows, twin_places, next_places, lead_places, cycle_places, cycle_rows}
use Rattle.slab_laws.specs.Skeleton.{Skeleton}
use Rattle.slab_laws.specs.declared.rows.CycleRow.{CycleRow}
use Rattle.slab_laws.specs.Subdivision.{subdivision}
use Rattle.dart_orbits.specs.CycleLinks.{cycle_leads}
use Rattle.plain_slabs.specs.declared.orbits.Orbits.{Orbits}
use Rattle.plain_slabs.specs.declared.regions.Regions.{Regions}
use Rattle.plain_slabs.specs.Faces.{rank_round, AreLabelsOf}

-- the darts of the graph, their twins, followers and cycles
pub record AreOrbits (g : Skeleton) (o : Orbits) : Type 0 where
  pub darts : o.darts.items ≡ dart_rows g
  pub twins : o.twins.items ≡ twin_places g
  pub nexts : o.nexts.items ≡ next_places g
  pub leads : o.leads.items ≡ lead_places g
  pub cycles : o.cycles.items ≡ cycle_leads g
  pub in_cycles : o.in_cycles.items ≡ cycle_places g

-- the faces of the graph by rank, of what cycles and bare vertices they are
pub record AreRegions (g : Skeleton) (r : Regions) : Type 0 where
  pub labels : AreLabelsOf g r.labels
  pub faces : r.faces.items ≡ (subdivision g).faces
  pub kinds : r.kinds.items ≡ map (λ (c : CycleRow). c.kind) (cycle_rows g)
  pub cycle_ranks : r.cycle_ranks.items ≡ map (λ (c : CycleRow). position_or_len (same_cell c.face) r.faces.items) (cycle_rows g)
  pub bare_ranks : r.bare_ranks.items ≡ map (rank_round g r.faces.items) g.vertices

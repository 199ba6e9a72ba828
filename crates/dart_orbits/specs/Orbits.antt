-- The tables of darts and cycles.
use Rattle.std.specs.Prelude.{◌≡◌}
use Rattle.slab_laws.specs.Rows.{dart_rows, twin_places, next_places, lead_places, cycle_places}
use Rattle.slab_laws.specs.Skeleton.{Skeleton}
use Rattle.dart_orbits.specs.CycleLinks.{cycle_leads}
use Rattle.dart_orbits.specs.Around.{AreAround}
use Rattle.dart_orbits.specs.declared.orbits.Orbits.{Orbits}

-- the darts of the graph, their twins, how they stand round their sources, their followers and their cycles (CGAL manual, halfedges and boundary cycles)
pub record AreOrbits (g : Skeleton) (o : Orbits) : Type 0 where
  pub darts : o.darts.items ≡ dart_rows g
  pub twins : o.twins.items ≡ twin_places g
  pub around : AreAround g o.around.items
  pub nexts : o.nexts.items ≡ next_places g
  pub leads : o.leads.items ≡ lead_places g
  pub cycles : o.cycles.items ≡ cycle_leads g
  pub in_cycles : o.in_cycles.items ≡ cycle_places g

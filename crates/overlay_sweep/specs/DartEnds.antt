-- Darts by the places of their ends.
use Rattle.slab_laws.specs.declared.rows.ListedDart.{ListedDart}
use Rattle.sweep_graphs.specs.declared.edges.EdgeEnds.{EdgeEnds}

-- the source of a dart and its target
abbrev pub ends_of_row : ListedDart → EdgeEnds
ends_of_row r = record { low = r.source; high = r.target }

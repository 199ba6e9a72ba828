-- What the writers do to a row (this project).
use Rattle.std.specs.Prelude.{Some}
use Rattle.std.specs.Option.{option_or}
use Rattle.exact_plane.specs.declared.whole_parts.WholeParts.{WholeParts}
use Rattle.slab_laws.specs.declared.names.DartId.{DartId}
use Rattle.dcel_records.specs.declared.rows.StoredDart.{StoredDart}
use Rattle.dcel_records.specs.declared.rows.StoredVertex.{StoredVertex}

-- a vertex that keeps no dart out keeps d
abbrev pub given : DartId → StoredVertex → StoredVertex
given d r = record { point = r.point; pinned = r.pinned; out = option_or r.out (Some d); place = r.place }

-- a dart that keeps other whole parts of the point that it reaches
abbrev pub reaching : WholeParts → StoredDart → StoredDart
reaching p r = record { source = r.source; twin = r.twin; next = r.next; parts = r.parts; target_parts = p; line = r.line; cycle = r.cycle }

-- The edge of a dart of records, with the rank of the face on the dart's left.
use Rattle.exact_plane.specs.Span.{Span}
use Rattle.slab_laws.specs.declared.names.DartId.{DartId}
use Rattle.slab_laws.specs.Sound.{edge_in}
use Rattle.slab_laws.specs.View.{View, cycle_in, face_in, line_in}
use Rattle.dcel_records.specs.RecordsView.{RecordsView, tables_of}
use Rattle.face_ranks.specs.Ranks.{rank_in}
use Rattle.overlay_sweep.specs.declared.own.OwnEdge.{OwnEdge}

-- the edge of a dart, with its line
abbrev pub span_in : View → DartId → Span
span_in v d = record { lower = (edge_in v d).low; upper = (edge_in v d).high; line = line_in v d }

-- the edge of a dart, with the rank of the face of its cycle (CGAL manual: the face incident to a halfedge)
abbrev pub own_of : RecordsView → DartId → OwnEdge
own_of h d = record { span = span_in h.graph d; over = rank_in h.graph (tables_of h) (face_in (tables_of h) (cycle_in (tables_of h) d)) }

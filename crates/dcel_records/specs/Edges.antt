-- An edge that is followed by no other.
use Rattle.exact_plane.specs.Line.{Line}
use Rattle.slab_laws.specs.declared.names.DartId.{DartId}
use Rattle.slab_laws.specs.declared.names.VertexId.{VertexId}
use Rattle.slab_laws.specs.View.{View, DartRecord}
use Rattle.arr_notes.specs.ViewChanges.{with_pair}

-- a dart out of w that its twin follows
abbrev pub lone_dart : VertexId → DartId → Line → DartRecord
lone_dart w twin l = record { source = w; twin = twin; next = twin; line = l }

-- the darts d out of u and m out of w more, each the other's twin, and each followed by the other (de Berg and others, doubly-connected edge list)
abbrev pub with_edge : View → DartId → DartId → VertexId → VertexId → Line → View
with_edge v d m u w l = with_pair v d m (lone_dart u m l) (lone_dart w d l)

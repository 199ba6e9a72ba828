-- The darts round a vertex, as a view has them.
use Rattle.slab_laws.specs.declared.names.DartId.{DartId}
use Rattle.slab_laws.specs.View.{View, twin_in, next_in}

-- the dart that comes after d clockwise round the vertex that both leave (CGAL manual, circulator around a vertex)
abbrev pub after_in : View → DartId → DartId
after_in v d = next_in v (twin_in v d)

-- What is taken from a face.
use Rattle.std.specs.Prelude.{Bool, true, ◌==◌, ◌&&◌, not, List, ⊤, IfSome}
use Rattle.std.specs.List.{filter}
use Rattle.slab_laws.specs.declared.names.CycleId.{CycleId}
use Rattle.slab_laws.specs.declared.names.FaceId.{FaceId}
use Rattle.slab_laws.specs.declared.names.VertexId.{VertexId}
use Rattle.slab_laws.specs.FaceLists.{Lists}
use Rattle.slab_laws.specs.Sound.{skeleton_of, dart_in}
use Rattle.slab_laws.specs.View.{View, HasDart}
use Rattle.boundary_cycles.specs.Extents.{IsExtent}
use Rattle.face_changes.specs.FacesByPairs.{Item, beside, round, cell_at}
use Rattle.face_changes.specs.Kinds.{odd_at}
use Rattle.cycle_writers.specs.declared.moves.Which.{Which}
use Rattle.cycle_writers.specs.declared.moves.Which.TheVariants.{All, Inside}

-- whether a thing is taken: where not all are, it goes by the parity of a cycle at its cell (book, ray shooting)
abbrev pub takes : View → Which → Item → Bool
takes v All i = true
takes v (Inside half extent) i = odd_at (skeleton_of v) (dart_in v half) (cell_at v i)

-- the dart has a record, and the extent, if there is one, is that of its cycle
abbrev pub IsWhich : View → Which → Type 0
IsWhich v All = ⊤
IsWhich v (Inside half extent) = HasDart v half × IfSome extent (IsExtent v half)

-- whether a cycle is taken, which is asked at the dart that is kept for it; one stays
abbrev pub takes_cycle : View → Which → CycleId → Lists → CycleId → Bool
takes_cycle v which but l c = not (c.0 == but.0) && takes v which (beside (l.dart_on c))

-- of the cycles that a face lists those that are taken
abbrev pub cycles_taken : View → Which → CycleId → Lists → FaceId → List CycleId
cycles_taken v which but l from = filter (takes_cycle v which but l) (l.cycles from)

-- whether an isolated vertex is taken
abbrev pub takes_vertex : View → Which → VertexId → Bool
takes_vertex v which u = takes v which (round u)

-- of the isolated vertices that a face lists those that are taken
abbrev pub vertices_taken : View → Which → Lists → FaceId → List VertexId
vertices_taken v which l from = filter (takes_vertex v which) (l.bare from)

-- Records that are a map: a sound view with its cycles and faces, and for each cycle a dart on it.
use Rattle.std.specs.Prelude.{◌≡◌, None}
use Rattle.slab_laws.specs.FaceLists.{AreDartsOn, MovedView}
use Rattle.slab_laws.specs.FacesSound.{IsSound}
use Rattle.arr_notes.specs.MapView.{MapView}
use Rattle.dcel_records.specs.RecordsView.{RecordsView, IsReturned, IsRoomFor, lists_of, tables_of}

-- the graph of records with its cycles and faces (this project)
abbrev pub map_of : RecordsView → MapView
map_of h = record { graph = h.graph; faces = tables_of h }

-- the view is sound with its cycles and faces, and the dart that is kept for a cycle is on it; that each face lists its own is true of all records (CGAL manual, a valid arrangement)
pub record IsSoundMap (h : RecordsView) : Type 0 where
  pub sound : IsSound h.graph (tables_of h)
  pub darts : AreDartsOn h.graph (tables_of h) (lists_of h)

-- a sound map, between two changes: none carries the lists of what moves (this project)
pub record IsMapAtRest (h : RecordsView) : Type 0 where
  pub map : IsSoundMap h
  pub returned : IsReturned h

-- a change carries the lists of what moves, and they can be given back (this project)
pub record IsCarriedOff (h : RecordsView) (moved : MovedView) : Type 0 where
  pub away : h.faces.moved ≡ None
  pub room : IsRoomFor (record { cycles = moved.room_of_cycles; vertices = moved.room_of_vertices }) h.faces.capacity_of_cycles h.capacity_of_vertices

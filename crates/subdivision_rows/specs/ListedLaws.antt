-- What is kept in lists draws its graph, and is a sound view of it.
use Rattle.std.specs.Prelude.{◌≡◌}
use Rattle.plane_graphs.specs.Plane.{IsPlane}
use Rattle.slab_laws.specs.Sound.{skeleton_of}
use Rattle.slab_laws.specs.FacesSound.{IsSound}
use Rattle.subdivision_rows.specs.Listed.{Drawing, skeleton_in, view_of, faces_of, AreLinesOf}

-- the view draws the graph's own vertices and edges
abbrev pub ViewDraws : Type 0
ViewDraws = (d : Drawing) → IsPlane d.graph → skeleton_of (view_of d) ≡ skeleton_in d

-- of a plane graph with its lines the records in lists are a sound view: each bounded face has one outer cycle, and the unbounded one none
abbrev pub ListsAreSound : Type 0
ListsAreSound = (d : Drawing) → IsPlane d.graph → AreLinesOf d → IsSound (view_of d) (faces_of d)

-- Two whole views that are sound, so that the definition is not empty.
use Rattle.std.specs.Prelude.{[], ◌∷◌}
use Rattle.slab_laws.specs.FacesSound.{IsSound}
use Rattle.slab_laws.specs.Triangle.{three_four, triangle_view, triangle_faces}
use Rattle.slab_laws.specs.View.{View, Faces}

-- the empty plane: no vertex, no dart, and one face
abbrev pub empty_view : View
empty_view = record { vertices = []; darts = [] }

abbrev pub one_face : Faces
one_face = record { cycle_of = []; bare = []; cycles = []; faces = 0 ∷ [] }

-- it is sound, and so is a triangle with the face inside it and the one outside
pub record ViewsThatAreSound : Type 0 where
  pub empty : IsSound empty_view one_face
  pub triangle : IsSound (triangle_view three_four) triangle_faces

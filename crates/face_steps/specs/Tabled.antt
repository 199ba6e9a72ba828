-- The tables of cycles and faces stand for those of the graph that the view draws: in three parts, which the steps keep.
use Rattle.std.specs.Prelude.{◌↔◌}
use Rattle.slab_laws.specs.FacesSound.{IsCycled, IsComplete, IsSound}
use Rattle.slab_laws.specs.Sound.{IsGraphSound}
use Rattle.slab_laws.specs.View.{View, Faces}
use Rattle.face_changes.specs.FacesByPairs.{AreFacesTold}

-- the right names have rows; darts have one cycle record exactly where they are in one orbit, of its kind; and face names tell faces pair by pair (this project)
pub record AreTabled (v : View) (f : Faces) : Type 0 where
  pub complete : IsComplete v f
  pub cycled : IsCycled v f
  pub told : AreFacesTold v f

-- the tables beside a sound view stand for its cycles and faces exactly where the whole is a sound view (this project)
abbrev pub TablesAreSound : Type 0
TablesAreSound = (v : View) (f : Faces) → IsGraphSound v → AreTabled v f ↔ IsSound v f

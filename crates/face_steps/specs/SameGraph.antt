-- Two views that draw the same, and differ at most in pins.
use Rattle.std.specs.Prelude.{◌≡◌, ◌↔◌}
use Rattle.slab_laws.specs.declared.names.DartId.{DartId}
use Rattle.slab_laws.specs.declared.names.VertexId.{VertexId}
use Rattle.slab_laws.specs.Sound.{IsGraphSound}
use Rattle.slab_laws.specs.View.{View, HasVertex, point_in}
use Rattle.arr_notes.specs.Reads.{IsSameDart}

-- the same vertices at the same points, and the same darts (this project)
pub record IsSameGraph (v w : View) : Type 0 where
  pub sound : IsGraphSound v
  pub sound_more : IsGraphSound w
  pub vertices : (u : VertexId) → HasVertex v u ↔ HasVertex w u
  pub points : (u : VertexId) → point_in w u ≡ point_in v u
  pub darts : (k : DartId) → IsSameDart v w k

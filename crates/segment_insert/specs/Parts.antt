-- An open part of a segment between two neighbouring vertices, and the step that makes it an edge of the curve.
use Rattle.std.specs.Prelude.{◌≡◌, ℕ, true, false}
use Rattle.exact_plane.specs.Line.{Line, IsOn}
use Rattle.plane_graphs.specs.Graph.{Graph, mark}
use Rattle.plane_graphs.specs.Line.{IsProperLine, precedes}
use Rattle.edit_steps.specs.Steps.{Step, more_step}
use Rattle.slab_laws.specs.declared.names.VertexId.{VertexId}
use Rattle.slab_laws.specs.View.{View, HasVertex, point_in}

-- two vertices on a line, in order, with no other vertex between them on it (this project)
pub record IsOpenPart (v : View) (l : Line) (u w : VertexId) : Type 0 where
  pub line : IsProperLine l
  pub start : HasVertex v u
  pub end : HasVertex v w
  pub forward : precedes (point_in v u) (point_in v w) ≡ true
  pub through_start : IsOn l (point_in v u)
  pub through_end : IsOn l (point_in v w)
  pub none_between : (x : VertexId) → HasVertex v x → IsOn l (point_in v x) → precedes (point_in v u) (point_in v x) ≡ true → precedes (point_in v x) (point_in v w) ≡ false

-- the curve comes along the part: on the edge that runs there, or on a new one
abbrev pub part_step : Graph → View → VertexId → VertexId → ℕ → Step
part_step g v u w c = more_step g (mark (point_in v u) (point_in v w) c)

-- The darts of a boundary, each followed by the next one, and the darts out of a vertex, clockwise.
use Rattle.std.specs.Prelude.{◌≡◌, ◌↔◌, List, [], ◌∷◌}
use Rattle.plane_graphs.specs.Ascending.{Member}
use Rattle.slab_laws.specs.declared.names.DartId.{DartId}
use Rattle.slab_laws.specs.declared.names.VertexId.{VertexId}
use Rattle.slab_laws.specs.FaceLists.{AreOnce}
use Rattle.slab_laws.specs.View.{View, Faces, HasDart, IsOutOf, next_in, cycle_in}
use Rattle.arr_notes.specs.AfterAround.{after_in}

-- the list has just what P holds of, each once
pub record AreJust {X : Type 0} (P : X → Type 0) (xs : List X) : Type 0 where
  pub just : (x : X) → Member x xs ↔ P x
  pub once : AreOnce xs

-- from `first` on, each is what `next` tells of the one before it; and of the last it tells `end`
abbrev pub AreInTurn : (DartId → DartId) → DartId → List DartId → DartId → Type 0
AreInTurn next first [] end = first ≡ end
AreInTurn next first (d ∷ ds) end = (d ≡ first) × AreInTurn next (next d) ds end

-- the darts of the boundary that d is on, from d on, each followed by the next one (CGAL manual, circulator along a boundary)
pub record AreAlong (v : View) (f : Faces) (d : DartId) (ds : List DartId) : Type 0 where
  pub darts : AreJust (λ e. HasDart v e × (cycle_in f e ≡ cycle_in f d)) ds
  pub order : AreInTurn (next_in v) d ds d

-- the darts out of the vertex, clockwise (CGAL manual, circulator around a vertex)
pub record AreRound (v : View) (w : VertexId) (ds : List DartId) : Type 0 where
  pub darts : AreJust (IsOutOf v w) ds
  pub order : (d : DartId) × AreInTurn (after_in v) d ds d

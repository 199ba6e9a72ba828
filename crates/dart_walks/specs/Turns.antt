-- A walk from dart to dart that ends where it began: what is still to come of it.
use Rattle.std.specs.Prelude.{◌≡◌, ◌≤◌, ℕ, zero, suc, cond, List, [], ◌∷◌, length, Option, Some, None}
use Rattle.plane_graphs.specs.Ascending.{Member}
use Rattle.slab_laws.specs.declared.names.DartId.{DartId}
use Rattle.slab_laws.specs.View.{View, HasDart}
use Rattle.arr_notes.specs.CycleNames.{same_name}

-- the dart that `next` tells, and none where this is the first of the walk
abbrev pub onward : (DartId → DartId) → DartId → DartId → Option DartId
onward next first d = cond (same_name (next d) first) None (Some (next d))

-- the darts from one on, as far as so many steps go
unfoldable pub turns : (DartId → Option DartId) → ℕ → Option DartId → List DartId
turns after steps None = []
turns after zero (Some d) = []
turns after (suc steps) (Some d) = d ∷ turns after steps (after d)

-- the darts that are still to come: from one on, each is what `next` tells of the one before it, up to the last before the first; they are no more than the view has (this project)
abbrev pub to_come : View → (DartId → DartId) → DartId → Option DartId → List DartId
to_come v next first at = turns (onward next first) (length v.darts) at

-- the list has the darts from one on, in their order, to the last
abbrev pub IsTurn : (DartId → Option DartId) → Option DartId → List DartId → Type 0
IsTurn after at [] = at ≡ None
IsTurn after at (d ∷ ds) = (at ≡ Some d) × IsTurn after (after d) ds

-- the walk comes to its end, by darts that have records, no more than there are
pub record IsOnItsWay (v : View) (next : DartId → DartId) (first : DartId) (at : Option DartId) : Type 0 where
  pub darts : List DartId
  pub turn : IsTurn (onward next first) at darts
  pub there : (d : DartId) → Member d darts → HasDart v d
  pub few : length darts ≤ length v.darts

-- A run of darts along a cycle.
use Rattle.std.specs.Prelude.{◌≡◌, ◌≢◌, List, [], ◌∷◌}
use Rattle.slab_laws.specs.declared.names.DartId.{DartId}
use Rattle.slab_laws.specs.View.{View, next_in}

-- the darts from one on, each followed by the next, until `to` follows, which isn't met before (CGAL manual, going round a boundary by `next`)
unfoldable pub IsRun : View → DartId → DartId → List DartId → Type 0
IsRun v from to [] = ⊥
IsRun v from to (x ∷ []) = (x ≡ from) × (next_in v from ≡ to)
IsRun v from to (x ∷ y ∷ ds) = (x ≡ from) × (next_in v from ≢ to) × IsRun v (next_in v from) to (y ∷ ds)

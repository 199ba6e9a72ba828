-- How many darts of a cycle pass a test, by their names.
use Rattle.std.specs.Prelude.{ℕ, Bool, ◌&&◌, ◌==◌, ◌%◌}
use Rattle.std.specs.List.{count_by}
use Rattle.slab_laws.specs.declared.names.DartId.{DartId}
use Rattle.slab_laws.specs.FacesSound.{lead_in}
use Rattle.slab_laws.specs.Rotation.{same_dart}
use Rattle.slab_laws.specs.Sound.{edge_in}
use Rattle.slab_laws.specs.View.{View}
use Rattle.arr_notes.specs.CycleNames.{dart_names}
use Rattle.boundary_cycles.specs.declared.asked.Asked.{Asked}
use Rattle.boundary_cycles.specs.Asked.{is_above_asked}

-- whether a dart is on the cycle of d (this project)
abbrev pub is_on_cycle : View → DartId → DartId → Bool
is_on_cycle v d x = same_dart (lead_in v x) (lead_in v d)

-- the edges above the cell, each once for each dart of the cycle of d on it, are odd in number (Fogel, Halperin and Wein: ray shooting)
abbrev pub is_odd_above : View → DartId → Asked → Bool
is_odd_above v d a = count_by (λ x. is_on_cycle v d x && is_above_asked a (edge_in v x)) (dart_names v) % 2 == 1

-- how many darts are on the cycle of d
abbrev pub cycle_length : View → DartId → ℕ
cycle_length v d = count_by (is_on_cycle v d) (dart_names v)

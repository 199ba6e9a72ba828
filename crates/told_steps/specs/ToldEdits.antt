-- Edits whose steps are told to observers, each before and after it.
use Rattle.std.specs.Prelude.{All}
use Rattle.edit_steps.specs.Edits.{Edit, steps}
use Rattle.curve_history.specs.Past.{Past, curves_on}
use Rattle.dcel_records.specs.RecordsView.{RecordsView}
use Rattle.dcel_records.specs.SoundMaps.{map_of}
use Rattle.observer_bus.specs.Calls.{begun}
use Rattle.observer_bus.specs.Rounds.{BusRow}
use Rattle.observer_bus.specs.Seats.{Holds}
use Rattle.told_steps.specs.LayerEdits.{layer_at}
use Rattle.told_steps.specs.ToldRuns.{IsToldRun, seen}

-- each seated observer that tells a view holds that of the records and their history (this project)
abbrev pub AreWatched : RecordsView → Past → BusRow → Type 0
AreWatched r p b = All (Holds (seen (map_of r) (curves_on p))) b.seats

-- just the steps of an edit, each told before and after it, make of the first records, history and bus the second; what became of observers is told of this edit alone (CGAL manual, `Arr_observer`)
abbrev pub IsToldEdit : Edit → RecordsView → Past → BusRow → RecordsView → Past → BusRow → Type 0
IsToldEdit e r p b s q c = IsToldRun (map_of r) (curves_on p) (begun b) (steps e (layer_at r p).present) (map_of s) (curves_on q) c

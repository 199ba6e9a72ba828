-- Buses over the empty plane.
use Rattle.std.specs.Prelude.{◌≡◌, [], true, All}
use Rattle.arr_notes.specs.CurvedView.{CurvedView, view_by}
use Rattle.arr_notes.specs.ViewChanges.{no_rows}
use Rattle.face_changes.specs.SoundExamples.{one_face}
use Rattle.observer_bus.specs.Rounds.{BusRow}
use Rattle.observer_bus.specs.Seats.{Holds}

-- the view of the empty plane, which is one face
abbrev pub empty_view : CurvedView
empty_view = view_by no_rows one_face (λ d. [])

-- each seated observer that tells a view holds that of the empty plane
abbrev pub IsCalm : BusRow → Type 0
IsCalm b = All (Holds empty_view) b.seats

-- an edit has begun, and no attach came since
abbrev pub IsReady : BusRow → Type 0
IsReady b = b.settled ≡ true

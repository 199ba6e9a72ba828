-- Laws of rounds, for what speaks in rounds.
use Rattle.std.specs.Prelude.{◌≡◌, ℕ, ◌==◌, Bool, List, [], ◌∷◌, ◌++◌, Option, None, map, All}
use Rattle.std.specs.List.{list_any, IsDistinct}
use Rattle.plane_graphs.specs.Ascending.{Member}
use Rattle.arr_notes.specs.CurvedView.{CurvedView, FitsView, IsSoundView, step_view}
use Rattle.arr_notes.specs.Notes.{heard_after}
use Rattle.arr_notes.specs.declared.change.Change.{Change}
use Rattle.arr_notes.specs.declared.intent.Intent.{Intent}
use Rattle.arr_notes.specs.declared.note.Note.{Note}
use Rattle.arr_notes.specs.declared.note.Note.TheVariants.{Before, After}
use Rattle.observer_bus.specs.Rounds.{AreInRound, BusRow, IsRound}
use Rattle.observer_bus.specs.Seats.{SeatRow, Holds, Leads, MayHear, fate}
use Rattle.observer_bus.specs.declared.seat.Fate.{Fate}
use Rattle.observer_bus.specs.declared.seat.Fate.TheVariants.{Lost}

-- ---- notes that may be told
-- what is about to change may always be told, and a change that fits the view that is held, where what it makes of it is sound (this project)
pub record MayNotesBeHeard : Type 0 where
  pub before : (i : Intent) (ss : List SeatRow) → All (MayHear (Before i)) ss
  pub after : (v : CurvedView) (c : Change) (ss : List SeatRow) → All (Holds v) ss → FitsView v.graph c → IsSoundView (step_view v c) → All (MayHear (After c)) ss

-- ---- rounds, one after another
-- these rounds, each with its note and the view that the records had in it (this project)
abbrev pub AreRounds : List (Note × CurvedView) → BusRow → BusRow → Type 0
AreRounds [] old new = new ≡ old
AreRounds (r ∷ rs) old new = (mid : BusRow) × AreInRound r.0 r.1 old mid × AreRounds rs mid new

-- each note leads from the view before its round to that of its round (this project)
abbrev pub AreLed : CurvedView → List (Note × CurvedView) → CurvedView → Type 0
AreLed v [] w = w ≡ v
AreLed v (r ∷ rs) w = Leads v r.0 r.1 × AreLed r.1 rs w

-- what was heard, and the notes of these rounds more
abbrev pub heard_in : Option (List Note) → List (Note × CurvedView) → Option (List Note)
heard_in o [] = o
heard_in o (r ∷ rs) = heard_in (heard_after o r.0) rs

abbrev pub seat_names : List SeatRow → List ℕ
seat_names ss = map (λ s. s.name) ss

-- no two seats have one name
abbrev pub HaveNamesApart : List SeatRow → Type 0
HaveNamesApart ss = IsDistinct ◌==◌ (seat_names ss)

-- rounds follow on rounds; names stay apart; a seated observer that stays through rounds has heard just their notes, in their order; and where the notes lead from view to view, what was held at first is held at last (this project)
pub record AreRoundsLawful : Type 0 where
  pub follow : (rs qs : List (Note × CurvedView)) (a b c : BusRow) → AreRounds rs a b → AreRounds qs b c → AreRounds (rs ++ qs) a c
  pub apart : (rs : List (Note × CurvedView)) (a b : BusRow) → AreRounds rs a b → HaveNamesApart a.seats → HaveNamesApart b.seats
  pub heard : (rs : List (Note × CurvedView)) (a b : BusRow) → AreRounds rs a b → HaveNamesApart a.seats → (s t : SeatRow) → Member s a.seats → Member t b.seats →
      s.join ≡ None → t.name ≡ s.name → (t.join ≡ None) × (t.heard ≡ heard_in s.heard rs)
  pub held : (rs : List (Note × CurvedView)) (a b : BusRow) → AreRounds rs a b → (v w : CurvedView) → AreLed v rs w → All (Holds v) a.seats → All (Holds w) b.seats

-- ---- fates by losses
abbrev pub with_lost : Fate → ℕ → List ℕ → List ℕ
with_lost Lost k ks = k ∷ ks
with_lost other k ks = ks

-- the names of the seats that were lost
abbrev pub lost_names : List Fate → List SeatRow → List ℕ
lost_names [] ss = []
lost_names (f ∷ fs) [] = []
lost_names (f ∷ fs) (s ∷ ss) = with_lost f s.name (lost_names fs ss)

abbrev pub is_one_of : List ℕ → ℕ → Bool
is_one_of ks k = list_any (λ m. m == k) ks

-- the fates of seats, where those of these names are lost, if they may be (this project)
abbrev pub fates_by : List ℕ → List SeatRow → List Fate
fates_by ks ss = map (λ s. fate (is_one_of ks s.name) s) ss

-- a round is told by its seats and the names lost in it (this project)
abbrev pub AreFatesByLosses : Type 0
AreFatesByLosses = (n : Note) (w : CurvedView) (fs : List Fate) (ss ts : List SeatRow) → IsRound n w fs ss ts → HaveNamesApart ss → fs ≡ fates_by (lost_names fs ss) ss

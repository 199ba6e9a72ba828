-- Seats of a bus as contracts see them, and what a round makes of each.
use Rattle.std.specs.Prelude.{◌≡◌, ℕ, ◌==◌, Bool, true, false, cond, List, Option, Some, None, IsSome, IsTrue, ◌⊎◌, ⊤}
use Rattle.arr_notes.specs.CurvedView.{CurvedView, step_view}
use Rattle.arr_notes.specs.Notes.{FitsNote, held_after, heard_after, is_one, left_after, one_less}
use Rattle.arr_notes.specs.declared.note.Note.{Note}
use Rattle.arr_notes.specs.declared.note.Note.TheVariants.{Before, After, Snapshot}
use Rattle.observer_bus.specs.declared.seat.Fate.{Fate}
use Rattle.observer_bus.specs.declared.seat.Fate.TheVariants.{Told, ToldLast, LeftUntold, Joined, Waits, Lost}

-- a seat: its name, in how many rounds it joins and leaves, where that is planned, and what its observer means (this project)
pub record SeatRow : Type 0 where
  pub name : ℕ
  pub join : Option ℕ
  pub leave : Option ℕ
  pub tells : Bool
  pub held : Option CurvedView
  pub left : Option ℕ
  pub heard : Option (List Note)

-- ---- fates
-- what becomes of a seated observer by its plan to leave and the notes left to it; the flag: it is lost where it may be
abbrev pub fate_seated : Bool → Option ℕ → Option ℕ → Fate
fate_seated lost leave left = cond (is_one leave) LeftUntold (cond (is_one left) ToldLast (cond lost Lost Told))

-- what becomes of a join that is planned
abbrev pub fate_planned : Bool → ℕ → Fate
fate_planned lost k = cond (k == 1) (cond lost Lost Joined) Waits

abbrev pub fate_by : Bool → Option ℕ → Option ℕ → Option ℕ → Fate
fate_by lost None leave left = fate_seated lost leave left
fate_by lost (Some k) leave left = fate_planned lost k

-- what becomes of a seat in a round; the flag: it is lost where it may be, that is where a snapshot is due, or a note is told that isn't the last counted (this project)
abbrev pub fate : Bool → SeatRow → Fate
fate lost s = fate_by lost s.join s.leave s.left

-- the fate is one that the seat may have
abbrev pub IsFateOf : Fate → SeatRow → Type 0
IsFateOf f s = (f ≡ fate false s) ⊎ (f ≡ fate true s)

-- the seat isn't emptied
abbrev pub stays : Fate → Bool
stays Told = true
stays Joined = true
stays Waits = true
stays other = false

-- a seated observer was told a note, once, and stayed (this project)
pub record IsTold (n : Note) (s t : SeatRow) : Type 0 where
  pub name : t.name ≡ s.name
  pub join : t.join ≡ None
  pub leave : t.leave ≡ one_less s.leave
  pub tells : t.tells ≡ s.tells
  pub left : t.left ≡ left_after s.left n
  pub heard : t.heard ≡ heard_after s.heard n
  pub held : IsTrue s.tells → t.held ≡ held_after s.held n

-- a newcomer was handed a snapshot (this project)
pub record HasJoined (w : CurvedView) (s t : SeatRow) : Type 0 where
  pub name : t.name ≡ s.name
  pub join : t.join ≡ None
  pub leave : t.leave ≡ s.leave
  pub tells : t.tells ≡ s.tells
  pub left : t.left ≡ s.left
  pub heard : t.heard ≡ heard_after s.heard (Snapshot w)
  pub held : IsTrue s.tells → t.held ≡ Some w

-- a planned join, one round nearer
abbrev pub waiting : SeatRow → SeatRow
waiting s = record { name = s.name; join = one_less s.join; leave = s.leave; tells = s.tells; held = s.held; left = s.left; heard = s.heard }

-- what a seat that stays has become, by its fate
abbrev pub IsKept : Note → CurvedView → Fate → SeatRow → SeatRow → Type 0
IsKept n w Told s t = IsTold n s t
IsKept n w Joined s t = HasJoined w s t
IsKept n w Waits s t = t ≡ waiting s
IsKept n w other s t = ⊥

-- a seated observer was told its last note, once (this project)
pub record IsToldLast (n : Note) (s t : SeatRow) : Type 0 where
  pub name : t.name ≡ s.name
  pub join : t.join ≡ None
  pub leave : t.leave ≡ one_less s.leave
  pub tells : t.tells ≡ s.tells
  pub heard : t.heard ≡ heard_after s.heard n

-- an observer was lost: whether it has heard the note, and what it holds and counts then, isn't known; a newcomer counts no snapshot (this project)
pub record IsLost (s t : SeatRow) : Type 0 where
  pub name : t.name ≡ s.name
  pub join : t.join ≡ s.join
  pub tells : t.tells ≡ s.tells
  pub left : IsSome s.join → t.left ≡ s.left

-- what a seat that is emptied has become when its observer is dropped, by its fate (this project)
abbrev pub IsGone : Note → Fate → SeatRow → SeatRow → Type 0
IsGone n ToldLast s t = IsToldLast n s t
IsGone n LeftUntold s t = t ≡ s
IsGone n Lost s t = IsLost s t
IsGone n other s t = ⊥

-- ---- conditions
-- the note is told in rounds: a snapshot is not
abbrev pub IsRoundNote : Note → Type 0
IsRoundNote (Before i) = ⊤
IsRoundNote (After c) = ⊤
IsRoundNote (Snapshot w) = ⊥

-- a seated observer that tells a view holds this one (this project)
abbrev pub Holds : CurvedView → SeatRow → Type 0
Holds w s = s.join ≡ None → IsTrue s.tells → s.held ≡ Some w

-- a seated observer may be told a note (this project)
abbrev pub MayHear : Note → SeatRow → Type 0
MayHear n s = s.join ≡ None → IsTrue s.tells → FitsNote s.held n

-- the records' view before a round's note was made, and the view that they have in the round (this project)
abbrev pub Leads : CurvedView → Note → CurvedView → Type 0
Leads v (Before i) w = w ≡ v
Leads v (After c) w = w ≡ step_view v c
Leads v (Snapshot u) w = ⊥

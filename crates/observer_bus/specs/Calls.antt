-- What the calls of a bus make of its seats, and when they are refused.
use Rattle.std.specs.Prelude.{◌≡◌, ℕ, ◌==◌, ◌&&◌, Bool, true, false, cond, if◌then◌else◌, List, [], ◌∷◌, ◌++◌, Option, Some, None, is_none, IsTrue, Result, Ok, Err, length}
use Rattle.std.specs.List.{list_any}
use Rattle.arr_notes.specs.CurvedView.{CurvedView, IsSoundView, view_text}
use Rattle.arr_notes.specs.Notes.{IsHeld}
use Rattle.observer_bus.specs.Seats.{SeatRow, HasJoined}
use Rattle.observer_bus.specs.Rounds.{BusRow}
use Rattle.observer_bus.specs.declared.errors.AttachError.{AttachError}
use Rattle.observer_bus.specs.declared.errors.AttachError.TheVariants.{Taken, Full, NoMemory}

-- ---- attach
-- a seat, or a join that is planned, has the name
abbrev pub has_name : ℕ → List SeatRow → Bool
has_name k ss = list_any (λ s. s.name == k) ss

-- why an observer isn't taken, first reason first: the name is there; eight are there (this project)
abbrev pub attach_refusal : ℕ → List SeatRow → Option AttachError
attach_refusal k ss = if has_name k ss then Some Taken else (if length ss == 8 then Some (Full 8) else None)

-- the reason that an error tells; want of memory isn't one
abbrev pub attach_said : AttachError → Option AttachError
attach_said NoMemory = None
attach_said e = Some e

-- the call is refused for just this reason, and where there is none only for want of memory (this project)
abbrev pub IsAttachAnswer : {T B : Type 0} → Option AttachError → Result T (B × AttachError) → Type 0
IsAttachAnswer r (Ok u) = r ≡ None
IsAttachAnswer r (Err e) = attach_said e.1 ≡ r

-- a newcomer is handed a snapshot at once, or waits for its round as it is
abbrev pub IsPlaced : Option ℕ → CurvedView → SeatRow → SeatRow → Type 0
IsPlaced None w s t = HasJoined w s t
IsPlaced (Some k) w s t = t ≡ s

-- the newcomer stands last, and no round may come until an edit begins (this project)
pub record IsAttached (w : CurvedView) (s : SeatRow) (old new : BusRow) : Type 0 where
  pub seated : SeatRow
  pub placed : IsPlaced s.join w s seated
  pub last : new.seats ≡ old.seats ++ seated ∷ []
  pub went : new.went ≡ old.went
  pub settled : new.settled ≡ false

-- ---- leave
-- with this plan to join, and under this name, an observer is seated as k: one whose join is planned isn't seated
abbrev pub is_seated_as : ℕ → Option ℕ → ℕ → Bool
is_seated_as k join name = is_none join && name == k

abbrev pub is_seat_of : ℕ → SeatRow → Bool
is_seat_of k s = is_seated_as k s.join s.name

-- a seated observer has the name (this project)
abbrev pub has_seat : ℕ → List SeatRow → Bool
has_seat k ss = list_any (is_seat_of k) ss

-- the seat with this plan to leave
abbrev pub leaving : ℕ → SeatRow → SeatRow
leaving when s = record { name = s.name; join = s.join; leave = Some when; tells = s.tells; held = s.held; left = s.left; heard = s.heard }

-- a seat is emptied at once, or its plan is this round
abbrev pub with_leave : Option ℕ → SeatRow → List SeatRow → List SeatRow
with_leave None s ss = ss
with_leave (Some when) s ss = leaving when s ∷ ss

-- the seats after the seated observer of the name leaves, or plans it (this project)
abbrev pub seats_left : ℕ → Option ℕ → List SeatRow → List SeatRow
seats_left k when [] = []
seats_left k when (s ∷ ss) = cond (is_seat_of k s) (with_leave when s ss) (s ∷ seats_left k when ss)

-- a bus with other seats
abbrev pub with_seats : List SeatRow → BusRow → BusRow
with_seats ss b = record { seats = ss; went = b.went; settled = b.settled }

-- ---- begin
-- a bus when an accepted edit begins (this project)
abbrev pub begun : BusRow → BusRow
begun b = record { seats = b.seats; went = record { joined = []; left = []; lost = [] }; settled = true }

-- ---- report
-- what a seated observer that tells holds is sound (this project)
abbrev pub IsHeldSound : SeatRow → Type 0
IsHeldSound s = s.join ≡ None → IsTrue s.tells → (w : CurvedView) → IsHeld s.held w → IsSoundView w

-- the first seat whose observer is seated under the name
abbrev pub seat_of : ℕ → List SeatRow → Option SeatRow
seat_of k [] = None
seat_of k (s ∷ ss) = cond (is_seat_of k s) (Some s) (seat_of k ss)

-- the bytes are the text of the view, where the observer tells and holds one (this project)
abbrev pub IsReport : List ℕ → Option SeatRow → Type 0
IsReport bytes None = ⊥
IsReport bytes (Some s) = IsTrue s.tells → (w : CurvedView) → IsHeld s.held w → bytes ≡ view_text w

-- Rounds: each seat has one turn, and those that joined, left and were lost are written down.
use Rattle.std.specs.Prelude.{◌≡◌, ℕ, ◌+◌, ◌≤◌, ◌<◌, Bool, List, [], ◌∷◌, Option, Some, None, length, ⊤}
use Rattle.std.specs.Ordering.{nat_cmp}
use Rattle.plane_graphs.specs.Ascending.{place}
use Rattle.arr_notes.specs.CurvedView.{CurvedView}
use Rattle.arr_notes.specs.declared.note.Note.{Note}
use Rattle.observer_bus.specs.Seats.{SeatRow, IsFateOf, IsGone, IsKept}
use Rattle.observer_bus.specs.declared.seat.Fate.{Fate}
use Rattle.observer_bus.specs.declared.seat.Fate.TheVariants.{ToldLast, LeftUntold, Joined, Lost}
use Rattle.observer_bus.specs.declared.went.Went.{Went}

-- a bus: its seats in their order, the names since an edit began, and whether no attach came since then (this project)
pub record BusRow : Type 0 where
  pub seats : List SeatRow
  pub went : Went
  pub settled : Bool

-- one round, seat by seat: each has a fate that it may have, and either stays in its place as that fate says, or is emptied, and was then as that fate says (this project)
pub data IsRound (n : Note) (w : CurvedView) : List Fate → List SeatRow → List SeatRow → Type 0 where
  ended : IsRound n w [] [] []
  kept : {f : Fate} {fs : List Fate} {s t : SeatRow} {ss ts : List SeatRow} →
      IsFateOf f s → IsKept n w f s t → IsRound n w fs ss ts → IsRound n w (f ∷ fs) (s ∷ ss) (t ∷ ts)
  gone : {f : Fate} {fs : List Fate} {s : SeatRow} {ss ts : List SeatRow} →
      IsFateOf f s → (t : SeatRow) → IsGone n f s t → IsRound n w fs ss ts → IsRound n w (f ∷ fs) (s ∷ ss) ts

-- the names, with one whose seat has this fate
abbrev pub noted : Fate → ℕ → Went → Went
noted Joined k g = record { joined = place nat_cmp k g.joined; left = g.left; lost = g.lost }
noted ToldLast k g = record { joined = g.joined; left = place nat_cmp k g.left; lost = g.lost }
noted LeftUntold k g = record { joined = g.joined; left = place nat_cmp k g.left; lost = g.lost }
noted Lost k g = record { joined = g.joined; left = g.left; lost = place nat_cmp k g.lost }
noted other k g = g

-- the names after a round (this project)
abbrev pub went_after : List Fate → List SeatRow → Went → Went
went_after [] ss g = g
went_after (f ∷ fs) [] g = g
went_after (f ∷ fs) (s ∷ ss) g = went_after fs ss (noted f s.name g)

-- one round of seats, with what it writes down
abbrev pub IsRoundOf : Note → CurvedView → List SeatRow → Went → List SeatRow → Went → Type 0
IsRoundOf n w ss g ts h = (fs : List Fate) × IsRound n w fs ss ts × (h ≡ went_after fs ss g)

-- one round of a bus (this project)
abbrev pub AreInRound : Note → CurvedView → BusRow → BusRow → Type 0
AreInRound n w old new = IsRoundOf n w old.seats old.went new.seats new.went × (new.settled ≡ old.settled)

-- ---- room
-- how many joins are planned
abbrev pub planned : List (Option ℕ) → ℕ
planned [] = 0
planned (None ∷ js) = planned js
planned (Some k ∷ js) = 1 + planned js

-- eight names are room enough for those of seats with these joins, whatever becomes of them
pub record HaveRoom (js : List (Option ℕ)) (g : Went) : Type 0 where
  pub joined : length g.joined + planned js ≤ 8
  pub gone : length g.left + length g.lost + length js ≤ 8

-- there is room for one name of this fate
abbrev pub HasRoomFor : Fate → Went → Type 0
HasRoomFor Joined g = length g.joined < 8
HasRoomFor ToldLast g = length g.left < 8
HasRoomFor LeftUntold g = length g.left < 8
HasRoomFor Lost g = length g.lost < 8
HasRoomFor other g = ⊤

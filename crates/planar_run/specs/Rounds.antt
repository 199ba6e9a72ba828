-- Rounds of an edit: what becomes of seats, and whose names are written down. Who is lost in a round is given.
use Rattle.std.specs.Prelude.{◌≡◌, ℕ, ◌*◌, ◌+◌, ◌≤◌, List, [], ◌∷◌, None, length}
use Rattle.std.specs.List.{flat_map}
use Rattle.edit_steps.specs.Edits.{Edit, steps}
use Rattle.arr_notes.specs.Notes.{one_less}
use Rattle.observer_bus.specs.declared.seat.Fate.{Fate}
use Rattle.observer_bus.specs.declared.seat.Fate.TheVariants.{Told, Joined, Waits}
use Rattle.observer_bus.specs.declared.went.Went.{Went}
use Rattle.observer_bus.specs.RoundLaws.{is_one_of}
use Rattle.observer_bus.specs.Rounds.{noted}
use Rattle.observer_bus.specs.Seats.{fate_by}
use Rattle.planar_run.specs.World.{Seat, World}

-- what becomes of a seat in a round in which the observers of these names are lost, where they may be (this project)
abbrev pub fate_in : List ℕ → Seat → Fate
fate_in lost s = fate_by (is_one_of lost s.name) s.join s.leave s.left

-- a seat after a round, by its fate; none where it is emptied (this project)
abbrev pub seat_after : Fate → Seat → List Seat
seat_after Told s = record { name = s.name; join = None; leave = one_less s.leave; tells = s.tells; left = one_less s.left } ∷ []
seat_after Joined s = record { name = s.name; join = None; leave = s.leave; tells = s.tells; left = s.left } ∷ []
seat_after Waits s = record { name = s.name; join = one_less s.join; leave = s.leave; tells = s.tells; left = s.left } ∷ []
seat_after other s = []

-- the seats after a round
abbrev pub seats_after : List ℕ → List Seat → List Seat
seats_after lost ss = flat_map (λ s. seat_after (fate_in lost s) s) ss

-- the names after a round: who joined, left and was lost
abbrev pub went_in : List ℕ → List Seat → Went → Went
went_in lost [] g = g
went_in lost (s ∷ ss) g = went_in lost ss (noted (fate_in lost s) s.name g)

-- seats, and the names of those that joined, left and were lost
pub record Seated : Type 0 where
  pub seats : List Seat
  pub went : Went

abbrev pub nobody : Went
nobody = record { joined = []; left = []; lost = [] }

-- what becomes of seats in rounds, one after the other, each with the names of those that are lost in it, where they may be (this project)
abbrev pub after_rounds : List (List ℕ) → List Seat → Went → Seated
after_rounds [] ss g = record { seats = ss; went = g }
after_rounds (lost ∷ more) ss g = after_rounds more (seats_after lost ss) (went_in lost ss g)

-- what becomes of the seats of a world in an edit
abbrev pub seated_after : List (List ℕ) → World → Seated
seated_after losses world = after_rounds losses world.seats nobody

-- at most eight observers joined, and at most eight left or were lost
pub record AreFew (g : Went) : Type 0 where
  pub joined : length g.joined ≤ 8
  pub gone : length g.left + length g.lost ≤ 8

-- as many rounds as an edit has: two for each of its steps (CGAL manual, `Arr_observer`)
abbrev pub AreRoundsOf : List (List ℕ) → Edit → World → Type 0
AreRoundsOf losses edit world = length losses ≡ 2 * length (steps edit world.layer.present)

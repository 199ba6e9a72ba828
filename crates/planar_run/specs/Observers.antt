-- What the lines on observers ask of a world, and make of it.
use Rattle.std.specs.Prelude.{◌≡◌, ◌⊎◌, ℕ, ◌-◌, ◌==◌, ◌||◌, ◌&&◌, not, nat_lt, Bool, false, cond, if◌then◌else◌, List, [], ◌∷◌, ◌++◌, length, set, get_or, Option, Some, None, is_some, Result, Ok, Err}
use Rattle.std.specs.List.{list_any}
use Rattle.slab_laws.specs.Text.{present_text}
use Rattle.observer_bus.specs.Calls.{is_seated_as}
use Rattle.observer_bus.specs.declared.errors.AttachError.{AttachError}
use Rattle.observer_bus.specs.declared.errors.AttachError.TheVariants.{Taken as TakenName, Full as FullBus, NoMemory as NoneForNewcomer}
use Rattle.planar_run.specs.declared.places.AttachRefusal.{AttachRefusal}
use Rattle.planar_run.specs.declared.places.AttachRefusal.TheVariants.{Gone, Taken, Full, NoMemory}
use Rattle.planar_run.specs.World.{current, Half, Seat, Waiting, World}

-- the observer of the number, while it waits
abbrev pub waiting_as : ℕ → World → Option Waiting
waiting_as i world = get_or world.waiting (i - 1) None

-- a seat, or a join that is planned, has the number
abbrev pub is_placed_in : ℕ → List Seat → Bool
is_placed_in i seats = list_any (λ s. s.name == i) seats

-- one of either layer has it
abbrev pub is_placed : ℕ → World → Bool
is_placed i world = is_placed_in i world.other.seats || is_placed_in i world.seats

-- the observer of the number is seated under this seat: one whose join is planned isn't seated
abbrev pub is_seat_of : ℕ → Seat → Bool
is_seat_of i s = is_seated_as i s.join s.name

abbrev pub is_seated_in : ℕ → List Seat → Bool
is_seated_in i seats = list_any (is_seat_of i) seats

-- it is seated in either layer
abbrev pub is_seated : ℕ → World → Bool
is_seated i world = is_seated_in i world.seats || is_seated_in i world.other.seats

-- so many observers were not handed in
abbrev pub is_above : ℕ → World → Bool
is_above i world = nat_lt (length world.waiting) i

-- why an observer isn't attached: 14, there is none of the number, or it has left or was lost; 15, it is seated, or its join is planned, in either layer; 17, eight are there in the layer that lines mean
abbrev pub attach_refusal : ℕ → World → Option ℕ
attach_refusal i world =
    if is_above i world || (not (is_some (waiting_as i world)) && not (is_placed i world)) then Some 14
    else (if is_placed i world then Some 15 else (if length world.seats == 8 then Some 17 else None))

-- why an observer isn't let go or asked: 14, there is none of the number; 16, it isn't seated
abbrev pub seat_refusal : ℕ → World → Option ℕ
seat_refusal i world = if is_above i world then Some 14 else (if is_seated i world then None else Some 16)

-- the number that tells why an observer isn't attached; want of memory has none (this project)
abbrev pub attach_number : AttachRefusal → Option ℕ
attach_number Gone = Some 14
attach_number Taken = Some 15
attach_number Full = Some 17
attach_number NoMemory = None

-- the number that tells a bus's error (this project)
abbrev pub error_number : AttachError → Option ℕ
error_number TakenName = Some 15
error_number (FullBus limit) = Some 17
error_number NoneForNewcomer = None

-- an observer isn't attached for just this reason, and where there is none only for want of memory (this project)
abbrev pub IsAttachAnswer : {T : Type 0} → Option ℕ → Result T AttachRefusal → Type 0
IsAttachAnswer reason (Ok done) = reason ≡ None
IsAttachAnswer reason (Err error) = attach_number error ≡ reason

-- the newcomer stands last, with its plan to join, where there is one
abbrev pub newcomer : ℕ → Option ℕ → Waiting → Seat
newcomer i when w = record { name = i; join = when; leave = None; tells = w.tells; left = w.left }

abbrev pub with_newcomer : ℕ → Option ℕ → Option Waiting → World → World
with_newcomer i when None world = world
with_newcomer i when (Some w) world = record world { seats = world.seats ++ newcomer i when w ∷ []; waiting = set world.waiting (i - 1) None }

-- the world with one more seat
abbrev pub attached : ℕ → Option ℕ → World → World
attached i when world = with_newcomer i when (waiting_as i world) world

-- a seat is emptied at once, or its plan to leave is this round
abbrev pub with_leave : Option ℕ → Seat → List Seat → List Seat
with_leave None s ss = ss
with_leave (Some when) s ss = record { name = s.name; join = s.join; leave = Some when; tells = s.tells; left = s.left } ∷ ss

-- the seats after the observer of the number leaves, or plans it
abbrev pub seats_left : ℕ → Option ℕ → List Seat → List Seat
seats_left i when [] = []
seats_left i when (s ∷ ss) = cond (is_seat_of i s) (with_leave when s ss) (s ∷ seats_left i when ss)

-- the world after it leaves its layer, or plans it: the one that lines mean, where it is seated there, else the other
abbrev pub leaving : ℕ → Option ℕ → World → World
leaving i when world =
    if is_seated_in i world.seats then record world { seats = seats_left i when world.seats }
    else record world { other = record { layer = world.other.layer; seats = seats_left i when world.other.seats } }

-- the first seat under which the observer of the number is seated
abbrev pub seat_of : ℕ → List Seat → Option Seat
seat_of i [] = None
seat_of i (s ∷ ss) = cond (is_seat_of i s) (Some s) (seat_of i ss)

abbrev pub TellsNothing : Option Seat → Type 0
TellsNothing None = ⊥
TellsNothing (Some s) = s.tells ≡ false

-- the layer in which the observer of the number is seated: the one that lines mean, or the other
abbrev pub half_with : ℕ → World → Half
half_with i world = if is_seated_in i world.seats then current world else world.other

-- the observer of the number is seated, and tells no view: nothing is known of its report (this project)
abbrev pub IsUntold : ℕ → World → Type 0
IsUntold i world = TellsNothing (seat_of i (half_with i world).seats)

-- the text of the subdivision of its layer
abbrev pub report_of : ℕ → World → List ℕ
report_of i world = present_text (half_with i world).layer.present

-- the bytes are this text, where the seated observer of the number tells a view (this project)
abbrev pub IsReportIn : ℕ → World → List ℕ → Type 0
IsReportIn i world bytes = IsUntold i world ⊎ (bytes ≡ report_of i world)

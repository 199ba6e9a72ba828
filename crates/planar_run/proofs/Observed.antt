-- What the calls of a bus make of its seats, as a script knows them.
use Rattle.std.proofs.Common.{◌≡◌, ◌≢◌, ℕ, ◌+◌, ◌≤◌, ◌==◌, Bool, true, false, cond, List, [], ◌∷◌, ◌++◌, Option, Some, None, length, map, option_map, refl, sym, ap, ◌∙◌, arith, length-append}
use Rattle.std.specs.List.{list_any}
use Rattle.std.proofs.lemmas.List.{length-map, map-append}
use Rattle.arr_notes.specs.CurvedView.{CurvedView}
use Rattle.observer_bus.proofs.Seating.{any_by}
use Rattle.observer_bus.specs.Calls.{IsAttached, IsPlaced, has_name, has_seat, is_seat_of as is_row_of, seat_of as row_of, seats_left as rows_left, with_leave as rows_with_leave}
use Rattle.observer_bus.specs.Rounds.{BusRow}
use Rattle.observer_bus.specs.Seats.{SeatRow}
use Rattle.planar_run.specs.Observers.{is_seat_of, newcomer, seat_of, seats_left, with_leave}
use Rattle.planar_run.specs.Rows.{seat_row}
use Rattle.planar_run.specs.World.{Seat}

-- ---- as many, and under the same names
pub length_rows : (ss : List SeatRow) → length (map seat_row ss) ≡ length ss
length_rows ss = length-map ss seat_row

pub named_rows : (i : ℕ) (ss : List SeatRow) → list_any (λ s. s.name == i) (map seat_row ss) ≡ has_name i ss
named_rows i ss = any_by (λ s. s.name == i) seat_row ss

pub seated_rows : (i : ℕ) (ss : List SeatRow) → list_any (is_seat_of i) (map seat_row ss) ≡ has_seat i ss
seated_rows i ss = any_by (is_seat_of i) seat_row ss

-- ---- leave
leave_row : (when : Option ℕ) (s : SeatRow) (ss : List SeatRow) → with_leave when (seat_row s) (map seat_row ss) ≡ map seat_row (rows_with_leave when s ss)
leave_row None s ss = refl
leave_row (Some k) s ss = refl

left_by : (b : Bool) (when : Option ℕ) (s : SeatRow) (ss ts : List SeatRow) (us : List Seat) → us ≡ map seat_row ts →
    cond b (with_leave when (seat_row s) (map seat_row ss)) (seat_row s ∷ us) ≡ map seat_row (cond b (rows_with_leave when s ss) (s ∷ ts))
left_by true when s ss ts us e = leave_row when s ss
left_by false when s ss ts us e = ap (λ x. seat_row s ∷ x) e

pub left_rows : (i : ℕ) (when : Option ℕ) (ss : List SeatRow) → seats_left i when (map seat_row ss) ≡ map seat_row (rows_left i when ss)
left_rows i when [] = refl
left_rows i when (s ∷ ss) = left_by (is_row_of i s) when s ss (rows_left i when ss) (seats_left i when (map seat_row ss)) (left_rows i when ss)

few_by : (b : Bool) (when : Option ℕ) (s : SeatRow) (ss ts : List SeatRow) → length ts ≤ length ss → length (cond b (rows_with_leave when s ss) (s ∷ ts)) ≤ length (s ∷ ss)
few_by true None s ss ts h = omega arith
few_by true (Some k) s ss ts h = omega arith
few_by false when s ss ts h = omega (arith, h)

-- no seat comes by a leave
pub few_left : (i : ℕ) (when : Option ℕ) (ss : List SeatRow) → length (rows_left i when ss) ≤ length ss
few_left i when [] = omega arith
few_left i when (s ∷ ss) = few_by (is_row_of i s) when s ss (rows_left i when ss) (few_left i when ss)

-- ---- the seat of a name
seat_by : (b : Bool) (s : SeatRow) (o : Option SeatRow) (p : Option Seat) → p ≡ option_map seat_row o → cond b (Some (seat_row s)) p ≡ option_map seat_row (cond b (Some s) o)
seat_by true s o p e = refl
seat_by false s o p e = e

pub seat_of_rows : (i : ℕ) (ss : List SeatRow) → seat_of i (map seat_row ss) ≡ option_map seat_row (row_of i ss)
seat_of_rows i [] = refl
seat_of_rows i (s ∷ ss) = seat_by (is_row_of i s) s (row_of i ss) (seat_of i (map seat_row ss)) (seat_of_rows i ss)

-- ---- attach
-- a script knows of a newcomer what it was before it was handed a snapshot
placed_row : (o : Option ℕ) (w : CurvedView) (s t : SeatRow) → s.join ≡ o → IsPlaced o w s t → seat_row t ≡ seat_row s
placed_row None w s t e p = λ i. record { name = p.name i; join = (p.join ∙ sym e) i; leave = p.leave i; tells = p.tells i; left = p.left i }
placed_row (Some k) w s t e p = ap seat_row p

-- the newcomer stands last
pub attached_rows : (w : CurvedView) (s : SeatRow) (old new : BusRow) → IsAttached w s old new → (i : ℕ) (when : Option ℕ) → s.name ≡ i → s.join ≡ when → s.leave ≡ None →
    map seat_row new.seats ≡ map seat_row old.seats ++ newcomer i when (record { tells = s.tells; left = s.left }) ∷ []
attached_rows w s old new a i when en ej el =
    let q : seat_row s ≡ newcomer i when (record { tells = s.tells; left = s.left }) = λ x. record { name = en x; join = ej x; leave = el x; tells = s.tells; left = s.left } in
    ap (map seat_row) a.last ∙ map-append seat_row old.seats (a.seated ∷ []) ∙ ap (λ r. map seat_row old.seats ++ r ∷ []) (placed_row s.join w s a.seated refl a.placed ∙ q)

-- where eight weren't there, at most eight are
pub few_attached : (w : CurvedView) (s : SeatRow) (old new : BusRow) → IsAttached w s old new → length old.seats ≤ 8 → length old.seats ≢ 8 → length new.seats ≤ 8
few_attached w s old new a le ne =
    let l : length new.seats ≡ length old.seats + 1 = ap length a.last ∙ length-append old.seats (a.seated ∷ []) in
    omega (arith, l, le, ne)

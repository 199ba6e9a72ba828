-- What told steps make of the seats of a bus, as a script knows them: rounds, each by the names lost in it; and that the names stay few.
use Rattle.std.proofs.Common.{◌≡◌, ℕ, ◌+◌, ◌*◌, ◌≤◌, Bool, true, false, List, [], ◌∷◌, ◌++◌, Option, None, length, map, refl, sym, ap, ap₂, subst, ◌∙◌, inl, inr, arith, append_assoc}
use Rattle.std.specs.Prelude.{⊤}
use Rattle.std.proofs.lemmas.List.{length-map, map-append}
use Rattle.edit_steps.specs.Steps.{Step}
use Rattle.arr_notes.specs.Curves.{Curves, step_curves}
use Rattle.arr_notes.specs.CurvedView.{CurvedView}
use Rattle.arr_notes.specs.MapView.{MapView, step_map}
use Rattle.arr_notes.specs.Notes.{left_after, one_less}
use Rattle.arr_notes.specs.declared.note.Note.{Note}
use Rattle.arr_notes.specs.declared.note.Note.TheVariants.{Before, After, Snapshot}
use Rattle.observer_bus.proofs.Hearing.{rounds_lawful}
use Rattle.observer_bus.proofs.Losses.{fates_by_losses}
use Rattle.observer_bus.proofs.Room.{FitsJoin, fits_join, room_kept, room_gone}
use Rattle.observer_bus.proofs.Seating.{room_at_first}
use Rattle.observer_bus.specs.Calls.{begun}
use Rattle.observer_bus.specs.RoundLaws.{AreRounds, HaveNamesApart, fates_by, is_one_of, lost_names}
use Rattle.observer_bus.specs.Rounds.{AreInRound, BusRow, HaveRoom, IsRound, ended, kept, gone, noted, went_after}
use Rattle.observer_bus.specs.Seats.{SeatRow, IsFateOf, IsGone, IsKept, IsRoundNote, fate}
use Rattle.observer_bus.specs.declared.seat.Fate.{Fate}
use Rattle.observer_bus.specs.declared.seat.Fate.TheVariants.{Told, ToldLast, LeftUntold, Joined, Waits, Lost}
use Rattle.observer_bus.specs.declared.went.Went.{Went}
use Rattle.told_steps.proofs.ToldTogether.{told_runs_lawful}
use Rattle.told_steps.specs.ToldLaws.{AreRoundsOf}
use Rattle.told_steps.specs.ToldRuns.{IsToldRun}
use Rattle.planar_run.specs.Rounds.{Seated, after_rounds, fate_in, nobody, seat_after, seats_after, went_in}
use Rattle.planar_run.specs.Rows.{seat_row}
use Rattle.planar_run.specs.World.{Seat}

-- ---- one turn
one_heard : (n : Note) → IsRoundNote n → (o : Option ℕ) → left_after o n ≡ one_less o
one_heard (Before i) r o = refl
one_heard (After c) r o = refl
one_heard (Snapshot w) r o = absurd r

-- a seat that stays
kept_row : (n : Note) (w : CurvedView) → IsRoundNote n → (f : Fate) (s t : SeatRow) → IsKept n w f s t → seat_row t ∷ [] ≡ seat_after f (seat_row s)
kept_row n w r Told s t k = λ i. record { name = k.name i; join = k.join i; leave = k.leave i; tells = k.tells i; left = (k.left ∙ one_heard n r s.left) i } ∷ []
kept_row n w r Joined s t k = λ i. record { name = k.name i; join = k.join i; leave = k.leave i; tells = k.tells i; left = k.left i } ∷ []
kept_row n w r Waits s t k = ap (λ q. seat_row q ∷ []) k
kept_row n w r ToldLast s t k = absurd k
kept_row n w r LeftUntold s t k = absurd k
kept_row n w r Lost s t k = absurd k

-- a seat that is emptied
gone_row : (n : Note) (f : Fate) (s t : SeatRow) → IsGone n f s t → [] ≡ seat_after f (seat_row s)
gone_row n ToldLast s t o = refl
gone_row n LeftUntold s t o = refl
gone_row n Lost s t o = refl
gone_row n Told s t o = absurd o
gone_row n Joined s t o = absurd o
gone_row n Waits s t o = absurd o

-- ---- one round
-- seats after a round, by their fates
abbrev rows_by : List Fate → List SeatRow → List Seat
rows_by [] ss = []
rows_by (f ∷ fs) [] = []
rows_by (f ∷ fs) (s ∷ ss) = seat_after f (seat_row s) ++ rows_by fs ss

by_fates : (n : Note) (w : CurvedView) → IsRoundNote n → {fs : List Fate} {ss ts : List SeatRow} → IsRound n w fs ss ts → map seat_row ts ≡ rows_by fs ss
by_fates n w r ended = refl
by_fates n w r (kept {f = f} {s = s} {t = t} q k m) = ap₂ (λ x y. x ++ y) (kept_row n w r f s t k) (by_fates n w r m)
by_fates n w r (gone {f = f} {s = s} q t g m) = ap₂ (λ x y. x ++ y) (gone_row n f s t g) (by_fates n w r m)

-- fates by the names lost are those of the seats that a script knows
rows_lost : (lost : List ℕ) (ss : List SeatRow) → rows_by (fates_by lost ss) ss ≡ seats_after lost (map seat_row ss)
rows_lost lost [] = refl
rows_lost lost (s ∷ ss) = ap (λ x. seat_after (fate (is_one_of lost s.name) s) (seat_row s) ++ x) (rows_lost lost ss)

went_lost : (lost : List ℕ) (ss : List SeatRow) (g : Went) → went_after (fates_by lost ss) ss g ≡ went_in lost (map seat_row ss) g
went_lost lost [] g = refl
went_lost lost (s ∷ ss) g = went_lost lost ss (noted (fate (is_one_of lost s.name) s) s.name g)

-- ---- rounds
abbrev AreRoundNotes : List (Note × CurvedView) → Type 0
AreRoundNotes [] = ⊤
AreRoundNotes (r ∷ rs) = IsRoundNote r.0 × AreRoundNotes rs

-- there are losses, one list of names for each round, by which the rounds make the seats and the names of the bus b of those of a
abbrev HaveLosses : ℕ → BusRow → BusRow → Type 0
HaveLosses l a b =
    (losses : List (List ℕ)) × (length losses ≡ l) × (map seat_row b.seats ≡ (after_rounds losses (map seat_row a.seats) a.went).seats) ×
    (b.went ≡ (after_rounds losses (map seat_row a.seats) a.went).went)

one_more : (n : Note) (w : CurvedView) (a m b : BusRow) (l : ℕ) → IsRoundNote n → AreInRound n w a m → HaveNamesApart a.seats → HaveLosses l m b → HaveLosses (1 + l) a b
one_more n w a m b l r q h y =
    let lost : List ℕ = lost_names q.0.0 a.seats in
    let e : q.0.0 ≡ fates_by lost a.seats = fates_by_losses n w q.0.0 a.seats m.seats q.0.1 h in
    let s : map seat_row m.seats ≡ seats_after lost (map seat_row a.seats) = by_fates n w r q.0.1 ∙ ap (λ fs. rows_by fs a.seats) e ∙ rows_lost lost a.seats in
    let g : m.went ≡ went_in lost (map seat_row a.seats) a.went = q.0.2 ∙ ap (λ fs. went_after fs a.seats a.went) e ∙ went_lost lost a.seats a.went in
    (lost ∷ y.0, omega (arith, y.1), y.2 ∙ ap₂ (λ ss g. (after_rounds y.0 ss g).seats) s g, y.3 ∙ ap₂ (λ ss g. (after_rounds y.0 ss g).went) s g)

by_losses : (rs : List (Note × CurvedView)) (a b : BusRow) → AreRoundNotes rs → AreRounds rs a b → HaveNamesApart a.seats → HaveLosses (length rs) a b
by_losses [] a b n h k = ([], refl, ap (λ x. map seat_row x.seats) h, ap (λ x. x.went) h)
by_losses (r ∷ rs) a b n h k =
    let y : HaveLosses (length rs) h.0 b = by_losses rs h.0 b n.1 h.2 (rounds_lawful.apart (r ∷ []) a h.0 (h.0, h.1, refl) k) in
    let z : HaveLosses (1 + length rs) a b = one_more r.0 r.1 a h.0 b (length rs) n.0 h.1 k y in
    (z.0, omega (arith, z.1), z.2, z.3)

-- two rounds for each step
round_notes : (m : MapView) (h : Curves) (ss : List Step) (rs : List (Note × CurvedView)) → AreRoundsOf m h ss rs → AreRoundNotes rs × (length rs ≡ 2 * length ss)
round_notes m h [] rs e = subst (λ qs. AreRoundNotes qs × (length qs ≡ 2 * 0)) (sym e) (tt, refl)
round_notes m h (s ∷ ss) rs r =
    let y : AreRoundNotes r.2 × (length r.2 ≡ 2 * length ss) = round_notes (step_map m r.0) (step_curves h r.0) ss r.2 r.4 in
    subst (λ qs. AreRoundNotes qs × (length qs ≡ 2 * length (s ∷ ss))) (sym r.3) ((tt, (tt, y.0)), omega (arith, y.1))

-- told steps make the seats and the names of a bus, as a script knows them, by rounds, two for each step, each with the names lost in it
pub told_rounds : (m : MapView) (h : Curves) (b : BusRow) (ss : List Step) (w : MapView) (k : Curves) (c : BusRow) → HaveNamesApart b.seats → IsToldRun m h (begun b) ss w k c →
    (losses : List (List ℕ)) × (length losses ≡ 2 * length ss) × (map seat_row c.seats ≡ (after_rounds losses (map seat_row b.seats) nobody).seats) ×
    (c.went ≡ (after_rounds losses (map seat_row b.seats) nobody).went)
told_rounds m h b ss w k c apart r =
    let q = told_runs_lawful.rounds m h (begun b) ss w k c r in
    let n = round_notes m h ss q.0 q.1 in
    let y : HaveLosses (length q.0) (begun b) c = by_losses q.0 (begun b) c n.0 q.2 apart in
    (y.0, y.1 ∙ n.1, y.2, y.3)

-- ---- few names
abbrev joins : List Seat → List (Option ℕ)
joins ss = map (λ s. s.join) ss

-- a fate that a seat has may be had with its plan to join
fits_lost : (b : Bool) (s : SeatRow) → IsFateOf (fate b s) s
fits_lost false s = inl refl
fits_lost true s = inr refl

abbrev row_of : Seat → SeatRow
row_of s = record { name = s.name; join = s.join; leave = s.leave; tells = s.tells; held = None; left = s.left; heard = None }

fits_in : (lost : List ℕ) (s : Seat) → FitsJoin (fate_in lost s) s.join
fits_in lost s = fits_join (fate_in lost s) (row_of s) (fits_lost (is_one_of lost s.name) (row_of s))

-- room after the turn of a seat
room_turn : (js ks : List (Option ℕ)) (f : Fate) (s : Seat) (g : Went) → FitsJoin f s.join → HaveRoom (js ++ s.join ∷ ks) g → HaveRoom (js ++ (joins (seat_after f s) ++ ks)) (noted f s.name g)
room_turn js ks Told s g e h = room_kept js s.join ks g h Told s.name None e refl
room_turn js ks Joined s g e h = room_kept js s.join ks g h Joined s.name None e refl
room_turn js ks Waits s g e h = room_kept js s.join ks g h Waits s.name (one_less s.join) e refl
room_turn js ks ToldLast s g e h = room_gone js s.join ks g h ToldLast s.name refl
room_turn js ks LeftUntold s g e h = room_gone js s.join ks g h LeftUntold s.name refl
room_turn js ks Lost s g e h = room_gone js s.join ks g h Lost s.name refl

-- room after a round of the seats that follow those with the joins js
room_round : (lost : List ℕ) (js : List (Option ℕ)) (ss : List Seat) (g : Went) → HaveRoom (js ++ joins ss) g → HaveRoom (js ++ joins (seats_after lost ss)) (went_in lost ss g)
room_round lost js [] g h = h
room_round lost js (s ∷ ss) g h =
    let f : Fate = fate_in lost s in
    let new : List (Option ℕ) = joins (seat_after f s) in
    let a : HaveRoom (js ++ (new ++ joins ss)) (noted f s.name g) = room_turn js (joins ss) f s g (fits_in lost s) h in
    let y : HaveRoom ((js ++ new) ++ joins (seats_after lost ss)) (went_in lost ss (noted f s.name g)) =
    room_round lost (js ++ new) ss (noted f s.name g) (subst (λ ks. HaveRoom ks (noted f s.name g)) (sym (append_assoc js new (joins ss))) a) in
    subst (λ ks. HaveRoom ks (went_in lost ss (noted f s.name g)))
    (append_assoc js new (joins (seats_after lost ss)) ∙ ap (λ ks. js ++ ks) (sym (map-append (λ (x : Seat). x.join) (seat_after f s) (seats_after lost ss)))) y

room_rounds : (losses : List (List ℕ)) (ss : List Seat) (g : Went) → HaveRoom (joins ss) g → HaveRoom (joins (after_rounds losses ss g).seats) (after_rounds losses ss g).went
room_rounds [] ss g h = h
room_rounds (lost ∷ more) ss g h = room_rounds more (seats_after lost ss) (went_in lost ss g) (room_round lost [] ss g h)

few_of : (r : Seated) → HaveRoom (joins r.seats) r.went → (length r.went.joined ≤ 8) × (length r.went.left + length r.went.lost ≤ 8) × (length r.seats ≤ 8)
few_of r h =
    let l : length (joins r.seats) ≡ length r.seats = length-map r.seats (λ (x : Seat). x.join) in
    (omega (arith, h.joined), omega (arith, h.gone), omega (arith, h.gone, l))

-- where at most eight are seated or planned at first, at most eight join, at most eight leave or are lost, and at most eight stay
pub few_went : (losses : List (List ℕ)) (ss : List Seat) → length ss ≤ 8 →
    (length (after_rounds losses ss nobody).went.joined ≤ 8) × (length (after_rounds losses ss nobody).went.left + length (after_rounds losses ss nobody).went.lost ≤ 8) ×
    (length (after_rounds losses ss nobody).seats ≤ 8)
few_went losses ss le = few_of (after_rounds losses ss nobody) (room_rounds losses ss nobody (room_at_first (λ (x : Seat). x.join) ss nobody le))

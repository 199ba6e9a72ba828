-- What seated observers have heard after rounds.
use Rattle.std.proofs.Common.{◌≡◌, ℕ, ◌==◌, false, List, [], ◌∷◌, ◌++◌, Some, None, refl, sym, ap, ◌∙◌, subst, inl, inr, All}
use Rattle.std.specs.List.{AllByRecursion, IsDistinct}
use Rattle.std.proofs.lemmas.Bool.{eqb-false}
use Rattle.plane_graphs.specs.Ascending.{Member}
use Rattle.plane_graphs.proofs.Lists.{not_none}
use Rattle.arr_notes.specs.CurvedView.{CurvedView}
use Rattle.arr_notes.specs.Notes.{FitsNote, heard_after}
use Rattle.arr_notes.specs.declared.note.Note.{Note}
use Rattle.arr_notes.specs.declared.note.Note.TheVariants.{After}
use Rattle.observer_bus.proofs.Holding.{all_hold}
use Rattle.observer_bus.proofs.Room.{FitsJoin, fits_join}
use Rattle.observer_bus.specs.RoundLaws.{AreLed, AreRounds, AreRoundsLawful, HaveNamesApart, MayNotesBeHeard, heard_in, seat_names}
use Rattle.observer_bus.specs.Rounds.{AreInRound, BusRow, IsRound, IsRoundOf, ended, kept, gone}
use Rattle.observer_bus.specs.Seats.{SeatRow, IsKept, Holds}
use Rattle.observer_bus.specs.declared.seat.Fate.{Fate}
use Rattle.observer_bus.specs.declared.seat.Fate.TheVariants.{Told, ToldLast, LeftUntold, Joined, Waits, Lost}

-- ---- notes that may be told
pub notes_heard : MayNotesBeHeard
notes_heard = record {
  before = λ i ss k d lt j t. tt;
  after = λ v c ss h fits sound k d lt j t. subst (λ o. FitsNote o (After c)) (sym (h k d lt j t)) (fits, sound);
}

-- ---- a bus without seats
-- a round leaves it as it was
pub nobody_told : (n : Note) (w : CurvedView) (b : BusRow) → b.seats ≡ [] → AreInRound n w b b
nobody_told n w b e = (subst (λ ss. IsRoundOf n w ss b.went ss b.went) (sym e) ([], ended, refl), refl)

-- ---- names
apart_from : (x : ℕ) (ss : List SeatRow) → AllByRecursion (λ y. (x == y) ≡ false) (seat_names ss) → (s : SeatRow) → Member s ss → x ≡ s.name → ⊥
apart_from x [] a s m e = absurd m
apart_from x (r ∷ ss) a s (inl q) e = eqb-false x r.name a.0 (e ∙ ap (λ p. p.name) q)
apart_from x (r ∷ ss) a s (inr m) e = apart_from x ss a.1 s m e

-- the first name, and the others
pub head_apart : (s : SeatRow) (ss : List SeatRow) → HaveNamesApart (s ∷ ss) → AllByRecursion (λ y. (s.name == y) ≡ false) (seat_names ss)
unfolding IsDistinct
head_apart s ss h = h.0

pub tail_apart : (s : SeatRow) (ss : List SeatRow) → HaveNamesApart (s ∷ ss) → HaveNamesApart ss
unfolding IsDistinct
tail_apart s ss h = h.1

both_apart : (s : SeatRow) (ss : List SeatRow) → AllByRecursion (λ y. (s.name == y) ≡ false) (seat_names ss) → HaveNamesApart ss → HaveNamesApart (s ∷ ss)
unfolding IsDistinct
both_apart s ss a h = (a, h)

none_apart : HaveNamesApart []
unfolding IsDistinct
none_apart = tt

-- one seat has a name
same_seat : (ss : List SeatRow) → HaveNamesApart ss → (s t : SeatRow) → Member s ss → Member t ss → t.name ≡ s.name → t ≡ s
same_seat [] h s t ms mt e = absurd ms
same_seat (r ∷ ss) h s t (inl a) (inl b) e = b ∙ sym a
same_seat (r ∷ ss) h s t (inl a) (inr m) e = absurd (apart_from r.name ss (head_apart r ss h) t m (sym (ap (λ p. p.name) a) ∙ sym e))
same_seat (r ∷ ss) h s t (inr m) (inl b) e = absurd (apart_from r.name ss (head_apart r ss h) s m (sym (ap (λ p. p.name) b) ∙ e))
same_seat (r ∷ ss) h s t (inr m) (inr k) e = same_seat ss (tail_apart r ss h) s t m k e

-- ---- one round
name_kept : (n : Note) (w : CurvedView) (f : Fate) (s t : SeatRow) → IsKept n w f s t → t.name ≡ s.name
name_kept n w Told s t k = k.name
name_kept n w Joined s t k = k.name
name_kept n w Waits s t k = ap (λ p. p.name) k
name_kept n w ToldLast s t k = absurd k
name_kept n w LeftUntold s t k = absurd k
name_kept n w Lost s t k = absurd k

all_after : (n : Note) (w : CurvedView) {fs : List Fate} {ss ts : List SeatRow} → IsRound n w fs ss ts → (P : ℕ → Type 0) → AllByRecursion P (seat_names ss) → AllByRecursion P (seat_names ts)
all_after n w ended P a = tt
all_after n w (kept {f = f} {s = s} {t = t} q k r) P a = (subst P (sym (name_kept n w f s t k)) a.0, all_after n w r P a.1)
all_after n w (gone q t g r) P a = all_after n w r P a.1

pub apart_after : (n : Note) (w : CurvedView) {fs : List Fate} {ss ts : List SeatRow} → IsRound n w fs ss ts → HaveNamesApart ss → HaveNamesApart ts
apart_after n w ended h = none_apart
apart_after n w (kept {f = f} {s = s} {t = t} {ss = ss} {ts = ts} q k r) h =
    both_apart t ts (subst (λ x. AllByRecursion (λ y. (x == y) ≡ false) (seat_names ts)) (sym (name_kept n w f s t k)) (all_after n w r (λ y. (s.name == y) ≡ false) (head_apart s ss h)))
    (apart_after n w r (tail_apart s ss h))
apart_after n w (gone {s = s} {ss = ss} q t g r) h = apart_after n w r (tail_apart s ss h)

-- a seat of the name was there before
came_from : (n : Note) (w : CurvedView) {fs : List Fate} {ss ts : List SeatRow} → IsRound n w fs ss ts → (t : SeatRow) → Member t ts → (s : SeatRow) × Member s ss × (t.name ≡ s.name)
came_from n w ended t m = absurd m
came_from n w (kept {f = f} {s = s} {t = u} q k r) t (inl e) = (s, inl refl, ap (λ p. p.name) e ∙ name_kept n w f s u k)
came_from n w (kept q k r) t (inr m) = let c = came_from n w r t m in (c.0, inr c.1, c.2)
came_from n w (gone q u g r) t m = let c = came_from n w r t m in (c.0, inr c.1, c.2)

told_seated : (n : Note) (w : CurvedView) (f : Fate) (s t : SeatRow) → FitsJoin f s.join → IsKept n w f s t → s.join ≡ None → (t.join ≡ None) × (t.heard ≡ heard_after s.heard n)
told_seated n w Told s t q k j = (k.join, k.heard)
told_seated n w Joined s t q k j = let e : Some 1 ≡ None = sym q ∙ j in cc
told_seated n w Waits s t q k j = absurd (not_none s.join q j)
told_seated n w ToldLast s t q k j = absurd k
told_seated n w LeftUntold s t q k j = absurd k
told_seated n w Lost s t q k j = absurd k

heard_round : (n : Note) (w : CurvedView) {fs : List Fate} {ss ts : List SeatRow} → IsRound n w fs ss ts → HaveNamesApart ss → (s t : SeatRow) → Member s ss → Member t ts →
    s.join ≡ None → t.name ≡ s.name → (t.join ≡ None) × (t.heard ≡ heard_after s.heard n)
heard_round n w ended h s t ms mt j e = absurd ms
heard_round n w (kept {f = f} {s = x} {t = y} q k r) h s t (inl a) (inl b) j e =
    let d = told_seated n w f x y (fits_join f x q) k (sym (ap (λ p. p.join) a) ∙ j) in
    (ap (λ p. p.join) b ∙ d.0, ap (λ p. p.heard) b ∙ d.1 ∙ ap (λ p. heard_after p.heard n) (sym a))
heard_round n w (kept {f = f} {s = x} {t = y} {ss = ss} q k r) h s t (inl a) (inr m) j e =
    let c = came_from n w r t m in
    absurd (apart_from x.name ss (head_apart x ss h) c.0 c.1 (sym (ap (λ p. p.name) a) ∙ sym e ∙ c.2))
heard_round n w (kept {f = f} {s = x} {t = y} {ss = ss} q k r) h s t (inr m) (inl b) j e =
    absurd (apart_from x.name ss (head_apart x ss h) s m (sym (name_kept n w f x y k) ∙ sym (ap (λ p. p.name) b) ∙ e))
heard_round n w (kept {s = x} {ss = ss} q k r) h s t (inr m) (inr l) j e = heard_round n w r (tail_apart x ss h) s t m l j e
heard_round n w (gone {s = x} {ss = ss} q u g r) h s t (inl a) m j e =
    let c = came_from n w r t m in
    absurd (apart_from x.name ss (head_apart x ss h) c.0 c.1 (sym (ap (λ p. p.name) a) ∙ sym e ∙ c.2))
heard_round n w (gone {s = x} {ss = ss} q u g r) h s t (inr m) l j e = heard_round n w r (tail_apart x ss h) s t m l j e

-- ---- rounds, one after another
follow : (rs qs : List (Note × CurvedView)) (a b c : BusRow) → AreRounds rs a b → AreRounds qs b c → AreRounds (rs ++ qs) a c
follow [] qs a b c h k = subst (λ x. AreRounds qs x c) h k
follow (r ∷ rs) qs a b c h k = (h.0, h.1, follow rs qs h.0 b c h.2 k)

apart : (rs : List (Note × CurvedView)) (a b : BusRow) → AreRounds rs a b → HaveNamesApart a.seats → HaveNamesApart b.seats
apart [] a b h k = subst (λ x. HaveNamesApart x.seats) (sym h) k
apart (r ∷ rs) a b h k = apart rs h.0 b h.2 (apart_after r.0 r.1 h.1.0.1 k)

came_through : (rs : List (Note × CurvedView)) (a b : BusRow) → AreRounds rs a b → (t : SeatRow) → Member t b.seats → (s : SeatRow) × Member s a.seats × (t.name ≡ s.name)
came_through [] a b h t m = (t, subst (λ x. Member t x.seats) h m, refl)
came_through (r ∷ rs) a b h t m =
    let c = came_through rs h.0 b h.2 t m in
    let d = came_from r.0 r.1 h.1.0.1 c.0 c.1 in (d.0, d.1, c.2 ∙ d.2)

heard : (rs : List (Note × CurvedView)) (a b : BusRow) → AreRounds rs a b → HaveNamesApart a.seats → (s t : SeatRow) → Member s a.seats → Member t b.seats →
    s.join ≡ None → t.name ≡ s.name → (t.join ≡ None) × (t.heard ≡ heard_in s.heard rs)
heard [] a b h k s t ms mt j e =
    let q : t ≡ s = same_seat a.seats k s t ms (subst (λ x. Member t x.seats) h mt) e in
    (ap (λ p. p.join) q ∙ j, ap (λ p. p.heard) q)
heard (r ∷ rs) a b h k s t ms mt j e =
    let c = came_through rs h.0 b h.2 t mt in
    let d = heard_round r.0 r.1 h.1.0.1 k s c.0 ms c.1 j (sym c.2 ∙ e) in
    let g = heard rs h.0 b h.2 (apart_after r.0 r.1 h.1.0.1 k) c.0 t c.1 mt d.0 c.2 in
    (g.0, g.1 ∙ ap (λ o. heard_in o rs) d.1)

held : (rs : List (Note × CurvedView)) (a b : BusRow) → AreRounds rs a b → (v w : CurvedView) → AreLed v rs w → All (Holds v) a.seats → All (Holds w) b.seats
held [] a b h v w l k = subst (λ x. All (Holds w) x.seats) (sym h) (subst (λ x. All (Holds x) a.seats) (sym l) k)
held (r ∷ rs) a b h v w l k = held rs h.0 b h.2 r.1 w l.1 (all_hold r.0 v r.1 h.1.0.0 a.seats h.0.seats h.1.0.1 l.0 k)

pub rounds_lawful : AreRoundsLawful
rounds_lawful = record { follow = follow; apart = apart; heard = heard; held = held }

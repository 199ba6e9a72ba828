-- Fates by the names lost.
use Rattle.std.proofs.Common.{◌≡◌, ℕ, ◌==◌, ◌||◌, Bool, true, false, cond, List, [], ◌∷◌, Option, Some, None, refl, sym, ap, ap₂, ◌∙◌, ◌⊎◌, inl, inr}
use Rattle.std.specs.List.{AllByRecursion}
use Rattle.std.proofs.lemmas.Bool.{eqb-false, eq-eqb, ne_eqb}
use Rattle.arr_notes.specs.CurvedView.{CurvedView}
use Rattle.arr_notes.specs.Notes.{is_one}
use Rattle.arr_notes.specs.declared.note.Note.{Note}
use Rattle.observer_bus.proofs.Hearing.{head_apart, tail_apart}
use Rattle.observer_bus.specs.RoundLaws.{AreFatesByLosses, HaveNamesApart, fates_by, is_one_of, lost_names, seat_names, with_lost}
use Rattle.observer_bus.specs.Rounds.{IsRound, ended, kept, gone}
use Rattle.observer_bus.specs.Seats.{SeatRow, IsFateOf, fate, fate_by}
use Rattle.observer_bus.specs.declared.seat.Fate.{Fate}
use Rattle.observer_bus.specs.declared.seat.Fate.TheVariants.{Told, ToldLast, LeftUntold, Joined, Waits, Lost}

abbrev is_lost : Fate → Bool
is_lost Lost = true
is_lost other = false

-- a fate is that with its own loss
own_seated : (x y : Bool) (f : Fate) → (f ≡ cond x LeftUntold (cond y ToldLast (cond false Lost Told))) ⊎ (f ≡ cond x LeftUntold (cond y ToldLast (cond true Lost Told))) →
    f ≡ cond x LeftUntold (cond y ToldLast (cond (is_lost f) Lost Told))
own_seated true y f (inl e) = e
own_seated true y f (inr e) = e
own_seated false true f (inl e) = e
own_seated false true f (inr e) = e
own_seated false false f (inl e) = e ∙ ap (λ h. cond (is_lost h) Lost Told) (sym e)
own_seated false false f (inr e) = e ∙ ap (λ h. cond (is_lost h) Lost Told) (sym e)

own_planned : (x : Bool) (f : Fate) → (f ≡ cond x (cond false Lost Joined) Waits) ⊎ (f ≡ cond x (cond true Lost Joined) Waits) → f ≡ cond x (cond (is_lost f) Lost Joined) Waits
own_planned true f (inl e) = e ∙ ap (λ h. cond (is_lost h) Lost Joined) (sym e)
own_planned true f (inr e) = e ∙ ap (λ h. cond (is_lost h) Lost Joined) (sym e)
own_planned false f (inl e) = e
own_planned false f (inr e) = e

own_by : (j leave left : Option ℕ) (f : Fate) → (f ≡ fate_by false j leave left) ⊎ (f ≡ fate_by true j leave left) → f ≡ fate_by (is_lost f) j leave left
own_by None leave left f h = own_seated (is_one leave) (is_one left) f h
own_by (Some k) leave left f h = own_planned (k == 1) f h

own_fate : (f : Fate) (s : SeatRow) → IsFateOf f s → f ≡ fate (is_lost f) s
own_fate f s h = own_by s.join s.leave s.left f h

-- ---- names
flip_false : (x y : ℕ) → (x == y) ≡ false → (y == x) ≡ false
flip_false x y e = ne_eqb y x (λ q. eqb-false x y e (sym q))

-- a name that no seat has isn't lost
not_lost : (x : ℕ) (fs : List Fate) (ss : List SeatRow) → AllByRecursion (λ y. (x == y) ≡ false) (seat_names ss) → is_one_of (lost_names fs ss) x ≡ false
not_lost x [] ss a = refl
not_lost x (f ∷ fs) [] a = refl
not_lost x (Lost ∷ fs) (s ∷ ss) a = ap (λ b. b || is_one_of (lost_names fs ss) x) (flip_false x s.name a.0) ∙ not_lost x fs ss a.1
not_lost x (Told ∷ fs) (s ∷ ss) a = not_lost x fs ss a.1
not_lost x (ToldLast ∷ fs) (s ∷ ss) a = not_lost x fs ss a.1
not_lost x (LeftUntold ∷ fs) (s ∷ ss) a = not_lost x fs ss a.1
not_lost x (Joined ∷ fs) (s ∷ ss) a = not_lost x fs ss a.1
not_lost x (Waits ∷ fs) (s ∷ ss) a = not_lost x fs ss a.1

-- the first seat's own loss
here_lost : (f : Fate) (k : ℕ) (ks : List ℕ) → is_one_of ks k ≡ false → is_one_of (with_lost f k ks) k ≡ is_lost f
here_lost Lost k ks e = ap (λ b. b || is_one_of ks k) (eq-eqb k k refl)
here_lost Told k ks e = e
here_lost ToldLast k ks e = e
here_lost LeftUntold k ks e = e
here_lost Joined k ks e = e
here_lost Waits k ks e = e

-- the first seat's loss doesn't touch the others
other_lost : (f : Fate) (k m : ℕ) (ks : List ℕ) → (k == m) ≡ false → is_one_of (with_lost f k ks) m ≡ is_one_of ks m
other_lost Lost k m ks e = ap (λ b. b || is_one_of ks m) e
other_lost Told k m ks e = refl
other_lost ToldLast k m ks e = refl
other_lost LeftUntold k m ks e = refl
other_lost Joined k m ks e = refl
other_lost Waits k m ks e = refl

others : (f : Fate) (k : ℕ) (ks : List ℕ) (ss : List SeatRow) → AllByRecursion (λ y. (k == y) ≡ false) (seat_names ss) → fates_by (with_lost f k ks) ss ≡ fates_by ks ss
others f k ks [] a = refl
others f k ks (s ∷ ss) a = ap₂ (λ h hs. h ∷ hs) (ap (λ b. fate b s) (other_lost f k s.name ks a.0)) (others f k ks ss a.1)

one_more : (f : Fate) (fs : List Fate) (s : SeatRow) (ss : List SeatRow) → IsFateOf f s → HaveNamesApart (s ∷ ss) → fs ≡ fates_by (lost_names fs ss) ss →
    f ∷ fs ≡ fates_by (lost_names (f ∷ fs) (s ∷ ss)) (s ∷ ss)
one_more f fs s ss q h e =
    let a = head_apart s ss h in
    ap₂ (λ g gs. g ∷ gs) (own_fate f s q ∙ ap (λ b. fate b s) (sym (here_lost f s.name (lost_names fs ss) (not_lost s.name fs ss a))))
    (e ∙ sym (others f s.name (lost_names fs ss) ss a))

by_losses : (n : Note) (w : CurvedView) {fs : List Fate} {ss ts : List SeatRow} → IsRound n w fs ss ts → HaveNamesApart ss → fs ≡ fates_by (lost_names fs ss) ss
by_losses n w ended h = refl
by_losses n w (kept {f = f} {fs = fs} {s = s} {ss = ss} q k r) h = one_more f fs s ss q h (by_losses n w r (tail_apart s ss h))
by_losses n w (gone {f = f} {fs = fs} {s = s} {ss = ss} q t g r) h = one_more f fs s ss q h (by_losses n w r (tail_apart s ss h))

pub fates_by_losses : AreFatesByLosses
fates_by_losses n w fs ss ts r h = by_losses n w r h

-- What seated observers hold, after a round.
use Rattle.std.proofs.Common.{◌≡◌, ℕ, List, Option, Some, None, sym, ap, ◌∙◌, IsSome, All}
use Rattle.std.specs.List.{AllByRecursion}
use Rattle.std.proofs.lemmas.List.Elements.{recursion_from_All, All-from_recursion}
use Rattle.arr_notes.specs.CurvedView.{CurvedView}
use Rattle.arr_notes.specs.Notes.{changed_held, one_less}
use Rattle.arr_notes.specs.declared.note.Note.{Note}
use Rattle.arr_notes.specs.declared.note.Note.TheVariants.{Before, After, Snapshot}
use Rattle.observer_bus.proofs.Room.{FitsJoin, fits_join}
use Rattle.observer_bus.specs.Rounds.{IsRound, ended, kept, gone}
use Rattle.observer_bus.specs.Seats.{SeatRow, IsTold, IsKept, Holds, Leads}
use Rattle.observer_bus.specs.declared.seat.Fate.{Fate}
use Rattle.observer_bus.specs.declared.seat.Fate.TheVariants.{Told, ToldLast, LeftUntold, Joined, Waits, Lost}

still_planned : (o : Option ℕ) → IsSome o → one_less o ≡ None → ⊥
still_planned None p e = cc
still_planned (Some k) p e = cc

told_holds : (n : Note) (v w : CurvedView) (s t : SeatRow) → IsTold n s t → s.join ≡ None → Leads v n w → Holds v s → Holds w t
told_holds (Before i) v w s t r e l h = λ j k. let q = rw r.tells at k in r.held q ∙ h e q ∙ ap Some (sym l)
told_holds (After c) v w s t r e l h = λ j k. let q = rw r.tells at k in r.held q ∙ ap (λ o. changed_held o c) (h e q) ∙ ap Some (sym l)
told_holds (Snapshot u) v w s t r e l h = absurd l

pub holds_kept : (n : Note) (v w : CurvedView) (f : Fate) (s t : SeatRow) → FitsJoin f s.join → IsKept n w f s t → Leads v n w → Holds v s → Holds w t
holds_kept n v w Told s t e r l h = told_holds n v w s t r e l h
holds_kept n v w Joined s t e r l h = λ j k. r.held (rw r.tells at k)
holds_kept n v w Waits s t e r l h = λ j k. absurd (still_planned s.join e (sym (ap (λ q. q.join) r) ∙ j))
holds_kept n v w ToldLast s t e r l h = absurd r
holds_kept n v w LeftUntold s t e r l h = absurd r
holds_kept n v w Lost s t e r l h = absurd r

holds_after : (n : Note) (v w : CurvedView) {fs : List Fate} {xs ys : List SeatRow} → IsRound n w fs xs ys → Leads v n w → AllByRecursion (Holds v) xs → AllByRecursion (Holds w) ys
holds_after n v w ended l h = tt
holds_after n v w (kept {f = f} {s = s} {t = t} a b r) l h = (holds_kept n v w f s t (fits_join f s a) b l h.0, holds_after n v w r l h.1)
holds_after n v w (gone a t b r) l h = holds_after n v w r l h.1

-- after a round each seated observer that tells holds the records' view
pub all_hold : (n : Note) (v w : CurvedView) (fs : List Fate) (xs ys : List SeatRow) → IsRound n w fs xs ys → Leads v n w → All (Holds v) xs → All (Holds w) ys
all_hold n v w fs xs ys r l h = All-from_recursion (Holds w) ys (holds_after n v w r l (recursion_from_All (Holds v) xs h))

-- Rounds over the empty plane.
use Rattle.std.proofs.Common.{◌≡◌, ℕ, Bool, true, false, List, [], ◌∷◌, ◌++◌, Option, refl, sym, ap, ◌∙◌, subst, All, Some, None, cond, IsTrue}
use Rattle.std.specs.List.{AllByRecursion}
use Rattle.std.proofs.lemmas.List.Elements.{recursion_from_All, All-from_recursion}
use Rattle.slab_laws.specs.Tables.{row_at}
use Rattle.arr_notes.specs.CurvedView.{CurvedView, IsSoundView}
use Rattle.face_changes.proofs.SoundExamples.{views_that_are_sound}
use Rattle.observer_bus.specs.Calls.{IsAttached, IsHeldSound, IsPlaced, is_seat_of, seats_left, with_leave, with_seats}
use Rattle.observer_bus.specs.Rounds.{BusRow}
use Rattle.observer_bus.specs.Seats.{SeatRow, Holds}
use Rattle.planar_tests.specs.Calm.{IsCalm, empty_view}

pub empty_sound : IsSoundView empty_view
unfolding row_at
empty_sound = record {
  map = views_that_are_sound.empty;
  curves = record {
    named = tt;
    row = λ d f. cc;
    edge = λ d s. cc;
    some = λ d f. cc;
    ascend = λ d. tt;
  };
}

abbrev Calm : List SeatRow → Type 0
Calm ss = AllByRecursion (Holds empty_view) ss

calm : (ss : List SeatRow) → Calm ss → All (Holds empty_view) ss
calm ss h = All-from_recursion (Holds empty_view) ss h

as_calm : (ss : List SeatRow) → All (Holds empty_view) ss → Calm ss
as_calm ss h = recursion_from_All (Holds empty_view) ss h

one_view : (o : Option CurvedView) (v w : CurvedView) → o ≡ Some v → o ≡ Some w → v ≡ w
one_view o v w e f = let g : Some v ≡ Some w = sym e ∙ f in cc

pub calm_sound : (ss : List SeatRow) → All (Holds empty_view) ss → All IsHeldSound ss
calm_sound ss h k d lt j t w held = subst IsSoundView (one_view _ _ _ (h k d lt j t) held) empty_sound

placed_calm : (o : Option ℕ) (s t : SeatRow) → o ≡ s.join → IsPlaced o empty_view s t → Holds empty_view t
placed_calm None s t e p j k = p.held (subst IsTrue p.tells k)
placed_calm (Some n) s t e p j k = let f : s.join ≡ None = sym (ap (λ r. r.join) p) ∙ j in let g : Some n ≡ None = e ∙ f in cc

last_calm : (ss : List SeatRow) (s : SeatRow) → Calm ss → Holds empty_view s → Calm (ss ++ s ∷ [])
last_calm [] s q e = (e, tt)
last_calm (r ∷ ss) s q e = (q.0, last_calm ss s q.1 e)

pub calm_attach : (s : SeatRow) (a b : BusRow) → IsAttached empty_view s a b → IsCalm a → IsCalm b
calm_attach s a b h q =
    subst (λ ss. All (Holds empty_view) ss) (sym h.last)
    (calm (a.seats ++ h.seated ∷ []) (last_calm a.seats h.seated (as_calm a.seats q) (placed_calm s.join s h.seated refl h.placed)))

left_calm : (k : ℕ) (o : Option ℕ) (ss : List SeatRow) → Calm ss → Calm (seats_left k o ss)
left_calm k o [] q = tt
left_calm k o (s ∷ ss) q = by_seat (is_seat_of k s) o s ss q (left_calm k o ss q.1)
  where
    by_seat : (b : Bool) (o : Option ℕ) (s : SeatRow) (ss : List SeatRow) → Calm (s ∷ ss) → Calm (seats_left k o ss) → Calm (cond b (with_leave o s ss) (s ∷ seats_left k o ss))
    by_seat true None s ss q h = q.1
    by_seat true (Some m) s ss q h = (q.0, q.1)
    by_seat false o s ss q h = (q.0, h)

pub calm_left : (k : ℕ) (o : Option ℕ) (a b : BusRow) → b ≡ with_seats (seats_left k o a.seats) a → IsCalm a → IsCalm b
calm_left k o a b e q = subst (λ x. IsCalm x) (sym e) (calm (seats_left k o a.seats) (left_calm k o a.seats (as_calm a.seats q)))

-- Room for names: what each turn leaves of it.
use Rattle.std.proofs.Common.{◌≡◌, ℕ, ◌+◌, ◌≤◌, ◌==◌, Bool, true, false, cond, List, [], ◌∷◌, ◌++◌, length, refl, sym, ap, subst, inl, inr, arith, Option, Some, None, IsSome, length-append}
use Rattle.std.specs.Prelude.{⊤}
use Rattle.std.proofs.lemmas.Bool.{eqb-true}
use Rattle.arr_notes.specs.CurvedView.{CurvedView}
use Rattle.arr_notes.specs.Notes.{is_one, one_less}
use Rattle.arr_notes.specs.declared.note.Note.{Note}
use Rattle.observer_bus.proofs.Placing.{length_place}
use Rattle.observer_bus.specs.Rounds.{noted, planned, HaveRoom, HasRoomFor}
use Rattle.observer_bus.specs.Seats.{SeatRow, fate_by, IsFateOf, IsKept, stays}
use Rattle.observer_bus.specs.declared.seat.Fate.{Fate}
use Rattle.observer_bus.specs.declared.seat.Fate.TheVariants.{Told, ToldLast, LeftUntold, Joined, Waits, Lost}
use Rattle.observer_bus.specs.declared.went.Went.{Went}

-- ---- what a fate tells of the plan to join
abbrev pub FitsJoin : Fate → Option ℕ → Type 0
FitsJoin Told j = j ≡ None
FitsJoin ToldLast j = j ≡ None
FitsJoin LeftUntold j = j ≡ None
FitsJoin Joined j = j ≡ Some 1
FitsJoin Waits j = IsSome j
FitsJoin Lost j = ⊤

fits_seated : (x y lost : Bool) (f : Fate) → f ≡ cond x LeftUntold (cond y ToldLast (cond lost Lost Told)) → FitsJoin f None
fits_seated true y lost f e = subst (λ h. FitsJoin h None) (sym e) refl
fits_seated false true lost f e = subst (λ h. FitsJoin h None) (sym e) refl
fits_seated false false true f e = subst (λ h. FitsJoin h None) (sym e) tt
fits_seated false false false f e = subst (λ h. FitsJoin h None) (sym e) refl

fits_planned : (x lost : Bool) (k : ℕ) (f : Fate) → x ≡ (k == 1) → f ≡ cond x (cond lost Lost Joined) Waits → FitsJoin f (Some k)
fits_planned true true k f q e = subst (λ h. FitsJoin h (Some k)) (sym e) tt
fits_planned true false k f q e = subst (λ h. FitsJoin h (Some k)) (sym e) (ap Some (eqb-true k 1 (sym q)))
fits_planned false lost k f q e = subst (λ h. FitsJoin h (Some k)) (sym e) refl

fits_by : (lost : Bool) (j leave left : Option ℕ) (f : Fate) → f ≡ fate_by lost j leave left → FitsJoin f j
fits_by lost None leave left f e = fits_seated (is_one leave) (is_one left) lost f e
fits_by lost (Some k) leave left f e = fits_planned (k == 1) lost k f refl e

pub fits_join : (f : Fate) (s : SeatRow) → IsFateOf f s → FitsJoin f s.join
fits_join f s (inl e) = fits_by false s.join s.leave s.left f e
fits_join f s (inr e) = fits_by true s.join s.leave s.left f e

-- the plan to join after a turn at which the seat stays
abbrev pub JoinsOn : Fate → Option ℕ → Option ℕ → Type 0
JoinsOn Told i j = j ≡ None
JoinsOn Joined i j = j ≡ None
JoinsOn Waits i j = j ≡ one_less i
JoinsOn other i j = ⊥

pub joins_on : (n : Note) (w : CurvedView) (f : Fate) (s t : SeatRow) → IsKept n w f s t → JoinsOn f s.join t.join
joins_on n w Told s t k = k.join
joins_on n w Joined s t k = k.join
joins_on n w Waits s t k = ap (λ r. r.join) k
joins_on n w ToldLast s t k = absurd k
joins_on n w LeftUntold s t k = absurd k
joins_on n w Lost s t k = absurd k

-- ---- counts
weigh : Option ℕ → ℕ
weigh None = 0
weigh (Some k) = 1

weigh_none : (j : Option ℕ) → j ≡ None → weigh j ≡ 0
unfolding weigh
weigh_none j e = ap weigh e

weigh_some : (j : Option ℕ) (k : ℕ) → j ≡ Some k → weigh j ≡ 1
unfolding weigh
weigh_some j k e = ap weigh e

weigh_less : (i j : Option ℕ) → j ≡ one_less i → weigh j ≡ weigh i
unfolding weigh
weigh_less None j e = ap weigh e
weigh_less (Some k) j e = ap weigh e

planned_at : (js : List (Option ℕ)) (j : Option ℕ) (ks : List (Option ℕ)) → planned (js ++ j ∷ ks) ≡ planned js + weigh j + planned ks
unfolding weigh
planned_at [] None ks = omega arith
planned_at [] (Some k) ks = omega arith
planned_at (None ∷ js) j ks = planned_at js j ks
planned_at (Some k ∷ js) j ks = omega (arith, planned_at js j ks)

planned_both : (js ks : List (Option ℕ)) → planned (js ++ ks) ≡ planned js + planned ks
planned_both [] ks = omega arith
planned_both (None ∷ js) ks = planned_both js ks
planned_both (Some k ∷ js) ks = omega (arith, planned_both js ks)

pub planned_few : (js : List (Option ℕ)) → planned js ≤ length js
planned_few [] = omega arith
planned_few (None ∷ js) = omega (arith, planned_few js)
planned_few (Some k ∷ js) = omega (arith, planned_few js)

length_at : (js : List (Option ℕ)) (j : Option ℕ) (ks : List (Option ℕ)) → length (js ++ j ∷ ks) ≡ length js + length ks + 1
length_at js j ks = rw length-append (omega arith)

length_both : (js ks : List (Option ℕ)) → length (js ++ ks) ≡ length js + length ks
length_both js ks = rw length-append refl

module _ (js : List (Option ℕ)) (j : Option ℕ) (ks : List (Option ℕ)) (g : Went) (h : HaveRoom (js ++ j ∷ ks) g) where
  -- before a turn there is room for the name
  pub room_here : (f : Fate) → FitsJoin f j → HasRoomFor f g
  room_here Told e = tt
  room_here ToldLast e = omega (arith, h.gone, length_at js j ks)
  room_here LeftUntold e = omega (arith, h.gone, length_at js j ks)
  room_here Joined e = omega (arith, h.joined, planned_at js j ks, weigh_some j 1 e)
  room_here Waits e = tt
  room_here Lost e = omega (arith, h.gone, length_at js j ks)

  -- after a turn at which the seat stays
  pub room_kept : (f : Fate) (k : ℕ) (i : Option ℕ) → FitsJoin f j → JoinsOn f j i → HaveRoom (js ++ i ∷ ks) (noted f k g)
  room_kept Told k i e d = record {
    joined = omega (arith, h.joined, planned_at js j ks, planned_at js i ks, weigh_none i d);
    gone = omega (arith, h.gone, length_at js j ks, length_at js i ks);
  }
  room_kept Joined k i e d = record {
    joined = omega (arith, h.joined, planned_at js j ks, planned_at js i ks, weigh_none i d, weigh_some j 1 e, length_place k g.joined);
    gone = omega (arith, h.gone, length_at js j ks, length_at js i ks);
  }
  room_kept Waits k i e d = record {
    joined = omega (arith, h.joined, planned_at js j ks, planned_at js i ks, weigh_less j i d);
    gone = omega (arith, h.gone, length_at js j ks, length_at js i ks);
  }
  room_kept ToldLast k i e d = absurd d
  room_kept LeftUntold k i e d = absurd d
  room_kept Lost k i e d = absurd d

  -- after a turn at which the seat is emptied
  pub room_gone : (f : Fate) (k : ℕ) → stays f ≡ false → HaveRoom (js ++ ks) (noted f k g)
  room_gone ToldLast k e = record {
    joined = omega (arith, h.joined, planned_at js j ks, planned_both js ks);
    gone = omega (arith, h.gone, length_at js j ks, length_both js ks, length_place k g.left);
  }
  room_gone LeftUntold k e = record {
    joined = omega (arith, h.joined, planned_at js j ks, planned_both js ks);
    gone = omega (arith, h.gone, length_at js j ks, length_both js ks, length_place k g.left);
  }
  room_gone Lost k e = record {
    joined = omega (arith, h.joined, planned_at js j ks, planned_both js ks);
    gone = omega (arith, h.gone, length_at js j ks, length_both js ks, length_place k g.lost);
  }
  room_gone Told k e = cc
  room_gone Joined k e = cc
  room_gone Waits k e = cc

  -- after a seat is emptied between rounds
  pub room_without : HaveRoom (js ++ ks) g
  room_without = record {
    joined = omega (arith, h.joined, planned_at js j ks, planned_both js ks);
    gone = omega (arith, h.gone, length_at js j ks, length_both js ks);
  }

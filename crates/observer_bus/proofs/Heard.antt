-- What becomes of a seated observer that was told a note, by what it answered.
use Rattle.std.proofs.Common.{◌≡◌, ℕ, ◌-◌, ◌==◌, Bool, true, false, cond, Option, Some, None, Result, Ok, Err, refl, sym, ap, ◌∙◌, subst, inl, inr, IsTrue}
use Rattle.std.specs.Prelude.{◌↔◌, IsErrAnd, OnErr, OnOk}
use Rattle.std.specs.Option.{option_eq}
use Rattle.std.proofs.lemmas.Bool.{false≢true}
use Rattle.arr_notes.specs.CurvedView.{CurvedView}
use Rattle.arr_notes.specs.Notes.{is_last, is_one, one_less}
use Rattle.arr_notes.specs.declared.note.Answer.{Answer}
use Rattle.arr_notes.specs.declared.note.Answer.TheVariants.{Stay, Leave, NoMemory}
use Rattle.arr_notes.specs.declared.note.Note.{Note}
use Rattle.arr_notes.specs.declared.note.Note.TheVariants.{Before, After, Snapshot}
use Rattle.integers.proofs.Tests.{not_true}
use Rattle.observer_bus.specs.Seats.{SeatRow, IsFateOf, IsGone, IsKept, IsLost, IsRoundNote, IsTold, IsToldLast, fate, fate_by, stays, waiting}
use Rattle.observer_bus.specs.declared.seat.Fate.{Fate}
use Rattle.observer_bus.specs.declared.seat.Fate.TheVariants.{Told, ToldLast, LeftUntold, Joined, Waits, Lost}

-- what holds holds where a call fails
pub on_err : {T E : Type 0} (r : Result T E) (P : Type 0) → P → OnErr r P
on_err (Ok x) P p = tt
on_err (Err e) P p = p

-- an error has no clauses of a value
pub not_ok : {T E : Type 0} (r : Result T E) (Q : E → Type 0) (P : Type 0) → IsErrAnd r Q → OnOk r P
not_ok (Ok x) Q P e = absurd e
not_ok (Err e) Q P q = tt

-- ---- a plan for the next round
pub same_one : (o : Option ℕ) → option_eq ◌==◌ o (Some 1) ≡ is_one o
same_one None = refl
same_one (Some k) = refl

pub none_next : (o : Option ℕ) → is_one o ≡ false → o ≡ Some 1 → ⊥
none_next o f e = false≢true (sym f ∙ ap is_one e)

-- a note of a round is the last where one is left
last_one : (o : Option ℕ) (n : Note) → IsRoundNote n → is_last o n ≡ is_one o
last_one o (Before i) r = refl
last_one o (After c) r = refl
last_one o (Snapshot w) r = absurd r

-- ---- answers
pub stay_leave : Stay ≡ Leave → ⊥
stay_leave e = cc

pub lost_leave : NoMemory ≡ Leave → ⊥
lost_leave e = cc

pub stay_lost : Stay ≡ NoMemory → ⊥
stay_lost e = cc

pub leave_lost : Leave ≡ NoMemory → ⊥
leave_lost e = cc

-- ---- fates
module _ (s : SeatRow) (seated : s.join ≡ None) where
  fate_is : (lost next last : Bool) → is_one s.leave ≡ next → is_one s.left ≡ last → fate lost s ≡ cond next LeftUntold (cond last ToldLast (cond lost Lost Told))
  fate_is lost next last e f = ap (λ o. fate_by lost o s.leave s.left) seated ∙ (λ i. cond (e i) LeftUntold (cond (f i) ToldLast (cond lost Lost Told)))

  pub leaves_untold : is_one s.leave ≡ true → IsFateOf LeftUntold s
  leaves_untold e = inl (sym (fate_is false true (is_one s.left) e refl))

  module _ (on : is_one s.leave ≡ false) (n : Note) (round : IsRoundNote n) (left : Option ℕ) (same : left ≡ s.left) (a : Answer) (leaves : a ≡ Leave ↔ IsTrue (is_last left n)) where
    last_is : is_last left n ≡ is_one s.left
    last_is = last_one left n round ∙ ap is_one same

    more : (a ≡ Leave → ⊥) → is_one s.left ≡ false
    more stayed = not_true (is_one s.left) (λ e. stayed (leaves.1 (last_is ∙ e)))

    pub told_on : a ≡ Stay → IsFateOf Told s
    told_on e = inl (sym (fate_is false false false on (more (λ l. stay_leave (sym e ∙ l)))))

    pub told_last : a ≡ Leave → IsFateOf ToldLast s
    told_last e = inl (sym (fate_is false false true on (sym last_is ∙ leaves.0 e)))

    pub told_lost : a ≡ NoMemory → IsFateOf Lost s
    told_lost e = inr (sym (fate_is true false false on (more (λ l. lost_leave (sym e ∙ l)))))

-- ---- fates are apart
pub untold_told : LeftUntold ≡ Told → ⊥
untold_told e = cc

pub told_untold : Told ≡ LeftUntold → ⊥
told_untold e = cc

pub last_untold : ToldLast ≡ LeftUntold → ⊥
last_untold e = cc

pub last_told : ToldLast ≡ Told → ⊥
last_told e = cc

pub lost_untold : Lost ≡ LeftUntold → ⊥
lost_untold e = cc

pub lost_told : Lost ≡ Told → ⊥
lost_told e = cc

pub last_lost : ToldLast ≡ Lost → ⊥
last_lost e = cc

-- ---- what is kept of a seat that was told a note
pub kept_told : (n : Note) (w : CurvedView) (f : Fate) (s t : SeatRow) → f ≡ Told → IsTold n s t → IsKept n w f s t
kept_told n w f s t e k = subst (λ f. IsKept n w f s t) (sym e) k

-- what is known of a seat that was emptied, by each fate at which it is
pub gone_by : (n : Note) (f : Fate) (s t : SeatRow) → (f ≡ ToldLast → IsToldLast n s t) → (f ≡ LeftUntold → t ≡ s) → (f ≡ Lost → IsLost s t) → stays f ≡ false → IsGone n f s t
gone_by n ToldLast s t a b c e = a refl
gone_by n LeftUntold s t a b c e = b refl
gone_by n Lost s t a b c e = c refl
gone_by n Told s t a b c e = cc
gone_by n Joined s t a b c e = cc
gone_by n Waits s t a b c e = cc

-- ---- planned joins
module _ (s : SeatRow) (k : ℕ) (at : s.join ≡ Some k) where
  planned_is : (lost now : Bool) → (k == 1) ≡ now → fate lost s ≡ cond now (cond lost Lost Joined) Waits
  planned_is lost now e = ap (λ o. fate_by lost o s.leave s.left) at ∙ ap (λ b. cond b (cond lost Lost Joined) Waits) e

  pub joins_now : (k == 1) ≡ true → IsFateOf Joined s
  joins_now e = inl (sym (planned_is false true e))

  pub lost_now : (k == 1) ≡ true → IsFateOf Lost s
  lost_now e = inr (sym (planned_is true true e))

  pub waits_on : (k == 1) ≡ false → IsFateOf Waits s
  waits_on e = inl (sym (planned_is false false e))

  pub one_nearer : ◌≡◌ {A = SeatRow} (record { name = s.name; join = Some (k - 1); leave = s.leave; tells = s.tells; held = s.held; left = s.left; heard = s.heard }) (waiting s)
  one_nearer = ap (λ o. record { name = s.name; join = one_less o; leave = s.leave; tells = s.tells; held = s.held; left = s.left; heard = s.heard }) (sym at)

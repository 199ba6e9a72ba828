-- The seat of a name, found by index: what leaving and reporting make of it.
use Rattle.std.proofs.Common.{◌≡◌, ℕ, ◌+◌, ◌≤◌, ◌<◌, ◌||◌, ◌==◌, Bool, true, false, cond, List, [], ◌∷◌, ◌++◌, Option, Some, None, length, take, drop, set, map, refl, sym, ap, ◌∙◌, subst, arith, get_or, ◌≢◌, ◌&&◌, is_none, IsTrue, All, inl, inr, length-append}
use Rattle.std.proofs.lemmas.Bool.{eqb-true, cases_Bool}
use Rattle.std.proofs.Math.ListN.{get_or-map}
use Rattle.arr_notes.specs.CurvedView.{CurvedView, IsSoundView, view_text}
use Rattle.arr_notes.specs.Notes.{IsHeld}
use Rattle.observer_bus.specs.declared.errors.AttachError.TheVariants.{Taken, Full}
use Rattle.std.specs.List.{list_any}
use Rattle.std.proofs.lemmas.List.{length-map, map-append}
use Rattle.observer_bus.proofs.Room.{planned_few, room_without}
use Rattle.observer_bus.proofs.Turns.{about_here, set_here}
use Rattle.observer_bus.specs.Calls.{attach_refusal, is_seat_of, IsHeldSound, IsReport, has_name, has_seat, leaving, with_leave, seats_left, seat_of}
use Rattle.observer_bus.specs.Rounds.{BusRow, HaveRoom}
use Rattle.observer_bus.specs.Seats.{SeatRow}
use Rattle.observer_bus.specs.declared.went.Went.{Went}

pub any_by : {S R : Type 0} (p : R → Bool) (r : S → R) (xs : List S) → list_any p (map r xs) ≡ list_any (λ s. p (r s)) xs
any_by p r [] = refl
any_by p r (x ∷ xs) = ap (λ b. p (r x) || b) (any_by p r xs)

or_more : (b c d : Bool) → (b || c) ≡ false → (c ≡ false → d ≡ false) → (b || d) ≡ false
or_more true c d h f = cc
or_more false c d h f = f h

-- one more that doesn't pass
pub any_more : {S : Type 0} (p : S → Bool) (xs : List S) (s : S) → list_any p xs ≡ false → p s ≡ false → list_any p (xs ++ s ∷ []) ≡ false
any_more p [] s h e = rw e refl
any_more p (x ∷ xs) s h e = or_more (p x) (list_any p xs) (list_any p (xs ++ s ∷ [])) h (λ f. any_more p xs s f e)

module _ (k : ℕ) (s : SeatRow) (is : is_seat_of k s ≡ true) where
  left_at : (when : Option ℕ) (ys zs : List SeatRow) → list_any (is_seat_of k) ys ≡ false → seats_left k when (ys ++ s ∷ zs) ≡ ys ++ with_leave when s zs
  left_at when [] zs h = ap (λ b. cond b (with_leave when s zs) (s ∷ seats_left k when zs)) is
  left_at when (a ∷ ys) zs h = left_step (is_seat_of k a) when a ys zs h (left_at when ys zs)
    where
      left_step : (b : Bool) (when : Option ℕ) (a : SeatRow) (ys zs : List SeatRow) → (b || list_any (is_seat_of k) ys) ≡ false →
          (list_any (is_seat_of k) ys ≡ false → seats_left k when (ys ++ s ∷ zs) ≡ ys ++ with_leave when s zs) →
          cond b (with_leave when a (ys ++ s ∷ zs)) (a ∷ seats_left k when (ys ++ s ∷ zs)) ≡ a ∷ ys ++ with_leave when s zs
      left_step true when a ys zs h f = cc
      left_step false when a ys zs h f = ap (λ xs. a ∷ xs) (f h)

  seat_at : (ys zs : List SeatRow) → list_any (is_seat_of k) ys ≡ false → seat_of k (ys ++ s ∷ zs) ≡ Some s
  seat_at [] zs h = ap (λ b. cond b (Some s) (seat_of k zs)) is
  seat_at (a ∷ ys) zs h = seat_step (is_seat_of k a) a ys zs h (seat_at ys zs)
    where
      seat_step : (b : Bool) (a : SeatRow) (ys zs : List SeatRow) → (b || list_any (is_seat_of k) ys) ≡ false →
          (list_any (is_seat_of k) ys ≡ false → seat_of k (ys ++ s ∷ zs) ≡ Some s) → cond b (Some a) (seat_of k (ys ++ s ∷ zs)) ≡ Some s
      seat_step true a ys zs h f = cc
      seat_step false a ys zs h f = f h

  has_at : (ys zs : List SeatRow) → has_seat k (ys ++ s ∷ zs) ≡ true
  has_at [] zs = ap (λ b. b || has_seat k zs) is
  has_at (a ∷ ys) zs = ap (λ b. is_seat_of k a || b) (has_at ys zs) ∙ or_true (is_seat_of k a)
    where
      or_true : (b : Bool) → (b || true) ≡ true
      or_true true = refl
      or_true false = refl

-- what is known of the element at an index
at_index : {S : Type 0} (p : S → Bool) (xs : List S) (i : ℕ) (s : S) → s ≡ get_or xs i s → ((d : S) → IsTrue (p (get_or xs i d))) → p s ≡ true
at_index p xs i s here h = subst (λ x. p x ≡ true) (sym here) (h s)

not_eight : (n : ℕ) → n ≢ 8 → (n == 8) ≡ false
not_eight n h = elim (cases_Bool (n == 8)) [ inl e ↦ absurd (h (eqb-true n 8 e)) | inr e ↦ e ]

pub no_plan : (j : Option ℕ) (b : Bool) → (is_none j && b) ≡ true → j ≡ None
no_plan None b e = refl
no_plan (Some k) b e = cc

module _ {S : Type 0} (r : S → SeatRow) (k : ℕ) (xs : List S) where
  pub unseated_by : list_any (λ s. is_seat_of k (r s)) xs ≡ false → has_seat k (map r xs) ≡ false
  unseated_by h = any_by (is_seat_of k) r xs ∙ h

  pub named_by : has_name k (map r xs) ≡ list_any (λ s. (r s).name == k) xs
  named_by = any_by (λ s. s.name == k) r xs

  refusal_by : (b : Bool) (l : ℕ) → has_name k (map r xs) ≡ b → length (map r xs) ≡ l → attach_refusal k (map r xs) ≡ cond b (Some Taken) (cond (l == 8) (Some (Full 8)) None)
  refusal_by b l e f = λ i. cond (e i) (Some Taken) (cond (f i == 8) (Some (Full 8)) None)

  -- the answers of attach
  pub taken_by : (b : Bool) → b ≡ list_any (λ s. (r s).name == k) xs → b ≡ true → Some Taken ≡ attach_refusal k (map r xs)
  taken_by b e t = sym (refusal_by true (length xs) (named_by ∙ sym e ∙ t) (length-map xs r))

  pub full_by : (b : Bool) → b ≡ list_any (λ s. (r s).name == k) xs → b ≡ false → length xs ≡ 8 → Some (Full 8) ≡ attach_refusal k (map r xs)
  full_by b e t l = sym (refusal_by false 8 (named_by ∙ sym e ∙ t) (length-map xs r ∙ l))

  pub open_by : (b : Bool) → b ≡ list_any (λ s. (r s).name == k) xs → b ≡ false → length xs ≢ 8 → attach_refusal k (map r xs) ≡ None
  open_by b e t l = refusal_by false (length xs) (named_by ∙ sym e ∙ t) (length-map xs r) ∙ ap (λ q. cond q (Some (Full 8)) None) (not_eight (length xs) l)

  module _ (i : ℕ) (s : S) (lt : i < length xs) (here : s ≡ get_or xs i s) (at : (d : S) → IsTrue (is_seat_of k (r (get_or xs i d))))
      (before : list_any (λ s. is_seat_of k (r s)) (take i xs) ≡ false) where
    is : is_seat_of k (r s) ≡ true
    is = at_index (λ s. is_seat_of k (r s)) xs i s here at

    rows_about : map r xs ≡ map r (take i xs) ++ r s ∷ map r (drop (i + 1) xs)
    rows_about = ap (map r) (about_here xs i s lt here) ∙ map-append r (take i xs) (s ∷ drop (i + 1) xs)

    before_rows : list_any (is_seat_of k) (map r (take i xs)) ≡ false
    before_rows = any_by (is_seat_of k) r (take i xs) ∙ before

    pub seated_by : has_seat k (map r xs) ≡ true
    seated_by = ap (has_seat k) rows_about ∙ has_at k (r s) is (map r (take i xs)) (map r (drop (i + 1) xs))

    seat_by : seat_of k (map r xs) ≡ Some (r s)
    seat_by = ap (seat_of k) rows_about ∙ seat_at k (r s) is (map r (take i xs)) (map r (drop (i + 1) xs)) before_rows

    left_by : (when : Option ℕ) → seats_left k when (map r xs) ≡ map r (take i xs) ++ with_leave when (r s) (map r (drop (i + 1) xs))
    left_by when = ap (seats_left k when) rows_about ∙ left_at k (r s) is when (map r (take i xs)) (map r (drop (i + 1) xs)) before_rows

    -- it leaves at once
    pub left_now : (zs : List S) (g : Went) (b : Bool) (when : Option ℕ) → when ≡ None → zs ≡ take i xs ++ drop (i + 1) xs →
        ◌≡◌ {A = BusRow} (record { seats = map r zs; went = g; settled = b }) (record { seats = seats_left k when (map r xs); went = g; settled = b })
    left_now zs g b when q e =
        ap (λ ss. record { seats = ss; went = g; settled = b })
        (ap (map r) e ∙ map-append r (take i xs) (drop (i + 1) xs) ∙ sym (left_by None) ∙ ap (λ o. seats_left k o (map r xs)) (sym q))

    -- it plans to leave
    pub left_later : (when : ℕ) (t : S) (g : Went) (b : Bool) (o : Option ℕ) → o ≡ Some when → r t ≡ leaving when (r s) →
        ◌≡◌ {A = BusRow} (record { seats = map r (set xs i t); went = g; settled = b }) (record { seats = seats_left k o (map r xs); went = g; settled = b })
    left_later when t g b o q' e =
        ap (λ ss. record { seats = ss; went = g; settled = b })
        (ap (map r) (set_here xs i s lt here t) ∙ map-append r (take i xs) (t ∷ drop (i + 1) xs) ∙
        ap (λ q. map r (take i xs) ++ q ∷ map r (drop (i + 1) xs)) e ∙ sym (left_by (Some when)) ∙ ap (λ o. seats_left k o (map r xs)) (sym q'))

    -- what it holds is sound
    pub held_sound : All IsHeldSound (map r xs) → (w : CurvedView) → IsTrue (r s).tells → IsHeld (r s).held w → IsSoundView w
    held_sound all w tl hd =
        let q : get_or (map r xs) i (r s) ≡ r s = get_or-map r xs i s ∙ ap r (sym here) in
        let p = all i (r s) (rw length-map lt) in
        let p' : IsHeldSound (r s) = rw q at p in
        p' (no_plan (r s).join ((r s).name == k) is) tl w hd

    -- its report
    pub reported : (bytes : List ℕ) → ((w : CurvedView) → IsTrue (r s).tells → IsHeld (r s).held w → bytes ≡ view_text w) → IsReport bytes (seat_of k (map r xs))
    reported bytes h = subst (IsReport bytes) (sym seat_by) (λ tl w hd. h w tl hd)

-- one more where not all eight are there
pub few_added : {S : Type 0} (xs zs : List S) (s : S) → zs ≡ xs ++ s ∷ [] → length xs ≤ 8 → length xs ≢ 8 → length zs ≤ 8
few_added xs zs s e le ne = let l : length zs ≡ length xs + 1 = ap length e ∙ length-append xs (s ∷ []) in omega arith

pub may_add : (len seats capacity : ℕ) → len ≡ seats → seats ≤ 8 → seats ≢ 8 → 8 ≤ capacity → len < capacity
may_add len seats capacity e le ne room = omega arith

-- ---- room between rounds
module _ {S : Type 0} (j : S → Option ℕ) (xs : List S) (g : Went) where
  pub room_at_first : length xs ≤ 8 → HaveRoom (map j xs) (record { joined = []; left = []; lost = [] })
  room_at_first le = record {
    joined = let l : length (map j xs) ≡ length xs = length-map xs j in omega (arith, planned_few (map j xs), l);
    gone = let l : length (map j xs) ≡ length xs = length-map xs j in omega (arith, l);
  }

  module _ (i : ℕ) (s : S) (lt : i < length xs) (here : s ≡ get_or xs i s) (room : HaveRoom (map j xs) g) where
    plans_about : map j xs ≡ map j (take i xs) ++ j s ∷ map j (drop (i + 1) xs)
    plans_about = ap (map j) (about_here xs i s lt here) ∙ map-append j (take i xs) (s ∷ drop (i + 1) xs)

    pub room_left_now : (zs : List S) → zs ≡ take i xs ++ drop (i + 1) xs → HaveRoom (map j zs) g
    room_left_now zs e =
        subst (λ js. HaveRoom js g) (sym (ap (map j) e ∙ map-append j (take i xs) (drop (i + 1) xs)))
        (room_without (map j (take i xs)) (j s) (map j (drop (i + 1) xs)) g (subst (λ js. HaveRoom js g) plans_about room))

    pub room_left_later : (t : S) → j t ≡ j s → HaveRoom (map j (set xs i t)) g
    room_left_later t e =
        subst (λ js. HaveRoom js g) (sym (ap (map j) (set_here xs i s lt here t) ∙ map-append j (take i xs) (t ∷ drop (i + 1) xs) ∙
        ap (λ q. map j (take i xs) ++ q ∷ map j (drop (i + 1) xs)) e)) (subst (λ js. HaveRoom js g) plans_about room)

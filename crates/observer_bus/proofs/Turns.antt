-- A round that has come as far as one seat.
use Rattle.std.proofs.Common.{◌≡◌, ℕ, ◌+◌, ◌≤◌, ◌<◌, false, List, [], ◌∷◌, ◌++◌, Option, length, take, drop, set, map, refl, sym, ap, ◌∙◌, arith, All, get_or, append_assoc, append-nil, add-one, suc, drop-drop, take-take, length-set, length-append, length-take, length-drop, take_all, add-zero}
use Rattle.std.proofs.Math.Seq.{drop-cons, take-suc}
use Rattle.std.proofs.Math.ListN.{get_or-map}
use Rattle.std.proofs.lemmas.List.{take-append-drop, drop-set, drop-set-lt, take-set, take_more_set, take_at, drop_at, drop_all, length-map, map-append, map-set, take-map, drop-map, get_or-drop, get_or-take}
use Rattle.std.proofs.lemmas.List.Elements.{All-drop, All-take}
use Rattle.std.proofs.lemmas.Simd.{map-map}
use Rattle.arr_notes.specs.CurvedView.{CurvedView}
use Rattle.arr_notes.specs.declared.note.Note.{Note}
use Rattle.observer_bus.proofs.Placing.{noted_swap}
use Rattle.observer_bus.proofs.Room.{fits_join, joins_on, room_here, room_kept, room_gone}
use Rattle.observer_bus.specs.Rounds.{IsRound, ended, kept, gone, noted, went_after, HaveRoom, HasRoomFor, IsRoundOf}
use Rattle.observer_bus.specs.Seats.{SeatRow, IsFateOf, IsGone, IsKept, MayHear, stays}
use Rattle.observer_bus.specs.declared.seat.Fate.{Fate}
use Rattle.observer_bus.specs.declared.seat.Fate.TheVariants.{Told, ToldLast, LeftUntold, Joined, Waits, Lost}
use Rattle.observer_bus.specs.declared.went.Went.{Went}

-- the plans to join of seats
abbrev pub joins : List SeatRow → List (Option ℕ)
joins ss = map (λ s. s.join) ss

-- a round has come as far as seat i
pub record Going (n : Note) (w : CurvedView) (ss : List SeatRow) (g : Went) (xs : List SeatRow) (h : Went) (i : ℕ) : Type 0 where
  pub within : i ≤ length xs
  pub fits : All (MayHear n) (drop i xs)
  pub room : HaveRoom (joins xs) h
  pub so_far : (fs : List Fate) (ts : List SeatRow) → IsRound n w fs (drop i xs) ts → IsRoundOf n w ss g (take i xs ++ ts) (went_after fs (drop i xs) h)

-- a seat that was emptied had a fate at which none stays
gone_leaves : (n : Note) (f : Fate) (s t : SeatRow) → IsGone n f s t → stays f ≡ false
gone_leaves n ToldLast s t o = refl
gone_leaves n LeftUntold s t o = refl
gone_leaves n Lost s t o = refl
gone_leaves n Told s t o = absurd o
gone_leaves n Joined s t o = absurd o
gone_leaves n Waits s t o = absurd o

-- what holds of each element from i on holds of each from i + 1 on
later : {X : Type 0} (P : X → Type 0) (xs : List X) (i : ℕ) → All P (drop i xs) → All P (drop (i + 1) xs)
later P xs i h = let g = All-drop P 1 (drop i xs) h in rw (drop-drop 1 i xs) at g

-- ---- a list about one place
module _ {S : Type 0} (xs : List S) (i : ℕ) (s : S) (lt : i < length xs) (here : s ≡ get_or xs i s) where
  pub from_here : drop i xs ≡ s ∷ drop (i + 1) xs
  from_here = rw add-one (drop-cons xs i s lt ∙ ap (λ x. x ∷ drop (suc i) xs) (sym here))

  pub upto_here : take (i + 1) xs ≡ take i xs ++ s ∷ []
  upto_here = rw add-one (take-suc xs i s lt ∙ ap (λ x. take i xs ++ x ∷ []) (sym here))

  pub about_here : xs ≡ take i xs ++ s ∷ drop (i + 1) xs
  about_here = sym (take-append-drop i xs) ∙ ap (λ ys. take i xs ++ ys) from_here

  pub set_here : (t : S) → set xs i t ≡ take i xs ++ t ∷ drop (i + 1) xs
  set_here t =
      sym (take-append-drop (i + 1) (set xs i t)) ∙ (λ k. take_more_set xs i t lt k ++ drop-set-lt (i + 1) xs i t (omega arith) k) ∙
      append_assoc (take i xs) (t ∷ []) (drop (i + 1) xs)

  pub without_here : (t : S) (zs : List S) → zs ≡ take i (set xs i t) ++ drop (i + 1) (set xs i t) → zs ≡ take i xs ++ drop (i + 1) xs
  without_here t zs e = e ∙ (λ k. take-set xs i t k ++ drop-set-lt (i + 1) xs i t (omega arith) k)

-- plans to join, about one place
joins_about : (xs : List SeatRow) (s : SeatRow) (ys zs : List SeatRow) → zs ≡ xs ++ s ∷ ys → joins zs ≡ joins xs ++ s.join ∷ joins ys
joins_about xs s ys zs e = ap joins e ∙ map-append (λ s. s.join) xs (s ∷ ys)

joins_both : (xs ys zs : List SeatRow) → zs ≡ xs ++ ys → joins zs ≡ joins xs ++ joins ys
joins_both xs ys zs e = ap joins e ∙ map-append (λ s. s.join) xs ys

module _ (xs : List SeatRow) (h : Went) (i : ℕ) (s : SeatRow) (room : HaveRoom (joins xs) h)
    (lt : i < length xs) (here : s ≡ get_or xs i s) (f : Fate) (fate : IsFateOf f s) where
  room_at : HaveRoom (joins (take i xs) ++ s.join ∷ joins (drop (i + 1) xs)) h
  room_at = let e = joins_about (take i xs) s (drop (i + 1) xs) xs (about_here xs i s lt here) in rw e at room

  pub room_for : HasRoomFor f h
  room_for = room_here (joins (take i xs)) s.join (joins (drop (i + 1) xs)) h room_at f (fits_join f s fate)

  room_set : (n : Note) (w : CurvedView) (t : SeatRow) → IsKept n w f s t → HaveRoom (joins (set xs i t)) (noted f s.name h)
  room_set n w t k =
      let e = joins_about (take i xs) t (drop (i + 1) xs) (set xs i t) (set_here xs i s lt here t) in
      rw e (room_kept (joins (take i xs)) s.join (joins (drop (i + 1) xs)) h room_at f s.name t.join (fits_join f s fate) (joins_on n w f s t k))

  room_less : (zs : List SeatRow) → zs ≡ take i xs ++ drop (i + 1) xs → (n : Note) (t : SeatRow) → IsGone n f s t → HaveRoom (joins zs) (noted f s.name h)
  room_less zs e n t q =
      let d = joins_both (take i xs) (drop (i + 1) xs) zs e in
      rw d (room_gone (joins (take i xs)) s.join (joins (drop (i + 1) xs)) h room_at f s.name (gone_leaves n f s t q))

-- ---- forward
module _ (n : Note) (w : CurvedView) (ss : List SeatRow) (g : Went) (xs : List SeatRow) (h : Went) (i : ℕ) (s : SeatRow)
    (so : Going n w ss g xs h i) (lt : i < length xs) (here : s ≡ get_or xs i s) (f : Fate) (fate : IsFateOf f s) where
  rest_from : (fs : List Fate) (ts : List SeatRow) → IsRound n w fs (s ∷ drop (i + 1) xs) ts → IsRoundOf n w ss g (take i xs ++ ts) (went_after fs (s ∷ drop (i + 1) xs) h)
  rest_from = let r = so.so_far in let e = from_here xs i s lt here in rw e at r

  -- after a seat that stays
  pub goes_on : (t : SeatRow) → IsKept n w f s t → Going n w ss g (set xs i t) (noted f s.name h) (i + 1)
  goes_on t k = record {
    within = rw length-set (omega arith);
    fits = rw (drop-set-lt (i + 1) xs i t (omega arith)) (later (MayHear n) xs i so.fits);
    room = room_set xs h i s so.room lt here f fate n w t k;
    so_far = λ fs ts r. let q = rw (drop-set-lt (i + 1) xs i t (omega arith)) at r in
        rw (take_more_set xs i t lt, append_assoc, drop-set-lt (i + 1) xs i t (omega arith)) (rest_from (f ∷ fs) (t ∷ ts) (kept fate k q));
  }

  -- after a seat that was emptied
  pub goes : (t : SeatRow) (zs : List SeatRow) → IsGone n f s t → zs ≡ take i (set xs i t) ++ drop (i + 1) (set xs i t) → Going n w ss g zs (noted f s.name h) i
  goes t zs q e' =
      let e : zs ≡ take i xs ++ drop (i + 1) xs = without_here xs i s lt here t zs e' in
      let l : length (take i xs) ≡ i = simp length-take (omega arith) in
      let a : take i zs ≡ take i xs = rw e (take_at (take i xs) (drop (i + 1) xs) i l) in
      let b : drop i zs ≡ drop (i + 1) xs = rw e (drop_at (take i xs) (drop (i + 1) xs) i l) in
      record {
        within = rw (e, length-append) (omega (arith, l));
        fits = rw b (later (MayHear n) xs i so.fits);
        room = room_less xs h i s so.room lt here f fate zs e n t q;
        so_far = λ fs ts r. let p = rw b at r in rw (a, b) (rest_from (f ∷ fs) ts (gone fate t q p));
      }

pub starts : (n : Note) (w : CurvedView) (ss : List SeatRow) (g : Went) → All (MayHear n) ss → HaveRoom (joins ss) g → Going n w ss g ss g 0
starts n w ss g fits room = record { within = omega arith; fits = fits; room = room; so_far = λ fs ts r. (fs, r, refl) }

pub ends : (n : Note) (w : CurvedView) (ss : List SeatRow) (g : Went) (xs : List SeatRow) (h : Went) (i : ℕ) → Going n w ss g xs h i → length xs ≤ i → IsRoundOf n w ss g xs h
ends n w ss g xs h i so le =
    let d = drop_all i xs le in
    let q = so.so_far in
    let r = rw d at q in
    let p = r [] [] ended in
    rw (append-nil, take_all i xs le) at p

-- ---- backward
pub record GoingBack (n : Note) (w : CurvedView) (ss : List SeatRow) (g : Went) (xs : List SeatRow) (h : Went) (i : ℕ) : Type 0 where
  pub within : i ≤ length xs
  pub fits : All (MayHear n) (take i xs)
  pub room : HaveRoom (joins xs) h
  pub so_far : (fs : List Fate) (ts : List SeatRow) → IsRound n w fs (take i xs) ts → IsRoundOf n w ss g (ts ++ drop i xs) (went_after fs (take i xs) h)

-- two rounds, one behind the other
pub round_both : (n : Note) (w : CurvedView) {fs hs : List Fate} {xs ys us vs : List SeatRow} → IsRound n w fs xs ys → IsRound n w hs us vs → IsRound n w (fs ++ hs) (xs ++ us) (ys ++ vs)
round_both n w ended q = q
round_both n w (kept a b r) q = kept a b (round_both n w r q)
round_both n w (gone a t b r) q = gone a t b (round_both n w r q)

-- what the last seat writes may be written first
last_first : (n : Note) (w : CurvedView) {fs : List Fate} {xs ys : List SeatRow} → IsRound n w fs xs ys → (f : Fate) (s : SeatRow) (g : Went) →
    went_after (fs ++ f ∷ []) (xs ++ s ∷ []) g ≡ went_after fs xs (noted f s.name g)
last_first n w ended f s g = refl
last_first n w (kept {f = e} {fs = fs} {s = x} {ss = xs} a b r) f s g = last_first n w r f s (noted e x.name g) ∙ ap (went_after fs xs) (noted_swap f e s.name x.name g)
last_first n w (gone {f = e} {fs = fs} {s = x} {ss = xs} a t b r) f s g = last_first n w r f s (noted e x.name g) ∙ ap (went_after fs xs) (noted_swap f e s.name x.name g)

module _ (n : Note) (w : CurvedView) (ss : List SeatRow) (g : Went) (xs : List SeatRow) (h : Went) (i j : ℕ) (s : SeatRow)
    (so : GoingBack n w ss g xs h i) (e : i ≡ j + 1) (lt : j < length xs) (here : s ≡ get_or xs j s) (f : Fate) (fate : IsFateOf f s) where
  upto : take i xs ≡ take j xs ++ s ∷ []
  upto = rw e (upto_here xs j s lt here)

  below : (P : SeatRow → Type 0) → All P (take i xs) → All P (take j xs)
  below P a = let b = All-take P j (take i xs) a in rw (take-take j i xs (omega arith)) at b

  rest_upto : (fs : List Fate) (ts : List SeatRow) → IsRound n w fs (take j xs ++ s ∷ []) ts → IsRoundOf n w ss g (ts ++ drop i xs) (went_after fs (take j xs ++ s ∷ []) h)
  rest_upto = let r = so.so_far in rw upto at r

  -- the rest with this seat's turn before it
  rest_below : (us : List SeatRow) (fs : List Fate) (ts : List SeatRow) → IsRound n w (f ∷ []) (s ∷ []) us → IsRound n w fs (take j xs) ts →
      IsRoundOf n w ss g ((ts ++ us) ++ drop i xs) (went_after fs (take j xs) (noted f s.name h))
  rest_below us fs ts r q =
      let p = rest_upto (fs ++ f ∷ []) (ts ++ us) (round_both n w q r) in
      let l = last_first n w q f s h in
      rw l at p

  -- after a seat that stays
  pub goes_on_back : (t : SeatRow) → IsKept n w f s t → GoingBack n w ss g (set xs j t) (noted f s.name h) j
  goes_on_back t k = record {
    within = rw length-set (omega arith);
    fits = rw (take-set xs j t) (below (MayHear n) so.fits);
    room = room_set xs h j s so.room lt here f fate n w t k;
    so_far = λ fs ts r. let q = rw (take-set xs j t) at r in
        rw (drop-set xs j t lt, ← e, take-set xs j t, ← append_assoc ts (t ∷ []) (drop i xs)) (rest_below (t ∷ []) fs ts (kept fate k ended) q);
  }

  -- after a seat that was emptied
  pub goes_back : (t : SeatRow) (zs : List SeatRow) → IsGone n f s t → zs ≡ take j (set xs j t) ++ drop (j + 1) (set xs j t) → GoingBack n w ss g zs (noted f s.name h) j
  goes_back t zs q c' =
      let c : zs ≡ take j xs ++ drop (j + 1) xs = without_here xs j s lt here t zs c' in
      let l : length (take j xs) ≡ j = simp length-take (omega arith) in
      let a : take j zs ≡ take j xs = rw c (take_at (take j xs) (drop (j + 1) xs) j l) in
      let b : drop j zs ≡ drop (j + 1) xs = rw c (drop_at (take j xs) (drop (j + 1) xs) j l) in
      record {
        within = rw (c, length-append) (omega (arith, l));
        fits = rw a (below (MayHear n) so.fits);
        room = room_less xs h j s so.room lt here f fate zs c n t q;
        so_far = λ fs ts r. let p = rw a at r in rw (a, b, ← e) (let m = rest_below [] fs ts (gone fate t q ended) p in rw append-nil at m);
      }

pub starts_back : (n : Note) (w : CurvedView) (ss : List SeatRow) (g : Went) (k : ℕ) → k ≡ length ss → All (MayHear n) ss → HaveRoom (joins ss) g → GoingBack n w ss g ss g k
starts_back n w ss g k e fits room =
    let t : take k ss ≡ ss = take_all k ss (omega arith) in
    let d : drop k ss ≡ [] = drop_all k ss (omega arith) in
    record { within = omega arith; fits = rw t fits; room = room; so_far = λ fs ts r. let q = rw t at r in rw (d, append-nil, t) (fs, q, refl) }

pub ends_back : (n : Note) (w : CurvedView) (ss : List SeatRow) (g : Went) (xs : List SeatRow) (h : Went) (i : ℕ) → GoingBack n w ss g xs h i → i ≡ 0 → IsRoundOf n w ss g xs h
ends_back n w ss g xs h i so e = let q = so.so_far in let r = rw e at q in r [] [] ended

-- a round never makes more seats
pub shorter : (n : Note) (w : CurvedView) {fs : List Fate} {xs ys : List SeatRow} → IsRound n w fs xs ys → length ys ≤ length xs
shorter n w ended = omega arith
shorter n w (kept a b r) = omega (arith, shorter n w r)
shorter n w (gone a t b r) = omega (arith, shorter n w r)

-- ---- the same of a list whose elements are seen as rows
module _ {S : Type 0} (r : S → SeatRow) where
  rows_without : (xs zs : List S) (i : ℕ) (t : S) → zs ≡ take i (set xs i t) ++ drop (i + 1) (set xs i t) →
      map r zs ≡ take i (set (map r xs) i (r t)) ++ drop (i + 1) (set (map r xs) i (r t))
  rows_without xs zs i t e = ap (map r) e ∙ map-append r (take i (set xs i t)) (drop (i + 1) (set xs i t)) ∙
      (λ j. sym (take-map r i (set xs i t)) j ++ sym (drop-map r (i + 1) (set xs i t)) j) ∙
      ap (λ ys. take i ys ++ drop (i + 1) ys) (map-set r xs i t)

  module _ (xs : List S) (i : ℕ) (s : S) (lt : i < length xs) (here : s ≡ get_or xs i s) where
    at_row : r s ≡ get_or (map r xs) i (r s)
    at_row = ap r here ∙ sym (get_or-map r xs i s)

    rows_lt : i < length (map r xs)
    rows_lt = rw length-map lt

    pub room_by : (h : Went) → HaveRoom (joins (map r xs)) h → (f : Fate) → IsFateOf f (r s) → HasRoomFor f h
    room_by h room f fate = room_for (map r xs) h i (r s) room rows_lt at_row f fate

  module _ (n : Note) (w : CurvedView) (ss : List SeatRow) (g : Went) (xs : List S) (h : Went) (i : ℕ) (s : S)
      (so : Going n w ss g (map r xs) h i) (lt : i < length xs) (here : s ≡ get_or xs i s) (f : Fate) (fate : IsFateOf f (r s))
      (h' : Went) (note : h' ≡ noted f (r s).name h) where
    pub goes_on_by : (t : S) → IsKept n w f (r s) (r t) → Going n w ss g (map r (set xs i t)) h' (i + 1)
    goes_on_by t k = rw (note, map-set) (goes_on n w ss g (map r xs) h i (r s) so (rows_lt xs i s lt here) (at_row xs i s lt here) f fate (r t) k)

    pub goes_by : (t : S) (zs : List S) → IsGone n f (r s) (r t) → zs ≡ take i (set xs i t) ++ drop (i + 1) (set xs i t) → Going n w ss g (map r zs) h' i
    goes_by t zs q e = rw note (goes n w ss g (map r xs) h i (r s) so (rows_lt xs i s lt here) (at_row xs i s lt here) f fate (r t) (map r zs) q (rows_without xs zs i t e))

  module _ (n : Note) (w : CurvedView) (ss : List SeatRow) (g : Went) (xs : List S) (h : Went) (i j : ℕ) (s : S)
      (so : GoingBack n w ss g (map r xs) h i) (e : i ≡ j + 1) (lt : j < length xs) (here : s ≡ get_or xs j s) (f : Fate) (fate : IsFateOf f (r s))
      (h' : Went) (note : h' ≡ noted f (r s).name h) where
    pub goes_on_back_by : (t : S) → IsKept n w f (r s) (r t) → GoingBack n w ss g (map r (set xs j t)) h' j
    goes_on_back_by t k = rw (note, map-set) (goes_on_back n w ss g (map r xs) h i j (r s) so e (rows_lt xs j s lt here) (at_row xs j s lt here) f fate (r t) k)

    pub goes_back_by : (t : S) (zs : List S) → IsGone n f (r s) (r t) → zs ≡ take j (set xs j t) ++ drop (j + 1) (set xs j t) → GoingBack n w ss g (map r zs) h' j
    goes_back_by t zs q c = rw note (goes_back n w ss g (map r xs) h i j (r s) so e (rows_lt xs j s lt here) (at_row xs j s lt here) f fate (r t) (map r zs) q (rows_without xs zs j t c))

  -- what holds of each row from i on holds of the row at i
  pub fits_here : (P : SeatRow → Type 0) (xs : List S) (i : ℕ) (s : S) → All P (drop i (map r xs)) → i < length xs → s ≡ get_or xs i s → P (r s)
  fits_here P xs i s all lt here =
      let k : 0 < length (drop i (map r xs)) = rw (length-drop, length-map) (omega arith) in
      let p = all 0 (r s) k in
      let q : get_or (drop i (map r xs)) 0 (r s) ≡ r s = get_or-drop i (map r xs) 0 (r s) ∙ ap (λ m. get_or (map r xs) m (r s)) (add-zero i) ∙ get_or-map r xs i s ∙ ap r (sym here) in
      rw q at p

  pub fits_last : (P : SeatRow → Type 0) (xs : List S) (i j : ℕ) (s : S) → All P (take i (map r xs)) → i ≡ j + 1 → j < length xs → s ≡ get_or xs j s → P (r s)
  fits_last P xs i j s all e lt here =
      let k : j < length (take i (map r xs)) = rw (length-take, length-map) (omega arith) in
      let p = all j (r s) k in
      let q : get_or (take i (map r xs)) j (r s) ≡ r s = get_or-take i (map r xs) j (r s) (omega arith) ∙ get_or-map r xs j s ∙ ap r (sym here) in
      rw q at p

  pub shorter_by : (n : Note) (w : CurvedView) (ss : List S) (g : Went) (xs : List S) (h : Went) → IsRoundOf n w (map r ss) g (map r xs) h → length xs ≤ length ss
  shorter_by n w ss g xs h q = let l = shorter n w q.1 in simp length-map at l

  -- plans to join, of rows and of what they are rows of
  pub joins_by : (xs : List S) → joins (map r xs) ≡ map (λ s. (r s).join) xs
  joins_by xs = map-map (λ s. s.join) r xs

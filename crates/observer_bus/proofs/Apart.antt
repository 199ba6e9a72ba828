-- Names of seats stay apart.
use Rattle.std.proofs.Common.{◌≡◌, ℕ, ◌+◌, ◌<◌, ◌==◌, Bool, false, List, [], ◌∷◌, ◌++◌, Option, None, Some, length, take, drop, set, map, get_or, sym, ap, ◌∙◌, subst}
use Rattle.std.specs.List.{AllByRecursion, IsDistinct, list_any}
use Rattle.std.proofs.lemmas.Bool.{or_parts}
use Rattle.std.proofs.lemmas.List.{map-append}
use Rattle.std.proofs.lemmas.Simd.{map-map}
use Rattle.arr_notes.specs.CurvedView.{CurvedView}
use Rattle.arr_notes.specs.declared.note.Note.{Note}
use Rattle.observer_bus.proofs.Hearing.{apart_after}
use Rattle.observer_bus.proofs.Seating.{any_by}
use Rattle.observer_bus.proofs.Turns.{about_here, set_here}
use Rattle.observer_bus.specs.Calls.{IsPlaced}
use Rattle.observer_bus.specs.RoundLaws.{HaveNamesApart}
use Rattle.observer_bus.specs.Rounds.{IsRoundOf}
use Rattle.observer_bus.specs.Seats.{SeatRow}
use Rattle.observer_bus.specs.declared.went.Went.{Went}

-- a newcomer keeps its name
pub placed_name : (o : Option ℕ) (w : CurvedView) (s t : SeatRow) → IsPlaced o w s t → t.name ≡ s.name
placed_name None w s t p = p.name
placed_name (Some k) w s t p = ap (λ r. r.name) p

-- ---- lists of names
all_last : (P : ℕ → Type 0) (ks : List ℕ) (k : ℕ) → AllByRecursion P ks → P k → AllByRecursion P (ks ++ k ∷ [])
all_last P [] k a p = (p, tt)
all_last P (y ∷ ks) k a p = (a.0, all_last P ks k a.1 p)

all_without : (P : ℕ → Type 0) (js : List ℕ) (k : ℕ) (ks : List ℕ) → AllByRecursion P (js ++ k ∷ ks) → AllByRecursion P (js ++ ks)
all_without P [] k ks a = a.1
all_without P (j ∷ js) k ks a = (a.0, all_without P js k ks a.1)

apart_last : (ks : List ℕ) (k : ℕ) → IsDistinct ◌==◌ ks → list_any (λ m. m == k) ks ≡ false → IsDistinct ◌==◌ (ks ++ k ∷ [])
unfolding IsDistinct
apart_last [] k h e = (tt, tt)
apart_last (x ∷ ks) k h e =
    let p = or_parts (x == k) (list_any (λ m. m == k) ks) e in
    (all_last (λ y. (x == y) ≡ false) ks k h.0 p.0, apart_last ks k h.1 p.1)

apart_without : (js : List ℕ) (k : ℕ) (ks : List ℕ) → IsDistinct ◌==◌ (js ++ k ∷ ks) → IsDistinct ◌==◌ (js ++ ks)
unfolding IsDistinct
apart_without [] k ks h = h.1
apart_without (j ∷ js) k ks h = (all_without (λ y. (j == y) ≡ false) js k ks h.0, apart_without js k ks h.1)

-- ---- lists of seats
-- none
pub nobody_apart : {S : Type 0} (m : S → ℕ) (xs : List S) → xs ≡ [] → IsDistinct ◌==◌ (map m xs)
unfolding IsDistinct
nobody_apart m xs e = subst (λ ys. IsDistinct ◌==◌ (map m ys)) (sym e) tt

module _ {S : Type 0} (m : S → ℕ) (xs : List S) (h : IsDistinct ◌==◌ (map m xs)) where
  -- one more, whose name none has
  pub apart_added : (s : S) (b : Bool) (k : ℕ) → b ≡ list_any (λ s. m s == k) xs → b ≡ false → m s ≡ k → IsDistinct ◌==◌ (map m (xs ++ s ∷ []))
  apart_added s b k q f e =
      subst (IsDistinct ◌==◌) (sym (map-append m xs (s ∷ []))) (subst (λ k. IsDistinct ◌==◌ (map m xs ++ k ∷ [])) (sym e) (apart_last (map m xs) k h (any_by (λ x. x == k) m xs ∙ sym q ∙ f)))

  module _ (i : ℕ) (s : S) (lt : i < length xs) (here : s ≡ get_or xs i s) where
    names_about : map m xs ≡ map m (take i xs) ++ m s ∷ map m (drop (i + 1) xs)
    names_about = ap (map m) (about_here xs i s lt here) ∙ map-append m (take i xs) (s ∷ drop (i + 1) xs)

    -- one fewer
    pub apart_left_now : (zs : List S) → zs ≡ take i xs ++ drop (i + 1) xs → IsDistinct ◌==◌ (map m zs)
    apart_left_now zs e =
        subst (IsDistinct ◌==◌) (sym (ap (map m) e ∙ map-append m (take i xs) (drop (i + 1) xs)))
        (apart_without (map m (take i xs)) (m s) (map m (drop (i + 1) xs)) (subst (IsDistinct ◌==◌) names_about h))

    -- one changed, under its name
    pub apart_left_later : (t : S) → m t ≡ m s → IsDistinct ◌==◌ (map m (set xs i t))
    apart_left_later t e =
        subst (IsDistinct ◌==◌) (names_about ∙ sym (ap (map m) (set_here xs i s lt here t) ∙ map-append m (take i xs) (t ∷ drop (i + 1) xs) ∙
        ap (λ q. map m (take i xs) ++ q ∷ map m (drop (i + 1) xs)) e)) h

module _ {S : Type 0} (r : S → SeatRow) where
  -- names of rows, and of what they are rows of
  pub apart_rows : (xs : List S) → IsDistinct ◌==◌ (map (λ s. (r s).name) xs) → HaveNamesApart (map r xs)
  apart_rows xs h = subst (IsDistinct ◌==◌) (sym (map-map (λ s. s.name) r xs)) h

  -- after a round
  pub apart_round : (n : Note) (w : CurvedView) (g k : Went) (xs zs : List S) → IsRoundOf n w (map r xs) g (map r zs) k →
      IsDistinct ◌==◌ (map (λ s. (r s).name) xs) → IsDistinct ◌==◌ (map (λ s. (r s).name) zs)
  apart_round n w g k xs zs q h = subst (IsDistinct ◌==◌) (map-map (λ s. s.name) r zs) (apart_after n w q.1 (apart_rows xs h))

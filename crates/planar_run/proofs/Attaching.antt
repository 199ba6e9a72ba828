-- What attaching an observer makes of a world, and when it is refused.
use Rattle.std.proofs.Common.{◌≡◌, ◌≢◌, ◌<◌, ◌≤◌, ℕ, ◌-◌, ◌==◌, ◌||◌, ◌&&◌, Bool, true, false, not, nat_lt, suc, zero, List, [], ◌∷◌, ◌++◌, Option, Some, None, length, map, option_map, get_or, set, refl, sym, ap, ◌∙◌, inl, inr, arith}
use Rattle.std.specs.Prelude.{is_some, if◌then◌else◌}
use Rattle.std.specs.declared.alloc.Global.{Global}
use Rattle.std.specs.declared.dyn_box.DynBox.{DynBox}
use Rattle.std.proofs.lemmas.Bool.Decides.{nat_tests}
use Rattle.std.proofs.lemmas.List.{get_or-map, length-map, length-set, map-set, set-get_or}
use Rattle.arr_notes.specs.CurvedView.{CurvedView}
use Rattle.slab_laws.specs.declared.names.Strategy.{Strategy}
use Rattle.observer_bus.specs.Calls.{attach_refusal as bus_refusal, attach_said, has_name, IsAttached}
use Rattle.observer_bus.specs.Rows.{Meanings, meaning, IsHandedBack}
use Rattle.observer_bus.specs.Seats.{SeatRow}
use Rattle.observer_bus.specs.declared.errors.AttachError.{AttachError}
use Rattle.observer_bus.specs.declared.errors.AttachError.TheVariants.{Taken, Full, NoMemory}
use Rattle.arrangement.specs.Arranged.{Arranged, IsWatched}
use Rattle.arrangement.specs.Edited.{IsSameLayer}
use Rattle.planar_run.specs.World.{Waiting, World}
use Rattle.planar_run.specs.Observers.{attach_refusal, attached, error_number, is_above, is_placed, newcomer, waiting_as, with_newcomer}
use Rattle.planar_run.specs.Rows.{built, half_in, seat_row, AreKept}
use Rattle.planar_run.proofs.Observed.{attached_rows, few_attached, length_rows, named_rows}
use Rattle.planar_run.proofs.Worlds.{same_layer}

-- ---- the reason
-- why an observer isn't attached, by what is asked of the world
abbrev by_tests : Bool → Bool → Bool → Bool → Option ℕ
by_tests above waits placed full = if above || (not waits && not placed) then Some 14 else (if placed then Some 15 else (if full then Some 17 else None))

abbrev by_bus : Bool → Bool → Option AttachError
by_bus placed full = if placed then Some Taken else (if full then Some (Full 8) else None)

error_told : (placed full : Bool) (e : AttachError) → attach_said e ≡ by_bus placed full → error_number e ≡ by_tests false true placed full
error_told true full Taken h = refl
error_told true full (Full n) h = cc
error_told true full NoMemory h = cc
error_told false true Taken h = cc
error_told false true (Full n) h = refl
error_told false true NoMemory h = cc
error_told false false Taken h = cc
error_told false false (Full n) h = cc
error_told false false NoMemory h = refl

none_told : (placed full : Bool) → by_bus placed full ≡ None → by_tests false true placed full ≡ None
none_told true full h = cc
none_told false true h = cc
none_told false false h = refl

not_full : (placed full : Bool) → by_bus placed full ≡ None → full ≡ false
not_full true full h = cc
not_full false true h = cc
not_full false false h = refl

-- one that is seated or planned in either layer
placed_told : (waits full : Bool) → by_tests false waits true full ≡ Some 15
placed_told true full = refl
placed_told false full = refl

-- none of the number was handed in
above_told : (above waits placed full : Bool) → false ≡ not above → Some 14 ≡ by_tests above waits placed full
above_told true waits placed full h = refl
above_told false waits placed full h = cc

eight : (n : ℕ) → (n == 8) ≡ false → n ≢ 8
eight n f e = cc

set_again : {A : Type 0} (xs : List A) (k : ℕ) (x y : A) → set (set xs k x) k y ≡ set xs k y
set_again [] k x y = refl
set_again (z ∷ xs) zero x y = refl
set_again (z ∷ xs) (suc k) x y = ap (λ ys. z ∷ ys) (set_again xs k x y)

within_places : (n l : ℕ) → 1 ≤ n → nat_lt l n ≡ false → n - 1 < l
within_places n l one f = grind (arith, nat_tests)

not_above : (h b : Bool) → h ≡ not b → h ≡ true → b ≡ false
not_above h true e t = cc
not_above h false e t = refl

-- one that comes back tells a view or not, and counts, as it did
pub handed_alike : {X : Type 0} {F : X → Type 0} (m : Meanings X F) (given back : DynBox X Global F) → IsHandedBack m given back → ((meaning m back).tells back.value ≡ (meaning m given).tells given.value) × ((meaning m back).left back.value ≡ (meaning m given).left given.value)
handed_alike {X} {F} m given back (inl q) = (ap (λ (b : DynBox X Global F). (meaning m b).tells b.value) q, ap (λ (b : DynBox X Global F). (meaning m b).left b.value) q)
handed_alike m given back (inr r) = (r.tells, r.left)

-- what a script knows of one that waits
pub same_waiting : (v w : Waiting) → (v.tells ≡ w.tells) × (v.left ≡ w.left) → v ≡ w
same_waiting v w e = λ i. record { tells = e.0 i; left = e.1 i }

module _ {B : Type 0} (f : B → Waiting) (n : ℕ) (a o : Arranged) (how : Strategy) (blue : Bool) (places : List (Option B)) where
  abbrev before : World
  before = built a (half_in o) how blue (map (option_map f) places)

  waits : (b : Option B) → n - 1 < length places → get_or places (n - 1) None ≡ b → waiting_as n before ≡ option_map f b
  waits b within e = get_or-map (option_map f) places (n - 1) None None within ∙ ap (option_map f) e

  pub unknown_refused : AreKept a o → false ≡ not (is_above n before) → Some 14 ≡ attach_refusal n before
  unknown_refused kept h = above_told (is_above n before) (is_some (waiting_as n before)) (is_placed n before) (length before.seats == 8) h

  module _ (kept : AreKept a o) (one : 1 ≤ n) (has : Bool) (told : has ≡ not (is_above n before)) (enough : has ≡ true) where
    there : is_above n before ≡ false
    there = not_above has (is_above n before) told enough

    -- the reason, where the other layer's seats are these
    reason : (w other : Bool) → is_some (waiting_as n before) ≡ w → has_name n o.bus.seats ≡ other → attach_refusal n before ≡ by_tests false w (other || has_name n a.bus.seats) (length a.bus.seats == 8)
    reason w other is at = λ i. by_tests (there i) (is i) ((named_rows n o.bus.seats ∙ at) i || named_rows n a.bus.seats i) (length_rows a.bus.seats i == 8)

    pub other_refused : has_name n o.bus.seats ≡ true → attach_refusal n before ≡ Some 15
    other_refused h = reason (is_some (waiting_as n before)) true refl h ∙ placed_told (is_some (waiting_as n before)) (length a.bus.seats == 8)

    pub within : n - 1 < length places
    within = within_places n (length places) one (ap (λ l. nat_lt l n) (sym (length-map places (option_map f))) ∙ there)

    pub still_within : (left : List (Option B)) → left ≡ set places (n - 1) None → n - 1 < length left
    still_within left e = rw (e, length-set) within

    -- what is taken from the place of nobody
    pub nobody_taken : (left : List (Option B)) → get_or places (n - 1) None ≡ None → left ≡ set places (n - 1) None → built a (half_in o) how blue (map (option_map f) left) ≡ before
    nobody_taken left none e = ap (λ xs. built a (half_in o) how blue (map (option_map f) xs)) (e ∙ ap (set places (n - 1)) (sym none) ∙ set-get_or places (n - 1) None)

    pub gone_refused : has_name n o.bus.seats ≡ false → get_or places (n - 1) None ≡ None → has_name n a.bus.seats ≡ false → attach_refusal n before ≡ Some 14
    gone_refused other e h = reason false false (ap is_some (waits None within e)) other ∙ ap (λ b. by_tests false false b (length a.bus.seats == 8)) h

    pub placed_refused : get_or places (n - 1) None ≡ None → has_name n o.bus.seats ≡ false → has_name n a.bus.seats ≡ true → attach_refusal n before ≡ Some 15
    placed_refused e other h = reason false false (ap is_some (waits None within e)) other ∙ ap (λ b. by_tests false false b (length a.bus.seats == 8)) h

    module _ (other : has_name n o.bus.seats ≡ false) (one_waits : B) (waited : get_or places (n - 1) None ≡ Some one_waits) where
      there_is : attach_refusal n before ≡ by_tests false true (has_name n a.bus.seats) (length a.bus.seats == 8)
      there_is = reason true false (ap is_some (waits (Some one_waits) within waited)) other

      pub error_refused : (e : AttachError) → attach_said e ≡ bus_refusal n a.bus.seats → error_number e ≡ attach_refusal n before
      error_refused e h = error_told (has_name n a.bus.seats) (length a.bus.seats == 8) e h ∙ sym there_is

      pub not_refused : bus_refusal n a.bus.seats ≡ None → attach_refusal n before ≡ None
      not_refused h = there_is ∙ none_told (has_name n a.bus.seats) (length a.bus.seats == 8) h

      -- the newcomer has left its place
      pub newly_attached : (v : CurvedView) (s : SeatRow) (when : Option ℕ) (b : Arranged) (left : List (Option B)) → s.name ≡ n → s.join ≡ when → s.leave ≡ None → f one_waits ≡ record { tells = s.tells; left = s.left } →
          IsAttached v s a.bus b.bus → IsSameLayer a b → left ≡ set places (n - 1) None → built b (half_in o) how blue (map (option_map f) left) ≡ attached n when before
      newly_attached v s when b left sn sj sl fo h l e =
          let seats : map seat_row b.bus.seats ≡ map seat_row a.bus.seats ++ newcomer n when (f one_waits) ∷ [] = rw fo (attached_rows v s a.bus b.bus h n when sn sj sl) in
          let places' : map (option_map f) left ≡ set (map (option_map f) places) (n - 1) None = ap (map (option_map f)) e ∙ map-set (option_map f) places (n - 1) None in
          (λ i. record { layer = same_layer a b l i; seats = seats i; waiting = places' i; other = half_in o; is_blue = blue; strategy = how }) ∙ ap (λ w. with_newcomer n when w before) (sym (waits (Some one_waits) within waited))

      pub newcomer_kept : (v : CurvedView) (s : SeatRow) (b : Arranged) → IsAttached v s a.bus b.bus → IsSameLayer a b → bus_refusal n a.bus.seats ≡ None → (IsWatched a → IsWatched b) → AreKept b o
      newcomer_kept v s b h l r w = record {
        current = record {
          limits = l.limits ∙ kept.current.limits;
          few = few_attached v s a.bus b.bus h kept.current.few (eight (length a.bus.seats) (not_full (has_name n a.bus.seats) (length a.bus.seats == 8) r));
          watched = w kept.current.watched;
        };
        other = kept.other;
      }

      -- one that was handed back waits again
      pub handed_back : (p : B) (b : Arranged) (left back : List (Option B)) → f p ≡ f one_waits → b.bus ≡ a.bus → IsSameLayer a b → left ≡ set places (n - 1) None → back ≡ set left (n - 1) (Some p) →
          built b (half_in o) how blue (map (option_map f) back) ≡ before
      handed_back p b left back fp h l e g =
          let was : option_map f (Some p) ≡ get_or (map (option_map f) places) (n - 1) None = ap Some fp ∙ sym (waits (Some one_waits) within waited) in
          let same : map (option_map f) back ≡ map (option_map f) places =
          ap (map (option_map f)) (g ∙ ap (λ xs. set xs (n - 1) (Some p)) e ∙ set_again places (n - 1) None (Some p)) ∙ map-set (option_map f) places (n - 1) (Some p) ∙
          ap (set (map (option_map f) places) (n - 1)) was ∙ set-get_or (map (option_map f) places) (n - 1) None in
          λ i. record { layer = same_layer a b l i; seats = map seat_row (h i).seats; waiting = same i; other = half_in o; is_blue = blue; strategy = how }

      pub back_kept : (b : Arranged) → b.bus ≡ a.bus → IsSameLayer a b → (IsWatched a → IsWatched b) → AreKept b o
      back_kept b h l w = record { current = record { limits = l.limits ∙ kept.current.limits; few = rw h kept.current.few; watched = w kept.current.watched }; other = kept.other }

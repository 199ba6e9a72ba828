-- What an arrangement under the limits of a script makes of a world, refuses and leaves.
use Rattle.std.proofs.Common.{◌≡◌, ◌≤◌, ℕ, ◌∷◌, [], List, Option, Some, None, length, map, option_map, Result, Ok, Err, refl, sym, ap, subst, ◌∙◌, arith, inl, inr}
use Rattle.std.specs.Prelude.{◌↔◌, Bool, true, false, ◌||◌, ◌⊎◌, if◌then◌else◌, OnOk, OnErr, IfOk}
use Rattle.std.specs.List.{list_any}
use Rattle.std.specs.declared.vec.Vec.{Vec}
use Rattle.exact_plane.specs.Segment.{Segment}
use Rattle.edit_steps.specs.Edits.{Edit, Insert, steps}
use Rattle.edit_steps.specs.Layer.{empty_layer}
use Rattle.edit_steps.specs.Refusals.{Refusal, refusal, IsAnswerFor}
use Rattle.plane_graphs.proofs.Lists.{decide}
use Rattle.slab_laws.specs.Text.{present_text}
use Rattle.slab_laws.specs.declared.names.Strategy.{Strategy}
use Rattle.observer_bus.specs.declared.errors.ReportError.{ReportError}
use Rattle.observer_bus.specs.declared.errors.ReportError.TheVariants.{NoMemory, NoSeat}
use Rattle.observer_bus.specs.Calls.{has_seat, with_seats, seat_of as row_of, seats_left as rows_left}
use Rattle.observer_bus.specs.Seats.{SeatRow}
use Rattle.observer_bus.specs.RoundLaws.{HaveNamesApart}
use Rattle.observer_bus.specs.Rounds.{BusRow}
use Rattle.arrangement.specs.Arranged.{Arranged, layer_in, bounds_of, refusal_in, IsWatched}
use Rattle.arrangement.specs.Edited.{IsEdited, IsAsBefore, IsSameLayer}
use Rattle.arrangement.specs.Questions.{IsReportOf}
use Rattle.arrangement.specs.declared.limits.Limits.{Limits}
use Rattle.arrangement.specs.declared.limits.TheConstants.Limits.{FULL}
use Rattle.planar_run.specs.World.{Half, Waiting, World, first_half, first_world}
use Rattle.planar_run.specs.Rows.{built, half_in, seat_row, AreKept, IsKept}
use Rattle.planar_run.specs.Observers.{is_seat_of, is_seated_in, leaving, seat_of, seats_left, TellsNothing}
use Rattle.planar_run.specs.Answer.{IsDone}
use Rattle.planar_run.proofs.ToldRounds.{told_rounds, few_went}
use Rattle.planar_run.proofs.Observed.{few_left, left_rows, length_rows, seat_of_rows, seated_rows}

-- ---- the first world
all_wait : {A : Type 0} (f : A → Waiting) (bs : List A) → map (option_map f) (map Some bs) ≡ map Some (map f bs)
all_wait f [] = refl
all_wait f (b ∷ bs) = ap (λ ws. Some (f b) ∷ ws) (all_wait f bs)

module _ (a : Arranged) (b : BusRow) (full : a.limits ≡ FULL) (is : a.bus ≡ b) (none : b.seats ≡ []) where
  nobody_seated : a.bus.seats ≡ []
  nobody_seated = ap (λ (b : BusRow). b.seats) is ∙ none

  -- a new arrangement, as a script knows it
  pub first_in : layer_in a ≡ empty_layer 1 → half_in a ≡ first_half
  first_in e = λ i. record { layer = e i; seats = map seat_row (nobody_seated i) }

  pub first_kept : IsKept a
  first_kept = record { limits = full; few = rw nobody_seated (omega arith); watched = rw nobody_seated (λ k d h. absurd (omega (arith, h))) }

pub first_built : (how : Strategy) {A : Type 0} (f : A → Waiting) (places : List (Option A)) (bs : List A) (h o : Half) → h ≡ first_half → o ≡ first_half → places ≡ map Some bs →
    record { layer = h.layer; seats = h.seats; waiting = map (option_map f) places; other = o; is_blue = false; strategy = how } ≡ first_world how (map f bs)
first_built how f places bs h o e g p =
    λ i. record { layer = (e i).layer; seats = (e i).seats; waiting = (ap (map (option_map f)) p ∙ all_wait f bs) i; other = g i; is_blue = false; strategy = how }

-- ---- edits
-- what the arrangement refuses, its world does
pub if_answered : {T E : Type 0} (said : E → Option Refusal) (r : Result T E) (e : Edit) (a : Arranged) → IsKept a → IsAnswerFor said (refusal_in a e) r → IsAnswerFor said (refusal (bounds_of FULL) (layer_in a) e) r
if_answered said r e a k h = subst (λ (l : Limits). IsAnswerFor said (refusal (bounds_of l) (layer_in a) e) r) k.limits h

pub if_insert_answered : {T E : Type 0} (said : E → Option Refusal) (r : Result T E) (sides : List Segment) (a : Arranged) → IsKept a → IsAnswerFor said (refusal_in a (Insert (layer_in a).next sides)) r →
    IsAnswerFor said (refusal (bounds_of FULL) (layer_in a) (Insert (layer_in a).next sides)) r
if_insert_answered said r sides a k h = if_answered said r (Insert (layer_in a).next sides) a k h

-- an edit that is done, and who came and went in it
pub done_so : (e : Edit) (a b : Arranged) (o : Half) (how : Strategy) (blue : Bool) (ws : List (Option Waiting)) → IsKept a → HaveNamesApart a.bus.seats → IsEdited a b e → IsDone e (built a o how blue ws) (built b o how blue ws) b.bus.went
done_so e a b o how blue ws k apart h =
    let t = told_rounds _ _ a.bus (steps e (layer_in a).present) _ _ b.bus apart h.told in
    let few = few_went t.0 (map seat_row a.bus.seats) (rw length_rows k.few) in record {
      losses = t.0;
      are = t.1;
      world = λ i. record { layer = h.layer i; seats = t.2 i; waiting = ws; other = o; is_blue = blue; strategy = how };
      went = t.3;
      few = rw t.3 (record { joined = few.0; gone = few.1 });
    }

pub if_done : {T E : Type 0} (r : Result T E) (e : Edit) (a b : Arranged) (o : Half) (how : Strategy) (blue : Bool) (ws : List (Option Waiting)) → IsKept a → HaveNamesApart a.bus.seats → OnOk r (IsEdited a b e) → OnOk r (IsDone e (built a o how blue ws) (built b o how blue ws) b.bus.went)
if_done (Ok x) e a b o how blue ws k apart h = done_so e a b o how blue ws k apart h
if_done (Err y) e a b o how blue ws k apart h = tt

pub if_refused : {T E : Type 0} (r : Result T E) (a b : Arranged) (o : Half) (how : Strategy) (blue : Bool) (ws : List (Option Waiting)) → OnErr r (IsAsBefore a b) → OnErr r (built b o how blue ws ≡ built a o how blue ws)
if_refused (Ok x) a b o how blue ws h = tt
if_refused (Err y) a b o how blue ws h = λ i. record { layer = h.layer i; seats = map seat_row (h.bus i).seats; waiting = ws; other = o; is_blue = blue; strategy = how }

-- at most eight stay
few_done : (e : Edit) (a b : Arranged) → IsKept a → HaveNamesApart a.bus.seats → IsEdited a b e → length b.bus.seats ≤ 8
few_done e a b k apart h =
    let t = told_rounds _ _ a.bus (steps e (layer_in a).present) _ _ b.bus apart h.told in
    let few = few_went t.0 (map seat_row a.bus.seats) (rw length_rows k.few) in
    rw (sym (length_rows b.bus.seats)) (rw t.2 few.2)

pub kept_so : (e : Edit) (a b o : Arranged) → AreKept a o → HaveNamesApart a.bus.seats → IsEdited a b e → b.limits ≡ a.limits → IsWatched b → AreKept b o
kept_so e a b o k apart h l w = record { current = record { limits = l ∙ k.current.limits; few = few_done e a b k.current apart h; watched = w }; other = k.other }

pub if_kept : {T E : Type 0} (r : Result T E) (e : Edit) (a b o : Arranged) → AreKept a o → HaveNamesApart a.bus.seats → OnOk r (IsEdited a b e) → OnErr r (IsAsBefore a b) → b.limits ≡ a.limits → IsWatched b → AreKept b o
if_kept (Ok x) e a b o k apart h n l w = kept_so e a b o k apart h l w
if_kept (Err y) e a b o k apart h n l w = record { current = record { limits = l ∙ k.current.limits; few = rw n.bus k.current.few; watched = w }; other = k.other }

-- ---- observers
pub same_layer : (a b : Arranged) → IsSameLayer a b → layer_in b ≡ layer_in a
same_layer a b h = λ i. layer_in (record { graph = h.graph i; faces = h.faces i; past = h.past i; limits = b.limits; bus = b.bus })

pub same_half : (a b : Arranged) → IsSameLayer a b → b.bus ≡ a.bus → half_in b ≡ half_in a
same_half a b l h = λ i. record { layer = same_layer a b l i; seats = map seat_row (h i).seats }

-- an observer leaves a layer, or plans it
pub half_left : (i : ℕ) (when : Option ℕ) (a b : Arranged) → IsSameLayer a b → b.bus ≡ with_seats (rows_left i when a.bus.seats) a.bus →
    half_in b ≡ record { layer = layer_in a; seats = seats_left i when (map seat_row a.bus.seats) }
half_left i when a b l h = λ j. record { layer = same_layer a b l j; seats = (ap (λ (q : BusRow). map seat_row q.seats) h ∙ sym (left_rows i when a.bus.seats)) j }

pub left_kept : {T E : Type 0} (r : Result T E) (i : ℕ) (when : Option ℕ) (a b : Arranged) → IsKept a → IsSameLayer a b → OnOk r (b.bus ≡ with_seats (rows_left i when a.bus.seats) a.bus) → OnErr r (b.bus ≡ a.bus) →
    (IsWatched a → IsWatched b) → IsKept b
left_kept (Ok x) i when a b k l h n w = record { limits = l.limits ∙ k.limits; few = rw h (omega (arith, few_left i when a.bus.seats, k.few)); watched = w k.watched }
left_kept (Err y) i when a b k l h n w = record { limits = l.limits ∙ k.limits; few = rw n k.few; watched = w k.watched }

-- a script knows who is seated
pub who_is_seated : (i : ℕ) (a : Arranged) → list_any (is_seat_of i) (map seat_row a.bus.seats) ≡ has_seat i a.bus.seats
who_is_seated i a = seated_rows i a.bus.seats

-- a report: the seat of a name that a script knows is the seat of the bus
abbrev IsReportOfHalf : ℕ → List ℕ → Half → Type 0
IsReportOfHalf i bytes half = TellsNothing (seat_of i half.seats) ⊎ (bytes ≡ present_text half.layer.present)

told_or_not : (i : ℕ) (a : Arranged) (bytes : List ℕ) (o : Option SeatRow) → seat_of i (map seat_row a.bus.seats) ≡ option_map seat_row o → IsReportOf a o bytes → IsReportOfHalf i bytes (half_in a)
told_or_not i a bytes None e h = absurd h
told_or_not i a bytes (Some s) e h = elim (decide s.tells) [ inl t ↦ inr (h t) | inr f ↦ inl (subst TellsNothing (sym e) f) ]

-- ---- answers that tell whether an observer is seated
pub seat_told : {T E : Type 0} (r s : Result T E) (b : Bool) → (r ≡ s → ⊥) → ((r ≡ s) ↔ (b ≡ false)) → true ≡ b
seat_told r s true ne h = refl
seat_told r s false ne h = absurd (ne (h.1 refl))

-- a report, and what found no memory, aren't the answer that nobody is seated
pub ok_apart : {T : Type 0} (x : T) (e : ReportError) → Ok x ≡ Err e → ⊥
ok_apart x e is = cc

pub no_memory_apart : {T : Type 0} (e : ReportError) → e ≡ NoMemory → ◌≡◌ {A = Result T ReportError} (Err e) (Err NoSeat) → ⊥
no_memory_apart e is same = cc

pub told_by_seat : {T E : Type 0} (r s : Result T E) (b : Bool) → (r ≡ s → ⊥) → true ≡ b → (r ≡ s) ↔ (b ≡ false)
told_by_seat r s b ne h = (λ e. absurd (ne e), λ f. cc)

-- an observer leaves either layer, or tells its report: the one that lines mean, where it is seated there
module _ (i : ℕ) (a o : Arranged) (kept : AreKept a o) where
  abbrev half_by : Bool → Half
  half_by here = if here then half_in a else half_in o

  -- where it is seated in the layer that lines mean
  module _ (here : true ≡ has_seat i a.bus.seats) where
    is_here : is_seated_in i (half_in a).seats ≡ true
    is_here = who_is_seated i a ∙ sym here

    pub seated_here : true ≡ (is_seated_in i (half_in a).seats || is_seated_in i (half_in o).seats)
    seated_here = ap (λ b. b || is_seated_in i (half_in o).seats) (sym is_here)

    pub reported_here : (bytes : List ℕ) → IsReportOf a (row_of i a.bus.seats) bytes → IsReportOfHalf i bytes (half_by (is_seated_in i (half_in a).seats))
    reported_here bytes h = subst (λ b. IsReportOfHalf i bytes (half_by b)) (sym is_here) (told_or_not i a bytes (row_of i a.bus.seats) (seat_of_rows i a.bus.seats) h)

  -- where it isn't
  module _ (none : false ≡ has_seat i a.bus.seats) where
    not_here : is_seated_in i (half_in a).seats ≡ false
    not_here = who_is_seated i a ∙ sym none

    pub seated_there : (is_seated_in i (half_in a).seats || is_seated_in i (half_in o).seats) ≡ has_seat i o.bus.seats
    seated_there = ap (λ b. b || is_seated_in i (half_in o).seats) not_here ∙ who_is_seated i o

    reported_there : (bytes : List ℕ) → IsReportOf o (row_of i o.bus.seats) bytes → IsReportOfHalf i bytes (half_by (is_seated_in i (half_in a).seats))
    reported_there bytes h = subst (λ b. IsReportOfHalf i bytes (half_by b)) (sym not_here) (told_or_not i o bytes (row_of i o.bus.seats) (seat_of_rows i o.bus.seats) h)

    pub if_reported_there : {E Z : Type 0} (r : Result (Vec ℕ Z) E) → IfOk r (λ b. IsReportOf o (row_of i o.bus.seats) b.items) → IfOk r (λ b. IsReportOfHalf i b.items (half_by (is_seated_in i (half_in a).seats)))
    if_reported_there (Ok b) h = reported_there b.items h
    if_reported_there (Err y) h = tt

  module _ (how : Strategy) (blue : Bool) (ws : List (Option Waiting)) where
    abbrev before : World
    before = built a (half_in o) how blue ws

    -- the world after it left this layer or the other
    abbrev left_by : Option ℕ → Bool → World
    left_by when here =
        if here then record before { seats = seats_left i when before.seats }
        else record before { other = record { layer = before.other.layer; seats = seats_left i when before.other.seats } }

    pub left_here : true ≡ has_seat i a.bus.seats → (when : Option ℕ) (b : Arranged) → IsSameLayer a b → b.bus ≡ with_seats (rows_left i when a.bus.seats) a.bus → built b (half_in o) how blue ws ≡ leaving i when before
    left_here here when b l h =
        let left : half_in b ≡ record { layer = layer_in a; seats = seats_left i when before.seats } = half_left i when a b l h in
        (λ j. record { layer = (left j).layer; seats = (left j).seats; waiting = ws; other = half_in o; is_blue = blue; strategy = how }) ∙ ap (left_by when) (sym (is_here here))

    left_there : false ≡ has_seat i a.bus.seats → (when : Option ℕ) (b p : Arranged) → IsSameLayer a b → b.bus ≡ a.bus → IsSameLayer o p → p.bus ≡ with_seats (rows_left i when o.bus.seats) o.bus → built b (half_in p) how blue ws ≡ leaving i when before
    left_there none when b p l h m g =
        let stays : half_in b ≡ half_in a = same_half a b l h in
        let left : half_in p ≡ record { layer = layer_in o; seats = seats_left i when before.other.seats } = half_left i when o p m g in
        (λ j. record { layer = (stays j).layer; seats = (stays j).seats; waiting = ws; other = left j; is_blue = blue; strategy = how }) ∙ ap (left_by when) (sym (not_here none))

    pub if_left_there : {T E : Type 0} (r : Result T E) → false ≡ has_seat i a.bus.seats → (when : Option ℕ) (b p : Arranged) → IsSameLayer a b → b.bus ≡ a.bus → IsSameLayer o p → OnOk r (p.bus ≡ with_seats (rows_left i when o.bus.seats) o.bus) →
        OnOk r (built b (half_in p) how blue ws ≡ leaving i when before)
    if_left_there (Ok x) none when b p l h m g = left_there none when b p l h m g
    if_left_there (Err y) none when b p l h m g = tt

    -- where it isn't seated in either
    pub if_not_left : {T E : Type 0} (r : Result T E) (b p : Arranged) → IsSameLayer a b → b.bus ≡ a.bus → IsSameLayer o p → OnErr r (p.bus ≡ o.bus) → OnErr r (built b (half_in p) how blue ws ≡ before)
    if_not_left (Ok x) b p l h m g = tt
    if_not_left (Err y) b p l h m g =
        let stays : half_in b ≡ half_in a = same_half a b l h in
        λ j. record { layer = (stays j).layer; seats = (stays j).seats; waiting = ws; other = same_half o p m g j; is_blue = blue; strategy = how }

-- What comparisons by the exact order that begins with straight down have told.
use Rattle.std.proofs.Common.{◌≡◌, Bool, true, false, refl, sym, ap, ap₂, ◌∙◌, inl, inr, Ordering, Less, Equal, Greater}
use Rattle.std.specs.Prelude.{◌↔◌, cond, ◌==◌, pos}
use Rattle.std.specs.Ordering.{int_cmp, nat_cmp, is_eq, ordering_then}
use Rattle.std.proofs.lemmas.Bool.{cases_Bool, false≢true}
use Rattle.std.specs.Cmp.{nat_cmp_total, tied_itself}
use Rattle.std.proofs.lemmas.Cmp.{ranked}
use Rattle.integers.proofs.Classes.{then_equal}
use Rattle.exact_plane.specs.Direction.{Direction, IsOneDirection, turn, along, by_turn, turn_cmp, next_cmp, place, last_place, quarter as first_rank, last_quarter}
use Rattle.rotation_order.specs.Directions.{direction_before, straight_down}
use Rattle.rotation_order.proofs.LineDirections.{IsWay, neither}

-- ---- what a comparison by the exact order has told
pub told_one : (o : Ordering) (r : Bool) (a b : Direction) → (o ≡ Equal) ↔ IsOneDirection a b → r ≡ is_eq o → r ≡ true → IsOneDirection a b
told_one Less r a b f e h = absurd (false≢true (sym e ∙ h))
told_one Equal r a b f e h = f.0 refl
told_one Greater r a b f e h = absurd (false≢true (sym e ∙ h))

pub told_unequal : (o : Ordering) (r : Bool) → r ≡ is_eq o → r ≡ false → o ≡ Equal → ⊥
told_unequal o r e h k = false≢true (sym h ∙ e ∙ ap is_eq k)

-- ---- two that are not one direction stand apart
lower_rank : (o d : Ordering) → first_rank o d ≡ cond (last_quarter o d == 4) 0 (last_quarter o d)
lower_rank Less d = refl
lower_rank Greater d = refl
lower_rank Equal Less = refl
lower_rank Equal Equal = refl
lower_rank Equal Greater = refl

first_place : (f a : Direction) → place f a ≡ cond (last_place f a == 4) 0 (last_place f a)
first_place f a = lower_rank (int_cmp (turn f a) (pos 0)) (int_cmp (along f a) (pos 0))

level : (f a b : Direction) → next_cmp f a b ≡ Equal → turn_cmp f a b ≡ Equal
level f a b h =
    let t = then_equal (nat_cmp (last_place f a) (last_place f b)) (by_turn a b) h in
    let q : last_place f a ≡ last_place f b = ranked (last_place f a) (last_place f b) Equal (sym t.0) in
    let p : place f a ≡ place f b = first_place f a ∙ ap (λ n. cond (n == 4) 0 n) q ∙ sym (first_place f b) in
    ap₂ ordering_then (ap (λ n. nat_cmp n (place f b)) p ∙ tied_itself nat_cmp_total (place f b)) t.1

pub either_way : (a x : Direction) → IsWay a → IsWay x → (turn_cmp straight_down a x ≡ Equal → ⊥) → direction_before x a ≡ false → direction_before a x ≡ true
either_way a x A X differ h = elim (cases_Bool (direction_before a x)) [ inl y ↦ y | inr n ↦ absurd (differ (level straight_down a x (neither a x A X n h))) ]

-- What a place between two neighbours says of all darts out of the vertex, and that a direction has one place.
use Rattle.std.proofs.Common.{◌≡◌, ◌≢◌, true, false, refl, sym, ap, ap₂, ◌∙◌, subst, inl, inr}
use Rattle.std.proofs.lemmas.Bool.{cases_eq, cases_Bool, false≢true}
use Rattle.exact_plane.specs.Direction.{Direction, IsOneDirection}
use Rattle.slab_laws.specs.declared.names.DartId.{DartId}
use Rattle.slab_laws.specs.declared.names.VertexId.{VertexId}
use Rattle.slab_laws.specs.Sound.{IsGraphSound}
use Rattle.slab_laws.specs.View.{View, HasVertex, IsOutOf, dart_id}
use Rattle.rotation_order.specs.Directions.{direction_before}
use Rattle.rotation_order.specs.declared.places.Place.{Place}
use Rattle.rotation_order.specs.declared.places.Place.TheVariants.{Between, Along, Bare}
use Rattle.rotation_order.specs.Place.{direction_in, sooner_way, IsAlongDart, IsBetween, IsPlaceOf}
use Rattle.arr_notes.specs.AfterAround.{after_in}
use Rattle.rotation_order.proofs.Turning.{soon, apart_by, through_by, turned_by, same_by}
use Rattle.rotation_order.proofs.LineDirections.{IsWay, on, asym, itself, alike_left, alike_right}
use Rattle.rotation_order.proofs.Around.{some_way, after_out, first_after, one_dart}

module _ (v : View) (s : IsGraphSound v) (w : VertexId) (known : HasVertex v w) where
  way : (d : DartId) → IsOutOf v w d → IsWay (direction_in v d)
  way d o = some_way v s d o.0

  -- the dart after, by another name
  first_of : (a b c : DartId) → b ≡ after_in v a → IsOutOf v w a → IsOutOf v w c → c ≢ b → sooner_way (direction_in v a) (direction_in v b) (direction_in v c) ≡ true
  first_of a b c q oa oc ne = subst (λ e. sooner_way (direction_in v a) (direction_in v e) (direction_in v c) ≡ true) (sym q) (first_after v s w known a c oa oc (λ e. ne (e ∙ sym q)))

  next_out : (a b : DartId) → b ≡ after_in v a → IsOutOf v w a → IsOutOf v w b
  next_out a b q oa = subst (IsOutOf v w) (sym q) (after_out v s w known a oa)

  -- of two darts that aren't one, one comes before the other
  either_before : (c d : DartId) → IsOutOf v w c → IsOutOf v w d → c ≢ d → direction_before (direction_in v c) (direction_in v d) ≡ false → direction_before (direction_in v d) (direction_in v c) ≡ true
  either_before c d oc od ne h = elim (cases_Bool (direction_before (direction_in v d) (direction_in v c))) [ inl y ↦ y | inr n ↦ absurd (ne (one_dart v s w known c d oc od h n)) ]

  module _ (x : Direction) where
    -- a direction that is met before the next dart is no dart's
    pub none_along : (a b : DartId) → IsOutOf v w a → b ≡ after_in v a → sooner_way (direction_in v a) x (direction_in v b) ≡ true → (d : DartId) → IsOutOf v w d → IsOneDirection (direction_in v d) x → ⊥
    none_along a b oa q h d od k = elim (cases_eq d.0 b.0) [ inl e ↦ at_next (ap dart_id e) | inr ne ↦ elsewhere (λ e. ne (ap (λ u. u.0) e)) ]
      where
        ob : IsOutOf v w b
        ob = next_out a b q oa

        there : sooner_way (direction_in v a) (direction_in v d) (direction_in v b) ≡ true
        there = (λ i. soon (alike_right (direction_in v d) x (direction_in v a) k (way a oa) i) (direction_before (direction_in v a) (direction_in v b)) (alike_left (direction_in v d) x (direction_in v b) k (way b ob) i)) ∙ h

        at_next : d ≡ b → ⊥
        at_next e = false≢true (sym (same_by (direction_before (direction_in v a) (direction_in v b)) (direction_before (direction_in v b) (direction_in v b)) (itself (direction_in v b))) ∙ subst (λ n. sooner_way (direction_in v a) (direction_in v n) (direction_in v b) ≡ true) e there)

        elsewhere : d ≢ b → ⊥
        elsewhere ne =
            apart_by (direction_before (direction_in v a) (direction_in v d)) (direction_before (direction_in v a) (direction_in v b)) (direction_before (direction_in v d) (direction_in v b)) (direction_before (direction_in v b) (direction_in v d))
            (asym (direction_in v d) (direction_in v b)) there (first_of a b d q oa od ne)

    -- it is met before every other dart too
    pub spread : (a b c : DartId) → IsBetween v w x a b → IsOutOf v w c → c ≢ b → sooner_way (direction_in v a) x (direction_in v c) ≡ true
    spread a b c h oc ne =
        let ob = next_out a b h.neighbours h.out in
        through_by (direction_before (direction_in v a) x) (direction_before (direction_in v a) (direction_in v b)) (direction_before (direction_in v a) (direction_in v c)) (direction_before x (direction_in v b)) (direction_before (direction_in v b) (direction_in v c)) (direction_before x (direction_in v c))
        (on x (direction_in v b) (direction_in v c) (way b ob) (way c oc)) h.met (first_of a b c h.neighbours h.out oc ne)

    every : (a b c : DartId) → IsBetween v w x a b → IsOutOf v w c → sooner_way (direction_in v a) x (direction_in v c) ≡ true
    every a b c h oc = elim (cases_eq c.0 b.0) [
      | inl e ↦ subst (λ n. sooner_way (direction_in v a) x (direction_in v n) ≡ true) (sym (ap dart_id e)) h.met
      | inr ne ↦ spread a b c h oc (λ e. ne (ap (λ u. u.0) e))
    ]

    -- clockwise from the direction, another dart is met before the one that the direction follows
    back_to : (a b c : DartId) → IsBetween v w x a b → IsOutOf v w c → c ≢ a → sooner_way x (direction_in v c) (direction_in v a) ≡ true
    back_to a b c h oc ne =
        turned_by (direction_before (direction_in v a) x) (direction_before x (direction_in v a)) (direction_before (direction_in v a) (direction_in v c)) (direction_before (direction_in v c) (direction_in v a)) (direction_before x (direction_in v c))
        (asym (direction_in v a) x) (either_before a c h.out oc (λ e. ne (sym e))) (every a b c h oc)

    one_neighbour : (a b c d : DartId) → IsBetween v w x a b → IsBetween v w x c d → a ≡ c
    one_neighbour a b c d h k =
        elim (cases_eq a.0 c.0) [
          | inl e ↦ ap dart_id e
          | inr ne ↦ absurd (apart_by (direction_before x (direction_in v c)) (direction_before x (direction_in v a)) (direction_before (direction_in v c) (direction_in v a)) (direction_before (direction_in v a) (direction_in v c))
              (asym (direction_in v c) (direction_in v a)) (back_to a b c h k.out (λ e. ne (sym (ap (λ u. u.0) e)))) (back_to c d a k h.out (λ e. ne (ap (λ u. u.0) e))))
        ]

    one_along : (d e : DartId) → IsAlongDart v w x d → IsAlongDart v w x e → d ≡ e
    one_along d e h k = one_dart v s w known d e h.out k.out (level d e h k) (level e d k h)
      where
        level : (d e : DartId) → IsAlongDart v w x d → IsAlongDart v w x e → direction_before (direction_in v d) (direction_in v e) ≡ false
        level d e h k =
            alike_left (direction_in v d) x (direction_in v e) h.way (way e k.out)
            ∙ sym (alike_left (direction_in v e) x (direction_in v e) k.way (way e k.out))
            ∙ itself (direction_in v e)

    pub one : (p q : Place) → IsPlaceOf v w x p → IsPlaceOf v w x q → p ≡ q
    one Bare Bare h k = refl
    one Bare (Along e) h k = absurd (h e k.out)
    one Bare (Between c d) h k = absurd (h c k.out)
    one (Along e) Bare h k = absurd (k e h.out)
    one (Along d) (Along e) h k = ap Along (one_along d e h k)
    one (Along e) (Between c d) h k = absurd (k.free e h.out h.way)
    one (Between a b) Bare h k = absurd (k a h.out)
    one (Between a b) (Along e) h k = absurd (h.free e k.out k.way)
    one (Between a b) (Between c d) h k = let e = one_neighbour a b c d h k in ap₂ Between e (h.neighbours ∙ ap (after_in v) e ∙ sym k.neighbours)

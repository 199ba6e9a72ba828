-- The clockwise order of darts by the directions of their lines; two lines gone one way from one point.
use Rattle.std.proofs.Common.{◌≡◌, ℕ, zero, suc, ◌<◌, Bool, true, false, arith, refl, sym, ap, subst, ◌∙◌, inl, inr, ◌⊎◌, eq-eqb}
use Rattle.std.specs.Prelude.{pos, ◌-ℤ◌, ◌*ℤ◌, ◌==◌}
use Rattle.std.proofs.lemmas.Bool.{and_parts, and_from, or_left, or_right, or_cases, false≢true, lt-ltb, ltb-true, eqb-true}
use lib.Dec.{ltb}
use lib.Signed.{lt_z}
use Rattle.exact_plane.specs.Plane.{RunsForward}
use Rattle.exact_plane.specs.Point.{Point}
use Rattle.exact_plane.specs.Line.{Line, IsOn}
use Rattle.exact_plane.specs.Direction.{Direction, IsOneDirection, turn as cross}
use Rattle.exact_plane.proofs.Crossings.{parallel_share, same_line}
use Rattle.plane_graphs.specs.Line.{IsProperLine}
use Rattle.plane_graphs.proofs.Lists.{both_ways}
use Rattle.slab_laws.specs.Skeleton.{HasWeight, left_of, run, side, steep, below}
use Rattle.slab_laws.specs.Darts.{Dart, start, source, kind, by_class, on_left, on_right}
use Rattle.slab_laws.specs.Rotation.{turn, earlier}
use Rattle.slab_faces.proofs.Walls.{run_positive}
use Rattle.slab_faces.proofs.Next.{kind_zero, kind_two, kind_few}
use Rattle.slab_faces.proofs.RotationLemmas.{Early, earlier_in, earlier_out}
use Rattle.rotation_order.specs.Directions.{quarter, direction_before, dart_direction, IsAlong}
use Rattle.rotation_order.proofs.Fans.{edge_from, from_low, from_high}
use Rattle.rotation_order.proofs.Quarters.{one_quarter, no_width, no_turn}
use Rattle.rotation_order.proofs.EdgeCourses.{way_right, way_up, across, quarter_is, line_slants, turn_of_ways, turned_sign, low_product, high_product}

-- ---- two darts from one point
module _ (d c : Dart) (l m : Line) (D : IsAlong d l) (C : IsAlong c m) (s : source d ≡ source c) where
  abbrev first_way : Direction
  first_way = dart_direction l d.forward

  abbrev other_way : Direction
  other_way = dart_direction m c.forward

  -- both gone forward, or both backward
  same_ways : (f : Bool) → d.forward ≡ f → c.forward ≡ f → lt_z (l.a *ℤ m.b -ℤ m.a *ℤ l.b) (pos 0) ≡ lt_z (cross first_way other_way) (pos 0)
  same_ways f p q = (λ i. lt_z (sym (turn_of_ways l m f) i) (pos 0)) ∙ (λ i. lt_z (cross (dart_direction l (sym p i)) (dart_direction m (sym q i))) (pos 0))

  module _ (z : turn d ≡ 2) (y : turn c ≡ 2) where
    d_right : (left_of d.edge.low d.edge.high ≡ true) × (d.forward ≡ true)
    d_right = kind_two (left_of d.edge.low d.edge.high) d.forward z

    c_right : (left_of c.edge.low c.edge.high ≡ true) × (c.forward ≡ true)
    c_right = kind_two (left_of c.edge.low c.edge.high) c.forward y

    one_low : d.edge.low ≡ c.edge.low
    one_low = sym (ap (start d.edge) d_right.1) ∙ s ∙ ap (start c.edge) c_right.1

    right_product : d.edge.low.w *ℤ side d.edge c.edge.high ≡ steep d.edge *ℤ run c.edge -ℤ run d.edge *ℤ steep c.edge
    right_product =
        subst (λ p. d.edge.low.w *ℤ side d.edge c.edge.high ≡ steep d.edge *ℤ run (edge_from p c.edge.high) -ℤ run d.edge *ℤ steep (edge_from p c.edge.high)) one_low (low_product d.edge.low d.edge.high c.edge.high)

    right_sign : below c.edge d.edge ≡ lt_z (cross first_way other_way) (pos 0)
    right_sign =
        from_low d.edge c.edge d_right.0 c_right.0 one_low
        ∙ sym (turned_sign l.a l.b (steep d.edge) (run d.edge) m.a m.b (steep c.edge) (run c.edge) (across d l D) (across c m C) d.edge.low.w (side d.edge c.edge.high)
        (line_slants d l D d_right.0) (line_slants c m C c_right.0) (run_positive d.edge d_right.0) (run_positive c.edge c_right.0) D.edge.low_weight right_product)
        ∙ same_ways true d_right.1 c_right.1

  module _ (z : turn d ≡ 0) (y : turn c ≡ 0) where
    d_left : (left_of d.edge.low d.edge.high ≡ true) × (d.forward ≡ false)
    d_left = kind_zero (left_of d.edge.low d.edge.high) d.forward z

    c_left : (left_of c.edge.low c.edge.high ≡ true) × (c.forward ≡ false)
    c_left = kind_zero (left_of c.edge.low c.edge.high) c.forward y

    one_high : d.edge.high ≡ c.edge.high
    one_high = sym (ap (start d.edge) d_left.1) ∙ s ∙ ap (start c.edge) c_left.1

    left_product : d.edge.high.w *ℤ side c.edge d.edge.low ≡ steep d.edge *ℤ run c.edge -ℤ run d.edge *ℤ steep c.edge
    left_product =
        subst (λ q. d.edge.high.w *ℤ side (edge_from c.edge.low q) d.edge.low ≡ steep d.edge *ℤ run (edge_from c.edge.low q) -ℤ run d.edge *ℤ steep (edge_from c.edge.low q)) one_high (high_product d.edge.high d.edge.low c.edge.low)

    left_sign : below d.edge c.edge ≡ lt_z (cross first_way other_way) (pos 0)
    left_sign =
        from_high c.edge d.edge c_left.0 d_left.0 (sym one_high)
        ∙ sym (turned_sign l.a l.b (steep d.edge) (run d.edge) m.a m.b (steep c.edge) (run c.edge) (across d l D) (across c m C) d.edge.high.w (side c.edge d.edge.low)
        (line_slants d l D d_left.0) (line_slants c m C c_left.0) (run_positive d.edge d_left.0) (run_positive c.edge c_left.0) D.edge.high_weight left_product)
        ∙ same_ways false d_left.1 c_left.1

  first_is : turn d ≡ quarter first_way
  first_is = sym (quarter_is d l D)

  other_is : turn c ≡ quarter other_way
  other_is = sym (quarter_is c m C)

  same_quarter : turn d ≡ turn c → lt_z (cross first_way other_way) (pos 0) ≡ true → direction_before first_way other_way ≡ true
  same_quarter e h =
      or_right (ltb (quarter first_way) (quarter other_way)) _ (and_from (quarter first_way == quarter other_way) (lt_z (cross first_way other_way) (pos 0)) (eq-eqb _ _ (sym first_is ∙ e ∙ other_is)) h)

  there : Early d c → direction_before first_way other_way ≡ true
  there (by_class k) = or_left (ltb (quarter first_way) (quarter other_way)) _ (lt-ltb (quarter first_way) (quarter other_way) (subst (λ (n : ℕ). n < quarter other_way) first_is (subst (λ (n : ℕ). turn d < n) other_is k)))
  there (on_left z y b) = same_quarter (z ∙ sym y) (sym (left_sign z y) ∙ b)
  there (on_right z y b) = same_quarter (z ∙ sym y) (sym (right_sign z y) ∙ b)

  no_flat : quarter first_way ≡ quarter other_way → lt_z (cross first_way other_way) (pos 0) ≡ true → (quarter first_way ≡ 1) ⊎ (quarter first_way ≡ 3) → (quarter other_way ≡ 1) ⊎ (quarter other_way ≡ 3) → ⊥
  no_flat e h p q = false≢true (sym (ap (λ t. lt_z t (pos 0)) (no_turn first_way other_way (no_width first_way p) (no_width other_way q))) ∙ h)

  back_by : (n : ℕ) → turn d ≡ n → turn c ≡ n → lt_z (cross first_way other_way) (pos 0) ≡ true → Early d c
  back_by zero z y h = on_left z y (left_sign z y ∙ h)
  back_by (suc zero) z y h = absurd (no_flat (sym first_is ∙ z ∙ sym y ∙ other_is) h (inl (sym first_is ∙ z)) (inl (sym other_is ∙ y)))
  back_by (suc (suc zero)) z y h = on_right z y (right_sign z y ∙ h)
  back_by (suc (suc (suc zero))) z y h = absurd (no_flat (sym first_is ∙ z ∙ sym y ∙ other_is) h (inr (sym first_is ∙ z)) (inr (sym other_is ∙ y)))
  back_by (suc (suc (suc (suc n)))) z y h = let f = kind_few (left_of d.edge.low d.edge.high) d.forward in absurd (omega arith)

  back : direction_before first_way other_way ≡ true → Early d c
  back h =
      elim (or_cases (ltb (quarter first_way) (quarter other_way)) _ h) [
        | inl k ↦ by_class (subst (λ (n : ℕ). n < turn c) (sym first_is) (subst (λ (n : ℕ). quarter first_way < n) (sym other_is) (ltb-true (quarter first_way) (quarter other_way) k)))
        | inr k ↦
            let p = and_parts (quarter first_way == quarter other_way) (lt_z (cross first_way other_way) (pos 0)) k in
            let e : quarter first_way ≡ quarter other_way = eqb-true _ _ p.0 in
            back_by (turn d) refl (other_is ∙ sym e ∙ sym first_is) p.1
      ]

  pub by_directions : earlier d c ≡ direction_before first_way other_way
  by_directions = both_ways (earlier d c) (direction_before first_way other_way) (λ h. there (earlier_out d c h)) (λ h. earlier_in d c (back h))

-- ---- two lines gone one way
kind_ways : (s f t g : Bool) → kind s f ≡ kind t g → f ≡ g
kind_ways s true t true e = refl
kind_ways s false t false e = refl
kind_ways true true true false e = absurd (omega arith)
kind_ways true true false false e = absurd (omega arith)
kind_ways false true true false e = absurd (omega arith)
kind_ways false true false false e = absurd (omega arith)
kind_ways true false true true e = absurd (omega arith)
kind_ways true false false true e = absurd (omega arith)
kind_ways false false true true e = absurd (omega arith)
kind_ways false false false true e = absurd (omega arith)

line_kind : (l : Line) (f : Bool) → RunsForward l.a l.b → (s : Bool) × (quarter (dart_direction l f) ≡ kind s f)
line_kind l f (inl h) = (true, way_right l f h)
line_kind l f (inr h) = (false, way_up l f h.0 h.1)

module _ (l m : Line) (f g : Bool) (p : Point) (L : IsProperLine l) (M : IsProperLine m) (P : HasWeight p) (x : IsOn l p) (y : IsOn m p) (o : IsOneDirection (dart_direction l f) (dart_direction m g)) where
  one_forward : f ≡ g
  one_forward =
      let u = line_kind l f L.runs in
      let v = line_kind m g M.runs in
      kind_ways u.0 f v.0 g (sym u.1 ∙ one_quarter (dart_direction l f) (dart_direction m g) o ∙ v.1)

  parallel : l.a *ℤ m.b -ℤ m.a *ℤ l.b ≡ pos 0
  parallel = sym (turn_of_ways l m g) ∙ (λ i. cross (dart_direction l (sym one_forward i)) (dart_direction m g)) ∙ o.straight

  one_line : l ≡ m
  one_line =
      let k = parallel_share l.a l.b l.c m.a m.b m.c p.x p.y p.w P parallel x y in
      let s = same_line l.a l.b l.c m.a m.b m.c L.lowest M.lowest L.runs M.runs parallel k.0 k.1 in
      λ i. record { a = s.0 i; b = s.1 i; c = s.2 i }

  pub one_way : (l ≡ m) × (f ≡ g)
  one_way = (one_line, one_forward)

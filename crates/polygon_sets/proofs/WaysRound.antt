-- Darts out of one point are met in the order of the ways to their targets.
use Rattle.std.proofs.Common.{◌≡◌, ℕ, zero, suc, ◌<◌, Bool, true, false, not, arith, refl, sym, ap, subst, ◌∙◌, inl, inr, ◌⊎◌, [], ◌∷◌, eq-eqb}
use Rattle.std.specs.Prelude.{ℤ, pos, ◌-ℤ◌, ◌*ℤ◌, ◌<ℤ◌, ◌==◌, neg_ℤ}
use Rattle.std.proofs.lemmas.Bool.{and_parts, and_from, or_left, or_right, or_cases, false≢true, lt-ltb, ltb-true, eqb-true}
use Rattle.std.proofs.lemmas.Int.{ints}
use lib.Dec.{ltb}
use lib.Signed.{lt_z}
use Rattle.integers.proofs.Reify.{ring, sides}
use Rattle.exact_plane.specs.Point.{Point}
use Rattle.exact_plane.specs.Line.{Line}
use Rattle.exact_plane.specs.Direction.{Direction, turn as cross}
use Rattle.plane_graphs.specs.Graph.{Edge}
use Rattle.plane_graphs.proofs.Lists.{both_ways}
use Rattle.slab_laws.specs.Skeleton.{left_of, run, side, steep, shift, below}
use Rattle.slab_laws.specs.Darts.{Dart, start, source, target, kind, by_class, on_left, on_right}
use Rattle.slab_laws.specs.Rotation.{turn, earlier}
use Rattle.slab_faces.proofs.Ints.{same_sign}
use Rattle.slab_faces.proofs.Walls.{run_positive}
use Rattle.slab_faces.proofs.Next.{kind_zero, kind_two, kind_few}
use Rattle.slab_faces.proofs.RotationLemmas.{Early, earlier_in, earlier_out}
use Rattle.rotation_order.specs.Directions.{quarter, direction_before, dart_direction}
use Rattle.rotation_order.specs.EdgeParts.{IsForwardEdge}
use Rattle.rotation_order.proofs.EdgeCourses.{way_right, way_up, turn_of_ways, low_product, high_product, run_zero, steep_falls, level}
use Rattle.rotation_order.proofs.Fans.{edge_from, from_low, from_high}
use Rattle.rotation_order.proofs.Quarters.{no_width, no_turn}
use Rattle.polygon_sets.specs.ClosedBorders.{way, way_before}

-- ---- the way along a dart is that of its edge's line
course : Edge → Line
course e = record { a = steep e; b = run e; c = shift e }

turned_back : (s t : ℤ) → s -ℤ t ≡ neg_ℤ (t -ℤ s)
turned_back s t = omega (arith, ints)

twice_back : (s t : ℤ) → s -ℤ t ≡ neg_ℤ (neg_ℤ (s -ℤ t))
twice_back s t = omega (arith, ints)

along_course : (e : Edge) (f : Bool) → way (start e f) (start e (not f)) ≡ dart_direction (course e) f
unfolding course steep run
along_course e true = λ i. record { x = e.high.x *ℤ e.low.w -ℤ e.low.x *ℤ e.high.w; y = turned_back (e.high.y *ℤ e.low.w) (e.low.y *ℤ e.high.w) i }
along_course e false = λ i. record { x = turned_back (e.low.x *ℤ e.high.w) (e.high.x *ℤ e.low.w) i; y = twice_back (e.low.y *ℤ e.high.w) (e.high.y *ℤ e.low.w) i }

way_along : Dart → Direction
way_along d = way (source d) (target d)

-- ---- its quarter
quarter_by_way : (e : Edge) (f b : Bool) → IsForwardEdge e → left_of e.low e.high ≡ b → quarter (dart_direction (course e) f) ≡ kind b f
unfolding course
quarter_by_way e f true E h = way_right (course e) f (run_positive e h)
quarter_by_way e f false E h = way_up (course e) f (run_zero e h E.forward) (steep_falls e (E.upright (level e.low e.high h E.forward)))

quarter_is : (d : Dart) → IsForwardEdge d.edge → quarter (way_along d) ≡ turn d
unfolding way_along
quarter_is d D = ap quarter (along_course d.edge d.forward) ∙ quarter_by_way d.edge d.forward (left_of d.edge.low d.edge.high) D refl

-- ---- the turn between two darts gone one way
cross_is : (d c : Dart) (f : Bool) → d.forward ≡ f → c.forward ≡ f → cross (way_along d) (way_along c) ≡ steep d.edge *ℤ run c.edge -ℤ steep c.edge *ℤ run d.edge
unfolding way_along course
cross_is d c f p q =
    (λ i. cross (along_course d.edge d.forward i) (along_course c.edge c.forward i))
    ∙ (λ i. cross (dart_direction (course d.edge) (p i)) (dart_direction (course c.edge) (q i)))
    ∙ turn_of_ways (course d.edge) (course c.edge) f

same_product : (w s a b c d : ℤ) → w *ℤ s ≡ a *ℤ d -ℤ b *ℤ c → pos 1 *ℤ (a *ℤ d -ℤ c *ℤ b) ≡ w *ℤ s
same_product w s a b c d e = ring (a ∷ b ∷ c ∷ d ∷ []) (search sides depth 40 fits 20000) tt ∙ sym e

some_one : pos 0 <ℤ pos 1
some_one = omega (arith, ints)

module _ (d c : Dart) (D : IsForwardEdge d.edge) (C : IsForwardEdge c.edge) (s : source d ≡ source c) where
  abbrev first_way : Direction
  first_way = way_along d

  abbrev other_way : Direction
  other_way = way_along c

  module _ (z : turn d ≡ 2) (y : turn c ≡ 2) where
    d_right : (left_of d.edge.low d.edge.high ≡ true) × (d.forward ≡ true)
    d_right = kind_two (left_of d.edge.low d.edge.high) d.forward z

    c_right : (left_of c.edge.low c.edge.high ≡ true) × (c.forward ≡ true)
    c_right = kind_two (left_of c.edge.low c.edge.high) c.forward y

    one_low : d.edge.low ≡ c.edge.low
    one_low = sym (ap (start d.edge) d_right.1) ∙ s ∙ ap (start c.edge) c_right.1

    right_product : d.edge.low.w *ℤ side d.edge c.edge.high ≡ steep d.edge *ℤ run c.edge -ℤ run d.edge *ℤ steep c.edge
    right_product =
        subst (λ p. d.edge.low.w *ℤ side d.edge c.edge.high ≡ steep d.edge *ℤ run (edge_from p c.edge.high) -ℤ run d.edge *ℤ steep (edge_from p c.edge.high)) one_low (low_product d.edge.low d.edge.high c.edge.high)

    right_sign : below c.edge d.edge ≡ lt_z (cross first_way other_way) (pos 0)
    right_sign =
        from_low d.edge c.edge d_right.0 c_right.0 one_low
        ∙ sym (same_sign (pos 1) (steep d.edge *ℤ run c.edge -ℤ steep c.edge *ℤ run d.edge) d.edge.low.w (side d.edge c.edge.high) some_one D.low_weight (same_product d.edge.low.w (side d.edge c.edge.high) (steep d.edge) (run d.edge) (steep c.edge) (run c.edge) right_product))
        ∙ ap (λ t. lt_z t (pos 0)) (sym (cross_is d c true d_right.1 c_right.1))

  module _ (z : turn d ≡ 0) (y : turn c ≡ 0) where
    d_left : (left_of d.edge.low d.edge.high ≡ true) × (d.forward ≡ false)
    d_left = kind_zero (left_of d.edge.low d.edge.high) d.forward z

    c_left : (left_of c.edge.low c.edge.high ≡ true) × (c.forward ≡ false)
    c_left = kind_zero (left_of c.edge.low c.edge.high) c.forward y

    one_high : d.edge.high ≡ c.edge.high
    one_high = sym (ap (start d.edge) d_left.1) ∙ s ∙ ap (start c.edge) c_left.1

    left_product : d.edge.high.w *ℤ side c.edge d.edge.low ≡ steep d.edge *ℤ run c.edge -ℤ run d.edge *ℤ steep c.edge
    left_product =
        subst (λ q. d.edge.high.w *ℤ side (edge_from c.edge.low q) d.edge.low ≡ steep d.edge *ℤ run (edge_from c.edge.low q) -ℤ run d.edge *ℤ steep (edge_from c.edge.low q)) one_high (high_product d.edge.high d.edge.low c.edge.low)

    left_sign : below d.edge c.edge ≡ lt_z (cross first_way other_way) (pos 0)
    left_sign =
        from_high c.edge d.edge c_left.0 d_left.0 (sym one_high)
        ∙ sym (same_sign (pos 1) (steep d.edge *ℤ run c.edge -ℤ steep c.edge *ℤ run d.edge) d.edge.high.w (side c.edge d.edge.low) some_one D.high_weight (same_product d.edge.high.w (side c.edge d.edge.low) (steep d.edge) (run d.edge) (steep c.edge) (run c.edge) left_product))
        ∙ ap (λ t. lt_z t (pos 0)) (sym (cross_is d c false d_left.1 c_left.1))

  first_is : turn d ≡ quarter first_way
  first_is = sym (quarter_is d D)

  other_is : turn c ≡ quarter other_way
  other_is = sym (quarter_is c C)

  same_quarter : turn d ≡ turn c → lt_z (cross first_way other_way) (pos 0) ≡ true → direction_before first_way other_way ≡ true
  same_quarter e h =
      or_right (ltb (quarter first_way) (quarter other_way)) _ (and_from (quarter first_way == quarter other_way) (lt_z (cross first_way other_way) (pos 0)) (eq-eqb _ _ (sym first_is ∙ e ∙ other_is)) h)

  there : Early d c → direction_before first_way other_way ≡ true
  there (by_class k) = or_left (ltb (quarter first_way) (quarter other_way)) _ (lt-ltb (quarter first_way) (quarter other_way) (subst (λ (n : ℕ). n < quarter other_way) first_is (subst (λ (n : ℕ). turn d < n) other_is k)))
  there (on_left z y b) = same_quarter (z ∙ sym y) (sym (left_sign z y) ∙ b)
  there (on_right z y b) = same_quarter (z ∙ sym y) (sym (right_sign z y) ∙ b)

  no_flat : quarter first_way ≡ quarter other_way → lt_z (cross first_way other_way) (pos 0) ≡ true → (quarter first_way ≡ 1) ⊎ (quarter first_way ≡ 3) → (quarter other_way ≡ 1) ⊎ (quarter other_way ≡ 3) → ⊥
  no_flat e h p q = false≢true (sym (ap (λ t. lt_z t (pos 0)) (no_turn first_way other_way (no_width first_way p) (no_width other_way q))) ∙ h)

  back_by : (n : ℕ) → turn d ≡ n → turn c ≡ n → lt_z (cross first_way other_way) (pos 0) ≡ true → Early d c
  back_by zero z y h = on_left z y (left_sign z y ∙ h)
  back_by (suc zero) z y h = absurd (no_flat (sym first_is ∙ z ∙ sym y ∙ other_is) h (inl (sym first_is ∙ z)) (inl (sym other_is ∙ y)))
  back_by (suc (suc zero)) z y h = on_right z y (right_sign z y ∙ h)
  back_by (suc (suc (suc zero))) z y h = absurd (no_flat (sym first_is ∙ z ∙ sym y ∙ other_is) h (inr (sym first_is ∙ z)) (inr (sym other_is ∙ y)))
  back_by (suc (suc (suc (suc n)))) z y h = let f = kind_few (left_of d.edge.low d.edge.high) d.forward in absurd (omega arith)

  back : direction_before first_way other_way ≡ true → Early d c
  back h =
      elim (or_cases (ltb (quarter first_way) (quarter other_way)) _ h) [
        | inl k ↦ by_class (subst (λ (n : ℕ). n < turn c) (sym first_is) (subst (λ (n : ℕ). quarter first_way < n) (sym other_is) (ltb-true (quarter first_way) (quarter other_way) k)))
        | inr k ↦
            let p = and_parts (quarter first_way == quarter other_way) (lt_z (cross first_way other_way) (pos 0)) k in
            let e : quarter first_way ≡ quarter other_way = eqb-true _ _ p.0 in
            back_by (turn d) refl (other_is ∙ sym e ∙ sym first_is) p.1
      ]

  by_ways : earlier d c ≡ direction_before first_way other_way
  by_ways = both_ways (earlier d c) (direction_before first_way other_way) (λ h. there (earlier_out d c h)) (λ h. earlier_in d c (back h))

-- one comes before another as the way to its target does
pub way_order : (d c : Dart) → IsForwardEdge d.edge → IsForwardEdge c.edge → (v : Point) → source d ≡ v → source c ≡ v → earlier d c ≡ way_before v (target d) (target c)
unfolding way_along
way_order d c D C v p q = by_ways d c D C (p ∙ sym q) ∙ (λ i. direction_before (way (p i) (target d)) (way (q i) (target c)))

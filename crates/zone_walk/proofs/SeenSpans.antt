-- The edge of a dart as a span: its ends, the side of a point, and what rules out that a segment meets it.
use Rattle.std.proofs.Common.{◌≡◌, Option, Some, Bool, true, false, cond, ◌&&◌, ◌||◌, ℤ, pos, neg_ℤ, ◌<ℤ◌, refl, sym, ap, ◌∙◌, ◌⊎◌, subst, inl, inr, arith, Ordering, Less, Equal, Greater}
use Rattle.std.specs.Prelude.{if◌then◌else◌}
use Rattle.std.specs.Ordering.{int_cmp}
use Rattle.std.proofs.lemmas.Int.{ints}
use Rattle.integers.proofs.Decisions.{or_out}
use Rattle.integers.proofs.Compare.{less_out, less_in, equal_out, equal_in, greater_out, greater_in}
use Rattle.integers.proofs.Tests.{lt_is}
use Rattle.exact_plane.specs.Line.{Line, side_of, IsOn, IsLine}
use Rattle.exact_plane.specs.Meet.{AreApart}
use Rattle.exact_plane.specs.Point.{Point, IsPoint}
use Rattle.exact_plane.specs.PointOrder.{point_cmp}
use Rattle.exact_plane.specs.PointOrderLaws.{and_true}
use Rattle.exact_plane.specs.Sign.{sign_by, sign_of}
use Rattle.exact_plane.specs.Span.{Span, IsAtMost, AreOnWay, LiesOn, IsSpan}
use Rattle.exact_plane.specs.declared.sides.Sign.{Sign}
use Rattle.exact_plane.proofs.Orders.{at_most_both, less_at_most}
use Rattle.plane_graphs.specs.Graph.{Edge}
use Rattle.plane_graphs.specs.Line.{precedes}
use Rattle.plane_graphs.proofs.Lines.{point_is_proper}
use Rattle.plane_graphs.proofs.Marks.{Le, le_cases}
use Rattle.plane_graphs.proofs.Order.{Lt, lt_out, lt_never}
use Rattle.edge_predicates.proofs.Sides.{sign_same}
use Rattle.slab_laws.specs.declared.names.DartId.{DartId}
use Rattle.slab_laws.specs.Skeleton.{side}
use Rattle.slab_laws.specs.Sound.{edge_in, dart_in, IsGraphSound}
use Rattle.slab_laws.specs.View.{View, HasDart, point_in, source_in, twin_in, target_in, line_in}
use Rattle.sound_views.proofs.ForwardDarts.{is_behind}
use Rattle.zone_walk.specs.Found.{is_left, is_right}
use Rattle.zone_walk.specs.Sights.{span_in, side_from, other_side}
use Rattle.zone_walk.proofs.InPlane.{falls, rises}

-- ---- orders
pub at_most_out : (p q : Point) → IsAtMost p q → Le p q
at_most_out p q h = record { never = λ l. lt_never (subst (λ (x : Point). Lt q x) (at_most_both p q h (less_at_most q p l.is)) l) }

-- ---- the edge as a span
module _ (v : View) (s : IsGraphSound v) (d : DartId) (has : HasDart v d) where
  abbrev from : Point
  from = point_in v (source_in v d)

  abbrev to : Point
  to = point_in v (target_in v d)

  pub edge_ahead : (dart_in v d).forward ≡ true → edge_in v d ≡ record { low = from; high = to }
  edge_ahead f = ap (λ (b : Bool). if b then record { low = from; high = to } else record { low = to; high = from }) f

  pub edge_back : (dart_in v d).forward ≡ false → edge_in v d ≡ record { low = to; high = from }
  edge_back f = ap (λ (b : Bool). if b then record { low = from; high = to } else record { low = to; high = from }) f

  pub runs_back : (dart_in v d).forward ≡ false → Lt to from
  runs_back f =
      let k = is_behind v s d has f (twin_in v d) refl in
      lt_out to from (subst (λ (e : DartId). precedes to (point_in v (source_in v e)) ≡ true) (s.twinned.back d has) k.forward.1)

  span_of_ends : (low high : Point) → edge_in v d ≡ record { low = low; high = high } → IsPoint low → IsPoint high → IsLine (line_in v d) → Lt low high → IsOn (line_in v d) low → IsOn (line_in v d) high → IsSpan (span_in v d)
  span_of_ends low high e L H l k on_low on_high =
      subst (λ (z : Edge). IsSpan (record { lower = z.low; upper = z.high; line = line_in v d })) (sym e)
      (record { lower = L; upper = H; line = l; way = record { ascending = k.is; lower_on = on_low; upper_on = on_high } })

  span_by : (b : Bool) → (dart_in v d).forward ≡ b → IsPoint from → IsPoint to → IsLine (line_in v d) → IsSpan (span_in v d)
  span_by true f P Q l = span_of_ends from to (edge_ahead f) P Q l (lt_out from to f) (s.drawn.starts d has) (s.drawn.ends d has)
  span_by false f P Q l = span_of_ends to from (edge_back f) Q P l (runs_back f) (s.drawn.ends d has) (s.drawn.starts d has)

  -- p and q are its ends as they were read
  pub span_is : (p q : Point) (l : Line) → p ≡ from → q ≡ to → l ≡ line_in v d → IsPoint p → IsPoint q → IsLine l → IsSpan (span_in v d)
  span_is p q l e f g P Q L = span_by (dart_in v d).forward refl (subst IsPoint e P) (subst IsPoint f Q) (subst IsLine g L)

  -- what holds of both ends, however they are named
  ends_by : (P : Point → Type 0) (b : Bool) → (dart_in v d).forward ≡ b → P from → P to → P (span_in v d).lower × P (span_in v d).upper
  ends_by P true f a b = (subst (λ (z : Edge). P z.low) (sym (edge_ahead f)) a, subst (λ (z : Edge). P z.high) (sym (edge_ahead f)) b)
  ends_by P false f a b = (subst (λ (z : Edge). P z.low) (sym (edge_back f)) b, subst (λ (z : Edge). P z.high) (sym (edge_back f)) a)

  pub both_ends : (P : Point → Type 0) → P from → P to → P (span_in v d).lower × P (span_in v d).upper
  both_ends P = ends_by P (dart_in v d).forward refl

  pub ascend : Lt (span_in v d).lower (span_in v d).upper
  ascend = by (dart_in v d).forward refl
    where
      by : (b : Bool) → (dart_in v d).forward ≡ b → Lt (span_in v d).lower (span_in v d).upper
      by true f = subst (λ (z : Edge). Lt z.low z.high) (sym (edge_ahead f)) (lt_out from to f)
      by false f = subst (λ (z : Edge). Lt z.low z.high) (sym (edge_back f)) (runs_back f)

  -- they are those of the dart
  pub ends_are : ((from ≡ (span_in v d).lower) × (to ≡ (span_in v d).upper)) ⊎ ((to ≡ (span_in v d).lower) × (from ≡ (span_in v d).upper))
  ends_are = by (dart_in v d).forward refl
    where
      by : (b : Bool) → (dart_in v d).forward ≡ b → ((from ≡ (span_in v d).lower) × (to ≡ (span_in v d).upper)) ⊎ ((to ≡ (span_in v d).lower) × (from ≡ (span_in v d).upper))
      by true f = inl (ap (λ (z : Edge). z.low) (sym (edge_ahead f)), ap (λ (z : Edge). z.high) (sym (edge_ahead f)))
      by false f = inr (ap (λ (z : Edge). z.low) (sym (edge_back f)), ap (λ (z : Edge). z.high) (sym (edge_back f)))

  -- p and q are its ends as they were read, and l its line
  module _ (p q : Point) (l : Line) (e : p ≡ from) (f : q ≡ to) (g : l ≡ line_in v d) where
    runs : (b : Bool) → precedes p q ≡ b → (dart_in v d).forward ≡ b
    runs b h = (λ i. precedes (sym e i) (sym f i)) ∙ h

    starts : IsOn l p
    starts = (λ i. side_of (g i) (e i)) ∙ s.drawn.starts d has

    finishes : IsOn l q
    finishes = (λ i. side_of (g i) (f i)) ∙ s.drawn.ends d has

    pub way_ahead : precedes p q ≡ true → AreOnWay p q l
    way_ahead h = record { ascending = (lt_out p q h).is; lower_on = starts; upper_on = finishes }

    pub way_back : precedes p q ≡ false → AreOnWay q p l
    way_back h = record { ascending = (λ i. point_cmp (f i) (e i)) ∙ (runs_back (runs false h)).is; lower_on = finishes; upper_on = starts }

    pub span_ahead : precedes p q ≡ true → (t : Span) → t ≡ record { lower = p; upper = q; line = l } → t ≡ span_in v d
    span_ahead h t k = k ∙ (λ i. record { lower = e i; upper = f i; line = g i }) ∙ ap (λ (z : Edge). record { lower = z.low; upper = z.high; line = line_in v d }) (sym (edge_ahead (runs true h)))

    pub span_back : precedes p q ≡ false → (t : Span) → t ≡ record { lower = q; upper = p; line = l } → t ≡ span_in v d
    span_back h t k = k ∙ (λ i. record { lower = f i; upper = e i; line = g i }) ∙ ap (λ (z : Edge). record { lower = z.low; upper = z.high; line = line_in v d }) (sym (edge_back (runs false h)))

  -- ---- sides
  pub side_ahead : IsSpan (span_in v d) → (t : Point) (r : Sign) → (dart_in v d).forward ≡ true → r ≡ sign_of (side_of (line_in v d) t) → r ≡ sign_of (side_from v d t)
  side_ahead is t r f e = sign_same (span_in v d) t r is e ∙ ap (λ (b : Bool). sign_of (cond b (side (edge_in v d) t) (neg_ℤ (side (edge_in v d) t)))) (sym f)

  pub side_back : IsSpan (span_in v d) → (t : Point) (r : Sign) → (dart_in v d).forward ≡ false → r ≡ sign_of (side_of (line_in v d) t) → other_side r ≡ sign_of (side_from v d t)
  side_back is t r f e =
      ap other_side (sign_same (span_in v d) t r is e) ∙ turned (side (edge_in v d) t)
      ∙ ap (λ (b : Bool). sign_of (cond b (side (edge_in v d) t) (neg_ℤ (side (edge_in v d) t)))) (sym f)
    where
      turned : (z : ℤ) → other_side (sign_of z) ≡ sign_of (neg_ℤ z)
      turned z = by (int_cmp z (pos 0)) refl
        where
          by : (o : Ordering) → int_cmp z (pos 0) ≡ o → other_side (sign_of z) ≡ sign_of (neg_ℤ z)
          by Less e = let h = less_out z (pos 0) e in ap (λ k. other_side (sign_by k)) e ∙ ap sign_by (sym (greater_in (neg_ℤ z) (pos 0) (omega (arith, ints))))
          by Equal e = let h = equal_out z (pos 0) e in ap (λ k. other_side (sign_by k)) e ∙ ap sign_by (sym (equal_in (neg_ℤ z) (pos 0) (omega (arith, ints))))
          by Greater e = let h = greater_out z (pos 0) e in ap (λ k. other_side (sign_by k)) e ∙ ap sign_by (sym (less_in (neg_ℤ z) (pos 0) (omega (arith, ints))))

  -- ---- what rules out that a span meets it
  module _ (whole : Span) (is : IsSpan (span_in v d)) where
    abbrev low : Point
    low = (span_in v d).lower

    abbrev high : Point
    high = (span_in v d).upper

    -- both ends on one side of its line
    module _ (r : Point) (R : IsPoint r) (a : LiesOn whole r) (b : LiesOn (span_in v d) r) where
      abbrev m : Line
      m = whole.line

      not_left : pos 0 <ℤ side_of m low → pos 0 <ℤ side_of m high → ⊥
      not_left x y = elim (le_cases low r (at_most_out low r b.from)) [
        | inl e ↦ let z : side_of m low ≡ pos 0 = ap (side_of m) e ∙ a.on in omega (arith, ints)
        | inr k ↦ elim (le_cases r high (at_most_out r high b.upto)) [
          | inl e ↦ let z : side_of m high ≡ pos 0 = ap (side_of m) (sym e) ∙ a.on in omega (arith, ints)
          | inr l ↦
              let n = falls (line_in v d) m (s.drawn.line d has).runs low high r (point_is_proper low is.lower) (point_is_proper high is.upper) (point_is_proper r R) is.way.lower_on is.way.upper_on b.on k l a.on x in
              omega (arith, ints)
        ]
      ]

      not_right : side_of m low <ℤ pos 0 → side_of m high <ℤ pos 0 → ⊥
      not_right x y = elim (le_cases low r (at_most_out low r b.from)) [
        | inl e ↦ let z : side_of m low ≡ pos 0 = ap (side_of m) e ∙ a.on in omega (arith, ints)
        | inr k ↦ elim (le_cases r high (at_most_out r high b.upto)) [
          | inl e ↦ let z : side_of m high ≡ pos 0 = ap (side_of m) (sym e) ∙ a.on in omega (arith, ints)
          | inr l ↦
              let n = rises (line_in v d) m (s.drawn.line d has).runs low high r (point_is_proper low is.lower) (point_is_proper high is.upper) (point_is_proper r R) is.way.lower_on is.way.upper_on b.on k l a.on x in
              omega (arith, ints)
        ]
      ]

    pub aside : (p q : Point) → p ≡ from → q ≡ to → (is_left (whole.line) p && is_left (whole.line) q) || (is_right (whole.line) p && is_right (whole.line) q) ≡ true → AreApart whole (span_in v d)
    aside p q e f h r R a b = elim (or_out (is_left n from && is_left n to) (is_right n from && is_right n to) (sym (λ i. (is_left n (e i) && is_left n (f i)) || (is_right n (e i) && is_right n (f i))) ∙ h)) [
      | inl k ↦
          let z = and_true (is_left n from) (is_left n to) k in
          let w = both_ends (λ x. pos 0 <ℤ side_of n x) (lt_is (pos 0) (side_of n from) z.0) (lt_is (pos 0) (side_of n to) z.1) in
          not_left r R a b w.0 w.1
      | inr k ↦
          let z = and_true (is_right n from) (is_right n to) k in
          let w = both_ends (λ x. side_of n x <ℤ pos 0) (lt_is (side_of n from) (pos 0) z.0) (lt_is (side_of n to) (pos 0) z.1) in
          not_right r R a b w.0 w.1
    ]
      where
        n : Line
        n = whole.line

-- ---- the line that a look told
pub told_line : (k : Option Line) (l m : Line) → k ≡ Some l → k ≡ Some m → l ≡ m
told_line k l m e f = one l m (sym e ∙ f)
  where
    one : (l m : Line) → Some l ≡ Some m → l ≡ m
    one l m h = cc

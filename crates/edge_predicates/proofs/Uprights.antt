-- A vertical edge against one that isn't.
use Rattle.std.proofs.Common.{◌≡◌, true, false, arith, refl, sym, ap, ◌∙◌, inl, inr, subst}
use Rattle.std.specs.Prelude.{pos, ◌<ℤ◌, not}
use Rattle.std.specs.List.{Contains}
use Rattle.std.proofs.lemmas.Int.{ints, by_lt_z}
use Rattle.std.proofs.lemmas.Bool.{false≢true, and_from, false_from_ne_true, cases_Bool}
use lib.Signed.{lt_z}
use Rattle.exact_plane.specs.Point.{Point}
use Rattle.plane_graphs.specs.Graph.{Edge}
use Rattle.slab_laws.specs.Skeleton.{Skeleton, HasWeight, left_of, lower_than, run, side, over, under, precedes, inside, crosses, IsPlaneSkeleton}
use Rattle.slab_faces.proofs.InnerPoints.{no_sign}
use Rattle.slab_faces.proofs.Ints.{zero_weak}
use Rattle.slab_faces.proofs.OverUnder.{not_under, over_out, under_in, under_out}
use Rattle.slab_faces.proofs.Walls.{left_of-before, left_of-after, lower_than-before, run_positive, side-lower, side_rises, side_keeps, over-upper}
use Rattle.slab_faces.proofs.Cells.{not_right_trans}
use Rattle.slab_faces.proofs.Along.{upright_left, upright_right}
use Rattle.edge_predicates.specs.Above.{is_above, IsBeside}
use Rattle.slab_faces.proofs.Points.{before_left, before_lower, before_weak, before_on_wall, not_before_left, not_before_lower}
use Rattle.slab_faces.proofs.Upright.{upright_on}
use Rattle.edge_predicates.proofs.Seen.{slanted}

-- ---- what is inside an edge
-- a point on the line of an edge, between its ends, is inside it
pub is_inside : (f : Edge) (v : Point) → precedes f.low v ≡ true → precedes v f.high ≡ true → side f v ≡ pos 0 → inside f v ≡ true
is_inside f v a b z = and_from _ _ (and_from _ _ a b) (no_sign (side f v) z)

pub never_inside : (g : Skeleton) (f : Edge) (v : Point) → IsPlaneSkeleton g → Contains g.edges f → Contains g.vertices v → precedes f.low v ≡ true → precedes v f.high ≡ true → side f v ≡ pos 0 → ⊥
never_inside g f v plane F V a b z = false≢true (sym (plane.clear f v F V) ∙ is_inside f v a b z)

pub f_long : (g : Skeleton) (e f : Edge) (q : Point) → IsBeside g e f q → left_of f.low f.high ≡ true
f_long g e f q b = let p = b.plane.proper_edge f b.F in slanted f q p.0 p.1 b.Q b.spanning b.off

-- the answer of `is_above`, by its three cases
pub above_later : (e f : Edge) → precedes f.low e.low ≡ true → is_above e f ≡ under f e.low
unfolding is_above
above_later e f h = rw h refl

pub above_earlier : (e f : Edge) → precedes f.low e.low ≡ false → precedes e.low f.low ≡ true → is_above e f ≡ over e f.low
unfolding is_above
above_earlier e f h k = rw (h, k) refl

pub above_fan : (e f : Edge) → precedes f.low e.low ≡ false → precedes e.low f.low ≡ false → is_above e f ≡ under f e.high
unfolding is_above
above_fan e f h k = rw (h, k) refl

module _ (g : Skeleton) (e f : Edge) (q : Point) (b : IsBeside g e f q) (up : left_of e.low e.high ≡ false) where
  abbrev plane : IsPlaneSkeleton g
  plane = b.plane

  low : HasWeight e.low
  low = (b.plane.proper_edge e b.E).0

  high : HasWeight e.high
  high = (b.plane.proper_edge e b.E).1

  fl : HasWeight f.low
  fl = (b.plane.proper_edge f b.F).0

  fh : HasWeight f.high
  fh = (b.plane.proper_edge f b.F).1

  back : left_of e.high e.low ≡ false
  back = b.plane.forward e b.E

  -- all on one wall
  q_low : left_of q e.low ≡ false
  q_low = not_before_left q e.low b.from

  high_q : left_of e.high q ≡ false
  high_q = not_before_left e.high q b.to

  low_q : left_of e.low q ≡ false
  low_q = false_from_ne_true _ (λ k. false≢true (sym up ∙ left_of-before e.low q e.high low b.Q high k high_q))

  q_high : left_of q e.high ≡ false
  q_high = false_from_ne_true _ (λ k. false≢true (sym up ∙ left_of-after e.low q e.high low b.Q high q_low k))

  rises : lower_than e.low e.high ≡ true
  rises = b.plane.upright e b.E (and_from _ _ (ap not up) (ap not back))

  weak_low : lower_than q e.low ≡ false
  weak_low = not_before_lower q e.low b.from low_q

  weak_high : lower_than e.high q ≡ false
  weak_high = not_before_lower e.high q b.to q_high

  R : pos 0 <ℤ run f
  R = run_positive f (f_long g e f q b)

  -- from the lower end of f on, where that is not on the left of the wall, f is below q
  from_there : left_of f.low q ≡ false → pos 0 <ℤ side f q
  from_there h = side_rises f f.low q fl b.Q R h (before_weak f.low q b.spanning.from) (before_on_wall f.low q b.spanning.from h) (zero_weak _ (side-lower f))

  -- e begins above f: so all of it is above
  above_stays : precedes f.low e.low ≡ true → under f e.low ≡ true → pos 0 <ℤ side f q
  above_stays h u =
      let k = under_out f e.low u in
      let w = side_keeps f e.low q low b.Q R low_q q_low weak_low (omega (arith, ints)) in
      by_lt_z (pos 0) (side f q) (λ x. x) (λ x. absurd (b.off (omega (arith, ints))))

  -- f passes the wall: it would cross e
  crossed : left_of f.low e.low ≡ true → left_of e.low f.high ≡ true → side f e.low <ℤ pos 0 → pos 0 <ℤ side f e.high → ⊥
  unfolding crosses
  crossed h k x y =
      let s1 = upright_left e f.low low up back rises h in
      let s2 = upright_right e f.high low up back rises k in
      let t1 : true ≡ lt_z (pos 0) (side e f.low) = omega (arith, ints) in
      let t2 : true ≡ lt_z (side e f.high) (pos 0) = omega (arith, ints) in
      let t3 : true ≡ lt_z (side f e.low) (pos 0) = omega (arith, ints) in
      let t4 : true ≡ lt_z (pos 0) (side f e.high) = omega (arith, ints) in
      false≢true (sym (b.plane.uncrossed f e b.F b.E) ∙ and_from _ _ (sym t1) (and_from _ _ (sym t2) (and_from _ _ (sym t3) (sym t4))))

  below_stays : precedes f.low e.low ≡ true → under f e.low ≡ false → pos 0 <ℤ side f q → ⊥
  below_stays h u x =
      let k = not_under f e.low u in
      elim (cases_Bool (left_of f.low e.low)) [
        | inr n ↦
            let y = side_rises f f.low e.low fl low R n (before_weak f.low e.low h) (before_on_wall f.low e.low h n) (zero_weak _ (side-lower f)) in
            absurd (omega (arith, ints))
        | inl n ↦ elim (cases_Bool (left_of q f.high)) [
          | inr m ↦
              let o = over-upper f q fh (f_long g e f q b) (before_weak q f.high b.spanning.to) m ∙ before_on_wall q f.high b.spanning.to m in
              let z = over_out f q o in
              absurd (omega (arith, ints))
          | inl m ↦
              let lh = left_of-after e.low q f.high low b.Q fh q_low m in
              let hh = left_of-after e.high q f.high high b.Q fh q_high m in
              let lf = left_of-before f.low e.low e.high fl low high n back in
              let w = side_keeps f q e.high b.Q high R q_high high_q weak_high (omega (arith, ints)) in
              by_lt_z (side f e.low) (pos 0)
              (λ a. by_lt_z (pos 0) (side f e.high) (λ c. crossed n lh a c)
              (λ c. never_inside g f e.high b.plane b.F (b.plane.upper_in e b.E) (before_left f.low e.high lf) (before_left e.high f.high hh) (omega (arith, ints))))
              (λ a. never_inside g f e.low b.plane b.F (b.plane.lower_in e b.E) h (before_left e.low f.high lh) (omega (arith, ints)))
        ]
      ]

  -- f would begin inside e
  begins_inside : precedes e.low f.low ≡ true → ⊥
  begins_inside h =
      let a = before_weak e.low f.low h in
      let c = before_weak f.low q b.spanning.from in
      let l = before_on_wall f.low q b.spanning.from (at_wall a) in
      let to = before_lower f.low e.high (not_right_trans f.low q e.high fl b.Q high c high_q) (lower_than-before f.low q e.high fl b.Q high l weak_high) in
      never_inside g e f.low b.plane b.E (b.plane.lower_in f b.F) h to (upright_on e f.low low up back (false_from_ne_true _ (λ k. false≢true (sym low_q ∙ left_of-before e.low f.low q low fl b.Q k c))) a)
    where
      at_wall : left_of f.low e.low ≡ false → left_of f.low q ≡ false
      at_wall a = false_from_ne_true _ (λ k. false≢true (sym a ∙ left_of-before f.low q e.low fl b.Q low k low_q))

  same_start : precedes f.low e.low ≡ false → precedes e.low f.low ≡ false → f.low ≡ e.low
  same_start h k = b.plane.distinct f.low e.low (b.plane.lower_in f b.F) (b.plane.lower_in e b.E) h k

  fan_up : precedes f.low e.low ≡ false → precedes e.low f.low ≡ false → pos 0 <ℤ side f q
  fan_up h k = from_there (subst (λ z. left_of z q ≡ false) (sym (same_start h k)) low_q)

  fan_end : precedes f.low e.low ≡ false → precedes e.low f.low ≡ false → under f e.high ≡ true
  fan_end h k =
      let s = same_start h k in
      under_in f e.high (side_rises f f.low e.high fl high R (subst (λ z. left_of z e.high ≡ false) (sym s) up) (subst (λ z. left_of e.high z ≡ false) (sym s) back) (subst (λ z. lower_than z e.high ≡ true) (sym s) rises) (zero_weak _ (side-lower f)))

  -- q, which is on e, is on the side of f to which `is_above` sends e
  pub upright_above : is_above e f ≡ true → pos 0 <ℤ side f q
  upright_above h =
      elim (cases_Bool (precedes f.low e.low)) [
        | inl a ↦ above_stays a (sym (above_later e f a) ∙ h)
        | inr a ↦ elim (cases_Bool (precedes e.low f.low)) [ inl c ↦ absurd (begins_inside c) | inr c ↦ fan_up a c ]
      ]

  pub upright_not_above : is_above e f ≡ false → pos 0 <ℤ side f q → ⊥
  upright_not_above h x =
      elim (cases_Bool (precedes f.low e.low)) [
        | inl a ↦ below_stays a (sym (above_later e f a) ∙ h) x
        | inr a ↦ elim (cases_Bool (precedes e.low f.low)) [
          | inl c ↦ absurd (begins_inside c)
          | inr c ↦ absurd (false≢true (sym h ∙ above_fan e f a c ∙ fan_end a c))
        ]
      ]

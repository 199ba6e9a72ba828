-- The order of two edges that pass one wall: `below` holds where one is above the other anywhere, and in a plane graph not both ways.
use Rattle.std.proofs.Common.{◌≡◌, true, false, arith, refl, sym, ◌∙◌, ◌⊎◌, inl, inr, ⊎_elim}
use Rattle.std.specs.Prelude.{ℤ, pos, ◌+ℤ◌, ◌-ℤ◌, ◌*ℤ◌, ◌<ℤ◌, ◌≤ℤ◌, not, ◌&&◌}
use Rattle.std.specs.List.{Contains}
use Rattle.std.proofs.lemmas.Int.{ints, by_lt_z}
use Rattle.std.proofs.lemmas.Bool.{and_parts, and_from, not-true, or_left, or_right, or_cases, false≢true, cases_Bool}
use lib.IntN.{*ℤ-zero}
use lib.Signed.{lt_z}
use Rattle.exact_plane.specs.Point.{Point}
use Rattle.plane_graphs.specs.Graph.{Edge}
use Rattle.slab_laws.specs.Skeleton.{Skeleton, HasWeight, left_of, run, side, over, in_range, gap, higher_at, below, crosses, IsPlaneSkeleton}
use Rattle.slab_faces.proofs.Ints.{as_dif, dif_add, dif_sub, dif_mul, dif_same, times_less, times_at_most, less_back, mean_up, mean_first, mean_last}
use Rattle.slab_faces.proofs.Walls.{left_of-irrefl, left_of-asym, left_of-before, left_of-after, run_positive, side-upper, side-lower}
use Rattle.integers.proofs.Signs.{mul_pos'}

slope : Edge → Edge → ℤ
slope f e =
    run e *ℤ (f.low.y *ℤ f.high.w -ℤ f.high.y *ℤ f.low.w) -ℤ run f *ℤ (e.low.y *ℤ e.high.w -ℤ e.high.y *ℤ e.low.w)

rise : Edge → Edge → ℤ
rise f e =
    run e *ℤ (f.low.x *ℤ f.high.y -ℤ f.high.x *ℤ f.low.y) -ℤ run f *ℤ (e.low.x *ℤ e.high.y -ℤ e.high.x *ℤ e.low.y)

cancel : (a b c d e f x y w : ℤ) → e *ℤ (a *ℤ x +ℤ b *ℤ y +ℤ c *ℤ w) -ℤ b *ℤ (d *ℤ x +ℤ e *ℤ y +ℤ f *ℤ w) ≡ (e *ℤ a -ℤ b *ℤ d) *ℤ x +ℤ (e *ℤ c -ℤ b *ℤ f) *ℤ w
cancel a b c d e f x y w = rw (as_dif a, as_dif b, as_dif c, as_dif d, as_dif e, as_dif f, as_dif x, as_dif y, as_dif w) (simp (dif_add, dif_sub, dif_mul) (dif_same _ _ _ _ (omega arith)))

-- the gap is linear in the abscissa
gap_is : (f e : Edge) (t : Point) → gap f e t ≡ slope f e *ℤ t.x +ℤ rise f e *ℤ t.w
unfolding gap side run slope rise
gap_is f e t =
    cancel (f.low.y *ℤ f.high.w -ℤ f.high.y *ℤ f.low.w) (f.high.x *ℤ f.low.w -ℤ f.low.x *ℤ f.high.w) (f.low.x *ℤ f.high.y -ℤ f.high.x *ℤ f.low.y)
    (e.low.y *ℤ e.high.w -ℤ e.high.y *ℤ e.low.w) (e.high.x *ℤ e.low.w -ℤ e.low.x *ℤ e.high.w) (e.low.x *ℤ e.high.y -ℤ e.high.x *ℤ e.low.y)
    t.x t.y t.w

-- how far v is to the right of u
pub away : Point → Point → ℤ
away u v = v.x *ℤ u.w -ℤ u.x *ℤ v.w

pub away_yes : (u v : Point) → left_of u v ≡ true → pos 0 <ℤ away u v
unfolding away left_of
away_yes u v h = omega (arith, ints)

away_no : (u v : Point) → left_of v u ≡ false → pos 0 ≤ℤ away u v
unfolding away left_of
away_no u v h = omega (arith, ints)

three : (s r x w x' w' x'' w'' : ℤ) → (s *ℤ x +ℤ r *ℤ w) *ℤ (x'' *ℤ w' -ℤ x' *ℤ w'') ≡ (s *ℤ x' +ℤ r *ℤ w') *ℤ (x'' *ℤ w -ℤ x *ℤ w'') +ℤ (s *ℤ x'' +ℤ r *ℤ w'') *ℤ (x *ℤ w' -ℤ x' *ℤ w)
three a b c d e f g h = rw (as_dif a, as_dif b, as_dif c, as_dif d, as_dif e, as_dif f, as_dif g, as_dif h) (simp (dif_add, dif_sub, dif_mul) (dif_same _ _ _ _ (omega arith)))

-- the gaps at three points
pub gap_mean : (f e : Edge) (t u v : Point) → gap f e t *ℤ away u v ≡ gap f e u *ℤ away t v +ℤ gap f e v *ℤ away u t
unfolding away
gap_mean f e t u v = rw (gap_is f e t, gap_is f e u, gap_is f e v) (three (slope f e) (rise f e) t.x t.w u.x u.w v.x v.w)

-- between u and v: positive at t, so at u or at v
positive_end : (f e : Edge) (t u v : Point) → left_of t u ≡ false → left_of v t ≡ false → left_of u v ≡ true → pos 0 <ℤ gap f e t → (pos 0 <ℤ gap f e u) ⊎ (pos 0 <ℤ gap f e v)
positive_end f e t u v a b c h =
    by_lt_z (pos 0) (gap f e u) inl (λ k.
    by_lt_z (pos 0) (gap f e v) inr (λ l.
    absurd (mean_up (gap f e t) (away u v) (gap f e u) (away t v) (gap f e v) (away u t) (gap_mean f e t u v) (away_yes u v c) (away_no t v b) (away_no u t a) h k l)))

-- from u to v it falls from above 0 to below 0: so it is above 0 on the left of u, and below 0 on the right of v
positive_before : (f e : Edge) (w u v : Point) → left_of u w ≡ false → left_of w v ≡ true → left_of u v ≡ true → pos 0 <ℤ gap f e u → gap f e v <ℤ pos 0 → pos 0 <ℤ gap f e w
positive_before f e w u v a b c h k =
    mean_first (gap f e u) (away w v) (gap f e w) (away u v) (gap f e v) (away w u) (gap_mean f e u w v) (away_yes w v b) (away_yes u v c) (away_no w u a) h k

negative_after : (f e : Edge) (w u v : Point) → left_of w v ≡ false → left_of u w ≡ true → left_of u v ≡ true → pos 0 <ℤ gap f e u → gap f e v <ℤ pos 0 → gap f e w <ℤ pos 0
negative_after f e w u v a b c h k =
    mean_last (gap f e v) (away u w) (gap f e u) (away v w) (gap f e w) (away u v) (gap_mean f e v u w) (away_yes u w b) (away_no v w a) (away_yes u v c) k h

-- ---- `below`, from a gap anywhere
pub ranged : (e : Edge) (u : Point) → left_of u e.low ≡ false → left_of e.high u ≡ false → in_range e u ≡ true
ranged e u a b = rw (a, b) refl

pub higher : (f e : Edge) (u : Point) → in_range f u ≡ true → in_range e u ≡ true → pos 0 <ℤ gap f e u → higher_at f e u ≡ true
higher f e u a b h =
    let c : true ≡ lt_z (pos 0) (gap f e u) = omega (arith, ints) in and_from _ _ (and_from _ _ a b) (sym c)

between : (f e : Edge) (t u v : Point) → left_of t u ≡ false → left_of v t ≡ false → left_of u v ≡ true → pos 0 <ℤ gap f e t → (pos 0 <ℤ gap f e u → below f e ≡ true) → (pos 0 <ℤ gap f e v → below f e ≡ true) → below f e ≡ true
between f e t u v a b c h at_u at_v = ⊎_elim at_u at_v (positive_end f e t u v a b c h)

-- two edges that both pass t's abscissa, strictly so on one side
pub record Passes (f e : Edge) (t : Point) : Type 0 where
  pub f_from : left_of t f.low ≡ false
  pub f_to : left_of f.high t ≡ false
  pub e_from : left_of t e.low ≡ false
  pub e_to : left_of e.high t ≡ false
  pub f_long : left_of f.low f.high ≡ true
  pub e_long : left_of e.low e.high ≡ true
  pub f_e : left_of f.low e.high ≡ true
  pub e_f : left_of e.low f.high ≡ true

pub below_from : (f e : Edge) (t : Point) → Passes f e t → pos 0 <ℤ gap f e t → below f e ≡ true
below_from f e t p h =
    let at_fl : in_range e f.low ≡ true → pos 0 <ℤ gap f e f.low → below f e ≡ true =
    λ r k. or_left _ _ (higher f e f.low (ranged f f.low (left_of-irrefl f.low) (left_of-asym _ _ p.f_long)) r k) in
    let at_fu : in_range e f.high ≡ true → pos 0 <ℤ gap f e f.high → below f e ≡ true =
    λ r k. or_right _ _ (or_left _ _ (higher f e f.high (ranged f f.high (left_of-asym _ _ p.f_long) (left_of-irrefl f.high)) r k)) in
    let at_el : in_range f e.low ≡ true → pos 0 <ℤ gap f e e.low → below f e ≡ true =
    λ r k. or_right _ _ (or_right _ _ (or_left _ _ (higher f e e.low r (ranged e e.low (left_of-irrefl e.low) (left_of-asym _ _ p.e_long)) k))) in
    let at_eu : in_range f e.high ≡ true → pos 0 <ℤ gap f e e.high → below f e ≡ true =
    λ r k. or_right (higher_at f e f.low) _ (or_right (higher_at f e f.high) _ (or_right (higher_at f e e.low) _ (higher f e e.high r (ranged e e.high (left_of-asym _ _ p.e_long) (left_of-irrefl e.high)) k))) in
    elim (cases_Bool (left_of e.low f.low)) [
      | inl a ↦
          let u = at_fl (ranged e f.low (left_of-asym _ _ a) (left_of-asym _ _ p.f_e)) in
          elim (cases_Bool (left_of e.high f.high)) [
            | inl b ↦ between f e t f.low e.high p.f_from p.e_to p.f_e h u (at_eu (ranged f e.high (left_of-asym _ _ p.f_e) (left_of-asym _ _ b)))
            | inr b ↦ between f e t f.low f.high p.f_from p.f_to p.f_long h u (at_fu (ranged e f.high (left_of-asym _ _ p.e_f) b))
          ]
      | inr a ↦
          let u = at_el (ranged f e.low a (left_of-asym _ _ p.e_f)) in
          elim (cases_Bool (left_of e.high f.high)) [
            | inl b ↦ between f e t e.low e.high p.e_from p.e_to p.e_long h u (at_eu (ranged f e.high (left_of-asym _ _ p.f_e) (left_of-asym _ _ b)))
            | inr b ↦ between f e t e.low f.high p.e_from p.f_to p.e_f h u (at_fu (ranged e f.high (left_of-asym _ _ p.e_f) b))
          ]
    ]

-- ---- `below` holds one way alone
pub record IsHigherAt (f e : Edge) (u : Point) : Type 0 where
  pub proper : HasWeight u
  pub f_from : left_of u f.low ≡ false
  pub f_to : left_of f.high u ≡ false
  pub e_from : left_of u e.low ≡ false
  pub e_to : left_of e.high u ≡ false
  pub gap_up : pos 0 <ℤ gap f e u

at_point : (f e : Edge) (u : Point) → HasWeight u → higher_at f e u ≡ true → IsHigherAt f e u
at_point f e u P h =
    let a = and_parts (in_range f u && in_range e u) (lt_z (pos 0) (gap f e u)) h in
    let b = and_parts (in_range f u) (in_range e u) a.0 in
    let c = and_parts (not (left_of u f.low)) (not (left_of f.high u)) b.0 in
    let d = and_parts (not (left_of u e.low)) (not (left_of e.high u)) b.1 in
    record { proper = P; f_from = not-true _ c.0; f_to = not-true _ c.1; e_from = not-true _ d.0; e_to = not-true _ d.1; gap_up = omega (arith, ints, a.1) }

pub witness : (g : Skeleton) (f e : Edge) → IsPlaneSkeleton g → Contains g.edges f → Contains g.edges e → below f e ≡ true → (u : Point) × IsHigherAt f e u
witness g f e plane F E h =
    let p = plane.proper_edge f F in
    let q = plane.proper_edge e E in
    elim (or_cases _ _ h) [
      | inl a ↦ (f.low, at_point f e f.low p.0 a)
      | inr k ↦ elim (or_cases _ _ k) [
        | inl a ↦ (f.high, at_point f e f.high p.1 a)
        | inr l ↦ elim (or_cases _ _ l) [
          | inl a ↦ (e.low, at_point f e e.low q.0 a)
          | inr a ↦ (e.high, at_point f e e.high q.1 a)
        ]
      ]
    ]

pub gap-on_e : (f e : Edge) (u : Point) → side e u ≡ pos 0 → gap f e u ≡ run e *ℤ side f u
unfolding gap
gap-on_e f e u z = rw (z, *ℤ-zero) (omega (arith, ints))

pub gap-on_f : (f e : Edge) (u : Point) → side f u ≡ pos 0 → gap f e u ≡ pos 0 -ℤ run f *ℤ side e u
unfolding gap
gap-on_f f e u z = rw (z, *ℤ-zero) (omega (arith, ints))

pub gap-swap : (f e : Edge) (u : Point) → gap e f u ≡ pos 0 -ℤ gap f e u
unfolding gap
gap-swap f e u = omega (arith, ints)

-- e is above f at u and below it at v, which is further to the right
pub cross_at : (f e : Edge) (u v : Point) → HasWeight e.low → HasWeight e.high → HasWeight f.low → HasWeight f.high → IsHigherAt f e u → IsHigherAt e f v → left_of u v ≡ true → crosses e f ≡ true
unfolding crosses
cross_at f e u v EL EU FL FU a b h =
    let U = a.proper in
    let V = b.proper in
    let down : gap f e v <ℤ pos 0 = let s = gap-swap f e v in let k = b.gap_up in omega (arith, ints) in
    let re : pos 0 <ℤ run e = run_positive e (left_of-before e.low v e.high EL V EU (left_of-after e.low u v EL U V a.e_from h) b.f_to) in
    let rf : pos 0 <ℤ run f = run_positive f (left_of-before f.low v f.high FL V FU (left_of-after f.low u v FL U V a.f_from h) b.e_to) in
    let g1 = positive_before f e e.low u v a.e_from (left_of-after e.low u v EL U V a.e_from h) h a.gap_up down in
    let g2 = positive_before f e f.low u v a.f_from (left_of-after f.low u v FL U V a.f_from h) h a.gap_up down in
    let g3 = negative_after f e e.high u v b.f_to (left_of-before u v e.high U V EU h b.f_to) h a.gap_up down in
    let g4 = negative_after f e f.high u v b.e_to (left_of-before u v f.high U V FU h b.e_to) h a.gap_up down in
    let e1 = gap-on_e f e e.low (side-lower e) in
    let e2 = gap-on_f f e f.low (side-lower f) in
    let e3 = gap-on_e f e e.high (side-upper e) in
    let e4 = gap-on_f f e f.high (side-upper f) in
    let ze = *ℤ-zero (run e) in
    let zf = *ℤ-zero (run f) in
    let s1 : pos 0 <ℤ side f e.low = less_back (run e) (pos 0) (side f e.low) re (omega (arith, ints)) in
    let s2 : side e f.low <ℤ pos 0 = less_back (run f) (side e f.low) (pos 0) rf (omega (arith, ints)) in
    let s3 : side f e.high <ℤ pos 0 = less_back (run e) (side f e.high) (pos 0) re (omega (arith, ints)) in
    let s4 : pos 0 <ℤ side e f.high = less_back (run f) (pos 0) (side e f.high) rf (omega (arith, ints)) in
    let t1 : true ≡ lt_z (pos 0) (side f e.low) = omega (arith, ints) in
    let t2 : true ≡ lt_z (side e f.low) (pos 0) = omega (arith, ints) in
    let t3 : true ≡ lt_z (side f e.high) (pos 0) = omega (arith, ints) in
    let t4 : true ≡ lt_z (pos 0) (side e f.high) = omega (arith, ints) in
    and_from _ _ (sym t1) (and_from _ _ (sym t3) (and_from _ _ (sym t2) (sym t4)))

-- at one abscissa the gap has one sign
level : (s r x w x' w' : ℤ) → x' *ℤ w -ℤ x *ℤ w' ≡ pos 0 → w' *ℤ (s *ℤ x +ℤ r *ℤ w) ≡ w *ℤ (s *ℤ x' +ℤ r *ℤ w')
level s r x w x' w' h =
    let i = ring s r x w x' w' in
    let i' = rw (h, *ℤ-zero) at i in
    omega (arith, ints)
  where
    ring : (s r x w x' w' : ℤ) → w *ℤ (s *ℤ x' +ℤ r *ℤ w') ≡ w' *ℤ (s *ℤ x +ℤ r *ℤ w) +ℤ s *ℤ (x' *ℤ w -ℤ x *ℤ w')
    ring a b c d e f = rw (as_dif a, as_dif b, as_dif c, as_dif d, as_dif e, as_dif f) (simp (dif_add, dif_sub, dif_mul) (dif_same _ _ _ _ (omega arith)))

gap_level : (f e : Edge) (u v : Point) → HasWeight u → HasWeight v → left_of u v ≡ false → left_of v u ≡ false → pos 0 <ℤ gap f e u → gap f e v <ℤ pos 0 → ⊥
unfolding left_of
gap_level f e u v U V a b h k =
    let i = level (slope f e) (rise f e) u.x u.w v.x v.w (omega (arith, ints)) in
    let i' = rw (← gap_is f e u, ← gap_is f e v) at i in
    let l = mul_pos' v.w (gap f e u) V h in
    let m = times_less u.w (gap f e v) (pos 0) U k in
    let z = *ℤ-zero u.w in
    omega (arith, ints)

pub below_asym : (g : Skeleton) (f e : Edge) → IsPlaneSkeleton g → Contains g.edges f → Contains g.edges e → below f e ≡ true → below e f ≡ true → ⊥
below_asym g f e plane F E h k =
    let w = witness g f e plane F E h in
    let w' = witness g e f plane E F k in
    let p = plane.proper_edge f F in
    let q = plane.proper_edge e E in
    elim (cases_Bool (left_of w.0 w'.0)) [
      | inl a ↦ false≢true (sym (plane.uncrossed e f E F) ∙ cross_at f e w.0 w'.0 q.0 q.1 p.0 p.1 w.1 w'.1 a)
      | inr a ↦ elim (cases_Bool (left_of w'.0 w.0)) [
        | inl b ↦ false≢true (sym (plane.uncrossed f e F E) ∙ cross_at e f w'.0 w.0 p.0 p.1 q.0 q.1 w'.1 w.1 b)
        | inr b ↦
            let s = gap-swap f e w'.0 in
            let u = w'.1.gap_up in
            gap_level f e w.0 w'.0 w.1.proper w'.1.proper a b w.1.gap_up (omega (arith, ints))
      ]
    ]

-- t is between the two: not below e, and over f's line or on it
pub gap_positive : (f e : Edge) (t : Point) → pos 0 <ℤ run f → pos 0 <ℤ run e → over f t ≡ false → over e t ≡ true → pos 0 <ℤ gap f e t
unfolding gap over
gap_positive f e t F E a b =
    let k = times_at_most (run e) (pos 0) (side f t) E (omega (arith, ints)) in
    let l = times_less (run f) (side e t) (pos 0) F (omega (arith, ints)) in
    let z = *ℤ-zero (run e) in
    let z' = *ℤ-zero (run f) in
    omega (arith, ints)

-- Along an edge: at a point inside the edge and on a wall, the cells directly above it on both sides meet, and those directly below.
use Rattle.std.proofs.Common.{◌≡◌, ℕ, ◌+◌, Bool, true, false, cond, arith, refl, sym, ap, ◌∙◌, ◌⊎◌, inl, inr, subst}
use Rattle.std.specs.Prelude.{ℤ, pos, ◌+ℤ◌, ◌-ℤ◌, ◌*ℤ◌, ◌<ℤ◌, not, ◌&&◌}
use Rattle.std.specs.List.{sum_by, count_by, Contains}
use Rattle.std.proofs.lemmas.Int.{ints, by_lt_z}
use Rattle.std.proofs.lemmas.Bool.{false≢true, and_parts, and_from, or_left, not-true, false_from_ne_true, cases_Bool}
use lib.IntN.{*ℤ-zero, zero-*ℤ}
use lib.Signed.{lt_z}
use Rattle.exact_plane.specs.Point.{Point}
use Rattle.plane_graphs.specs.Graph.{Edge}
use Rattle.slab_laws.specs.Skeleton.{Skeleton, HasWeight, left_of, lower_than, on_wall, run, side, over, below, crosses, IsPlaneSkeleton, same_edge}
use Rattle.slab_laws.specs.Meets.{IsOnWall, IsOpenAbove, covers_above, Meets, SameFace, across, here, right}
use Rattle.slab_laws.specs.Slabs.{spans, place, slab_left, slab_right, reaches_left, reaches_right, left_count, right_count}
use Rattle.slab_faces.proofs.Ints.{as_dif, dif_add, dif_sub, dif_mul, dif_same, times_less, less_back, zero_back, times_negatives, times_mixed}
use Rattle.slab_faces.proofs.OverUnder.{over_in, positive_not_over, zero_not_over}
use Rattle.slab_faces.proofs.Sums.{each, sum_by-same, sum_by-plus}
use Rattle.slab_faces.proofs.Walls.{left_of-asym, left_of-before, left_of-after, run_positive, on_line, same_abscissa, side-lower, side-upper, on_wall_parts}
use Rattle.slab_faces.proofs.Order.{below_from, below_asym, gap-on_e, gap-swap}
use Rattle.slab_faces.proofs.Cells.{IsSideOf, left_side, right_side, not_right_trans}
use Rattle.slab_faces.proofs.Slabs.{IsThrough, same_edge_from_touch, same_edge_is, same_edge_refl}
use Rattle.integers.proofs.Signs.{mul_pos'}

-- t lies on e, strictly between its ends, and on a wall
pub record IsOn (g : Skeleton) (e : Edge) (t : Point) : Type 0 where
  pub plane : IsPlaneSkeleton g
  pub wall : IsOnWall g t
  pub E : Contains g.edges e
  pub on : side e t ≡ pos 0
  pub through : IsThrough e t

-- ---- heights on the wall against the edge
pub height_on : (e : Edge) (t v : Point) → side e t ≡ pos 0 → left_of v t ≡ false → left_of t v ≡ false → t.w *ℤ side e v ≡ run e *ℤ (v.y *ℤ t.w -ℤ t.y *ℤ v.w)
unfolding side run
height_on e t v z a b =
    let q = e.high in
    let p = e.low in
    on_line (p.y *ℤ q.w -ℤ q.y *ℤ p.w) (q.x *ℤ p.w -ℤ p.x *ℤ q.w) (p.x *ℤ q.y -ℤ q.x *ℤ p.y) t.x t.y t.w v.x v.y v.w z (same_abscissa t v b a)

pub side_above : (e : Edge) (t v : Point) → HasWeight t → pos 0 <ℤ run e → side e t ≡ pos 0 → left_of v t ≡ false → left_of t v ≡ false → lower_than t v ≡ true → pos 0 <ℤ side e v
unfolding lower_than
side_above e t v T R z a b h =
    let i = height_on e t v z a b in
    let k = mul_pos' (run e) (v.y *ℤ t.w -ℤ t.y *ℤ v.w) R (omega (arith, ints)) in
    let o = *ℤ-zero t.w in
    less_back t.w (pos 0) (side e v) T (omega (arith, ints))

pub side_below : (e : Edge) (t v : Point) → HasWeight t → pos 0 <ℤ run e → side e t ≡ pos 0 → left_of v t ≡ false → left_of t v ≡ false → lower_than v t ≡ true → side e v <ℤ pos 0
unfolding lower_than
side_below e t v T R z a b h =
    let i = height_on e t v z a b in
    let k = times_less (run e) (v.y *ℤ t.w -ℤ t.y *ℤ v.w) (pos 0) R (omega (arith, ints)) in
    let o = *ℤ-zero t.w in
    let o' = *ℤ-zero (run e) in
    less_back t.w (side e v) (pos 0) T (omega (arith, ints))

-- f ends at v on the wall and passes t: then t and v have one height, so v is on e too
side_same : (e f : Edge) (t v : Point) → HasWeight t → pos 0 <ℤ run f → side e t ≡ pos 0 → side f t ≡ pos 0 → side f v ≡ pos 0 → left_of v t ≡ false → left_of t v ≡ false → side e v ≡ pos 0
side_same e f t v T R z z' z'' a b =
    let i = height_on f t v z' a b in
    let i' = rw (z'', *ℤ-zero) at i in
    let d = zero_back (run f) (v.y *ℤ t.w -ℤ t.y *ℤ v.w) R (sym i') in
    let j = height_on e t v z a b in
    let j' = rw (d, *ℤ-zero) at j in
    zero_back t.w (side e v) T j'

pub side_level : (e : Edge) (t v : Point) → HasWeight t → side e t ≡ pos 0 → left_of v t ≡ false → left_of t v ≡ false → lower_than t v ≡ false → lower_than v t ≡ false → side e v ≡ pos 0
unfolding lower_than
side_level e t v T z a b c d =
    let k : v.y *ℤ t.w -ℤ t.y *ℤ v.w ≡ pos 0 = omega (arith, ints) in
    let j = height_on e t v z a b in
    let j' = rw (k, *ℤ-zero) at j in
    zero_back t.w (side e v) T j'

-- no vertex on the wall lies on e
pub no_vertex : (g : Skeleton) (e : Edge) (t v : Point) → IsOn g e t → Contains g.vertices v → left_of v t ≡ false → left_of t v ≡ false → side e v ≡ pos 0 → ⊥
no_vertex g e t v o in' a b z =
    let q = o.plane.proper_edge e o.E in
    let V = o.plane.proper v in' in
    let T = o.wall.proper in
    let c = left_of-before e.low t v q.0 T V o.through.from a in
    let d = left_of-after v t e.high V T q.1 b o.through.to in
    let line : (not (lt_z (side e v) (pos 0)) && not (lt_z (pos 0) (side e v))) ≡ true = rw z refl in
    false≢true (sym (o.plane.clear e v o.E in') ∙ and_from _ _ (and_from _ _ (or_left _ _ c) (or_left _ _ d)) line)

-- ---- a vertical edge, with what is on its left and right
split : (a b c X Y W X' Y' W' : ℤ) → a *ℤ X +ℤ b *ℤ Y +ℤ c *ℤ W ≡ pos 0 → b ≡ pos 0 → W *ℤ (a *ℤ X' +ℤ b *ℤ Y' +ℤ c *ℤ W') ≡ a *ℤ (X' *ℤ W -ℤ X *ℤ W')
split a b c X Y W X' Y' W' e z =
    let i = ring a b c X Y W X' Y' W' in
    let i' = rw (e, *ℤ-zero) at i in
    let k : b *ℤ (Y' *ℤ W -ℤ Y *ℤ W') ≡ pos 0 = rw (z, zero-*ℤ (Y' *ℤ W -ℤ Y *ℤ W')) refl in
    let i'' = rw k at i' in
    omega (arith, ints)
  where
    ring : (a b c X Y W X' Y' W' : ℤ) → W *ℤ (a *ℤ X' +ℤ b *ℤ Y' +ℤ c *ℤ W') ≡ a *ℤ (X' *ℤ W -ℤ X *ℤ W') +ℤ (b *ℤ (Y' *ℤ W -ℤ Y *ℤ W') +ℤ W' *ℤ (a *ℤ X +ℤ b *ℤ Y +ℤ c *ℤ W))
    ring a b c d e f g h i = rw (as_dif a, as_dif b, as_dif c, as_dif d, as_dif e, as_dif f, as_dif g, as_dif h, as_dif i) (simp (dif_add, dif_sub, dif_mul) (dif_same _ _ _ _ (omega arith)))

pub upright_side : (f : Edge) (v : Point) → left_of f.low f.high ≡ false → left_of f.high f.low ≡ false → f.low.w *ℤ side f v ≡ (f.low.y *ℤ f.high.w -ℤ f.high.y *ℤ f.low.w) *ℤ (v.x *ℤ f.low.w -ℤ f.low.x *ℤ v.w)
unfolding side left_of
upright_side f v a b =
    let q = f.high in
    let p = f.low in
    let z : q.x *ℤ p.w -ℤ p.x *ℤ q.w ≡ pos 0 = omega (arith, ints) in
    split (p.y *ℤ q.w -ℤ q.y *ℤ p.w) (q.x *ℤ p.w -ℤ p.x *ℤ q.w) (p.x *ℤ q.y -ℤ q.x *ℤ p.y) p.x p.y p.w v.x v.y v.w (side-lower f) z

fall_left : (f : Edge) (v : Point) → lower_than f.low f.high ≡ true → left_of v f.low ≡ true → pos 0 <ℤ ((f.low.y *ℤ f.high.w -ℤ f.high.y *ℤ f.low.w) *ℤ (v.x *ℤ f.low.w -ℤ f.low.x *ℤ v.w))
unfolding left_of lower_than
fall_left f v c h = times_negatives (f.low.y *ℤ f.high.w -ℤ f.high.y *ℤ f.low.w) (v.x *ℤ f.low.w -ℤ f.low.x *ℤ v.w) (omega (arith, ints)) (omega (arith, ints))

fall_right : (f : Edge) (v : Point) → lower_than f.low f.high ≡ true → left_of f.low v ≡ true → ((f.low.y *ℤ f.high.w -ℤ f.high.y *ℤ f.low.w) *ℤ (v.x *ℤ f.low.w -ℤ f.low.x *ℤ v.w)) <ℤ pos 0
unfolding left_of lower_than
fall_right f v c h = times_mixed (f.low.y *ℤ f.high.w -ℤ f.high.y *ℤ f.low.w) (v.x *ℤ f.low.w -ℤ f.low.x *ℤ v.w) (omega (arith, ints)) (omega (arith, ints))

pub upright_left : (f : Edge) (v : Point) → HasWeight f.low → left_of f.low f.high ≡ false → left_of f.high f.low ≡ false → lower_than f.low f.high ≡ true → left_of v f.low ≡ true → pos 0 <ℤ side f v
upright_left f v P a b c h =
    let i = upright_side f v a b in
    let k = fall_left f v c h in
    let o = *ℤ-zero f.low.w in
    less_back f.low.w (pos 0) (side f v) P (omega (arith, ints))

pub upright_right : (f : Edge) (v : Point) → HasWeight f.low → left_of f.low f.high ≡ false → left_of f.high f.low ≡ false → lower_than f.low f.high ≡ true → left_of f.low v ≡ true → side f v <ℤ pos 0
upright_right f v P a b c h =
    let i = upright_side f v a b in
    let k = fall_right f v c h in
    let o = *ℤ-zero f.low.w in
    less_back f.low.w (side f v) (pos 0) P (omega (arith, ints))

-- a vertical edge on the wall, as far as its order of ends
pub record IsUpright (f : Edge) (t : Point) : Type 0 where
  pub lower_1 : left_of f.low t ≡ false
  pub lower_2 : left_of t f.low ≡ false
  pub upper_1 : left_of f.high t ≡ false
  pub upper_2 : left_of t f.high ≡ false

-- no vertical edge goes from below t to above it
pub no_upright : (g : Skeleton) (e f : Edge) (t : Point) → IsOn g e t → Contains g.edges f → IsUpright f t → lower_than f.low t ≡ true → lower_than t f.high ≡ true → ⊥
unfolding crosses
no_upright g e f t o F u h k =
    let p = o.plane.proper_edge f F in
    let q = o.plane.proper_edge e o.E in
    let T = o.wall.proper in
    let R = run_positive e (left_of-before e.low t e.high q.0 T q.1 o.through.from (left_of-asym _ _ o.through.to)) in
    let a1 = not_right_trans f.high t f.low p.1 T p.0 u.upper_2 u.lower_1 in
    let a2 = not_right_trans f.low t f.high p.0 T p.1 u.lower_2 u.upper_1 in
    let c = o.plane.upright f F (rw (a1, a2) refl) in
    let s1 = upright_left f e.low p.0 a1 a2 c (left_of-before e.low t f.low q.0 T p.0 o.through.from u.lower_1) in
    let s2 = upright_right f e.high p.0 a1 a2 c (left_of-after f.low t e.high p.0 T q.1 u.lower_2 o.through.to) in
    let s3 = side_below e t f.low T R o.on u.lower_1 u.lower_2 h in
    let s4 = side_above e t f.high T R o.on u.upper_1 u.upper_2 k in
    let t1 : true ≡ lt_z (pos 0) (side f e.low) = omega (arith, ints) in
    let t2 : true ≡ lt_z (side f e.high) (pos 0) = omega (arith, ints) in
    let t3 : true ≡ lt_z (side e f.low) (pos 0) = omega (arith, ints) in
    let t4 : true ≡ lt_z (pos 0) (side e f.high) = omega (arith, ints) in
    false≢true (sym (o.plane.uncrossed e f o.E F) ∙ and_from _ _ (sym t1) (and_from _ _ (sym t2) (and_from _ _ (sym t3) (sym t4))))

pub covers_parts : (f : Edge) (t : Point) → covers_above f t ≡ true → IsUpright f t × ((lower_than t f.low ≡ false) × (lower_than t f.high ≡ true))
covers_parts f t h =
    let a = and_parts ((on_wall f.low t && on_wall f.high t) && not (lower_than t f.low)) (lower_than t f.high) h in
    let b = and_parts (on_wall f.low t && on_wall f.high t) (not (lower_than t f.low)) a.0 in
    let c = and_parts (on_wall f.low t) (on_wall f.high t) b.0 in
    let d = on_wall_parts f.low t c.0 in
    let e = on_wall_parts f.high t c.1 in
    (record { lower_1 = d.0; lower_2 = d.1; upper_1 = e.0; upper_2 = e.1 }, (not-true _ b.1, a.1))

-- so the wall is open above t
pub open_above : (g : Skeleton) (e : Edge) (t : Point) → IsOn g e t → IsOpenAbove g t
open_above g e t o = record {
  open_at = λ f F. false_from_ne_true _ (λ h.
      let c = covers_parts f t h in
      let u = c.0 in
      elim (cases_Bool (lower_than f.low t)) [
        | inl a ↦ no_upright g e f t o F u a c.1.1
        | inr a ↦ no_vertex g e t f.low o (o.plane.lower_in f F) u.lower_1 u.lower_2 (side_level e t f.low o.wall.proper o.on u.lower_1 u.lower_2 c.1.0 a)
      ]);
}

-- ---- how an edge that reaches the wall stands to t
pub data Standing (e f : Edge) (t : Point) : Type 0 where
  same : e ≡ f → Standing e f t
  under : pos 0 <ℤ side f t → below f e ≡ true → Standing e f t
  above : side f t <ℤ pos 0 → below f e ≡ false → Standing e f t

-- a reaching edge that doesn't pass through ends on the wall
pub record IsReach (g : Skeleton) (t : Point) (i : ℕ) (reach : Edge → Bool) : Type 0 where
  pub sided : IsSideOf g t i reach
  pub reaches : (e : Edge) → IsThrough e t → reach e ≡ true
  pub ends_at : (f : Edge) → Contains g.edges f → reach f ≡ true → IsThrough f t ⊎ ((v : Point) × Contains g.vertices v × (left_of v t ≡ false) × (left_of t v ≡ false) × (side f v ≡ pos 0))

pub left_reach : (g : Skeleton) (t : Point) → IsPlaneSkeleton g → IsOnWall g t → IsReach g t (slab_left g t) (λ e. reaches_left e t)
left_reach g t plane wall = record {
  sided = left_side g t plane wall;
  reaches = λ e h. and_from _ _ h.from (ap not (left_of-asym _ _ h.to));
  ends_at = λ f F h.
      let a = and_parts (left_of f.low t) (not (left_of f.high t)) h in
      elim (cases_Bool (left_of t f.high)) [
        | inl k ↦ inl (record { from = a.0; to = k })
        | inr k ↦ inr (f.high, plane.upper_in f F, not-true _ a.1, k, side-upper f)
      ];
}

pub right_reach : (g : Skeleton) (t : Point) → IsPlaneSkeleton g → IsOnWall g t → IsReach g t (slab_right g t) (λ e. reaches_right e t)
right_reach g t plane wall = record {
  sided = right_side g t plane wall;
  reaches = λ e h. and_from _ _ (ap not (left_of-asym _ _ h.from)) h.to;
  ends_at = λ f F h.
      let a = and_parts (not (left_of t f.low)) (left_of t f.high) h in
      elim (cases_Bool (left_of f.low t)) [
        | inl k ↦ inl (record { from = k; to = a.1 })
        | inr k ↦ inr (f.low, plane.lower_in f F, k, not-true _ a.0, side-lower f)
      ];
}

pub standing : (g : Skeleton) (e f : Edge) (t : Point) (i : ℕ) (reach : Edge → Bool) → IsOn g e t → IsReach g t i reach → Contains g.edges f → reach f ≡ true → Standing e f t
standing g e f t i reach o r F h =
    let P = r.sided.passes f e F o.E h (r.reaches e o.through) in
    let Q = r.sided.passes e f o.E F (r.reaches e o.through) h in
    let G = gap-on_e f e t o.on in
    let S = gap-swap f e t in
    let re = run_positive e P.e_long in
    let rf = run_positive f P.f_long in
    let z = *ℤ-zero (run e) in
    by_lt_z (pos 0) (side f t)
    (λ k. let l = times_less (run e) (pos 0) (side f t) re k in under k (below_from f e t P (omega (arith, ints))))
    (λ k. by_lt_z (side f t) (pos 0)
    (λ l. let n = times_less (run e) (side f t) (pos 0) re l in
    let b = below_from e f t Q (omega (arith, ints)) in
    above l (false_from_ne_true _ (λ x. below_asym g f e o.plane F o.E x b)))
    (λ l. let s : side f t ≡ pos 0 = omega (arith, ints) in
    elim (r.ends_at f F h) [
      | inl u ↦ same (sym (same_edge_from_touch g f e t (record { plane = o.plane; F = F; E = o.E; P = o.wall.proper; f_through = u; e_through = o.through; z = rw (G, s, z) refl })))
      | inr u ↦ absurd (no_vertex g e t u.0 o u.1 u.2 u.3 (side_same e f t u.0 o.wall.proper rf o.on s u.4 u.2 u.3))
    ]))

-- ---- how many edges reach the wall at or below t: those below e, and e
at_place : (r o s b q : Bool) → s ≡ r → (q ≡ true → (r ≡ true) × (o ≡ false) × (b ≡ false)) → (r ≡ true → q ≡ false → b ≡ not o) → cond (r && not o) 1 0 ≡ cond (s && b) 1 0 + cond q 1 0
at_place r o s b true e h k = let a = h refl in rw (e, a.0, a.1, a.2) refl
at_place true o s b false e h k = rw (e, k refl refl) (either (not o))
  where
    either : (b : Bool) → cond b 1 0 ≡ cond b 1 0 + 0
    either true = refl
    either false = refl
at_place false o s b false e h k = rw e refl

pub below_self : (g : Skeleton) (e : Edge) → IsPlaneSkeleton g → Contains g.edges e → below e e ≡ false
below_self g e plane E = false_from_ne_true _ (λ h. below_asym g e e plane E E h h)

pub count_above : (g : Skeleton) (e : Edge) (t : Point) (i : ℕ) (reach : Edge → Bool) → IsOn g e t → IsReach g t i reach → count_by (λ f. reach f && not (over f t)) g.edges ≡ place g i e + 1
count_above g e t i reach o r =
    let now : Edge → ℕ = λ f. cond (reach f && not (over f t)) 1 0 in
    let below_e : Edge → ℕ = λ f. cond (spans g i f && below f e) 1 0 in
    let own : Edge → ℕ = λ f. cond (same_edge e f) 1 0 in
    let a : sum_by now g.edges ≡ sum_by (λ f. below_e f + own f) g.edges =
    sum_by-same now (λ f. below_e f + own f) g.edges (each (λ f. now f ≡ below_e f + own f) g.edges (λ f F.
    at_place (reach f) (over f t) (spans g i f) (below f e) (same_edge e f) (r.sided.spanned f F) (own_case f) (other_case f F))) in
    let b = sum_by-plus below_e own g.edges in
    let c = o.plane.edge_once e o.E in
    a ∙ b ∙ ap (λ n. place g i e + n) c
  where
    own_case : (f : Edge) → same_edge e f ≡ true → (reach f ≡ true) × (over f t ≡ false) × (below f e ≡ false)
    own_case f h =
        let P : Edge → Type 0 = λ x. (reach x ≡ true) × (over x t ≡ false) × (below x e ≡ false) in
        subst P (same_edge_is e f h) (r.reaches e o.through, zero_not_over e t o.on, below_self g e o.plane o.E)

    other_case : (f : Edge) → Contains g.edges f → reach f ≡ true → same_edge e f ≡ false → below f e ≡ not (over f t)
    other_case f F h n =
        elim (standing g e f t i reach o r F h) [
          | same k ↦ absurd (false≢true (sym n ∙ subst (λ x. same_edge e x ≡ true) k (same_edge_refl e)))
          | under k b ↦ b ∙ sym (ap not (positive_not_over f t k))
          | above k b ↦ b ∙ sym (ap not (over_in f t k))
        ]

-- the cells directly above e
pub along_above : (g : Skeleton) (e : Edge) (t : Point) → IsOn g e t → SameFace g (record { slab = slab_left g t; place = place g (slab_left g t) e + 1 }) (record { slab = slab_right g t; place = place g (slab_right g t) e + 1 })
along_above g e t o =
    let a : left_count g t ≡ place g (slab_left g t) e + 1 = count_above g e t (slab_left g t) (λ e. reaches_left e t) o (left_reach g t o.plane o.wall) in
    let b : right_count g t ≡ place g (slab_right g t) e + 1 = count_above g e t (slab_right g t) (λ e. reaches_right e t) o (right_reach g t o.plane o.wall) in
    let m : Meets g (record { slab = slab_left g t; place = left_count g t }) (record { slab = slab_right g t; place = right_count g t }) = across t o.wall (open_above g e t o) in
    let P : ℕ → ℕ → Type 0 = λ x y. Meets g (record { slab = slab_left g t; place = x }) (record { slab = slab_right g t; place = y }) in
    let m' : P (place g (slab_left g t) e + 1) (place g (slab_right g t) e + 1) = subst (λ x. P x (place g (slab_right g t) e + 1)) a (subst (λ y. P (left_count g t) y) b m) in
    right _ _ _ (here _) m'

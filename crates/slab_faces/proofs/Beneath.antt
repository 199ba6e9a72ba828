-- The cells directly below an edge, on both sides of a wall: they meet at a point just under the edge.
use Rattle.std.proofs.Common.{◌≡◌, ℕ, ◌+◌, Bool, true, false, cond, arith, refl, sym, ap, ◌∙◌, inl, inr, subst}
use Rattle.std.specs.Prelude.{ℤ, pos, ◌+ℤ◌, ◌-ℤ◌, ◌*ℤ◌, ◌<ℤ◌, ◌≤ℤ◌, not, ◌&&◌}
use Rattle.std.specs.List.{sum_by, count_by, Contains}
use Rattle.std.proofs.lemmas.Int.{ints, by_lt_z}
use Rattle.std.proofs.lemmas.Bool.{false_from_ne_true, cases_Bool}
use borrow.Author.Differences.{up}
use lib.IntN.{*ℤ-zero, zero-*ℤ}
use lib.Signed.{lt_z}
use Rattle.exact_plane.specs.Point.{Point}
use Rattle.plane_graphs.specs.Graph.{Edge}
use Rattle.slab_laws.specs.Skeleton.{Skeleton, HasWeight, left_of, lower_than, run, side, over, below}
use Rattle.slab_laws.specs.Meets.{IsOnWall, IsOpenAbove, Meets, SameFace, across, here, right}
use Rattle.slab_laws.specs.Slabs.{spans, place, slab_left, slab_right, reaches_left, reaches_right, left_count, right_count}
use Rattle.slab_laws.specs.declared.slab_cell.SlabCell.{SlabCell}
use Rattle.slab_faces.proofs.Ints.{as_dif, dif_add, dif_sub, dif_mul, dif_same, times_at_most, less_back, lt_z-scale}
use Rattle.slab_faces.proofs.OverUnder.{over_in, positive_not_over}
use Rattle.slab_faces.proofs.Sums.{each, sum_by-same}
use Rattle.slab_faces.proofs.Walls.{run_positive}
use Rattle.slab_faces.proofs.Nudge.{moved, moved_proper, large, left_side_of, right_side_of, minus_one, gap_of, fine, fine_up, fine_over}
use Rattle.slab_faces.proofs.Along.{IsOn, IsReach, IsUpright, same, under, above, standing, no_upright, no_vertex, covers_parts, side_level, left_reach, right_reach, below_self}

-- a point just below t
pub beneath : ℤ → Point → Point
beneath k t = moved k (pos 0) (pos 0 -ℤ pos 1) t

pub deep : Skeleton → ℤ
deep g = fine g +ℤ pos (sum_by (λ (f : Edge). up (run f)) g.edges + 1)

pub deep_up : (g : Skeleton) → pos 0 <ℤ deep g
unfolding deep
deep_up g = let a = fine_up g in omega (arith, ints)

pub deep_vertex : (g : Skeleton) (v : Point) → Contains g.vertices v → v.w <ℤ deep g
unfolding deep
deep_vertex g v in' = let a = fine_over g v in' in omega (arith, ints)

pub deep_edge : (g : Skeleton) (f : Edge) → Contains g.edges f → run f <ℤ deep g
unfolding deep
deep_edge g f in' = let a = large (λ (f : Edge). run f) g.edges f in' in let b = fine_up g in omega (arith, ints)

-- its abscissa is t's
plain : (k x W : ℤ) → (k *ℤ x +ℤ pos 0) *ℤ W ≡ k *ℤ (x *ℤ W)
plain k x W = let a = right_side_of k (pos 0) x W in let z = zero-*ℤ W in omega (arith, ints)

pub beneath_before : (k : ℤ) (t v : Point) → pos 0 <ℤ k → left_of v (beneath k t) ≡ left_of v t
unfolding left_of beneath moved
beneath_before k t v K =
    let e = left_side_of k k t.x t.w v.x v.w in
    let f = plain k t.x v.w in
    ap (λ x. lt_z x ((k *ℤ t.x +ℤ pos 0) *ℤ v.w)) e ∙ ap (λ y. lt_z (k *ℤ (v.x *ℤ t.w)) y) f ∙ lt_z-scale k (v.x *ℤ t.w) (t.x *ℤ v.w) K

pub beneath_after : (k : ℤ) (t v : Point) → pos 0 <ℤ k → left_of (beneath k t) v ≡ left_of t v
unfolding left_of beneath moved
beneath_after k t v K =
    let e = left_side_of k k t.x t.w v.x v.w in
    let f = plain k t.x v.w in
    ap (λ x. lt_z x (v.x *ℤ (k *ℤ t.w))) f ∙ ap (λ y. lt_z (k *ℤ (t.x *ℤ v.w)) y) e ∙ lt_z-scale k (t.x *ℤ v.w) (v.x *ℤ t.w) K

-- a vertex on the wall that isn't above the lower point is below t, and one that is above it isn't below t
pub vertex_below : (k : ℤ) (t v : Point) → pos 0 <ℤ k → HasWeight v → lower_than (beneath k t) v ≡ false → lower_than v t ≡ true
unfolding lower_than beneath moved
vertex_below k t v K V h =
    let e = left_side_of k k t.y t.w v.y v.w in
    let f = right_side_of k (pos 0 -ℤ pos 1) t.y v.w in
    let d = minus_one v.w in
    let a : (v.y *ℤ t.w) <ℤ (t.y *ℤ v.w) = less_back k (v.y *ℤ t.w) (t.y *ℤ v.w) K (omega (arith, ints)) in
    sym (omega (arith, ints))

pub vertex_not_below : (k : ℤ) (t v : Point) → pos 0 <ℤ k → v.w <ℤ k → lower_than (beneath k t) v ≡ true → lower_than v t ≡ false
unfolding lower_than beneath moved
vertex_not_below k t v K V h =
    let e = left_side_of k k t.y t.w v.y v.w in
    let f = right_side_of k (pos 0 -ℤ pos 1) t.y v.w in
    let d = minus_one v.w in
    by_lt_z (v.y *ℤ t.w) (t.y *ℤ v.w)
    (λ l. let a = gap_of k (v.y *ℤ t.w) (t.y *ℤ v.w) K l in absurd (omega (arith, ints)))
    (λ l. sym (omega (arith, ints)))

-- an edge's side of the lower point
slide : (a b c k x y w : ℤ) → a *ℤ (k *ℤ x +ℤ pos 0) +ℤ b *ℤ (k *ℤ y +ℤ (pos 0 -ℤ pos 1)) +ℤ c *ℤ (k *ℤ w) ≡ k *ℤ (a *ℤ x +ℤ b *ℤ y +ℤ c *ℤ w) -ℤ b
slide a b c k x y w =
    let i = ring a b c k x y w (pos 0) (pos 0 -ℤ pos 1) in
    let z = *ℤ-zero a in
    let m : b *ℤ (pos 0 -ℤ pos 1) ≡ pos 0 -ℤ b = omega (arith, ints) in
    omega (arith, ints)
  where
    ring : (a b c k x y w m n : ℤ) → a *ℤ (k *ℤ x +ℤ m) +ℤ b *ℤ (k *ℤ y +ℤ n) +ℤ c *ℤ (k *ℤ w) ≡ k *ℤ (a *ℤ x +ℤ b *ℤ y +ℤ c *ℤ w) +ℤ (a *ℤ m +ℤ b *ℤ n)
    ring a b c d e f g h i = rw (as_dif a, as_dif b, as_dif c, as_dif d, as_dif e, as_dif f, as_dif g, as_dif h, as_dif i) (simp (dif_add, dif_sub, dif_mul) (dif_same _ _ _ _ (omega arith)))

side_beneath : (f : Edge) (k : ℤ) (t : Point) → side f (beneath k t) ≡ k *ℤ side f t -ℤ run f
unfolding side run beneath moved
side_beneath f k t =
    slide (f.low.y *ℤ f.high.w -ℤ f.high.y *ℤ f.low.w) (f.high.x *ℤ f.low.w -ℤ f.low.x *ℤ f.high.w) (f.low.x *ℤ f.high.y -ℤ f.high.x *ℤ f.low.y) k t.x t.y t.w

pub still_under : (f : Edge) (k : ℤ) (t : Point) → pos 0 <ℤ k → run f <ℤ k → pos 0 <ℤ side f t → over f (beneath k t) ≡ false
still_under f k t K R h =
    let a = gap_of k (pos 0) (side f t) K h in
    let z = *ℤ-zero k in
    let e = side_beneath f k t in
    positive_not_over f (beneath k t) (omega (arith, ints))

pub now_over : (f : Edge) (k : ℤ) (t : Point) → pos 0 <ℤ k → pos 0 <ℤ run f → side f t ≤ℤ pos 0 → over f (beneath k t) ≡ true
now_over f k t K R h =
    let a = times_at_most k (side f t) (pos 0) K h in
    let z = *ℤ-zero k in
    let e = side_beneath f k t in
    over_in f (beneath k t) (omega (arith, ints))

-- ---- the wall is open there
pub beneath_on_wall : (g : Skeleton) (t : Point) → IsOnWall g t → IsOnWall g (beneath (deep g) t)
beneath_on_wall g t w = record {
  proper = beneath_proper (deep g) t (deep_up g) w.proper;
  vertex = w.vertex;
  is_vertex = w.is_vertex;
  same = rw (beneath_before (deep g) t w.vertex (deep_up g), beneath_after (deep g) t w.vertex (deep_up g)) w.same;
}
  where
    beneath_proper : (k : ℤ) (t : Point) → pos 0 <ℤ k → HasWeight t → HasWeight (beneath k t)
    beneath_proper k t K T = unfold beneath in moved_proper k (pos 0) (pos 0 -ℤ pos 1) t K T

beneath_open : (g : Skeleton) (e : Edge) (t : Point) → IsOn g e t → IsOpenAbove g (beneath (deep g) t)
beneath_open g e t o = record {
  open_at = λ f F. false_from_ne_true _ (λ h.
      let c = covers_parts f (beneath (deep g) t) h in
      let K = deep_up g in
      let u : IsUpright f t = record {
        lower_1 = sym (beneath_before (deep g) t f.low K) ∙ c.0.lower_1;
        lower_2 = sym (beneath_after (deep g) t f.low K) ∙ c.0.lower_2;
        upper_1 = sym (beneath_before (deep g) t f.high K) ∙ c.0.upper_1;
        upper_2 = sym (beneath_after (deep g) t f.high K) ∙ c.0.upper_2;
      } in
      let p = o.plane.proper_edge f F in
      let inq = o.plane.upper_in f F in
      let a = vertex_below (deep g) t f.low K p.0 c.1.0 in
      let b = vertex_not_below (deep g) t f.high K (deep_vertex g f.high inq) c.1.1 in
      elim (cases_Bool (lower_than t f.high)) [
        | inl l ↦ no_upright g e f t o F u a l
        | inr l ↦ no_vertex g e t f.high o inq u.upper_1 u.upper_2 (side_level e t f.high o.wall.proper o.on u.upper_1 u.upper_2 l b)
      ]);
}

-- ---- how many edges reach the wall below e
at_place : (r o s b : Bool) → s ≡ r → (r ≡ true → b ≡ not o) → cond {A = ℕ} (r && not o) 1 0 ≡ cond (s && b) 1 0
at_place true o s b e k = rw (e, k refl) refl
at_place false o s b e k = rw e refl

count_beneath : (g : Skeleton) (e : Edge) (t : Point) (i : ℕ) (reach : Edge → Bool) → IsOn g e t → IsReach g t i reach → count_by (λ f. reach f && not (over f (beneath (deep g) t))) g.edges ≡ place g i e
count_beneath g e t i reach o r =
    let now : Edge → ℕ = λ f. cond (reach f && not (over f (beneath (deep g) t))) 1 0 in
    let below_e : Edge → ℕ = λ f. cond (spans g i f && below f e) 1 0 in
    sum_by-same now below_e g.edges (each (λ f. now f ≡ below_e f) g.edges (λ f F.
    at_place (reach f) (over f (beneath (deep g) t)) (spans g i f) (below f e) (r.sided.spanned f F) (case f F)))
  where
    case : (f : Edge) → Contains g.edges f → reach f ≡ true → below f e ≡ not (over f (beneath (deep g) t))
    case f F h =
        let K = deep_up g in
        let R = run_positive f (r.sided.passes f e F o.E h (r.reaches e o.through)).f_long in
        elim (standing g e f t i reach o r F h) [
          | same k ↦
              let s : side f t ≡ pos 0 = subst (λ x. side x t ≡ pos 0) k o.on in
              let b : below f e ≡ false = subst (λ x. below x e ≡ false) k (below_self g e o.plane o.E) in
              b ∙ sym (ap not (now_over f (deep g) t K R (omega (arith, ints))))
          | under k b ↦ b ∙ sym (ap not (still_under f (deep g) t K (deep_edge g f F) k))
          | above k b ↦ b ∙ sym (ap not (now_over f (deep g) t K R (omega (arith, ints))))
        ]

-- the cells directly below e
pub along_below : (g : Skeleton) (e : Edge) (t : Point) → IsOn g e t → SameFace g (record { slab = slab_left g t; place = place g (slab_left g t) e }) (record { slab = slab_right g t; place = place g (slab_right g t) e })
along_below g e t o =
    let M = beneath (deep g) t in
    let K = deep_up g in
    let before : (v : Point) → left_of v M ≡ left_of v t = λ v. beneath_before (deep g) t v K in
    let after : (v : Point) → left_of M v ≡ left_of t v = λ v. beneath_after (deep g) t v K in
    let sl : slab_left g M ≡ slab_left g t = λ i. count_by (λ v. before v i) g.vertices in
    let sr : slab_right g M ≡ slab_right g t = λ i. count_by (λ v. not (after v i)) g.vertices in
    let cl : left_count g M ≡ count_by (λ f. reaches_left f t && not (over f M)) g.edges = λ i. count_by (λ f. (before f.low i && not (before f.high i)) && not (over f M)) g.edges in
    let cr : right_count g M ≡ count_by (λ f. reaches_right f t && not (over f M)) g.edges = λ i. count_by (λ f. (not (after f.low i) && after f.high i) && not (over f M)) g.edges in
    let a = cl ∙ count_beneath g e t (slab_left g t) (λ e. reaches_left e t) o (left_reach g t o.plane o.wall) in
    let b = cr ∙ count_beneath g e t (slab_right g t) (λ e. reaches_right e t) o (right_reach g t o.plane o.wall) in
    let m : Meets g (record { slab = slab_left g M; place = left_count g M }) (record { slab = slab_right g M; place = right_count g M }) = across M (beneath_on_wall g t o.wall) (beneath_open g e t o) in
    let m' : Meets g (record { slab = slab_left g t; place = place g (slab_left g t) e }) (record { slab = slab_right g t; place = place g (slab_right g t) e }) =
    subst (λ (p : SlabCell × SlabCell). Meets g p.0 p.1) (λ i. (record { slab = sl i; place = a i }, record { slab = sr i; place = b i })) m in
    right _ _ _ (here _) m'

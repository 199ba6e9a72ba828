-- A point moved by less than anything in the graph can tell: into the slab beside its wall, or a little down the wall.
use Rattle.std.proofs.Common.{◌≡◌, ◌+◌, ◌≤◌, Bool, true, false, arith, refl, sym, ◌∙◌, List, get_or}
use Rattle.std.specs.Prelude.{ℤ, pos, ◌+ℤ◌, ◌-ℤ◌, ◌*ℤ◌, ◌<ℤ◌, ◌≤ℤ◌, not}
use Rattle.std.specs.List.{sum_by, Contains}
use Rattle.std.proofs.lemmas.Int.{ints}
use Rattle.std.proofs.lemmas.List.Sums.{get_or-le-sum_by}
use borrow.Author.Differences.{up}
use Rattle.exact_plane.specs.Point.{Point}
use Rattle.slab_laws.specs.Skeleton.{Skeleton, HasWeight, left_of, IsPlaneSkeleton}
use Rattle.slab_laws.specs.Meets.{IsOnWall}
use Rattle.slab_laws.specs.Slabs.{slab_left, slab_right}
use Rattle.slab_faces.proofs.Ints.{as_dif, dif_add, dif_sub, dif_mul, dif_same, pos_dif, times_at_most}
use Rattle.slab_faces.proofs.Walls.{left_of-asym}
use Rattle.slab_faces.proofs.Cells.{spans_left, spans_right, both}
use Rattle.slab_faces.proofs.Slabs.{IsSlab}
use Rattle.integers.proofs.Signs.{mul_pos'}

-- t, moved by (dx, dy) of its own k-th part
unfoldable pub moved : ℤ → ℤ → ℤ → Point → Point
moved k dx dy t = record { x = k *ℤ t.x +ℤ dx; y = k *ℤ t.y +ℤ dy; w = k *ℤ t.w }

-- a sum bounds each of its terms
pub large : {X : Type 0} (f : X → ℤ) (xs : List X) (x : X) → Contains xs x → f x <ℤ pos (sum_by (λ y. up (f y)) xs + 1)
large f xs x in' =
    let a : up (f (get_or xs in'.0 x)) ≤ sum_by (λ y. up (f y)) xs = get_or-le-sum_by (λ y. up (f y)) xs in'.0 x in'.1 in
    let b : up (f x) ≤ sum_by (λ y. up (f y)) xs = rw in'.2 at a in
    omega (arith, ints)

pub moved_proper : (k dx dy : ℤ) (t : Point) → pos 0 <ℤ k → HasWeight t → HasWeight (moved k dx dy t)
unfolding moved
moved_proper k dx dy t K T = mul_pos' k t.w K T

pub left_side_of : (k d x w X W : ℤ) → X *ℤ (k *ℤ w) ≡ k *ℤ (X *ℤ w)
left_side_of k d x w X W = rw (as_dif k, as_dif w, as_dif X) (simp (dif_add, dif_sub, dif_mul) (dif_same _ _ _ _ (omega arith)))

pub right_side_of : (k d x W : ℤ) → (k *ℤ x +ℤ d) *ℤ W ≡ k *ℤ (x *ℤ W) +ℤ d *ℤ W
right_side_of k d x W = rw (as_dif k, as_dif d, as_dif x, as_dif W) (simp (dif_add, dif_sub, dif_mul) (dif_same _ _ _ _ (omega arith)))

one_more : (k a : ℤ) → k *ℤ (a +ℤ pos 1) ≡ k *ℤ a +ℤ k
one_more k a = rw (as_dif k, as_dif a, pos_dif 1) (simp (dif_add, dif_sub, dif_mul) (dif_same _ _ _ _ (omega arith)))

pub minus_one : (a : ℤ) → (pos 0 -ℤ pos 1) *ℤ a ≡ pos 0 -ℤ a
minus_one a = omega (arith, ints)

plus_one : (a : ℤ) → pos 1 *ℤ a ≡ a
plus_one a = omega (arith, ints)

-- a + 1 ≤ b in whole numbers, k times
pub gap_of : (k a b : ℤ) → pos 0 <ℤ k → a <ℤ b → (k *ℤ a +ℤ k) ≤ℤ (k *ℤ b)
gap_of k a b K h =
    let r = times_at_most k (a +ℤ pos 1) b K (omega (arith, ints)) in
    let e = one_more k a in
    omega (arith, ints)

-- ---- to the left
before_left : (k dy : ℤ) (t v : Point) → pos 0 <ℤ k → v.w <ℤ k → left_of v t ≡ true → left_of v (moved k (pos 0 -ℤ pos 1) dy t) ≡ true
unfolding left_of moved
before_left k dy t v K V h =
    let a = gap_of k (v.x *ℤ t.w) (t.x *ℤ v.w) K (omega (arith, ints)) in
    let b = left_side_of k k t.x t.w v.x v.w in
    let c = right_side_of k (pos 0 -ℤ pos 1) t.x v.w in
    let d = minus_one v.w in
    let e : (v.x *ℤ (k *ℤ t.w)) <ℤ ((k *ℤ t.x +ℤ (pos 0 -ℤ pos 1)) *ℤ v.w) = omega (arith, ints) in
    sym (omega (arith, ints))

after_left : (k dy : ℤ) (t v : Point) → pos 0 <ℤ k → HasWeight v → left_of v t ≡ false → left_of (moved k (pos 0 -ℤ pos 1) dy t) v ≡ true
unfolding left_of moved
after_left k dy t v K V h =
    let a = times_at_most k (t.x *ℤ v.w) (v.x *ℤ t.w) K (omega (arith, ints)) in
    let b = left_side_of k k t.x t.w v.x v.w in
    let c = right_side_of k (pos 0 -ℤ pos 1) t.x v.w in
    let d = minus_one v.w in
    let e : ((k *ℤ t.x +ℤ (pos 0 -ℤ pos 1)) *ℤ v.w) <ℤ (v.x *ℤ (k *ℤ t.w)) = omega (arith, ints) in
    sym (omega (arith, ints))

-- ---- to the right
before_right : (k dy : ℤ) (t v : Point) → pos 0 <ℤ k → HasWeight v → left_of t v ≡ false → left_of v (moved k (pos 1) dy t) ≡ true
unfolding left_of moved
before_right k dy t v K V h =
    let a = times_at_most k (v.x *ℤ t.w) (t.x *ℤ v.w) K (omega (arith, ints)) in
    let b = left_side_of k k t.x t.w v.x v.w in
    let c = right_side_of k (pos 1) t.x v.w in
    let d = plus_one v.w in
    let e : (v.x *ℤ (k *ℤ t.w)) <ℤ ((k *ℤ t.x +ℤ pos 1) *ℤ v.w) = omega (arith, ints) in
    sym (omega (arith, ints))

after_right : (k dy : ℤ) (t v : Point) → pos 0 <ℤ k → v.w <ℤ k → left_of t v ≡ true → left_of (moved k (pos 1) dy t) v ≡ true
unfolding left_of moved
after_right k dy t v K V h =
    let a = gap_of k (t.x *ℤ v.w) (v.x *ℤ t.w) K (omega (arith, ints)) in
    let b = left_side_of k k t.x t.w v.x v.w in
    let c = right_side_of k (pos 1) t.x v.w in
    let d = plus_one v.w in
    let e : ((k *ℤ t.x +ℤ pos 1) *ℤ v.w) <ℤ (v.x *ℤ (k *ℤ t.w)) = omega (arith, ints) in
    sym (omega (arith, ints))

-- ---- so a slab beside a wall has a point inside
pub fine : Skeleton → ℤ
fine g = pos (sum_by (λ (v : Point). up v.w) g.vertices + 1)

pub fine_up : (g : Skeleton) → pos 0 <ℤ fine g
unfolding fine
fine_up g = omega (arith, ints)

pub fine_over : (g : Skeleton) (v : Point) → Contains g.vertices v → v.w <ℤ fine g
unfolding fine
fine_over g v in' = large (λ (v : Point). v.w) g.vertices v in'

pub left_inside : Skeleton → Point → Point
left_inside g t = moved (fine g) (pos 0 -ℤ pos 1) (pos 0) t

pub right_inside : Skeleton → Point → Point
right_inside g t = moved (fine g) (pos 1) (pos 0) t

-- two tests, of which one is true where the other is false
same_test : (a b c : Bool) → (a ≡ true → b ≡ true) → (a ≡ false → c ≡ true) → (c ≡ true → b ≡ false) → a ≡ b
same_test true b c f h k = sym (f refl)
same_test false b c f h k = sym (k (h refl))

other_test : (a b c : Bool) → (a ≡ true → c ≡ true) → (c ≡ true → b ≡ false) → (a ≡ false → b ≡ true) → not a ≡ b
other_test true b c f h k = sym (h (f refl))
other_test false b c f h k = sym (k refl)

pub is_slab_left : (g : Skeleton) (t : Point) → IsPlaneSkeleton g → IsOnWall g t → IsSlab g (slab_left g t) (left_inside g t)
unfolding left_inside
is_slab_left g t plane wall = record {
  proper = moved_proper (fine g) _ _ t (fine_up g) wall.proper;
  spanned = λ e E.
      let p = e.low in
      let q = e.high in
      let inp = plane.lower_in e E in
      let inq = plane.upper_in e E in
      let P = plane.proper p inp in
      let Q = plane.proper q inq in
      let M = moved (fine g) (pos 0 -ℤ pos 1) (pos 0) t in
      spans_left g t e plane wall E ∙ both _ _ _ _
      (same_test (left_of p t) (left_of p M) (left_of M p) (λ h. before_left _ _ t p (fine_up g) (fine_over g p inp) h) (λ h. after_left _ _ t p (fine_up g) P h) (λ h. left_of-asym M p h))
      (other_test (left_of q t) (left_of M q) (left_of q M) (λ h. before_left _ _ t q (fine_up g) (fine_over g q inq) h) (λ h. left_of-asym q M h) (λ h. after_left _ _ t q (fine_up g) Q h));
}

pub is_slab_right : (g : Skeleton) (t : Point) → IsPlaneSkeleton g → IsOnWall g t → IsSlab g (slab_right g t) (right_inside g t)
unfolding right_inside
is_slab_right g t plane wall = record {
  proper = moved_proper (fine g) _ _ t (fine_up g) wall.proper;
  spanned = λ e E.
      let p = e.low in
      let q = e.high in
      let inp = plane.lower_in e E in
      let inq = plane.upper_in e E in
      let P = plane.proper p inp in
      let Q = plane.proper q inq in
      let M = moved (fine g) (pos 1) (pos 0) t in
      spans_right g t e plane wall E ∙ both _ _ _ _
      (other_test (left_of t p) (left_of p M) (left_of M p) (λ h. after_right _ _ t p (fine_up g) (fine_over g p inp) h) (λ h. left_of-asym M p h) (λ h. before_right _ _ t p (fine_up g) P h))
      (same_test (left_of t q) (left_of M q) (left_of q M) (λ h. after_right _ _ t q (fine_up g) (fine_over g q inq) h) (λ h. before_right _ _ t q (fine_up g) Q h) (λ h. left_of-asym q M h));
}

-- A point a little to the right of a vertex: on the same side of all others as the vertex, and on no wall.
use Rattle.std.proofs.Common.{◌≡◌, true, false, arith, sym, [], ◌∷◌}
use Rattle.std.specs.Prelude.{pos, ◌<ℤ◌, ◌*ℤ◌, ◌+ℤ◌, ℤ}
use Rattle.std.specs.List.{Contains}
use Rattle.std.proofs.lemmas.Int.{ints}
use Rattle.integers.proofs.Reify.{ring, sides}
use Rattle.exact_plane.specs.Point.{Point}
use Rattle.slab_laws.specs.Skeleton.{Skeleton, HasWeight, left_of}
use Rattle.slab_faces.proofs.Ints.{times_at_most}
use Rattle.slab_faces.proofs.Nudge.{moved, moved_proper, gap_of, right_side_of, fine, fine_up, fine_over}

plus_one : (a : ℤ) → pos 1 *ℤ a ≡ a
plus_one a = omega (arith, ints)

left_times : (k w x : ℤ) → x *ℤ (k *ℤ w) ≡ k *ℤ (x *ℤ w)
left_times k w x = ring (k ∷ w ∷ x ∷ []) (search sides depth 40 fits 20000) tt

pub beside_wall : Skeleton → Point → Point
beside_wall s t = moved (fine s) (pos 1) (pos 0) t

pub beside_proper : (s : Skeleton) (t : Point) → HasWeight t → HasWeight (beside_wall s t)
unfolding beside_wall
beside_proper s t T = moved_proper (fine s) (pos 1) (pos 0) t (fine_up s) T

pub upto_beside : (s : Skeleton) (t v : Point) → HasWeight v → left_of t v ≡ false → left_of v (beside_wall s t) ≡ true
unfolding left_of moved beside_wall
upto_beside s t v V h =
    let k = fine s in
    let K = fine_up s in
    let a = times_at_most k (v.x *ℤ t.w) (t.x *ℤ v.w) K (omega (arith, ints)) in
    let b : v.x *ℤ (k *ℤ t.w) ≡ k *ℤ (v.x *ℤ t.w) = left_times k t.w v.x in
    let c = right_side_of k (pos 1) t.x v.w in
    let d = plus_one v.w in
    let e : (v.x *ℤ (k *ℤ t.w)) <ℤ ((k *ℤ t.x +ℤ pos 1) *ℤ v.w) = omega (arith, ints) in
    sym (omega (arith, ints))

pub after_beside : (s : Skeleton) (t v : Point) → Contains s.vertices v → left_of t v ≡ true → left_of (beside_wall s t) v ≡ true
unfolding left_of moved beside_wall
after_beside s t v V h =
    let k = fine s in
    let a = gap_of k (t.x *ℤ v.w) (v.x *ℤ t.w) (fine_up s) (omega (arith, ints)) in
    let b : v.x *ℤ (k *ℤ t.w) ≡ k *ℤ (v.x *ℤ t.w) = left_times k t.w v.x in
    let c = right_side_of k (pos 1) t.x v.w in
    let d = plus_one v.w in
    let o = fine_over s v V in
    let e : ((k *ℤ t.x +ℤ pos 1) *ℤ v.w) <ℤ (v.x *ℤ (k *ℤ t.w)) = omega (arith, ints) in
    sym (omega (arith, ints))

-- Points with positive weights in their order, by walls and heights.
use Rattle.std.proofs.Common.{◌≡◌, pos, ◌<ℤ◌, ◌*ℤ◌, true, arith, refl, ◌∙◌, inl, inr, Less, int_cmp}
use Rattle.std.proofs.lemmas.Int.{ints}
use Rattle.integers.proofs.Compare.{less_in, equal_in}
use Rattle.exact_plane.specs.Point.{Point}
use Rattle.exact_plane.specs.Plane.{RunsForward}
use Rattle.exact_plane.specs.PointOrder.{by_x, by_y, point_cmp}
use Rattle.exact_plane.proofs.Places.{weight-is}
use Rattle.plane_graphs.proofs.Crossed.{less_by, less_then}
use Rattle.plane_graphs.proofs.Lines.{span_a, span_b}
use Rattle.plane_graphs.proofs.Order.{Lt}
use Rattle.slab_laws.specs.Skeleton.{HasWeight, precedes}
use Rattle.slab_faces.proofs.PlaneGraphs.{comes_runs}

x_is : (p q : Point) → HasWeight p → HasWeight q → by_x p q ≡ int_cmp (p.x *ℤ q.w) (q.x *ℤ p.w)
x_is p q P Q = rw (weight-is p.w P, weight-is q.w Q) refl

y_is : (p q : Point) → HasWeight p → HasWeight q → by_y p q ≡ int_cmp (p.y *ℤ q.w) (q.y *ℤ p.w)
y_is p q P Q = rw (weight-is p.w P, weight-is q.w Q) refl

by_runs : (p q : Point) → HasWeight p → HasWeight q → RunsForward (span_a p q) (span_b p q) → point_cmp p q ≡ Less
by_runs p q P Q (inl h) =
    let l : (p.x *ℤ q.w) <ℤ (q.x *ℤ p.w) = omega (arith, ints) in
    less_by (by_x p q) (by_y p q) (int_cmp p.w q.w) (x_is p q P Q ∙ less_in (p.x *ℤ q.w) (q.x *ℤ p.w) l)
by_runs p q P Q (inr h) =
    let e : p.x *ℤ q.w ≡ q.x *ℤ p.w = (let f : span_b p q ≡ pos 0 = h.0 in omega (arith, ints)) in
    let l : (p.y *ℤ q.w) <ℤ (q.y *ℤ p.w) = (let f : span_a p q <ℤ pos 0 = h.1 in omega (arith, ints)) in
    less_then (by_x p q) (by_y p q) (int_cmp p.w q.w) (x_is p q P Q ∙ equal_in (p.x *ℤ q.w) (q.x *ℤ p.w) e) (y_is p q P Q ∙ less_in (p.y *ℤ q.w) (q.y *ℤ p.w) l)

-- what comes before by walls and heights comes before in the order of points
pub before : (p q : Point) → HasWeight p → HasWeight q → precedes p q ≡ true → Lt p q
before p q P Q h = record { is = by_runs p q P Q (comes_runs p q h) }

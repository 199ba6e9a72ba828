-- Across a wall: the weights of the edges above a point, on its left and on its right, are together even.
use Rattle.std.proofs.Common.{◌≡◌, ℕ, ◌+◌, Bool, true, false, cond, arith, refl, sym, ap, ◌∙◌, List, subst}
use Rattle.std.specs.Prelude.{not, ◌&&◌}
use Rattle.std.specs.List.{sum_by, Contains}
use Rattle.std.proofs.lemmas.Bool.{true≢false, false≢true, and_parts, and_from, false_from_ne_true}
use Rattle.std.proofs.lemmas.Bool.Decides.{Decides-int_eq}
use Rattle.exact_plane.specs.Point.{Point}
use Rattle.plane_graphs.specs.Graph.{Edge}
use Rattle.slab_laws.specs.Skeleton.{Skeleton, HasWeight, left_of, lower_than, on_wall, over, same_point, IsPlaneSkeleton}
use Rattle.slab_laws.specs.Slabs.{reaches_left, reaches_right}
use Rattle.slab_laws.specs.Meets.{covers_above, IsOpenAbove}
use Rattle.slab_laws.specs.Weights.{Even, at_end, IsEvenAtVertices, left_weight, right_weight, cover_weight}
use Rattle.std.specs.Ordering.{int_eq}
use Rattle.slab_faces.proofs.Sums.{each, even_sum, sum_by-none, sum_by-plus, sum_by-same, sum_by-swap, cond-sum_by, sum_by-once}
use Rattle.slab_faces.proofs.Walls.{left_of-asym, left_of-before, left_of-after, lower_than-before, lower_than-asym, over-upper, over-lower}

-- p and q are the edge's ends: pt says that p is left of the wall, tp that it is right of it, and yp that it is above the point
pub even_edge : (pt tp qt tq u yp yq : Bool) (n : ℕ) → (pt ≡ true → tp ≡ false) → (qt ≡ true → tq ≡ false) → (qt ≡ true → pt ≡ true) → (tp ≡ true → tq ≡ true) → (pt ≡ true → qt ≡ false → tq ≡ false → u ≡ yq) → (pt ≡ false → tp ≡ false → tq ≡ true → u ≡ yp) → (pt ≡ false → tp ≡ false → qt ≡ false → tq ≡ false → yp ≡ true → yq ≡ true) → Even (cond ((pt && not qt) && u) n 0 + cond ((not tp && tq) && u) n 0 + cond ((((not pt && not tp) && (not qt && not tq)) && not yp) && yq) n 0 + (cond ((not pt && not tp) && yp) n 0 + cond ((not qt && not tq) && yq) n 0))
even_edge true true qt tq u yp yq n h1 h2 h3 h4 g1 g2 g3 = absurd (true≢false (h1 refl))
even_edge true false true true u yp yq n h1 h2 h3 h4 g1 g2 g3 = absurd (true≢false (h2 refl))
even_edge true false true false u yp yq n h1 h2 h3 h4 g1 g2 g3 = refl
even_edge true false false true u yp yq n h1 h2 h3 h4 g1 g2 g3 = omega arith
even_edge true false false false u yp yq n h1 h2 h3 h4 g1 g2 g3 = rw (g1 refl refl refl) (omega arith)
even_edge false tp true tq u yp yq n h1 h2 h3 h4 g1 g2 g3 = absurd (false≢true (h3 refl))
even_edge false true false true u yp yq n h1 h2 h3 h4 g1 g2 g3 = refl
even_edge false true false false u yp yq n h1 h2 h3 h4 g1 g2 g3 = absurd (false≢true (h4 refl))
even_edge false false false true u yp yq n h1 h2 h3 h4 g1 g2 g3 = rw (g2 refl refl refl) (omega arith)
even_edge false false false false u true yq n h1 h2 h3 h4 g1 g2 g3 = rw (g3 refl refl refl refl refl) (omega arith)
even_edge false false false false u false true n h1 h2 h3 h4 g1 g2 g3 = omega arith
even_edge false false false false u false false n h1 h2 h3 h4 g1 g2 g3 = refl

pub same_point_is : (p q : Point) → same_point p q ≡ true → p ≡ q
same_point_is p q h =
    let a = and_parts (int_eq p.x q.x && int_eq p.y q.y) (int_eq p.w q.w) h in
    let b = and_parts (int_eq p.x q.x) (int_eq p.y q.y) a.0 in
    let ex = (Decides-int_eq p.x q.x).0 b.0 in
    let ey = (Decides-int_eq p.y q.y).0 b.1 in
    let ew = (Decides-int_eq p.w q.w).0 a.1 in
    λ i. record { x = ex i; y = ey i; w = ew i }

pub same_point_refl : (p : Point) → same_point p p ≡ true
same_point_refl p = and_from _ _ (and_from _ _ ((Decides-int_eq p.x p.x).1 refl) ((Decides-int_eq p.y p.y).1 refl)) ((Decides-int_eq p.w p.w).1 refl)

-- a vertex on t's wall, strictly above t
abbrev pub is_over : Point → Point → Bool
is_over t v = (not (left_of v t) && not (left_of t v)) && lower_than t v

pub even_if : (b : Bool) (n : ℕ) → Even n → Even (cond b n 0)
even_if true n h = h
even_if false n h = refl

-- each vertex above t has an even sum of weights, so all of them have
even_vertices : (g : Skeleton) (m : Edge → ℕ) (t : Point) → IsEvenAtVertices g m → Even (sum_by (λ v. sum_by (λ e. cond (is_over t v) (at_end m v e) 0) g.edges) g.vertices)
even_vertices g m t even =
    even_sum _ g.vertices (each _ g.vertices (λ v in'. at (is_over t v) (at_end m v) g.edges (even.even_at v in')))
  where
    at : (b : Bool) (f : Edge → ℕ) (es : List Edge) → Even (sum_by f es) → Even (sum_by (λ e. cond b (f e) 0) es)
    at b f es h = rw (← cond-sum_by b f es) (even_if b (sum_by f es) h)

-- the vertices above t count, for an edge, its ends among them
ends_above : (g : Skeleton) (m : Edge → ℕ) (t : Point) (e : Edge) → IsPlaneSkeleton g → Contains g.edges e → sum_by (λ v. cond (is_over t v) (at_end m v e) 0) g.vertices ≡ cond (is_over t e.low) (m e) 0 + cond (is_over t e.high) (m e) 0
ends_above g m t e plane in' =
    let a : sum_by (λ v. cond (is_over t v) (cond (same_point e.low v) (m e) 0) 0) g.vertices ≡ cond (is_over t e.low) (m e) 0 =
    sum_by-once (is_over t) (same_point e.low) e.low (m e) g.vertices (λ v h. ap (is_over t) (sym (same_point_is e.low v h))) (plane.lower_once e in') in
    let b : sum_by (λ v. cond (is_over t v) (cond (same_point e.high v) (m e) 0) 0) g.vertices ≡ cond (is_over t e.high) (m e) 0 =
    sum_by-once (is_over t) (same_point e.high) e.high (m e) g.vertices (λ v h. ap (is_over t) (sym (same_point_is e.high v h))) (plane.upper_once e in') in
    let c : sum_by (λ v. cond (is_over t v) (at_end m v e) 0) g.vertices ≡ sum_by (λ v. cond (is_over t v) (cond (same_point e.low v) (m e) 0) 0 + cond (is_over t v) (cond (same_point e.high v) (m e) 0) 0) g.vertices =
    sum_by-same _ _ g.vertices (each _ g.vertices (λ v _. split (is_over t v) (cond (same_point e.low v) (m e) 0) (cond (same_point e.high v) (m e) 0))) in
    let d = sum_by-plus (λ v. cond (is_over t v) (cond (same_point e.low v) (m e) 0) 0) (λ v. cond (is_over t v) (cond (same_point e.high v) (m e) 0) 0) g.vertices in
    omega arith
  where
    split : (b : Bool) (x y : ℕ) → cond b (x + y) 0 ≡ cond b x 0 + cond b y 0
    split true x y = refl
    split false x y = refl

-- a vertical edge whose lower end is above t is above t
upright_over : (g : Skeleton) (t : Point) (e : Edge) → IsPlaneSkeleton g → HasWeight t → Contains g.edges e → left_of e.low t ≡ false → left_of t e.high ≡ false → lower_than t e.low ≡ true → lower_than t e.high ≡ true
upright_over g t e plane T in' a d h =
    let P = (plane.proper_edge e in').0 in
    let Q = (plane.proper_edge e in').1 in
    let u : left_of e.low e.high ≡ false =
    false_from_ne_true _ (λ h. false≢true (sym a ∙ left_of-before e.low e.high t P Q T h d)) in
    let w : on_wall e.low e.high ≡ true = rw (u, plane.forward e in') refl in
    lower_than-before t e.low e.high T P Q h (lower_than-asym e.low e.high (plane.upright e in' w))

-- what one edge adds to the sums
edge_even : (g : Skeleton) (m : Edge → ℕ) (t : Point) (e : Edge) → IsPlaneSkeleton g → HasWeight t → Contains g.edges e → Even (cond (reaches_left e t && over e t) (m e) 0 + cond (reaches_right e t && over e t) (m e) 0 + cond (covers_above e t) (m e) 0 + (cond (is_over t e.low) (m e) 0 + cond (is_over t e.high) (m e) 0))
edge_even g m t e plane T in' =
    let P = (plane.proper_edge e in').0 in
    let Q = (plane.proper_edge e in').1 in
    let f = plane.forward e in' in
    even_edge (left_of e.low t) (left_of t e.low) (left_of e.high t) (left_of t e.high) (over e t) (lower_than t e.low) (lower_than t e.high) (m e)
    (left_of-asym e.low t)
    (left_of-asym e.high t)
    (λ h. left_of-after e.low e.high t P Q T f h)
    (λ h. left_of-before t e.low e.high T P Q h f)
    (λ a b c. over-upper e t Q (left_of-before e.low t e.high P T Q a b) b c)
    (λ a b c. over-lower e t P (left_of-after e.low t e.high P T Q b c) a b)
    (λ a b c d h. upright_over g t e plane T in' a d h)

-- above any point: the edges that reach its wall from the left and from the right, and the vertical one just above it
pub parity_wall : (g : Skeleton) (m : Edge → ℕ) (t : Point) → IsPlaneSkeleton g → IsEvenAtVertices g m → HasWeight t → Even (left_weight g m t + right_weight g m t + cover_weight g m t)
parity_wall g m t plane even T =
    let L : Edge → ℕ = λ e. cond (reaches_left e t && over e t) (m e) 0 in
    let R : Edge → ℕ = λ e. cond (reaches_right e t && over e t) (m e) 0 in
    let C : Edge → ℕ = λ e. cond (covers_above e t) (m e) 0 in
    let E : Edge → ℕ = λ e. sum_by (λ v. cond (is_over t v) (at_end m v e) 0) g.vertices in
    let a : Even (sum_by E g.edges) =
    subst Even (sum_by-swap (λ v e. cond (is_over t v) (at_end m v e) 0) g.vertices g.edges) (even_vertices g m t even) in
    let b : Even (sum_by (λ e. L e + R e + C e + E e) g.edges) =
    even_sum _ g.edges (each _ g.edges (λ e in'. subst (λ n. Even (L e + R e + C e + n)) (sym (ends_above g m t e plane in')) (edge_even g m t e plane T in'))) in
    let c = sum_by-plus (λ e. L e + R e + C e) E g.edges in
    let c' = sum_by-plus (λ e. L e + R e) C g.edges in
    let d = sum_by-plus L R g.edges in
    omega arith

-- where no vertical edge covers the wall just above t
pub parity_across : (g : Skeleton) (m : Edge → ℕ) (t : Point) → IsPlaneSkeleton g → IsEvenAtVertices g m → HasWeight t → IsOpenAbove g t → Even (left_weight g m t + right_weight g m t)
parity_across g m t plane even T free =
    let a = parity_wall g m t plane even T in
    let b : cover_weight g m t ≡ sum_by (λ (e : Edge). 0) g.edges =
    sum_by-same (λ e. cond (covers_above e t) (m e) 0) (λ (e : Edge). 0) g.edges (each (λ e. cond (covers_above e t) (m e) 0 ≡ 0) g.edges (λ e in'. ap (λ x. cond x (m e) 0) (free.open_at e in'))) in
    let c = sum_by-none g.edges in
    omega arith

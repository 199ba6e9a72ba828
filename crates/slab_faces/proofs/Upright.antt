-- Over a vertical edge: the cells on its two sides differ by its weight.
use Rattle.std.proofs.Common.{◌≡◌, ℕ, ◌+◌, true, false, cond, arith, refl, sym, ap, ◌∙◌, subst, inl, inr}
use Rattle.std.specs.Prelude.{pos, not, ◌&&◌}
use Rattle.std.specs.List.{sum_by, Contains}
use Rattle.std.proofs.lemmas.Bool.{false≢true, and_from, false_from_ne_true, cases_Bool}
use lib.IntN.{*ℤ-zero}
use lib.Signed.{lt_z}
use Rattle.exact_plane.specs.Point.{Point}
use Rattle.plane_graphs.specs.Graph.{Edge}
use Rattle.slab_laws.specs.Skeleton.{Skeleton, HasWeight, left_of, lower_than, on_wall, side, same_edge, IsPlaneSkeleton}
use Rattle.slab_laws.specs.Meets.{covers_above}
use Rattle.slab_laws.specs.Weights.{Even, IsEvenAtVertices, weight_above, left_weight, right_weight, cover_weight}
use Rattle.slab_laws.specs.Slabs.{slab_left, slab_right, left_count, right_count, reaches_left, reaches_right}
use Rattle.slab_faces.proofs.Ints.{zero_back}
use Rattle.slab_faces.proofs.Sums.{each, sum_by-same, sum_by-cond}
use Rattle.slab_faces.proofs.Walls.{left_of-irrefl, lower_than-irrefl, on_wall_parts, same_abscissa}
use Rattle.slab_faces.proofs.Parity.{parity_wall}
use Rattle.slab_faces.proofs.Cells.{cell_weight, left_side, right_side, not_right_trans}
use Rattle.slab_faces.proofs.Along.{IsUpright, covers_parts, upright_side}
use Rattle.slab_faces.proofs.Slabs.{same_edge_is, same_edge_refl, no_order}
use Rattle.slab_faces.proofs.Turns.{on_own_wall}
use Rattle.slab_faces.proofs.Points.{before_lower}

-- no vertex lies strictly inside a vertical edge
pub upright_on : (f : Edge) (v : Point) → HasWeight f.low → left_of f.low f.high ≡ false → left_of f.high f.low ≡ false → left_of f.low v ≡ false → left_of v f.low ≡ false → side f v ≡ pos 0
upright_on f v P a b c d =
    let i = upright_side f v a b in
    let i' = rw (same_abscissa f.low v c d, *ℤ-zero) at i in
    zero_back f.low.w (side f v) P i'

pub not_inside : (g : Skeleton) (f : Edge) (v : Point) → IsPlaneSkeleton g → Contains g.edges f → Contains g.vertices v → IsUpright f v → lower_than f.low v ≡ true → lower_than v f.high ≡ true → ⊥
not_inside g f v plane F in' u h k =
    let p = plane.proper_edge f F in
    let V = plane.proper v in' in
    let a1 = not_right_trans f.high v f.low p.1 V p.0 u.upper_2 u.lower_1 in
    let a2 = not_right_trans f.low v f.high p.0 V p.1 u.lower_2 u.upper_1 in
    let z = upright_on f v p.0 a1 a2 u.lower_1 u.lower_2 in
    let line : (not (lt_z (side f v) (pos 0)) && not (lt_z (pos 0) (side f v))) ≡ true = rw z refl in
    false≢true (sym (plane.clear f v F in') ∙ and_from _ _ (and_from _ _ (before_lower f.low v u.lower_2 h) (before_lower v f.high u.upper_1 k)) line)

pub covers_self : (g : Skeleton) (e : Edge) → IsPlaneSkeleton g → Contains g.edges e → on_wall e.low e.high ≡ true → covers_above e e.low ≡ true
covers_self g e plane E h =
    let a = on_wall_parts e.low e.high h in
    and_from _ _ (and_from _ _ (and_from _ _ (and_from _ _ (ap not (left_of-irrefl e.low)) (ap not (left_of-irrefl e.low))) (and_from _ _ (ap not a.1) (ap not a.0))) (ap not (lower_than-irrefl e.low))) (plane.upright e E h)

-- only one edge covers the wall above a vertical edge's lower end
pub one_cover : (g : Skeleton) (e f : Edge) → IsPlaneSkeleton g → Contains g.edges e → Contains g.edges f → on_wall e.low e.high ≡ true → covers_above f e.low ≡ true → e ≡ f
one_cover g e f plane E F h k =
    let a = on_wall_parts e.low e.high h in
    let c = covers_parts f e.low k in
    let u = c.0 in
    let inp = plane.lower_in e E in
    let inq = plane.upper_in e E in
    let q = plane.proper_edge e E in
    let p = plane.proper_edge f F in
    let low : lower_than f.low e.low ≡ false = false_from_ne_true _ (λ x. not_inside g f e.low plane F inp u x c.1.1) in
    let x : e.low ≡ f.low = plane.distinct e.low f.low inp (plane.lower_in f F) (no_order _ _ u.lower_2 u.lower_1 c.1.0) (no_order _ _ u.lower_1 u.lower_2 low) in
    let m1 : left_of f.high e.high ≡ false = not_right_trans e.high e.low f.high q.1 q.0 p.1 a.0 u.upper_1 in
    let m2 : left_of e.high f.high ≡ false = not_right_trans f.high e.low e.high p.1 q.0 q.1 u.upper_2 a.1 in
    let n1 : lower_than f.high e.high ≡ false = false_from_ne_true _ (λ y. not_inside g e f.high plane E (plane.upper_in f F) (record { lower_1 = u.upper_2; lower_2 = u.upper_1; upper_1 = m2; upper_2 = m1 }) c.1.1 y) in
    let low' : lower_than f.low e.high ≡ true = subst (λ z. lower_than z e.high ≡ true) x (plane.upright e E h) in
    let l1 : left_of f.low e.high ≡ false = subst (λ z. left_of z e.high ≡ false) x a.0 in
    let l2 : left_of e.high f.low ≡ false = subst (λ z. left_of e.high z ≡ false) x a.1 in
    let n2 : lower_than e.high f.high ≡ false = false_from_ne_true _ (λ y. not_inside g f e.high plane F inq (record { lower_1 = l1; lower_2 = l2; upper_1 = m1; upper_2 = m2 }) low' y) in
    let y : e.high ≡ f.high = plane.distinct e.high f.high inq (plane.upper_in f F) (no_order _ _ m2 m1 n2) (no_order _ _ m1 m2 n1) in
    λ i. record { low = x i; high = y i }

cover_of : (g : Skeleton) (m : Edge → ℕ) (e : Edge) → IsPlaneSkeleton g → Contains g.edges e → on_wall e.low e.high ≡ true → cover_weight g m e.low ≡ m e
cover_of g m e plane E h =
    let now : Edge → ℕ = λ f. cond (covers_above f e.low) (m f) 0 in
    let own : Edge → ℕ = λ f. cond (same_edge e f) (m e) 0 in
    let pair : (f : Edge) → Contains g.edges f → now f ≡ own f = λ f F.
    elim (cases_Bool (same_edge e f)) [
      | inl k ↦ rw k (subst (λ x. cond (covers_above x e.low) (m x) 0 ≡ m e) (same_edge_is e f k) (rw (covers_self g e plane E h) refl))
      | inr k ↦
          let n : covers_above f e.low ≡ false = false_from_ne_true _ (λ c. false≢true (sym k ∙ subst (λ x. same_edge e x ≡ true) (one_cover g e f plane E F h c) (same_edge_refl e))) in
          rw (k, n) refl
    ] in
    let a : sum_by now g.edges ≡ sum_by own g.edges = sum_by-same now own g.edges (each (λ f. now f ≡ own f) g.edges pair) in
    let c = sum_by-cond (same_edge e) (m e) g.edges in
    let c' = rw (plane.edge_once e E) at c in
    a ∙ c' ∙ omega arith

pub parity_upright : (g : Skeleton) (m : Edge → ℕ) (e : Edge) → IsPlaneSkeleton g → IsEvenAtVertices g m → Contains g.edges e → on_wall e.low e.high ≡ true → Even (weight_above g m (slab_left g e.low) (left_count g e.low) + weight_above g m (slab_right g e.low) (right_count g e.low) + m e)
parity_upright g m e plane even E h =
    let t = e.low in
    let wall = on_own_wall g t plane (plane.lower_in e E) in
    let a : weight_above g m (slab_left g t) (left_count g t) ≡ left_weight g m t = cell_weight g m t (slab_left g t) (λ e. reaches_left e t) plane (left_side g t plane wall) in
    let b : weight_above g m (slab_right g t) (right_count g t) ≡ right_weight g m t = cell_weight g m t (slab_right g t) (λ e. reaches_right e t) plane (right_side g t plane wall) in
    let p = parity_wall g m t plane even wall.proper in
    rw (a, b, sym (cover_of g m e plane E h)) p

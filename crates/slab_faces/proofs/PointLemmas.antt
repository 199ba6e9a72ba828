-- A point off all vertices and edges has one face, looked at from its left or from its right.
use Rattle.std.proofs.Common.{◌≡◌, ℕ, Bool, true, false, cond, refl, sym, ap, ap₂, ◌∙◌, subst, inl, inr}
use Rattle.std.specs.Prelude.{pos, not, ◌&&◌, ◌||◌}
use Rattle.std.specs.List.{Contains}
use Rattle.std.proofs.lemmas.Bool.{false≢true, cases_Bool, false_from_ne_true, and_from}
use lib.Signed.{lt_z}
use Rattle.exact_plane.specs.Point.{Point}
use Rattle.plane_graphs.specs.Graph.{Edge}
use Rattle.slab_laws.specs.Skeleton.{Skeleton, HasWeight, left_of, lower_than, on_wall, side, over, precedes, inside, IsPlaneSkeleton}
use Rattle.slab_laws.specs.Meets.{covers_above, SameFace, across, here, right}
use Rattle.slab_laws.specs.Slabs.{slab_left, slab_right, reaches_left, reaches_right, left_count, right_count, left_cell, right_cell}
use Rattle.slab_faces.specs.PointLaws.{IsApart, PointsHaveOneFace}
use Rattle.slab_faces.proofs.Sums.{each, sum_by-same}
use Rattle.slab_faces.proofs.Walls.{left_of-asym}
use Rattle.slab_faces.proofs.Along.{covers_parts, IsUpright}
use Rattle.slab_faces.proofs.Cells.{not_right_trans}
use Rattle.slab_faces.proofs.Upright.{upright_on}
use Rattle.slab_faces.proofs.Points.{before_lower}
use Rattle.slab_faces.proofs.EveryFace.{some_or_none}
use Rattle.slab_faces.proofs.InnerPoints.{no_sign}

-- ---- on a wall
is_inside : (g : Skeleton) (f : Edge) (q : Point) → IsPlaneSkeleton g → Contains g.edges f → IsUpright f q → left_of f.low f.high ≡ false → left_of f.high f.low ≡ false → lower_than f.low q ≡ true → lower_than q f.high ≡ true → inside f q ≡ true
is_inside g f q plane F u a b h k =
    and_from (precedes f.low q && precedes q f.high) (not (lt_z (side f q) (pos 0)) && not (lt_z (pos 0) (side f q)))
    (and_from (precedes f.low q) (precedes q f.high) (before_lower f.low q u.lower_2 h) (before_lower q f.high u.upper_1 k))
    (no_sign (side f q) (upright_on f q (plane.proper_edge f F).0 a b u.lower_1 u.lower_2))

or_none : (a b : Bool) → a ≡ false → b ≡ false → (a || b) ≡ false
or_none a b h k = rw (h, k) refl

pub and_none : (a b : Bool) → b ≡ false → (a && b) ≡ false
and_none true b h = h
and_none false b h = refl

open_at : (g : Skeleton) (q : Point) → IsPlaneSkeleton g → HasWeight q → IsApart g q → (f : Edge) → Contains g.edges f → covers_above f q ≡ false
open_at g q plane Q a f F = false_from_ne_true (covers_above f q) (λ h.
    let c = covers_parts f q h in
    let u = c.0 in
    let p = plane.proper_edge f F in
    let s1 = not_right_trans f.high q f.low p.1 Q p.0 u.upper_2 u.lower_1 in
    let s2 = not_right_trans f.low q f.high p.0 Q p.1 u.lower_2 u.upper_1 in
    elim (cases_Bool (lower_than f.low q)) [
      | inl l ↦ false≢true (sym (a.from_edges f F) ∙ is_inside g f q plane F u s1 s2 l c.1.1)
      | inr l ↦ a.from_vertices f.low (plane.lower_in f F) (or_none (left_of f.low q) (not (left_of q f.low) && lower_than f.low q) u.lower_1 (and_none (not (left_of q f.low)) (lower_than f.low q) l)) (or_none (left_of q f.low) (not (left_of f.low q) && lower_than q f.low) u.lower_2 (and_none (not (left_of f.low q)) (lower_than q f.low) c.1.0))
    ])

-- ---- off all walls
turned_round : (v q : Point) → on_wall v q ≡ false → left_of v q ≡ not (left_of q v)
turned_round v q h = by (left_of v q) (left_of q v) h (λ e. left_of-asym v q e)
  where
    by : (a b : Bool) → (not a && not b) ≡ false → (a ≡ true → b ≡ false) → a ≡ not b
    by true b h f = sym (ap not (f refl))
    by false true h f = refl
    by false false h f = sym h

one_slab : (g : Skeleton) (q : Point) → ((v : Point) → Contains g.vertices v → on_wall v q ≡ false) → slab_left g q ≡ slab_right g q
one_slab g q f =
    let l : Point → ℕ = λ v. cond (left_of v q) 1 0 in
    let r : Point → ℕ = λ v. cond (not (left_of q v)) 1 0 in
    sum_by-same l r g.vertices (each (λ v. l v ≡ r v) g.vertices (λ v V. ap (λ b. cond b 1 0) (turned_round v q (f v V))))

one_count : (g : Skeleton) (q : Point) → IsPlaneSkeleton g → ((v : Point) → Contains g.vertices v → on_wall v q ≡ false) → left_count g q ≡ right_count g q
one_count g q plane f =
    let l : Edge → ℕ = λ e. cond (reaches_left e q && not (over e q)) 1 0 in
    let r : Edge → ℕ = λ e. cond (reaches_right e q && not (over e q)) 1 0 in
    sum_by-same l r g.edges (each (λ e. l e ≡ r e) g.edges (λ e E. ap (λ b. cond (b && not (over e q)) 1 0) (same_reach e E)))
  where
    twice : (b : Bool) → not (not b) ≡ b
    twice true = refl
    twice false = refl

    same_reach : (e : Edge) → Contains g.edges e → reaches_left e q ≡ reaches_right e q
    same_reach e E =
        ap₂ ◌&&◌ (turned_round e.low q (f e.low (plane.lower_in e E)))
        (ap not (turned_round e.high q (f e.high (plane.upper_in e E))) ∙ twice (left_of q e.high))

pub points_have_one_face : PointsHaveOneFace
points_have_one_face g q plane Q a =
    elim (some_or_none (λ v. on_wall v q) g.vertices) [
      | inl w ↦ right (left_cell g q) (left_cell g q) (right_cell g q) (here (left_cell g q)) (across q (record { proper = Q; vertex = w.0; is_vertex = w.1; same = w.2 }) (record { open_at = open_at g q plane Q a }))
      | inr f ↦ subst (λ c. SameFace g (left_cell g q) c) (λ i. record { slab = one_slab g q f i; place = one_count g q plane f i }) (here (left_cell g q))
    ]

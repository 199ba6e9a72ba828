-- One more vertical edge: the faces with it are those without it, but for the two beside the edge.
use Rattle.std.proofs.Common.{◌≡◌, ℕ, ◌+◌, Bool, true, false, cond, arith, sym, ap, ◌∙◌, inl, inr, subst}
use Rattle.std.specs.Prelude.{not, ◌&&◌}
use Rattle.std.specs.List.{Contains}
use Rattle.std.proofs.lemmas.Bool.{false≢true, and_parts, not-true, false_from_ne_true, cases_Bool}
use Rattle.std.proofs.lemmas.List.Sums.{sum_by-cons}
use Rattle.exact_plane.specs.Point.{Point}
use Rattle.plane_graphs.specs.Graph.{Edge}
use Rattle.slab_laws.specs.Skeleton.{Skeleton, HasWeight, left_of, on_wall, over, IsPlaneSkeleton, with_edge}
use Rattle.slab_laws.specs.Meets.{IsOnWall, covers_above, Meets, SameFace, across, here, right, left}
use Rattle.slab_laws.specs.Slabs.{slab_left, slab_right, reaches_left, reaches_right, left_count, right_count, left_cell, right_cell}
use Rattle.slab_laws.specs.declared.slab_cell.SlabCell.{SlabCell}
use Rattle.slab_faces.specs.FaceLaws.{IsSplitBy, whole, over_under, under_over}
use Rattle.slab_faces.proofs.Walls.{on_wall_parts, left_of-before, left_of-after, left_of-irrefl, lower_than-irrefl}
use Rattle.slab_faces.proofs.Along.{covers_parts}
use Rattle.slab_faces.proofs.Turns.{face_sym, member_cases, on_own_wall}
use Rattle.slab_faces.proofs.Corners.{IsAlong, along_left, along_right, same_before, same_after}
use Rattle.slab_faces.proofs.Sums.{each, sum_by-same}
use Rattle.slab_faces.proofs.Added.{first, wall_up, split_trans}

-- a vertical edge reaches no wall from a side
no_left : (e : Edge) (t : Point) → HasWeight e.low → HasWeight e.high → HasWeight t → on_wall e.low e.high ≡ true → reaches_left e t ≡ false
no_left e t P Q T h = false_from_ne_true _ (λ k.
    let a = and_parts (left_of e.low t) (not (left_of e.high t)) k in
    false≢true (sym (on_wall_parts e.low e.high h).0 ∙ left_of-before e.low t e.high P T Q a.0 (not-true _ a.1)))

no_right : (e : Edge) (t : Point) → HasWeight e.low → HasWeight e.high → HasWeight t → on_wall e.low e.high ≡ true → reaches_right e t ≡ false
no_right e t P Q T h = false_from_ne_true _ (λ k.
    let a = and_parts (not (left_of t e.low)) (left_of t e.high) k in
    false≢true (sym (on_wall_parts e.low e.high h).0 ∙ left_of-after e.low t e.high P T Q (not-true _ a.0) a.1))

one_out : (r o : Bool) (j k : ℕ) → r ≡ false → j ≡ cond (r && not o) 1 0 + k → j ≡ k
one_out r o j k e h = let h' : j ≡ 0 + k = rw e at h in omega arith

same_left : (g : Skeleton) (e : Edge) (t : Point) → IsPlaneSkeleton (with_edge g e) → HasWeight t → on_wall e.low e.high ≡ true → left_cell (with_edge g e) t ≡ left_cell g t
same_left g e t plane T h =
    let p = plane.proper_edge e (first g e) in
    let a : left_count (with_edge g e) t ≡ left_count g t = one_out (reaches_left e t) (over e t) _ _ (no_left e t p.0 p.1 T h) (sum_by-cons (λ f. cond (reaches_left f t && not (over f t)) 1 0) e g.edges) in
    λ i. record { slab = slab_left g t; place = a i }

same_right : (g : Skeleton) (e : Edge) (t : Point) → IsPlaneSkeleton (with_edge g e) → HasWeight t → on_wall e.low e.high ≡ true → right_cell (with_edge g e) t ≡ right_cell g t
same_right g e t plane T h =
    let p = plane.proper_edge e (first g e) in
    let a : right_count (with_edge g e) t ≡ right_count g t = one_out (reaches_right e t) (over e t) _ _ (no_right e t p.0 p.1 T h) (sum_by-cons (λ f. cond (reaches_right f t && not (over f t)) 1 0) e g.edges) in
    λ i. record { slab = slab_right g t; place = a i }

-- the cells on the two sides of e
abbrev side_left : (g : Skeleton) (e : Edge) → SlabCell
side_left g e = left_cell (with_edge g e) e.low

abbrev side_right : Skeleton → (e : Edge) → SlabCell
side_right g e = right_cell (with_edge g e) e.low

-- where e covers the wall above t, t's cells are those
along : (g : Skeleton) (e : Edge) (t : Point) → IsPlaneSkeleton (with_edge g e) → IsOnWall g t → covers_above e t ≡ true → IsAlong (with_edge g e) e t
along g e t plane wall h = let c = covers_parts e t h in record { plane = plane; S = first g e; wall = wall_up g e t wall; upright = c.0; from = c.1.0; to = c.1.1 }

along_lower : (g : Skeleton) (e : Edge) → IsPlaneSkeleton (with_edge g e) → on_wall e.low e.high ≡ true → IsAlong (with_edge g e) e e.low
along_lower g e plane h =
    let a = on_wall_parts e.low e.high h in
    record { plane = plane; S = first g e; wall = on_own_wall (with_edge g e) e.low plane (plane.lower_in e (first g e)); upright = record { lower_1 = left_of-irrefl e.low; lower_2 = left_of-irrefl e.low; upper_1 = a.1; upper_2 = a.0 }; from = lower_than-irrefl e.low; to = plane.upright e (first g e) h }

pub one_slab_left : (g : Skeleton) (t u : Point) → ((v : Point) → Contains g.vertices v → HasWeight v) → HasWeight t → HasWeight u → left_of t u ≡ false → left_of u t ≡ false → slab_left g t ≡ slab_left g u
one_slab_left g t u P T U a b =
    sum_by-same (λ v. cond (left_of v t) 1 0) (λ v. cond (left_of v u) 1 0) g.vertices (each (λ v. cond {A = ℕ} (left_of v t) 1 0 ≡ cond (left_of v u) 1 0) g.vertices (λ v in'. ap (λ x. cond x 1 0) (same_before v t u (P v in') T U a b)))

pub one_slab_right : (g : Skeleton) (t u : Point) → ((v : Point) → Contains g.vertices v → HasWeight v) → HasWeight t → HasWeight u → left_of t u ≡ false → left_of u t ≡ false → slab_right g t ≡ slab_right g u
one_slab_right g t u P T U a b =
    sum_by-same (λ v. cond (not (left_of t v)) 1 0) (λ v. cond (not (left_of u v)) 1 0) g.vertices (each (λ v. cond {A = ℕ} (not (left_of t v)) 1 0 ≡ cond (not (left_of u v)) 1 0) g.vertices (λ v in'. ap (λ x. cond (not x) 1 0) (same_after v t u (P v in') T U a b)))

left_is : (g : Skeleton) (e : Edge) (t : Point) → IsPlaneSkeleton (with_edge g e) → IsOnWall g t → on_wall e.low e.high ≡ true → covers_above e t ≡ true → left_cell (with_edge g e) t ≡ side_left g e
left_is g e t plane wall v h =
    let c = (covers_parts e t h).0 in
    let P = (plane.proper_edge e (first g e)).0 in
    let a : left_count (with_edge g e) t ≡ left_count (with_edge g e) e.low = along_left (with_edge g e) e t (along g e t plane wall h) ∙ sym (along_left (with_edge g e) e e.low (along_lower g e plane v)) in
    let s : slab_left g t ≡ slab_left g e.low = one_slab_left g t e.low plane.proper wall.proper P c.lower_2 c.lower_1 in
    λ i. record { slab = s i; place = a i }

right_is : (g : Skeleton) (e : Edge) (t : Point) → IsPlaneSkeleton (with_edge g e) → IsOnWall g t → on_wall e.low e.high ≡ true → covers_above e t ≡ true → right_cell (with_edge g e) t ≡ side_right g e
right_is g e t plane wall v h =
    let c = (covers_parts e t h).0 in
    let P = (plane.proper_edge e (first g e)).0 in
    let a : right_count (with_edge g e) t ≡ right_count (with_edge g e) e.low = along_right (with_edge g e) e t (along g e t plane wall h) ∙ sym (along_right (with_edge g e) e e.low (along_lower g e plane v)) in
    let s : slab_right g t ≡ slab_right g e.low = one_slab_right g t e.low plane.proper wall.proper P c.lower_2 c.lower_1 in
    λ i. record { slab = s i; place = a i }

abbrev IsParted : Skeleton → Edge → SlabCell → SlabCell → Type 0
IsParted g e c d = IsSplitBy (with_edge g e) (side_left g e) (side_right g e) c d

-- a meeting without e is one with e, or goes over e
meet_up : (g : Skeleton) (e : Edge) (c d : SlabCell) → IsPlaneSkeleton (with_edge g e) → on_wall e.low e.high ≡ true → Meets g c d → IsParted g e c d
meet_up g e c d plane v (across t wall free) =
    let l = same_left g e t plane wall.proper v in
    let r = same_right g e t plane wall.proper v in
    let P : SlabCell × SlabCell → Type 0 = λ p. IsParted g e p.0 p.1 in
    let old : P (left_cell (with_edge g e) t, right_cell (with_edge g e) t) =
    elim (cases_Bool (covers_above e t)) [
      | inl h ↦ subst P (λ i. (sym (left_is g e t plane wall v h) i, sym (right_is g e t plane wall v h) i)) (over_under _ _ (here _) (here _))
      | inr h ↦ whole _ _ (right _ _ _ (here _) (across t (wall_up g e t wall) (record { open_at = λ f F. elim (member_cases e g.edges f F) [ inl k ↦ subst (λ x. covers_above x t ≡ false) k h | inr i ↦ free.open_at f i ] })))
    ] in
    subst P (λ i. (l i, r i)) old

turn_round : (g : Skeleton) (e : Edge) (c d : SlabCell) → IsParted g e c d → IsParted g e d c
turn_round g e c d (whole c' d' s) = whole _ _ (face_sym _ _ _ s)
turn_round g e c d (over_under c' d' s t) = under_over _ _ (face_sym _ _ _ t) (face_sym _ _ _ s)
turn_round g e c d (under_over c' d' s t) = over_under _ _ (face_sym _ _ _ t) (face_sym _ _ _ s)

pub upright_up : (g : Skeleton) (e : Edge) (c d : SlabCell) → IsPlaneSkeleton (with_edge g e) → on_wall e.low e.high ≡ true → SameFace g c d → IsParted g e c d
upright_up g e c d plane v (here c') = whole _ _ (here _)
upright_up g e c d plane v (right b x d' s m) = split_trans _ _ _ _ _ _ (upright_up g e b x plane v s) (meet_up g e x d' plane v m)
upright_up g e c d plane v (left b x d' s m) = split_trans _ _ _ _ _ _ (upright_up g e b x plane v s) (turn_round g e d' x (meet_up g e d' x plane v m))

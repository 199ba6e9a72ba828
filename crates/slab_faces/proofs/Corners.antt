-- Round a vertex: the places of the edges that reach it from one side follow one another, from those strictly below to those at or below.
use Rattle.std.proofs.Common.{◌≡◌, ℕ, ◌+◌, Bool, true, false, cond, arith, refl, sym, ap, ◌∙◌, subst, inl, inr}
use Rattle.std.specs.Prelude.{pos, ◌<ℤ◌, not, ◌&&◌}
use Rattle.std.specs.List.{count_by, Contains}
use Rattle.std.proofs.lemmas.Int.{ints, by_lt_z}
use Rattle.std.proofs.lemmas.Bool.{false≢true, false_from_ne_true, cases_Bool}
use lib.IntN.{*ℤ-zero}
use Rattle.slab_laws.specs.Skeleton.{foot, Skeleton, HasWeight, left_of, lower_than, run, side, over, under, below, same_edge, IsPlaneSkeleton}
use Rattle.exact_plane.specs.Point.{Point}
use Rattle.plane_graphs.specs.Graph.{Edge}
use Rattle.slab_laws.specs.Slabs.{spans, place, slab_left, slab_right, left_count, right_count, left_below, right_below, reaches_left, reaches_right}
use Rattle.slab_laws.specs.Meets.{IsOnWall, IsOpenAbove, Meets, SameFace, across, here, right}
use Rattle.slab_laws.specs.declared.slab_cell.SlabCell.{SlabCell}
use Rattle.slab_faces.proofs.Ints.{times_less}
use Rattle.slab_faces.proofs.OverUnder.{negative_not_under, not_over, over_in, over_out, positive_not_over, under_in, under_out, weak_under, zero_not_over, zero_not_under}
use Rattle.slab_faces.proofs.Sums.{each, sum_by-same, sum_by-plus}
use Rattle.slab_faces.proofs.Walls.{left_of-before, left_of-after, left_of-irrefl, run_positive, lower_than-after, side_rises}
use Rattle.slab_faces.proofs.Order.{below_from, below_asym, gap-on_e, gap-swap}
use Rattle.slab_faces.proofs.Cells.{left_side, right_side, not_right_trans as level_trans}
use Rattle.slab_faces.proofs.Slabs.{IsSlab, through, by_gap, below_at, gap_at, gap_trans, run_through, same_edge_is, same_edge_refl}
use Rattle.slab_faces.proofs.Nudge.{left_inside, right_inside, is_slab_left, is_slab_right}
use Rattle.slab_faces.proofs.Along.{IsReach, left_reach, right_reach, IsUpright, no_upright, side_above, side_below, side_level, below_self, covers_parts}
use Rattle.slab_faces.proofs.Beneath.{beneath, deep, deep_up, deep_vertex, deep_edge, beneath_before, beneath_after, vertex_below, vertex_not_below, still_under, now_over, beneath_on_wall}
use Rattle.slab_faces.proofs.Turns.{one_more, foot_is_on, foot_before, foot_after}
use Rattle.slab_faces.proofs.Upright.{not_inside}

-- one side of the wall through t, with a point inside its slab
pub record IsFan (g : Skeleton) (t : Point) (i : ℕ) (M : Point) (reach : Edge → Bool) : Type 0 where
  pub plane : IsPlaneSkeleton g
  pub wall : IsOnWall g t
  pub reaching : IsReach g t i reach
  pub slab : IsSlab g i M

pub left_fan : (g : Skeleton) (t : Point) → IsPlaneSkeleton g → IsOnWall g t → IsFan g t (slab_left g t) (left_inside g t) (λ e. reaches_left e t)
left_fan g t plane wall = record { plane = plane; wall = wall; reaching = left_reach g t plane wall; slab = is_slab_left g t plane wall }

pub right_fan : (g : Skeleton) (t : Point) → IsPlaneSkeleton g → IsOnWall g t → IsFan g t (slab_right g t) (right_inside g t) (λ e. reaches_right e t)
right_fan g t plane wall = record { plane = plane; wall = wall; reaching = right_reach g t plane wall; slab = is_slab_right g t plane wall }

-- an edge that reaches the wall at t
pub record IsAt (g : Skeleton) (t : Point) (reach : Edge → Bool) (e : Edge) : Type 0 where
  pub in' : Contains g.edges e
  pub reaches : reach e ≡ true
  pub on : side e t ≡ pos 0

-- how an edge f that reaches the wall stands to t and to an edge e at t
data Stand (e f : Edge) (t : Point) : Type 0 where
  same : e ≡ f → Stand e f t
  lower : pos 0 <ℤ side f t → below f e ≡ true → Stand e f t
  upper : side f t <ℤ pos 0 → below f e ≡ false → Stand e f t
  at_below : side f t ≡ pos 0 → below f e ≡ true → Stand e f t
  at_above : side f t ≡ pos 0 → below e f ≡ true → below f e ≡ false → Stand e f t

stand : (g : Skeleton) (t : Point) (i : ℕ) (M : Point) (reach : Edge → Bool) (e f : Edge) → IsFan g t i M reach → IsAt g t reach e → Contains g.edges f → reach f ≡ true → Stand e f t
stand g t i M reach e f n a F h =
    let E = a.in' in
    let s = n.reaching.sided in
    let P = s.passes f e F E h a.reaches in
    let Q = s.passes e f E F a.reaches h in
    let G = gap-on_e f e t a.on in
    let S = gap-swap f e t in
    let re = run_positive e P.e_long in
    let z = *ℤ-zero (run e) in
    let tf = through g i M f n.slab F (s.spanned f F ∙ h) in
    let te = through g i M e n.slab E (s.spanned e E ∙ a.reaches) in
    let K = n.slab.proper in
    by_lt_z (pos 0) (side f t)
    (λ k. let l = times_less (run e) (pos 0) (side f t) re k in lower k (below_from f e t P (omega (arith, ints))))
    (λ k. by_lt_z (side f t) (pos 0)
    (λ l. let m = times_less (run e) (side f t) (pos 0) re l in
    let b = below_from e f t Q (omega (arith, ints)) in
    upper l (false_from_ne_true _ (λ x. below_asym g f e n.plane F E x b)))
    (λ l. let o : side f t ≡ pos 0 = omega (arith, ints) in
    by_gap g f e M n.plane F E K tf te
    (λ u. at_below o (below_at g f e M n.plane F E K tf te u))
    (λ u. let w = gap-swap f e M in let b = below_at g e f M n.plane E F K te tf (omega (arith, ints)) in
    at_above o b (false_from_ne_true _ (λ x. below_asym g f e n.plane F E x b)))
    (λ u. same (sym u))))

-- the edge just above e at t has the next place
pub next_place : (g : Skeleton) (t : Point) (i : ℕ) (M : Point) (reach : Edge → Bool) (e d : Edge) → IsFan g t i M reach → IsAt g t reach e → IsAt g t reach d → below e d ≡ true → ((f : Edge) → IsAt g t reach f → below e f ≡ true → below f d ≡ true → ⊥) → place g i d ≡ place g i e + 1
next_place g t i M reach e d n a b h none =
    let s = n.reaching.sided in
    let now : Edge → ℕ = λ f. cond (spans g i f && below f d) 1 0 in
    let old : Edge → ℕ = λ f. cond (spans g i f && below f e) 1 0 in
    let own : Edge → ℕ = λ f. cond (same_edge e f) 1 0 in
    let pair : (f : Edge) → Contains g.edges f → now f ≡ old f + own f = λ f F.
    one_more (spans g i f) (below f d) (below f e) (same_edge e f)
    (λ k. subst (λ x. (spans g i x ≡ true) × (below x d ≡ true) × (below x e ≡ false)) (same_edge_is e f k) (s.spanned e a.in' ∙ a.reaches, h, below_self g e n.plane a.in'))
    (λ k o. let rf = sym (s.spanned f F) ∙ k in
    elim (stand g t i M reach e f n a F rf) [
      | same q ↦ absurd (false≢true (sym o ∙ subst (λ x. same_edge e x ≡ true) q (same_edge_refl e)))
      | lower q r ↦ elim (stand g t i M reach d f n b F rf) [
        | same u ↦ absurd (below_asym g e f n.plane a.in' F (subst (λ x. below e x ≡ true) u h) r)
        | lower u v ↦ v ∙ sym r
        | upper u v ↦ absurd (omega (arith, ints))
        | at_below u v ↦ v ∙ sym r
        | at_above u v w ↦ absurd (omega (arith, ints))
      ]
      | upper q r ↦ elim (stand g t i M reach d f n b F rf) [
        | same u ↦ absurd (let z = subst (λ x. side x t ≡ pos 0) u b.on in omega (arith, ints))
        | lower u v ↦ absurd (omega (arith, ints))
        | upper u v ↦ v ∙ sym r
        | at_below u v ↦ absurd (omega (arith, ints))
        | at_above u v w ↦ w ∙ sym r
      ]
      | at_below q r ↦
          let tf = through g i M f n.slab F k in
          let te = through g i M e n.slab a.in' (s.spanned e a.in' ∙ a.reaches) in
          let td = through g i M d n.slab b.in' (s.spanned d b.in' ∙ b.reaches) in
          let K = n.slab.proper in
          let P = n.plane in
          below_at g f d M P F b.in' K tf td (gap_trans f e d M (run_through g f M P F K tf) (run_through g e M P a.in' K te) (run_through g d M P b.in' K td) (gap_at g f e M P F a.in' K tf te r) (gap_at g e d M P a.in' b.in' K te td h)) ∙ sym r
      | at_above q r w ↦ false_from_ne_true _ (λ x. none f (record { in' = F; reaches = rf; on = q }) r x) ∙ sym w
    ]) in
    sum_by-same now (λ f. old f + own f) g.edges (each (λ f. now f ≡ old f + own f) g.edges pair) ∙ sum_by-plus old own g.edges ∙ ap (λ m. place g i e + m) (n.plane.edge_once e a.in')

-- the topmost edge at t is the last of those at or below t
pub top_place : (g : Skeleton) (t : Point) (i : ℕ) (M : Point) (reach : Edge → Bool) (e : Edge) → IsFan g t i M reach → IsAt g t reach e → ((f : Edge) → IsAt g t reach f → below e f ≡ true → ⊥) → count_by (λ f. reach f && not (over f t)) g.edges ≡ place g i e + 1
top_place g t i M reach e n a none =
    let s = n.reaching.sided in
    let now : Edge → ℕ = λ f. cond (reach f && not (over f t)) 1 0 in
    let old : Edge → ℕ = λ f. cond (spans g i f && below f e) 1 0 in
    let own : Edge → ℕ = λ f. cond (same_edge e f) 1 0 in
    let pair : (f : Edge) → Contains g.edges f → now f ≡ old f + own f = λ f F.
    subst (λ b. now f ≡ cond (b && below f e) 1 0 + own f) (sym (s.spanned f F)) (one_more (reach f) (not (over f t)) (below f e) (same_edge e f)
    (λ k. subst (λ x. (reach x ≡ true) × (not (over x t) ≡ true) × (below x e ≡ false)) (same_edge_is e f k) (a.reaches, ap not (zero_not_over e t a.on), below_self g e n.plane a.in'))
    (λ rf o.
    elim (stand g t i M reach e f n a F rf) [
      | same q ↦ absurd (false≢true (sym o ∙ subst (λ x. same_edge e x ≡ true) q (same_edge_refl e)))
      | lower q r ↦ ap not (positive_not_over f t q) ∙ sym r
      | upper q r ↦ ap not (over_in f t q) ∙ sym r
      | at_below q r ↦ ap not (zero_not_over f t q) ∙ sym r
      | at_above q r w ↦ absurd (none f (record { in' = F; reaches = rf; on = q }) r)
    ])) in
    sum_by-same now (λ f. old f + own f) g.edges (each (λ f. now f ≡ old f + own f) g.edges pair) ∙ sum_by-plus old own g.edges ∙ ap (λ m. place g i e + m) (n.plane.edge_once e a.in')

-- the lowest edge at t is the first after those strictly below t
pub bottom_place : (g : Skeleton) (t : Point) (i : ℕ) (M : Point) (reach : Edge → Bool) (e : Edge) → IsFan g t i M reach → IsAt g t reach e → ((f : Edge) → IsAt g t reach f → below f e ≡ true → ⊥) → count_by (λ f. reach f && under f t) g.edges ≡ place g i e
bottom_place g t i M reach e n a none =
    let s = n.reaching.sided in
    let now : Edge → ℕ = λ f. cond (reach f && under f t) 1 0 in
    let old : Edge → ℕ = λ f. cond (spans g i f && below f e) 1 0 in
    let pair : (f : Edge) → Contains g.edges f → now f ≡ old f = λ f F.
    subst (λ b. now f ≡ cond (b && below f e) 1 0) (sym (s.spanned f F)) (alike (reach f) (under f t) (below f e) (λ rf.
    elim (stand g t i M reach e f n a F rf) [
      | same q ↦ zero_not_under f t (subst (λ x. side x t ≡ pos 0) q a.on) ∙ sym (subst (λ x. below x e ≡ false) q (below_self g e n.plane a.in'))
      | lower q r ↦ under_in f t q ∙ sym r
      | upper q r ↦ negative_not_under f t q ∙ sym r
      | at_below q r ↦ absurd (none f (record { in' = F; reaches = rf; on = q }) r)
      | at_above q r w ↦ zero_not_under f t q ∙ sym w
    ])) in
    sum_by-same now old g.edges (each (λ f. now f ≡ old f) g.edges pair)
  where
    alike : (r x y : Bool) → (r ≡ true → x ≡ y) → cond {A = ℕ} (r && x) 1 0 ≡ cond (r && y) 1 0
    alike true x y h = ap (λ b. cond b 1 0) (h refl)
    alike false x y h = refl

-- ---- along a vertical edge
-- one wall has one slab on each side
pub same_before : (p u w : Point) → HasWeight p → HasWeight u → HasWeight w → left_of u w ≡ false → left_of w u ≡ false → left_of p u ≡ left_of p w
same_before p u w P U W a b =
    elim (cases_Bool (left_of p u)) [
      | inl h ↦ h ∙ sym (left_of-before p u w P U W h b)
      | inr h ↦ h ∙ sym (false_from_ne_true _ (λ k. false≢true (sym h ∙ left_of-before p w u P W U k a)))
    ]

pub same_after : (p u w : Point) → HasWeight p → HasWeight u → HasWeight w → left_of u w ≡ false → left_of w u ≡ false → left_of u p ≡ left_of w p
same_after p u w P U W a b =
    elim (cases_Bool (left_of u p)) [
      | inl h ↦ h ∙ sym (left_of-after w u p W U P a h)
      | inr h ↦ h ∙ sym (false_from_ne_true _ (λ k. false≢true (sym h ∙ left_of-after u w p U W P b k)))
    ]

-- the height of a point of an edge against another point of the wall, from the side of that point
higher_point : (e : Edge) (t v : Point) → HasWeight t → pos 0 <ℤ run e → side e t ≡ pos 0 → left_of v t ≡ false → left_of t v ≡ false → pos 0 <ℤ side e v → lower_than t v ≡ true
higher_point e t v T R z a b h =
    elim (cases_Bool (lower_than t v)) [
      | inl k ↦ k
      | inr k ↦ elim (cases_Bool (lower_than v t)) [
        | inl l ↦ let s = side_below e t v T R z a b l in absurd (omega (arith, ints))
        | inr l ↦ let s = side_level e t v T z a b k l in absurd (omega (arith, ints))
      ]
    ]

lower_point : (e : Edge) (t v : Point) → HasWeight t → pos 0 <ℤ run e → side e t ≡ pos 0 → left_of v t ≡ false → left_of t v ≡ false → side e v <ℤ pos 0 → lower_than v t ≡ true
lower_point e t v T R z a b h =
    elim (cases_Bool (lower_than v t)) [
      | inl k ↦ k
      | inr k ↦ elim (cases_Bool (lower_than t v)) [
        | inl l ↦ let s = side_above e t v T R z a b l in absurd (omega (arith, ints))
        | inr l ↦ let s = side_level e t v T z a b l k in absurd (omega (arith, ints))
      ]
    ]

-- a point from s's lower end on, below its upper end
pub record IsAlong (g : Skeleton) (s : Edge) (u : Point) : Type 0 where
  pub plane : IsPlaneSkeleton g
  pub S : Contains g.edges s
  pub wall : IsOnWall g u
  pub upright : IsUpright s u
  pub from : lower_than u s.low ≡ false
  pub to : lower_than u s.high ≡ true

-- a point of the wall where f is, neither at or below u nor at or above s's upper end: there is none
no_point : (g : Skeleton) (s f : Edge) (u : Point) (i : ℕ) (reach : Edge → Bool) → IsAlong g s u → IsReach g u i reach → Contains g.edges f → reach f ≡ true → pos 0 <ℤ run f → side f u <ℤ pos 0 → pos 0 <ℤ side f s.high → ⊥
no_point g s f u i reach a r F h R x y =
    let plane = a.plane in
    let p = plane.proper_edge s a.S in
    let U = a.wall.proper in
    let o = a.upright in
    elim (r.ends_at f F h) [
      | inl th ↦
          let on = foot_is_on g f u plane a.wall F th in
          let T = on.wall.proper in
          let b1 : left_of u (foot f u) ≡ false = foot_before f u u R ∙ left_of-irrefl u in
          let b2 : left_of (foot f u) u ≡ false = foot_after f u u R ∙ left_of-irrefl u in
          let c1 : left_of s.high (foot f u) ≡ false = foot_before f u s.high R ∙ o.upper_1 in
          let c2 : left_of (foot f u) s.high ≡ false = foot_after f u s.high R ∙ o.upper_2 in
          let d1 : left_of s.low (foot f u) ≡ false = foot_before f u s.low R ∙ o.lower_1 in
          let d2 : left_of (foot f u) s.low ≡ false = foot_after f u s.low R ∙ o.lower_2 in
          let k = lower_point f (foot f u) u T R on.on b1 b2 x in
          let l = higher_point f (foot f u) s.high T R on.on c1 c2 y in
          let m = lower_than-after s.low u (foot f u) p.0 U T a.from k in
          no_upright g f s (foot f u) on a.S (record { lower_1 = d1; lower_2 = d2; upper_1 = c1; upper_2 = c2 }) m l
      | inr v ↦
          let V = plane.proper v.0 v.1 in
          let b1 = v.3 in
          let b2 = v.2 in
          let c1 = level_trans v.0 u s.high V U p.1 b1 o.upper_1 in
          let c1' : left_of s.high v.0 ≡ false = c1 in
          let c2 : left_of v.0 s.high ≡ false = level_trans s.high u v.0 p.1 U V o.upper_2 v.2 in
          let d1 : left_of s.low v.0 ≡ false = level_trans v.0 u s.low V U p.0 v.3 o.lower_1 in
          let d2 : left_of v.0 s.low ≡ false = level_trans s.low u v.0 p.0 U V o.lower_2 v.2 in
          let k = lower_point f v.0 u V R v.4 v.3 v.2 x in
          let l = higher_point f v.0 s.high V R v.4 c1' c2 y in
          let m = lower_than-after s.low u v.0 p.0 U V a.from k in
          not_inside g s v.0 plane a.S v.1 (record { lower_1 = d1; lower_2 = d2; upper_1 = c1'; upper_2 = c2 }) m l
    ]

-- what is at or below u is strictly below s's upper end
along_same : (g : Skeleton) (s f : Edge) (u : Point) (i : ℕ) (reach : Edge → Bool) → IsAlong g s u → IsReach g u i reach → Contains g.edges f → reach f ≡ true → not (over f u) ≡ under f s.high
along_same g s f u i reach a r F h =
    let R = run_positive f (r.sided.passes f f F F h h).f_long in
    let Q = (a.plane.proper_edge s a.S).1 in
    elim (cases_Bool (over f u)) [
      | inl k ↦ ap not k ∙ sym (false_from_ne_true _ (λ l. no_point g s f u i reach a r F h R (over_out f u k) (under_out f s.high l)))
      | inr k ↦ ap not k ∙ sym (under_in f s.high (side_rises f u s.high a.wall.proper Q R a.upright.upper_2 a.upright.upper_1 a.to (not_over f u k)))
    ]

pub alike : (r r' x y : Bool) → r ≡ r' → (r ≡ true → x ≡ y) → cond {A = ℕ} (r && x) 1 0 ≡ cond (r' && y) 1 0
alike true r' x y e h = ap (λ b. cond b 1 0) (h refl ∙ ap (λ b. b && y) e)
alike false r' x y e h = ap (λ b. cond (b && y) 1 0) e

pub along_left : (g : Skeleton) (s : Edge) (u : Point) → IsAlong g s u → left_count g u ≡ left_below g s.high
along_left g s u a =
    let now : Edge → ℕ = λ f. cond (reaches_left f u && not (over f u)) 1 0 in
    let new : Edge → ℕ = λ f. cond (reaches_left f s.high && under f s.high) 1 0 in
    let U = a.wall.proper in
    let Q = (a.plane.proper_edge s a.S).1 in
    let o = a.upright in
    sum_by-same now new g.edges (each (λ f. now f ≡ new f) g.edges (λ f F.
    let p = a.plane.proper_edge f F in
    alike (reaches_left f u) (reaches_left f s.high) (not (over f u)) (under f s.high)
    (λ i. same_before f.low u s.high p.0 U Q o.upper_2 o.upper_1 i && not (same_before f.high u s.high p.1 U Q o.upper_2 o.upper_1 i))
    (λ h. along_same g s f u (slab_left g u) (λ e. reaches_left e u) a (left_reach g u a.plane a.wall) F h)))

pub along_right : (g : Skeleton) (s : Edge) (u : Point) → IsAlong g s u → right_count g u ≡ right_below g s.high
along_right g s u a =
    let now : Edge → ℕ = λ f. cond (reaches_right f u && not (over f u)) 1 0 in
    let new : Edge → ℕ = λ f. cond (reaches_right f s.high && under f s.high) 1 0 in
    let U = a.wall.proper in
    let Q = (a.plane.proper_edge s a.S).1 in
    let o = a.upright in
    sum_by-same now new g.edges (each (λ f. now f ≡ new f) g.edges (λ f F.
    let p = a.plane.proper_edge f F in
    alike (reaches_right f u) (reaches_right f s.high) (not (over f u)) (under f s.high)
    (λ i. not (same_after f.low u s.high p.0 U Q o.upper_2 o.upper_1 i) && same_after f.high u s.high p.1 U Q o.upper_2 o.upper_1 i)
    (λ h. along_same g s f u (slab_right g u) (λ e. reaches_right e u) a (right_reach g u a.plane a.wall) F h)))

-- ---- below a vertex that ends no vertical edge from below, the cells on both sides meet
pub meets_below : (g : Skeleton) (v : Point) → IsPlaneSkeleton g → Contains g.vertices v → IsOnWall g v → ((f : Edge) → Contains g.edges f → IsUpright f v → lower_than f.low v ≡ true → lower_than f.high v ≡ false → ⊥) → SameFace g (record { slab = slab_left g v; place = left_below g v }) (record { slab = slab_right g v; place = right_below g v })
meets_below g v plane in' wall none =
    let K = deep_up g in
    let M = beneath (deep g) v in
    let before : (p : Point) → left_of p M ≡ left_of p v = λ p. beneath_before (deep g) v p K in
    let after : (p : Point) → left_of M p ≡ left_of v p = λ p. beneath_after (deep g) v p K in
    let free : IsOpenAbove g M = record {
      open_at = λ f F. false_from_ne_true _ (λ h.
          let c = covers_parts f M h in
          let u : IsUpright f v = record {
            lower_1 = sym (before f.low) ∙ c.0.lower_1;
            lower_2 = sym (after f.low) ∙ c.0.lower_2;
            upper_1 = sym (before f.high) ∙ c.0.upper_1;
            upper_2 = sym (after f.high) ∙ c.0.upper_2;
          } in
          none f F u (vertex_below (deep g) v f.low K (plane.proper_edge f F).0 c.1.0) (vertex_not_below (deep g) v f.high K (deep_vertex g f.high (plane.upper_in f F)) c.1.1));
    } in
    let sl : slab_left g M ≡ slab_left g v = λ i. count_by (λ p. before p i) g.vertices in
    let sr : slab_right g M ≡ slab_right g v = λ i. count_by (λ p. not (after p i)) g.vertices in
    let a : left_count g M ≡ left_below g v =
    sum_by-same (λ f. cond (reaches_left f M && not (over f M)) 1 0) (λ f. cond (reaches_left f v && under f v) 1 0) g.edges (each (λ f. cond {A = ℕ} (reaches_left f M && not (over f M)) 1 0 ≡ cond (reaches_left f v && under f v) 1 0) g.edges (λ f F.
    alike (reaches_left f M) (reaches_left f v) (not (over f M)) (under f v) (λ i. before f.low i && not (before f.high i)) (λ h.
    sunk_to g f v F K (run_positive f ((left_side g v plane wall).passes f f F F (sym (λ i. before f.low i && not (before f.high i)) ∙ h) (sym (λ i. before f.low i && not (before f.high i)) ∙ h)).f_long)))) in
    let b : right_count g M ≡ right_below g v =
    sum_by-same (λ f. cond (reaches_right f M && not (over f M)) 1 0) (λ f. cond (reaches_right f v && under f v) 1 0) g.edges (each (λ f. cond {A = ℕ} (reaches_right f M && not (over f M)) 1 0 ≡ cond (reaches_right f v && under f v) 1 0) g.edges (λ f F.
    alike (reaches_right f M) (reaches_right f v) (not (over f M)) (under f v) (λ i. not (after f.low i) && after f.high i) (λ h.
    sunk_to g f v F K (run_positive f ((right_side g v plane wall).passes f f F F (sym (λ i. not (after f.low i) && after f.high i) ∙ h) (sym (λ i. not (after f.low i) && after f.high i) ∙ h)).f_long)))) in
    let m : Meets g (record { slab = slab_left g M; place = left_count g M }) (record { slab = slab_right g M; place = right_count g M }) = across M (beneath_on_wall g v wall) free in
    right _ _ _ (here _) (subst (λ (p : SlabCell × SlabCell). Meets g p.0 p.1) (λ i. (record { slab = sl i; place = a i }, record { slab = sr i; place = b i })) m)
  where
    sunk_to : (g : Skeleton) (f : Edge) (v : Point) → Contains g.edges f → pos 0 <ℤ deep g → pos 0 <ℤ run f → not (over f (beneath (deep g) v)) ≡ under f v
    sunk_to g f v F K R =
        by_lt_z (pos 0) (side f v)
        (λ h. ap not (still_under f (deep g) v K (deep_edge g f F) h) ∙ sym (under_in f v h))
        (λ h. ap not (now_over f (deep g) v K R h) ∙ sym (weak_under f v h))

-- The unbounded face, and how many darts of a face lie above a cell: odd in number exactly where the cell is in the face and the unbounded cell isn't, or the other way round.
use Rattle.std.proofs.Common.{◌≡◌, ℕ, ◌+◌, ◌<◌, ◌≤◌, Bool, true, false, cond, arith, refl, sym, ap, ◌∙◌, inl, inr, subst, zero, suc}
use Rattle.std.specs.Prelude.{ℤ, pos, ◌+ℤ◌, ◌-ℤ◌, ◌*ℤ◌, ◌<ℤ◌, ◌≤ℤ◌, not, ◌&&◌}
use Rattle.std.specs.List.{sum_by, count_by, Contains}
use Rattle.std.proofs.lemmas.Int.{ints}
use Rattle.std.proofs.lemmas.Bool.{false≢true, and_parts, and_from, not-true, false_from_ne_true, cases_lt, lt-leb}
use borrow.Author.Differences.{up}
use lib.Dec.{leb}
use Rattle.exact_plane.specs.Point.{Point}
use Rattle.plane_graphs.specs.Graph.{Edge}
use Rattle.slab_laws.specs.Skeleton.{Skeleton, HasWeight, left_of, lower_than, run, side, over, below, same_edge, IsPlaneSkeleton}
use Rattle.slab_laws.specs.Slabs.{spans, place, slab_left, slab_right, left_count, right_count, reaches_left, reaches_right, forward_cell, backward_cell, width, top_cell}
use Rattle.slab_laws.specs.Weights.{weight_above, Even, IsEvenAtVertices}
use Rattle.slab_laws.specs.Meets.{IsOnWall, IsOpenAbove, Meets, SameFace, across, here, right}
use Rattle.slab_laws.specs.declared.slab_cell.SlabCell.{SlabCell}
use Rattle.slab_laws.specs.Changes.{IsFaceSet}
use Rattle.slab_faces.proofs.Ints.{as_dif, dif_add, dif_sub, dif_mul, dif_same, times_at_most, swapped}
use Rattle.slab_faces.proofs.OverUnder.{positive_not_over}
use Rattle.slab_faces.proofs.Sums.{each, sum_by-same, sum_by-plus, sum_by-none, fewer_than}
use Rattle.slab_faces.proofs.Walls.{left_of-irrefl, run_positive}
use Rattle.slab_faces.proofs.Order.{below_asym, gap-swap}
use Rattle.slab_faces.proofs.Cells.{spans_left, spans_right, right_many, left_side, right_side, parity_face}
use Rattle.slab_faces.proofs.Slabs.{IsSlab, through, by_gap, below_at, gap_at, gap_trans, run_through, same_edge_is, same_edge_refl, weight_step, place_less}
use Rattle.slab_faces.proofs.Nudge.{large, right_inside, is_slab_right}
use Rattle.slab_faces.proofs.Along.{below_self, covers_parts}
use Rattle.slab_faces.proofs.Turns.{face_trans, face_sym, one_more, wall_before, greatest, on_own_wall, chain, above_e, below_e, over_wall, under_wall}
use Rattle.slab_faces.proofs.Found.{found}
use Rattle.integers.proofs.Laws.{add-mul}

-- ---- a point above all on its wall
tall : Skeleton → Point → ℤ
tall g t = pos (sum_by (λ (e : Edge). up (pos 0 -ℤ side e t)) g.edges + 1) +ℤ pos (sum_by (λ (v : Point). up (v.y *ℤ t.w -ℤ t.y *ℤ v.w)) g.vertices + 1)

high : Skeleton → Point → Point
high g t = record { x = t.x; y = t.y +ℤ tall g t; w = t.w }

tall_up : (g : Skeleton) (t : Point) → pos 0 <ℤ tall g t
unfolding tall
tall_up g t = omega (arith, ints)

tall_edge : (g : Skeleton) (t : Point) (e : Edge) → Contains g.edges e → (pos 0 -ℤ side e t) <ℤ tall g t
unfolding tall
tall_edge g t e in' = let a = large (λ (e : Edge). pos 0 -ℤ side e t) g.edges e in' in omega (arith, ints)

tall_vertex : (g : Skeleton) (t v : Point) → Contains g.vertices v → (v.y *ℤ t.w -ℤ t.y *ℤ v.w) <ℤ tall g t
unfolding tall
tall_vertex g t v in' = let a = large (λ (v : Point). v.y *ℤ t.w -ℤ t.y *ℤ v.w) g.vertices v in' in omega (arith, ints)

lifted : (a b c x y w k : ℤ) → a *ℤ x +ℤ b *ℤ (y +ℤ k) +ℤ c *ℤ w ≡ a *ℤ x +ℤ b *ℤ y +ℤ c *ℤ w +ℤ b *ℤ k
lifted a b c x y w k = rw (as_dif a, as_dif b, as_dif c, as_dif x, as_dif y, as_dif w, as_dif k) (simp (dif_add, dif_sub, dif_mul) (dif_same _ _ _ _ (omega arith)))

side_high : (g : Skeleton) (t : Point) (e : Edge) → side e (high g t) ≡ side e t +ℤ run e *ℤ tall g t
unfolding side run high
side_high g t e = lifted (e.low.y *ℤ e.high.w -ℤ e.high.y *ℤ e.low.w) (e.high.x *ℤ e.low.w -ℤ e.low.x *ℤ e.high.w) (e.low.x *ℤ e.high.y -ℤ e.high.x *ℤ e.low.y) t.x t.y t.w (tall g t)

-- a positive whole number times k is at least k
pub at_least : (r k : ℤ) → pos 0 <ℤ r → pos 0 <ℤ k → k ≤ℤ (r *ℤ k)
at_least r k R K =
    let a = times_at_most k (pos 1) r K (omega (arith, ints)) in
    let e : k *ℤ pos 1 ≡ k = omega (arith, ints) in
    let c = commute k r in
    omega (arith, ints)
  where
    commute : (a b : ℤ) → a *ℤ b ≡ b *ℤ a
    commute a b = rw (as_dif a, as_dif b) (simp (dif_add, dif_sub, dif_mul) (dif_same _ _ _ _ (omega arith)))

high_over : (g : Skeleton) (t : Point) (e : Edge) → Contains g.edges e → pos 0 <ℤ run e → over e (high g t) ≡ false
high_over g t e E R =
    let a = at_least (run e) (tall g t) R (tall_up g t) in
    let b = tall_edge g t e E in
    let c = side_high g t e in
    positive_not_over e (high g t) (omega (arith, ints))

high_vertex : (g : Skeleton) (t v : Point) → Contains g.vertices v → HasWeight v → lower_than (high g t) v ≡ false
unfolding lower_than high
high_vertex g t v in' V =
    let a = at_least v.w (tall g t) V (tall_up g t) in
    let b = tall_vertex g t v in' in
    let c = add-mul t.y (tall g t) v.w in
    let d = swapped v.w (tall g t) in
    sym (omega (arith, ints))

-- ---- the topmost cells
all_reach : (g : Skeleton) (t : Point) (i : ℕ) (reach : Edge → Bool) → ((e : Edge) → Contains g.edges e → spans g i e ≡ reach e) → ((e : Edge) → Contains g.edges e → reach e ≡ true → pos 0 <ℤ run e) → count_by (λ e. reach e && not (over e (high g t))) g.edges ≡ width g i
unfolding width
all_reach g t i reach s r =
    sum_by-same (λ e. cond (reach e && not (over e (high g t))) 1 0) (λ e. cond (spans g i e) 1 0) g.edges (each (λ e. cond {A = ℕ} (reach e && not (over e (high g t))) 1 0 ≡ cond (spans g i e) 1 0) g.edges (λ e E.
    ap (λ b. cond b 1 0) (drop (reach e) (over e (high g t)) (λ h. high_over g t e E (r e E h)) ∙ sym (s e E))))
  where
    drop : (r o : Bool) → (r ≡ true → o ≡ false) → (r && not o) ≡ r
    drop true o h = ap not (h refl)
    drop false o h = refl

pub top_meets : (g : Skeleton) (t : Point) → IsPlaneSkeleton g → IsOnWall g t → SameFace g (top_cell g (slab_left g t)) (top_cell g (slab_right g t))
unfolding high left_of top_cell
top_meets g t plane wall =
    let u = high g t in
    let wall' : IsOnWall g u = record { proper = wall.proper; vertex = wall.vertex; is_vertex = wall.is_vertex; same = wall.same } in
    let free : IsOpenAbove g u = record { open_at = λ f F. false_from_ne_true _ (λ h. let c = covers_parts f u h in false≢true (sym (high_vertex g t f.high (plane.upper_in f F) (plane.proper_edge f F).1) ∙ c.1.1)) } in
    let a : left_count g u ≡ width g (slab_left g t) = all_reach g t (slab_left g t) (λ e. reaches_left e t) (λ e E. spans_left g t e plane wall E) (λ e E h. run_positive e ((left_side g t plane wall).passes e e E E h h).e_long) in
    let b : right_count g u ≡ width g (slab_right g t) = all_reach g t (slab_right g t) (λ e. reaches_right e t) (λ e E. spans_right g t e plane wall E) (λ e E h. run_positive e ((right_side g t plane wall).passes e e E E h h).e_long) in
    let m : Meets g (record { slab = slab_left g t; place = left_count g u }) (record { slab = slab_right g t; place = right_count g u }) = across u wall' free in
    right _ _ _ (here _) (subst (λ (p : ℕ × ℕ). Meets g (record { slab = slab_left g t; place = p.0 }) (record { slab = slab_right g t; place = p.1 })) (λ i. (a i, b i)) m)

-- all in one face
top_step : (g : Skeleton) (w : Point) → IsPlaneSkeleton g → Contains g.vertices w → ((x : Point) → Contains g.vertices x → slab_right g x < slab_right g w → SameFace g (top_cell g 0) (top_cell g (slab_right g x))) → SameFace g (top_cell g 0) (top_cell g (slab_right g w))
top_step g w plane in' before =
    let s = top_meets g w plane (on_own_wall g w plane in') in
    let W = plane.proper w in' in
    elim (greatest w g.vertices plane.proper) [
      | inl none ↦
          let z : slab_left g w ≡ 0 = sum_by-same (λ v. cond (left_of v w) 1 0) (λ (v : Point). 0) g.vertices (each (λ v. cond {A = ℕ} (left_of v w) 1 0 ≡ 0) g.vertices (λ v i. ap (λ b. cond b 1 0) (none v i))) ∙ sum_by-none g.vertices in
          subst (λ n. SameFace g (top_cell g n) (top_cell g (slab_right g w))) z s
      | inr best ↦
          let r = wall_before g best.0 w plane W best.1 best.2 in
          let k = r.1 in
          let less = right_many g w r.0 plane in' (plane.proper r.0 k.is_vertex) k.earlier in
          face_trans g _ _ _ (subst (λ n. SameFace g (top_cell g 0) (top_cell g n)) (sym k.next) (before r.0 k.is_vertex less)) s
    ]

top_all : (g : Skeleton) (n : ℕ) (w : Point) → IsPlaneSkeleton g → Contains g.vertices w → slab_right g w ≤ n → SameFace g (top_cell g 0) (top_cell g (slab_right g w))
top_all g zero w plane in' h = top_step g w plane in' (λ x i l. absurd (omega arith))
top_all g (suc n) w plane in' h = top_step g w plane in' (λ x i l. top_all g n x plane i (omega arith))

pub unbounded : (g : Skeleton) (w : Point) → IsPlaneSkeleton g → Contains g.vertices w → SameFace g (top_cell g 0) (top_cell g (slab_right g w))
unbounded g w plane in' = top_all g (slab_right g w) w plane in' (omega arith)

-- ---- above each edge of a slab stands another, or nothing
data Above (g : Skeleton) (i : ℕ) (e : Edge) : Type 0 where
  another : (d : Edge) → Contains g.edges d → spans g i d ≡ true → place g i d ≡ place g i e + 1 → Above g i e
  nothing : width g i ≡ place g i e + 1 → Above g i e

-- the order of a slab, and its edges
record Column (g : Skeleton) (i : ℕ) (M : Point) : Type 0 where
  plane : IsPlaneSkeleton g
  slab : IsSlab g i M

-- of three edges
carry : (g : Skeleton) (i : ℕ) (M : Point) (f e d : Edge) → Column g i M → Contains g.edges f → Contains g.edges e → Contains g.edges d → spans g i f ≡ true → spans g i e ≡ true → spans g i d ≡ true → below f e ≡ true → below e d ≡ true → below f d ≡ true
carry g i M f e d c F E D sf se sd h k =
    let K = c.slab.proper in
    let P = c.plane in
    let tf = through g i M f c.slab F sf in
    let te = through g i M e c.slab E se in
    let td = through g i M d c.slab D sd in
    below_at g f d M P F D K tf td (gap_trans f e d M (run_through g f M P F K tf) (run_through g e M P E K te) (run_through g d M P D K td) (gap_at g f e M P F E K tf te h) (gap_at g e d M P E D K te td k))

-- an edge is below e, above it, or e
data Beside (f e : Edge) : Type 0 where
  same : f ≡ e → Beside f e
  lower : below f e ≡ true → Beside f e
  upper : below e f ≡ true → below f e ≡ false → Beside f e

beside : (g : Skeleton) (i : ℕ) (M : Point) (f e : Edge) → Column g i M → Contains g.edges f → Contains g.edges e → spans g i f ≡ true → spans g i e ≡ true → Beside f e
beside g i M f e c F E sf se =
    let K = c.slab.proper in
    let P = c.plane in
    let tf = through g i M f c.slab F sf in
    let te = through g i M e c.slab E se in
    by_gap g f e M P F E K tf te
    (λ k. lower (below_at g f e M P F E K tf te k))
    (λ k. let s = gap-swap f e M in let b = below_at g e f M P E F K te tf (omega (arith, ints)) in upper b (false_from_ne_true _ (λ x. below_asym g f e P F E x b)))
    same

last_place : (g : Skeleton) (i : ℕ) (M : Point) (e : Edge) → Column g i M → Contains g.edges e → spans g i e ≡ true → ((f : Edge) → Contains g.edges f → spans g i f ≡ true → below e f ≡ true → ⊥) → width g i ≡ place g i e + 1
unfolding width
last_place g i M e c E se none =
    let now : Edge → ℕ = λ f. cond (spans g i f) 1 0 in
    let old : Edge → ℕ = λ f. cond (spans g i f && below f e) 1 0 in
    let own : Edge → ℕ = λ f. cond (same_edge e f) 1 0 in
    let pair : (f : Edge) → Contains g.edges f → now f ≡ old f + own f = λ f F.
    at (spans g i f) (below f e) (same_edge e f)
    (λ k. subst (λ x. (spans g i x ≡ true) × (below x e ≡ false)) (same_edge_is e f k) (se, below_self g e c.plane E))
    (λ k o. elim (beside g i M f e c F E k se) [
      | same q ↦ absurd (false≢true (sym o ∙ subst (λ x. same_edge e x ≡ true) (sym q) (same_edge_refl e)))
      | lower q ↦ q
      | upper q r ↦ absurd (none f F k q)
    ]) in
    sum_by-same now (λ f. old f + own f) g.edges (each (λ f. now f ≡ old f + own f) g.edges pair) ∙ sum_by-plus old own g.edges ∙ ap (λ m. place g i e + m) (c.plane.edge_once e E)
  where
    at : (s b q : Bool) → (q ≡ true → (s ≡ true) × (b ≡ false)) → (s ≡ true → q ≡ false → b ≡ true) → cond {A = ℕ} s 1 0 ≡ cond (s && b) 1 0 + cond q 1 0
    at s b true h k = let a = h refl in rw (a.0, a.1) refl
    at true b false h k = rw (k refl refl) refl
    at false b false h k = refl

succ_place : (g : Skeleton) (i : ℕ) (M : Point) (e d : Edge) → Column g i M → Contains g.edges e → Contains g.edges d → spans g i e ≡ true → spans g i d ≡ true → below e d ≡ true → ((f : Edge) → Contains g.edges f → spans g i f ≡ true → below e f ≡ true → below f d ≡ true → ⊥) → place g i d ≡ place g i e + 1
succ_place g i M e d c E D se sd h none =
    let now : Edge → ℕ = λ f. cond (spans g i f && below f d) 1 0 in
    let old : Edge → ℕ = λ f. cond (spans g i f && below f e) 1 0 in
    let own : Edge → ℕ = λ f. cond (same_edge e f) 1 0 in
    let pair : (f : Edge) → Contains g.edges f → now f ≡ old f + own f = λ f F.
    one_more (spans g i f) (below f d) (below f e) (same_edge e f)
    (λ k. subst (λ x. (spans g i x ≡ true) × (below x d ≡ true) × (below x e ≡ false)) (same_edge_is e f k) (se, h, below_self g e c.plane E))
    (λ k o. elim (beside g i M f e c F E k se) [
      | same q ↦ absurd (false≢true (sym o ∙ subst (λ x. same_edge e x ≡ true) (sym q) (same_edge_refl e)))
      | lower q ↦ carry g i M f e d c F E D k se sd q h ∙ sym q
      | upper q r ↦ false_from_ne_true _ (λ x. none f F k q x) ∙ sym r
    ]) in
    sum_by-same now (λ f. old f + own f) g.edges (each (λ f. now f ≡ old f + own f) g.edges pair) ∙ sum_by-plus old own g.edges ∙ ap (λ m. place g i e + m) (c.plane.edge_once e E)

least_step : (g : Skeleton) (i : ℕ) (M : Point) (e d : Edge) → Column g i M → Contains g.edges e → Contains g.edges d → spans g i e ≡ true → spans g i d ≡ true → below e d ≡ true → ((f : Edge) → Contains g.edges f → spans g i f ≡ true → below e f ≡ true → place g i f < place g i d → Above g i e) → Above g i e
least_step g i M e d c E D se sd h on =
    elim (cases_lt 0 (count_by (λ f. spans g i f && (below e f && below f d)) g.edges)) [
      | inl l ↦
          let w = found (λ f. spans g i f && (below e f && below f d)) g.edges l in
          let a = and_parts (spans g i w.0) (below e w.0 && below w.0 d) w.2 in
          let b = and_parts (below e w.0) (below w.0 d) a.1 in
          on w.0 w.1 a.0 b.0 (place_less g i M w.0 d c.plane c.slab w.1 D a.0 sd b.1)
      | inr l ↦ another d D sd (succ_place g i M e d c E D se sd h (λ f F sf x y.
          let k = fewer_than (λ (f : Edge). false) (λ f. spans g i f && (below e f && below f d)) g.edges f F refl (and_from _ _ sf (and_from _ _ x y)) (λ z _ n. absurd (false≢true n)) in
          absurd (omega arith)))
    ]

least : (g : Skeleton) (i : ℕ) (M : Point) (e : Edge) (n : ℕ) (d : Edge) → Column g i M → Contains g.edges e → Contains g.edges d → spans g i e ≡ true → spans g i d ≡ true → below e d ≡ true → place g i d ≤ n → Above g i e
least g i M e zero d c E D se sd h l = least_step g i M e d c E D se sd h (λ f F sf x s. absurd (omega arith))
least g i M e (suc n) d c E D se sd h l = least_step g i M e d c E D se sd h (λ f F sf x s. least g i M e n f c E F se sf x (omega arith))

above : (g : Skeleton) (i : ℕ) (M : Point) (e : Edge) → Column g i M → Contains g.edges e → spans g i e ≡ true → Above g i e
above g i M e c E se =
    elim (cases_lt 0 (count_by (λ f. spans g i f && below e f) g.edges)) [
      | inl l ↦
          let w = found (λ f. spans g i f && below e f) g.edges l in
          let a = and_parts (spans g i w.0) (below e w.0) w.2 in
          least g i M e (place g i w.0) w.0 c E w.1 se a.0 a.1 (omega arith)
      | inr l ↦ nothing (last_place g i M e c E se (λ f F sf x.
          let k = fewer_than (λ (f : Edge). false) (λ f. spans g i f && below e f) g.edges f F refl (and_from _ _ sf x) (λ z _ n. absurd (false≢true n)) in
          absurd (omega arith)))
    ]

-- nothing is above the top cell
top_weight : (g : Skeleton) (m : Edge → ℕ) (i : ℕ) (M : Point) → Column g i M → weight_above g m i (width g i) ≡ 0
unfolding width
top_weight g m i M c =
    sum_by-same (λ e. cond (spans g i e && leb (width g i) (place g i e)) (m e) 0) (λ (e : Edge). 0) g.edges (each (λ e. cond (spans g i e && leb (width g i) (place g i e)) (m e) 0 ≡ 0) g.edges (λ e E.
    none (spans g i e) (leb (width g i) (place g i e)) (m e) (λ s. lt-leb (width g i) (place g i e)
    (fewer_than (λ f. spans g i f && below f e) (spans g i) g.edges e E
    (false_from_ne_true _ (λ x. let y = and_parts (spans g i e) (below e e) x in below_asym g e e c.plane E E y.1 y.1)) s
    (λ f _ x. (and_parts (spans g i f) (below f e) x).0))))) ∙ sum_by-none g.edges
  where
    none : (s b : Bool) (n : ℕ) → (s ≡ true → b ≡ false) → cond (s && b) n 0 ≡ 0
    none true b n h = rw (h refl) refl
    none false b n h = refl

-- ---- a set of faces
abbrev IsGood : Skeleton → (SlabCell → Bool) → (Edge → ℕ) → SlabCell → Type 0
IsGood g inn m c = Even (weight_above g m c.slab c.place + cond (inn c) 1 0 + cond (inn (top_cell g 0)) 1 0)

good_same : (g : Skeleton) (inn : SlabCell → Bool) (m : Edge → ℕ) (c d : SlabCell) → IsPlaneSkeleton g → IsEvenAtVertices g m → IsFaceSet g inn m → SameFace g c d → IsGood g inn m c → IsGood g inn m d
good_same g inn m c d plane even s f h =
    let a = parity_face g m c d plane even f in
    let b : cond {A = ℕ} (inn c) 1 0 ≡ cond (inn d) 1 0 = ap (λ x. cond x 1 0) (s.respects c d f) in
    omega arith

-- over an edge, in its first slab
good_step : (g : Skeleton) (inn : SlabCell → Bool) (m : Edge → ℕ) (e : Edge) → IsPlaneSkeleton g → IsFaceSet g inn m → Contains g.edges e → left_of e.low e.high ≡ true → IsGood g inn m (forward_cell g e) → IsGood g inn m (backward_cell g e)
good_step g inn m e plane s E long h =
    let wall = on_own_wall g e.low plane (plane.lower_in e E) in
    let se : spans g (slab_right g e.low) e ≡ true = spans_right g e.low e plane wall E ∙ and_from _ _ (ap not (left_of-irrefl e.low)) long in
    let a = weight_step g m (slab_right g e.low) (right_inside g e.low) e plane (is_slab_right g e.low plane wall) E se in
    let b = s.counts e E long in
    omega arith

-- beside e in any slab on the right of a vertex
pub to_first : (g : Skeleton) (e : Edge) (w : Point) → IsPlaneSkeleton g → Contains g.vertices w → Contains g.edges e → spans g (slab_right g w) e ≡ true → (left_of e.low e.high ≡ true) × SameFace g (forward_cell g e) (above_e g e (slab_right g w)) × SameFace g (backward_cell g e) (below_e g e (slab_right g w))
to_first g e w plane in' E h =
    let wall = on_own_wall g w plane in' in
    let r : reaches_right e w ≡ true = sym (spans_right g w e plane wall E) ∙ h in
    let a = and_parts (not (left_of w e.low)) (left_of w e.high) r in
    let long = ((right_side g w plane wall).passes e e E E r r).e_long in (
      long,
      chain g e (above_e g e) plane E (λ t wall th. over_wall g e t plane wall E th) (slab_right g w) w in' (not-true _ a.0) a.1 (omega arith),
      chain g e (below_e g e) plane E (λ t wall th. under_wall g e t plane wall E th) (slab_right g w) w in' (not-true _ a.0) a.1 (omega arith),
    )

pub place_in : (g : Skeleton) (i : ℕ) (e : Edge) → IsPlaneSkeleton g → Contains g.edges e → spans g i e ≡ true → place g i e < width g i
unfolding width
place_in g i e plane E se =
    fewer_than (λ f. spans g i f && below f e) (spans g i) g.edges e E
    (false_from_ne_true _ (λ x. let y = and_parts (spans g i e) (below e e) x in below_asym g e e plane E E y.1 y.1)) se
    (λ f _ x. (and_parts (spans g i f) (below f e) x).0)

good_top : (g : Skeleton) (inn : SlabCell → Bool) (m : Edge → ℕ) (w : Point) → IsPlaneSkeleton g → IsFaceSet g inn m → Contains g.vertices w → Column g (slab_right g w) (right_inside g w) → IsGood g inn m (record { slab = slab_right g w; place = width g (slab_right g w) })
good_top g inn m w plane s in' c =
    let a = top_weight g m (slab_right g w) (right_inside g w) c in
    let b : cond {A = ℕ} (inn (record { slab = slab_right g w; place = width g (slab_right g w) })) 1 0 ≡ cond (inn (top_cell g 0)) 1 0 = sym (ap (λ x. cond x 1 0) (top_same g inn m w plane s in')) in
    omega arith
  where
    top_same : (g : Skeleton) (inn : SlabCell → Bool) (m : Edge → ℕ) (w : Point) → IsPlaneSkeleton g → IsFaceSet g inn m → Contains g.vertices w → inn (top_cell g 0) ≡ inn (record { slab = slab_right g w; place = width g (slab_right g w) })
    top_same g inn m w plane s in' = unfold top_cell in s.respects _ _ (unbounded g w plane in')

good_one : (g : Skeleton) (inn : SlabCell → Bool) (m : Edge → ℕ) (w : Point) (e : Edge) → IsPlaneSkeleton g → IsEvenAtVertices g m → IsFaceSet g inn m → Contains g.vertices w → Contains g.edges e → spans g (slab_right g w) e ≡ true → ((d : Edge) → Contains g.edges d → spans g (slab_right g w) d ≡ true → place g (slab_right g w) d ≡ place g (slab_right g w) e + 1 → IsGood g inn m (above_e g d (slab_right g w))) → IsGood g inn m (above_e g e (slab_right g w))
good_one g inn m w e plane even s in' E se on =
    let i = slab_right g w in
    let c : Column g i (right_inside g w) = record { plane = plane; slab = is_slab_right g w plane (on_own_wall g w plane in') } in
    let P : ℕ → Type 0 = λ j. IsGood g inn m (record { slab = slab_right g w; place = j }) in
    elim (above g i (right_inside g w) e c E se) [
      | another d D sd p ↦
          let t = to_first g d w plane in' D sd in
          let h1 = good_same g inn m _ _ plane even s (face_sym g _ _ t.1) (on d D sd p) in
          let h2 = good_step g inn m d plane s D t.0 h1 in
          let h3 : P (place g (slab_right g w) d) = good_same g inn m _ _ plane even s t.2 h2 in
          subst P p h3
      | nothing p ↦ subst P p (good_top g inn m w plane s in' c)
    ]

good_down : (g : Skeleton) (inn : SlabCell → Bool) (m : Edge → ℕ) (w : Point) (n : ℕ) (e : Edge) → IsPlaneSkeleton g → IsEvenAtVertices g m → IsFaceSet g inn m → Contains g.vertices w → Contains g.edges e → spans g (slab_right g w) e ≡ true → width g (slab_right g w) ≤ place g (slab_right g w) e + n → IsGood g inn m (above_e g e (slab_right g w))
good_down g inn m w zero e plane even s in' E se l = good_one g inn m w e plane even s in' E se (λ d D sd p. let k = place_in g (slab_right g w) e plane E se in absurd (omega arith))
good_down g inn m w (suc n) e plane even s in' E se l = good_one g inn m w e plane even s in' E se (λ d D sd p. good_down g inn m w n d plane even s in' D sd (omega arith))

-- the weight above each of an edge's two cells is odd exactly where one of that cell and the unbounded cell is in the set
pub good_forward : (g : Skeleton) (inn : SlabCell → Bool) (m : Edge → ℕ) (e : Edge) → IsPlaneSkeleton g → IsEvenAtVertices g m → IsFaceSet g inn m → Contains g.edges e → left_of e.low e.high ≡ true → IsGood g inn m (forward_cell g e)
good_forward g inn m e plane even s E long =
    let in' = plane.lower_in e E in
    let se : spans g (slab_right g e.low) e ≡ true = spans_right g e.low e plane (on_own_wall g e.low plane in') E ∙ and_from _ _ (ap not (left_of-irrefl e.low)) long in
    good_down g inn m e.low (width g (slab_right g e.low)) e plane even s in' E se (omega arith)

pub good_backward : (g : Skeleton) (inn : SlabCell → Bool) (m : Edge → ℕ) (e : Edge) → IsPlaneSkeleton g → IsEvenAtVertices g m → IsFaceSet g inn m → Contains g.edges e → left_of e.low e.high ≡ true → IsGood g inn m (backward_cell g e)
good_backward g inn m e plane even s E long = good_step g inn m e plane s E long (good_forward g inn m e plane even s E long)

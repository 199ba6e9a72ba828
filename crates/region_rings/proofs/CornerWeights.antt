-- Above the cell over an edge that goes to the right from a vertex, the weights are even together with those of the edges from the vertex that are met after it, clockwise from straight down, where no edge with a weight begins before the vertex.
use Rattle.std.proofs.Common.{◌≡◌, ℕ, zero, suc, ◌+◌, ◌<◌, Bool, true, false, cond, not, ◌&&◌, arith, refl, sym, ap, ◌∙◌, subst, inl, inr}
use Rattle.std.specs.Prelude.{◌||◌}
use Rattle.std.specs.List.{Contains, sum_by}
use Rattle.std.proofs.lemmas.Bool.{and_parts, not-true, false≢true, false_from_ne_true, cases_Bool, cases_lt, le-leb, lt-leb}
use Rattle.std.proofs.lemmas.Int.{ints}
use lib.Dec.{leb}
use Rattle.exact_plane.specs.Point.{Point}
use Rattle.plane_graphs.specs.Graph.{Edge}
use Rattle.slab_laws.specs.Darts.{kind, ahead, by_class, on_left, on_right}
use Rattle.slab_laws.specs.Rotation.{turn, earlier}
use Rattle.slab_laws.specs.Skeleton.{Skeleton, left_of, lower_than, precedes, below, over, same_point, IsPlaneSkeleton}
use Rattle.slab_laws.specs.Slabs.{slab_right, spans, place, reaches_right}
use Rattle.slab_laws.specs.Weights.{Even, weight_above, IsEvenAtVertices}
use Rattle.slab_faces.proofs.Cells.{IsSideOf, right_side, place_over, place_under}
use Rattle.slab_faces.proofs.Corners.{IsAt}
use Rattle.slab_faces.proofs.Next.{at_lower}
use Rattle.slab_faces.proofs.Nudge.{right_inside, is_slab_right}
use Rattle.slab_faces.proofs.Order.{gap-swap}
use Rattle.slab_faces.proofs.OverUnder.{zero_not_over}
use Rattle.slab_faces.proofs.Parity.{same_point_is, same_point_refl}
use Rattle.slab_faces.proofs.RotationLemmas.{Early, earlier_in, earlier_out}
use Rattle.slab_faces.proofs.Slabs.{IsSlab, through, by_gap, below_at, place_less}
use Rattle.slab_faces.proofs.Sums.{each, sum_by-plus, sum_by-same}
use Rattle.slab_faces.proofs.Turns.{on_own_wall}
use Rattle.slab_faces.proofs.Walls.{left_of-irrefl, left_of-after, over-lower}
use Rattle.region_rings.proofs.BelowVertices.{even_slab}
use Rattle.region_rings.proofs.LeastCorners.{neither}

-- the weights above a place, and those at or below it
parted : (s : Bool) (j k n : ℕ) → cond (s && leb (j + 1) k) n 0 + cond (s && leb k j) n 0 ≡ cond (s && leb 0 k) n 0
parted false j k n = refl
parted true j k n = elim (cases_lt j k) [
  | inl l ↦ rw (le-leb (j + 1) k (omega arith), lt-leb k j l, le-leb 0 k (omega arith)) (omega arith)
  | inr l ↦ rw (lt-leb (j + 1) k (omega arith), le-leb k j (omega arith), le-leb 0 k (omega arith)) (omega arith)
]

no_weight : (a b : Bool) (n : ℕ) → n ≡ 0 → cond a n 0 ≡ cond b n 0
no_weight true true n e = refl
no_weight true false n e = e
no_weight false true n e = sym e
no_weight false false n e = refl

module _ (g : Skeleton) (plane : IsPlaneSkeleton g) (v : Point) (V : Contains g.vertices v) (h : Edge) (H : Contains g.edges h) (begins : h.low ≡ v) (long : left_of h.low h.high ≡ true) where
  abbrev i : ℕ
  i = slab_right g v

  side_of : IsSideOf g v (slab_right g v) (λ f. reaches_right f v)
  side_of = right_side g v plane (on_own_wall g v plane V)

  slab : IsSlab g (slab_right g v) (right_inside g v)
  slab = is_slab_right g v plane (on_own_wall g v plane V)

  h_at : IsAt g v (λ z. reaches_right z v) h
  h_at = subst (λ (q : Point). IsAt g q (λ z. reaches_right z q) h) begins (at_lower g h plane H long)

  spans_h : spans g (slab_right g v) h ≡ true
  spans_h = side_of.spanned h H ∙ h_at.reaches

  turns_right : turn (ahead h) ≡ 2
  turns_right = ap (λ l. kind l true) long

  -- ---- an edge from the vertex to the right
  module _ (f : Edge) (F : Contains g.edges f) (other : f ≡ h → ⊥) where
    lower_place : spans g (slab_right g v) f ≡ true → below f h ≡ true → leb (place g (slab_right g v) f) (place g (slab_right g v) h) ≡ true
    lower_place s b = le-leb (place g i f) (place g i h) (let l = place_less g i (right_inside g v) f h plane slab F H s spans_h b in omega arith)

    upper_place : spans g (slab_right g v) f ≡ true → below f h ≡ false → leb (place g (slab_right g v) f) (place g (slab_right g v) h) ≡ false
    upper_place s n =
        let tf = through g i (right_inside g v) f slab F s in
        let th = through g i (right_inside g v) h slab H spans_h in
        let w = gap-swap f h (right_inside g v) in
        by_gap g f h (right_inside g v) plane F H slab.proper tf th
        (λ k. absurd (false≢true (sym n ∙ below_at g f h (right_inside g v) plane F H slab.proper tf th k)))
        (λ k. lt-leb (place g i f) (place g i h) (place_less g i (right_inside g v) h f plane slab H F spans_h s (below_at g h f (right_inside g v) plane H F slab.proper th tf (omega (arith, ints)))))
        (λ q. absurd (other q))

    not_early : (n : ℕ) → turn (ahead f) ≡ n → n < 2 → earlier (ahead h) (ahead f) ≡ false
    not_early n e l = false_from_ne_true (earlier (ahead h) (ahead f)) (λ k. by (earlier_out (ahead h) (ahead f) k))
      where
        by : Early (ahead h) (ahead f) → ⊥
        by (by_class k) = let q = turns_right in absurd (omega arith)
        by (on_left z y b) = let q = turns_right in absurd (omega arith)
        by (on_right z y b) = absurd (omega arith)

    by_below : left_of f.low f.high ≡ true → earlier (ahead h) (ahead f) ≡ below f h
    by_below l = elim (cases_Bool (below f h)) [
      | inl b ↦ earlier_in (ahead h) (ahead f) (on_right turns_right (ap (λ x. kind x true) l) b) ∙ sym b
      | inr n ↦ false_from_ne_true (earlier (ahead h) (ahead f)) (λ k. out n (earlier_out (ahead h) (ahead f) k)) ∙ sym n
    ]
      where
        out : below f h ≡ false → Early (ahead h) (ahead f) → ⊥
        out n (by_class k) = let q = turns_right in let r : turn (ahead f) ≡ 2 = ap (λ x. kind x true) l in absurd (omega arith)
        out n (on_left z y b) = let q = turns_right in absurd (omega arith)
        out n (on_right z y b) = false≢true (sym n ∙ b)

    -- it begins at the vertex
    at_vertex : f.low ≡ v → (b : Bool) → left_of f.low f.high ≡ b → (spans g (slab_right g v) f && leb (place g (slab_right g v) f) (place g (slab_right g v) h)) ≡ earlier (ahead h) (ahead f)
    at_vertex q true l =
        let r : reaches_right f v ≡ true = subst (λ (z : Point). reaches_right f z ≡ true) q (at_lower g f plane F l).reaches in
        let s = side_of.spanned f F ∙ r in
        (λ k. s k && leb (place g i f) (place g i h))
        ∙ (elim (cases_Bool (below f h)) [
          | inl b ↦ lower_place s b ∙ sym (by_below l ∙ b)
          | inr n ↦ upper_place s n ∙ sym (by_below l ∙ n)
        ])
    at_vertex q false l =
        let r : reaches_right f v ≡ false = subst (λ (z : Point). reaches_right f z ≡ false) q ((λ k. not (left_of-irrefl f.low k) && l k)) in
        (λ k. (side_of.spanned f F ∙ r) k && leb (place g i f) (place g i h)) ∙ sym (not_early 1 (ap (λ x. kind x true) l) (omega arith))

    -- it begins above the vertex, or reaches its wall from elsewhere
    elsewhere : (f.low ≡ v → ⊥) → precedes f.low v ≡ false → (r : Bool) → reaches_right f v ≡ r → (spans g (slab_right g v) f && leb (place g (slab_right g v) f) (place g (slab_right g v) h)) ≡ false
    elsewhere apart n false e = (λ k. (side_of.spanned f F ∙ e) k && leb (place g i f) (place g i h))
    elsewhere apart n true e =
        let w = plane.proper_edge f F in
        let P = plane.proper v V in
        let a = and_parts (not (left_of v f.low)) (left_of v f.high) e in
        let right : left_of v f.low ≡ false = not-true (left_of v f.low) a.0 in
        let b = neither (left_of f.low v) (not (left_of v f.low) && lower_than f.low v) n in
        let after : precedes v f.low ≡ true = elim (cases_Bool (precedes v f.low)) [
          | inl y ↦ y
          | inr m ↦ absurd (apart (plane.distinct f.low v (plane.lower_in f F) V n m))
        ] in
        let up : lower_than v f.low ≡ true = higher (left_of v f.low) (left_of f.low v) (lower_than v f.low) after right in
        let o : over f v ≡ true = over-lower f v w.0 (left_of-after f.low v f.high w.0 P w.1 right a.1) b.0 right ∙ up in
        let x = place_over g v i (λ z. reaches_right z v) f side_of F e o in
        let y = place_under g v i (λ z. reaches_right z v) h plane side_of H h_at.reaches (zero_not_over h v h_at.on) in
        (λ k. (side_of.spanned f F ∙ e) k && leb (place g i f) (place g i h)) ∙ lt-leb (place g i f) (place g i h) (omega arith)
      where
        higher : (c d l : Bool) → (c || (not d && l)) ≡ true → c ≡ false → l ≡ true
        higher true d l h k = absurd cc
        higher false true l h k = absurd cc
        higher false false l h k = h

    same_test : precedes f.low v ≡ false → (spans g (slab_right g v) f && leb (place g (slab_right g v) f) (place g (slab_right g v) h)) ≡ (same_point f.low v && earlier (ahead h) (ahead f))
    same_test n = elim (cases_Bool (same_point f.low v)) [
      | inl y ↦ at_vertex (same_point_is f.low v y) (left_of f.low f.high) refl ∙ sym (λ k. y k && earlier (ahead h) (ahead f))
      | inr m ↦ elsewhere (λ q. false≢true (sym m ∙ ap (λ (z : Point). same_point z v) q ∙ same_point_refl v)) n (reaches_right f v) refl ∙ sym (λ k. m k && earlier (ahead h) (ahead f))
    ]

  -- ---- weights
  module _ (m : Edge → ℕ) (own : m h ≡ 0) (late : (f : Edge) → Contains g.edges f → (m f ≡ 0 → ⊥) → precedes f.low v ≡ false) where
    term : (f : Edge) → Contains g.edges f → (n : ℕ) → m f ≡ n → cond (spans g (slab_right g v) f && leb (place g (slab_right g v) f) (place g (slab_right g v) h)) (m f) 0 ≡ cond (same_point f.low v && earlier (ahead h) (ahead f)) (m f) 0
    term f F zero e = no_weight (spans g i f && leb (place g i f) (place g i h)) (same_point f.low v && earlier (ahead h) (ahead f)) (m f) e
    term f F (suc n) e =
        let some : m f ≡ 0 → ⊥ = λ z. absurd (omega arith) in
        ap (λ b. cond b (m f) 0) (same_test f F (λ q. some (ap m q ∙ own)) (late f F some))

    pub even_over : IsEvenAtVertices g m → Even (weight_above g m (slab_right g v) (place g (slab_right g v) h + 1) + sum_by (λ f. cond (same_point f.low v && earlier (ahead h) (ahead f)) (m f) 0) g.edges)
    even_over even =
        let up : Edge → ℕ = λ f. cond (spans g i f && leb (place g i h + 1) (place g i f)) (m f) 0 in
        let down : Edge → ℕ = λ f. cond (spans g i f && leb (place g i f) (place g i h)) (m f) 0 in
        let all : Edge → ℕ = λ f. cond (spans g i f && leb 0 (place g i f)) (m f) 0 in
        let met : Edge → ℕ = λ f. cond (same_point f.low v && earlier (ahead h) (ahead f)) (m f) 0 in
        let a = sum_by-plus up down g.edges in
        let b : sum_by (λ f. up f + down f) g.edges ≡ sum_by all g.edges = sum_by-same (λ f. up f + down f) all g.edges (each (λ f. up f + down f ≡ all f) g.edges (λ f F. parted (spans g i f) (place g i h) (place g i f) (m f))) in
        let c : sum_by down g.edges ≡ sum_by met g.edges = sum_by-same down met g.edges (each (λ f. down f ≡ met f) g.edges (λ f F. term f F (m f) refl)) in
        let d : Even (sum_by all g.edges) = even_slab g plane v V m even in
        omega arith

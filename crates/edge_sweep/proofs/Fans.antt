-- Edges from one lower end, in the order of their slopes, are one above the other.
use Rattle.std.proofs.Common.{◌≡◌, true, false, refl, sym, ap, ◌∙◌, subst, arith, ◌⊎◌, inl, inr, [], ◌∷◌, Ordering, Less, Equal, Greater}
use Rattle.std.specs.Prelude.{ℤ, pos, ◌+ℤ◌, ◌-ℤ◌, ◌*ℤ◌, ◌<ℤ◌, neg_ℤ}
use Rattle.std.specs.List.{Contains}
use Rattle.std.specs.Ordering.{int_cmp}
use Rattle.std.proofs.lemmas.Int.{ints, by_lt_z}
use Rattle.std.proofs.lemmas.Bool.{cases_Bool}
use Rattle.integers.proofs.Compare.{less_out, equal_out, equal_in, greater_out, greater_in}
use Rattle.integers.proofs.Reify.{ring, sides}
use Rattle.integers.proofs.Signs.{mul_pos', cancel_zero, cancel_pos}
use Rattle.exact_plane.specs.Line.{Line, side_of, IsLine, IsForward}
use Rattle.exact_plane.specs.MeetOf.{weight_of}
use Rattle.exact_plane.specs.Plane.{Before}
use Rattle.exact_plane.specs.Point.{Point, IsPoint}
use Rattle.exact_plane.specs.PointOrder.{point_cmp}
use Rattle.exact_plane.specs.Slope.{rise_cmp}
use Rattle.exact_plane.specs.Span.{Span, IsSpan}
use Rattle.exact_plane.proofs.Meetings.{parallel_one}
use Rattle.exact_plane.proofs.PlaneLaws.{before_of}
use Rattle.exact_plane.proofs.SlopeLaws.{rise_is}
use Rattle.plane_graphs.specs.Graph.{Edge}
use Rattle.slab_laws.specs.Skeleton.{Skeleton, IsPlaneSkeleton, side, precedes}
use Rattle.slab_laws.specs.SpansDrawn.{edge_of}
use Rattle.slab_faces.proofs.OverUnder.{under_in, weak_under}
use Rattle.slab_faces.proofs.Points.{before_irrefl}
use Rattle.edge_predicates.proofs.Sides.{side_same}
use Rattle.edge_predicates.proofs.Uprights.{above_fan, never_inside}
use Rattle.edge_sweep.specs.Fronts.{are_stacked}
use Rattle.edge_sweep.proofs.Passed.{low_first}
use Rattle.edge_sweep.proofs.Stacks.{stacked_from}
use Rattle.edge_predicates.proofs.SidesKept.{turned}

-- ---- lines through one point
-- the side of a point of the steeper line, beyond the common point, against the line's direction
module _ (l m : Line) (p q : Point) (hp : side_of l p ≡ pos 0) (kp : side_of m p ≡ pos 0) (kq : side_of m q ≡ pos 0) where
  along : m.b *ℤ side_of l q *ℤ p.w ≡ (q.x *ℤ p.w -ℤ p.x *ℤ q.w) *ℤ weight_of l m
  along =
      whole
      ∙ (λ i. (m.b *ℤ hp i -ℤ l.b *ℤ kp i) *ℤ q.w +ℤ l.b *ℤ kq i *ℤ p.w +ℤ (q.x *ℤ p.w -ℤ p.x *ℤ q.w) *ℤ weight_of l m)
      ∙ ring (l.a ∷ l.b ∷ m.a ∷ m.b ∷ p.x ∷ p.w ∷ q.x ∷ q.w ∷ []) (search sides depth 40 fits 20000) tt
    where
      whole : m.b *ℤ side_of l q *ℤ p.w ≡ (m.b *ℤ side_of l p -ℤ l.b *ℤ side_of m p) *ℤ q.w +ℤ l.b *ℤ side_of m q *ℤ p.w +ℤ (q.x *ℤ p.w -ℤ p.x *ℤ q.w) *ℤ weight_of l m
      whole = ring (l.a ∷ l.b ∷ l.c ∷ m.a ∷ m.b ∷ m.c ∷ p.x ∷ p.y ∷ p.w ∷ q.x ∷ q.y ∷ q.w ∷ []) (search sides depth 40 fits 20000) tt

  upward : neg_ℤ m.a *ℤ side_of l q *ℤ p.w ≡ (q.y *ℤ p.w -ℤ p.y *ℤ q.w) *ℤ weight_of l m
  upward =
      whole
      ∙ (λ i. (l.a *ℤ kp i -ℤ m.a *ℤ hp i) *ℤ q.w -ℤ l.a *ℤ kq i *ℤ p.w +ℤ (q.y *ℤ p.w -ℤ p.y *ℤ q.w) *ℤ weight_of l m)
      ∙ ring (l.a ∷ l.b ∷ m.a ∷ m.b ∷ p.y ∷ p.w ∷ q.y ∷ q.w ∷ []) (search sides depth 40 fits 20000) tt
    where
      whole : neg_ℤ m.a *ℤ side_of l q *ℤ p.w ≡ (l.a *ℤ side_of m p -ℤ m.a *ℤ side_of l p) *ℤ q.w -ℤ l.a *ℤ side_of m q *ℤ p.w +ℤ (q.y *ℤ p.w -ℤ p.y *ℤ q.w) *ℤ weight_of l m
      whole = ring (l.a ∷ l.b ∷ l.c ∷ m.a ∷ m.b ∷ m.c ∷ p.x ∷ p.y ∷ p.w ∷ q.x ∷ q.y ∷ q.w ∷ []) (search sides depth 40 fits 20000) tt

-- a direction (b, -a), a positive weight, and a step (x, y) that is ahead: k is positive where n is
ahead : (a b k w x y n : ℤ) → IsForward a b → pos 0 <ℤ w → (pos 0 <ℤ x) ⊎ ((x ≡ pos 0) × (pos 0 <ℤ y)) → pos 0 <ℤ n → b *ℤ k *ℤ w ≡ x *ℤ n → neg_ℤ a *ℤ k *ℤ w ≡ y *ℤ n → pos 0 <ℤ k
ahead a b k w x y n f W (inl X) N e g =
    by_lt_z (pos 0) b
    (λ B. cancel_pos {x = k} {k = b *ℤ w} (mul_pos' b w B W) (subst (λ z. pos 0 <ℤ z) (sym e ∙ ring (b ∷ k ∷ w ∷ []) (search sides depth 40 fits 20000) tt) (mul_pos' x n X N)))
    (λ B. let z : b ≡ pos 0 = (let c = f.forward in omega (arith, ints)) in let t = mul_pos' x n X N in let u : x *ℤ n ≡ pos 0 = sym e ∙ ap (λ i. i *ℤ k *ℤ w) z ∙ ring (k ∷ w ∷ []) (search sides depth 40 fits 20000) tt in absurd (omega (arith, ints)))
ahead a b k w x y n f W (inr Y) N e g =
    by_lt_z (pos 0) b
    (λ B.
    let t = mul_pos' y n Y.1 N in
    let u : k *ℤ (b *ℤ w) ≡ pos 0 = ring (b ∷ k ∷ w ∷ []) (search sides depth 40 fits 20000) tt ∙ e ∙ ap (λ i. i *ℤ n) Y.0 ∙ ring (n ∷ []) (search sides depth 40 fits 20000) tt in
    let z = cancel_zero {x = k} {k = b *ℤ w} (mul_pos' b w B W) u in
    let v : y *ℤ n ≡ pos 0 = sym g ∙ ap (λ i. neg_ℤ a *ℤ i *ℤ w) z ∙ ring (a ∷ w ∷ []) (search sides depth 40 fits 20000) tt in
    absurd (omega (arith, ints)))
    (λ B.
    let z : b ≡ pos 0 = (let c = f.forward in omega (arith, ints)) in
    let h = f.upward z in
    let A : pos 0 <ℤ neg_ℤ a = omega (arith, ints) in
    cancel_pos {x = k} {k = neg_ℤ a *ℤ w} (mul_pos' (neg_ℤ a) w A W) (subst (λ z. pos 0 <ℤ z) (sym g ∙ ring (a ∷ k ∷ w ∷ []) (search sides depth 40 fits 20000) tt) (mul_pos' y n Y.1 N)))

steps : (p q : Point) → Before p.x p.y p.w q.x q.y q.w → (pos 0 <ℤ (q.x *ℤ p.w -ℤ p.x *ℤ q.w)) ⊎ ((q.x *ℤ p.w -ℤ p.x *ℤ q.w ≡ pos 0) × (pos 0 <ℤ (q.y *ℤ p.w -ℤ p.y *ℤ q.w)))
steps p q (inl a) = inl (omega (arith, ints))
steps p q (inr a) = let e = a.0 in let f = a.1 in inr (omega (arith, ints), omega (arith, ints))

-- a point of the steeper line beyond the common point is on the left of the other
pub steeper_left : (l m : Line) (p q : Point) → IsLine l → IsLine m → IsPoint p → IsPoint q → point_cmp p q ≡ Less → side_of l p ≡ pos 0 → side_of m p ≡ pos 0 → side_of m q ≡ pos 0 → pos 0 <ℤ weight_of l m → pos 0 <ℤ side_of l q
steeper_left l m p q hl hm P Q h lp mp mq n =
    ahead m.a m.b (side_of l q) p.w (q.x *ℤ p.w -ℤ p.x *ℤ q.w) (q.y *ℤ p.w -ℤ p.y *ℤ q.w) (weight_of l m) hm.runs P.range.positive (steps p q (before_of p q P Q h)) n (along l m p q lp mp mq) (upward l m p q lp mp mq)

-- ---- edges
-- the side by the line, back to the side by the ends
left_by_line : (s : Span) (t : Point) → IsSpan s → pos 0 <ℤ side_of s.line t → pos 0 <ℤ side (edge_of s) t
left_by_line s t is h = at (int_cmp (side (edge_of s) t) (pos 0)) refl
  where
    line : int_cmp (side_of s.line t) (pos 0) ≡ Greater
    line = greater_in (side_of s.line t) (pos 0) h

    at : (o : Ordering) → int_cmp (side (edge_of s) t) (pos 0) ≡ o → pos 0 <ℤ side (edge_of s) t
    at Less e = let z = sym e ∙ side_same s is t ∙ line in absurd cc
    at Equal e = let z = sym e ∙ side_same s is t ∙ line in absurd cc
    at Greater e = greater_out (side (edge_of s) t) (pos 0) e

level_by_line : (s : Span) (t : Point) → IsSpan s → side_of s.line t ≡ pos 0 → side (edge_of s) t ≡ pos 0
level_by_line s t is h = equal_out (side (edge_of s) t) (pos 0) (side_same s is t ∙ equal_in (side_of s.line t) (pos 0) h)

-- the second is on the left of the first
stacked_fan : (e f : Edge) → e.low ≡ f.low → pos 0 <ℤ side e f.high → are_stacked e f ≡ true
stacked_fan e f h k =
    let n = before_irrefl e.low in
    let ef : precedes e.low f.low ≡ false = subst (λ t. precedes e.low t ≡ false) h n in
    let fe : precedes f.low e.low ≡ false = subst (λ t. precedes t e.low ≡ false) h n in
    let t = turned e f (sym h) in
    stacked_from e f (above_fan f e ef fe ∙ under_in e f.high k) (above_fan e f fe ef ∙ weak_under f e.high (omega (arith, ints)))

-- from one lower end, along one line: one edge
one_edge : (g : Skeleton) (e f : Edge) → IsPlaneSkeleton g → Contains g.edges e → Contains g.edges f → e.low ≡ f.low → side e f.high ≡ pos 0 → e ≡ f
one_edge g e f plane E F h z =
    elim (cases_Bool (precedes f.high e.high)) [
      | inl a ↦ absurd (never_inside g e f.high plane E (plane.upper_in f F) (subst (λ t. precedes t f.high ≡ true) (sym h) (low_first g f plane F)) a z)
      | inr a ↦ elim (cases_Bool (precedes e.high f.high)) [
        | inl b ↦ absurd (never_inside g f e.high plane F (plane.upper_in e E) (subst (λ t. precedes t e.high ≡ true) h (low_first g e plane E)) b (let t = turned e f (sym h) in omega (arith, ints)))
        | inr b ↦ let k = plane.distinct e.high f.high (plane.upper_in e E) (plane.upper_in f F) b a in λ i. record { low = h i; high = k i }
      ]
    ]

module _ (g : Skeleton) (plane : IsPlaneSkeleton g) (s t : Span) (hs : IsSpan s) (ht : IsSpan t) (S : Contains g.edges (edge_of s)) (T : Contains g.edges (edge_of t)) (h : s.lower ≡ t.lower) where
  on_other : side_of t.line s.lower ≡ pos 0
  on_other = subst (λ p. side_of t.line p ≡ pos 0) (sym h) ht.way.lower_on

  ascending : point_cmp s.lower t.upper ≡ Less
  ascending = subst (λ p. point_cmp p t.upper ≡ Less) (sym h) ht.way.ascending

  pub fan_less : rise_cmp s.line t.line ≡ Less → are_stacked (edge_of s) (edge_of t) ≡ true
  fan_less k =
      let n = less_out (pos 0) (weight_of s.line t.line) (sym (rise_is s.line t.line hs.line.runs ht.line.runs) ∙ k) in
      stacked_fan (edge_of s) (edge_of t) h (left_by_line s t.upper hs (steeper_left s.line t.line s.lower t.upper hs.line ht.line hs.lower ht.upper ascending hs.way.lower_on on_other ht.way.upper_on n))

  pub fan_equal : rise_cmp s.line t.line ≡ Equal → edge_of s ≡ edge_of t
  fan_equal k =
      let n : weight_of s.line t.line ≡ pos 0 = sym (equal_out (pos 0) (weight_of s.line t.line) (sym (rise_is s.line t.line hs.line.runs ht.line.runs) ∙ k)) in
      let one : s.line ≡ t.line = parallel_one s.line t.line s.lower hs.line ht.line hs.lower.range.positive n hs.way.lower_on on_other in
      one_edge g (edge_of s) (edge_of t) plane S T h (level_by_line s t.upper hs (subst (λ (l : Line). side_of l t.upper ≡ pos 0) (sym one) ht.way.upper_on))

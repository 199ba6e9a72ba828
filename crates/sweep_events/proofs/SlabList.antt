-- The status after the last event of an abscissa is the list of the next slab.
use Rattle.std.proofs.Common.{◌≡◌, ℕ, ◌<◌, [], ◌∷◌, List, ℤ, pos, ◌+ℤ◌, ◌-ℤ◌, ◌*ℤ◌, ◌<ℤ◌, ◌≤ℤ◌, neg_ℤ, refl, ap, sym, ◌∙◌, subst, arith, inl, inr, Ordering, Less, Equal}
use Rattle.std.specs.Prelude.{Some}
use Rattle.std.specs.Ordering.{nat_cmp, int_cmp, ordering_then}
use Rattle.std.proofs.lemmas.Int.{ints, by_lt_z}
use Rattle.integers.proofs.Compare.{less_in, equal_in}
use Rattle.integers.proofs.Reify.{ring, sides}
use Rattle.integers.proofs.Signs.{mul_pos, mul_nonneg, cancel_pos, cancel_zero, weak}
use Rattle.exact_plane.specs.Height.{height_cmp, height_over, height_under}
use Rattle.exact_plane.specs.Line.{Line, side_of}
use Rattle.exact_plane.specs.Point.{Point, IsPoint}
use Rattle.exact_plane.specs.PointOrder.{point_cmp}
use Rattle.exact_plane.specs.Span.{Span, IsAtMost, IsSpan}
use Rattle.exact_plane.proofs.Heights.{height_cmp-is}
use Rattle.plane_graphs.specs.Ascending.{Member, IsAscending}
use Rattle.sweep_events.specs.Events.{IsEvent, IsNext, IsQueue}
use Rattle.sweep_events.specs.Front.{across, upward, lean, level_cmp, after_cmp}
use Rattle.sweep_events.specs.Slab.{IsRightOf, slab_cmp, IsAcross, IsLastOfAbscissa, IsInSlab, IsSlabList}
use Rattle.sweep_events.specs.Status.{status_cmp, waiting_cmp, IsMet, IsStatus}
use Rattle.sweep_events.proofs.FrontOrder.{apart_weak, across_moves, cross_back, one_line, itself_after, not_behind_twice}
use Rattle.sweep_events.proofs.TwoNumbers.{IsWeak, Lexed, lexed}
use Rattle.sweep_events.proofs.TwoNumbers.Lexed.{ahead, level, behind}
use Rattle.sweep_events.proofs.Queue.{FirstOf, first_of, order_for, event_point}
use Rattle.sweep_events.proofs.Queue.FirstOf.{no_more, first}
use Rattle.sweep_events.proofs.EventSteps.{ascends_by, in_order}

-- ---- what a comparison of two lines says of their heights
pub low_across : (l m : Line) (p : Point) (t u : Ordering) → ordering_then (ordering_then (level_cmp p l m) t) u ≡ Less → pos 0 ≤ℤ across l m p
low_across l m p t u h = by (lexed (across l m p) (upward l m p))
  where
    by : Lexed (across l m p) (upward l m p) → pos 0 ≤ℤ across l m p
    by (ahead (inl a)) = weak a
    by (ahead (inr a)) = let e = a.0 in omega (arith, ints)
    by (level e f) = omega (arith, ints)
    by (behind b) = absurd (not_behind_twice (across l m p) (upward l m p) t u h b)

height_less : (l m : Line) (t : Point) → pos 0 <ℤ t.w → pos 0 <ℤ across l m t → height_cmp l m t ≡ Less
height_less l m t h a = sym (height_cmp-is l m t h) ∙ less_in ((m.a *ℤ t.x +ℤ m.c *ℤ t.w) *ℤ l.b) ((l.a *ℤ t.x +ℤ l.c *ℤ t.w) *ℤ m.b) (below _ _ (subst (λ z. pos 0 <ℤ z) same a))
  where
    same : across l m t ≡ (l.a *ℤ t.x +ℤ l.c *ℤ t.w) *ℤ m.b -ℤ (m.a *ℤ t.x +ℤ m.c *ℤ t.w) *ℤ l.b
    same = ring (l.a ∷ l.b ∷ l.c ∷ m.a ∷ m.b ∷ m.c ∷ t.x ∷ t.y ∷ t.w ∷ []) (search sides depth 40 fits 20000) tt

    below : (a b : ℤ) → pos 0 <ℤ (b -ℤ a) → a <ℤ b
    below a b h = omega (arith, ints)

pub height_itself : (l : Line) (t : Point) → height_cmp l l t ≡ Equal
height_itself l t = equal_in (height_over l t *ℤ height_under l t) (height_over l t *ℤ height_under l t) refl

-- how far two abscissas are apart
abbrev dx : Point → Point → ℤ
dx p q = q.x *ℤ p.w -ℤ p.x *ℤ q.w

between_heights : (l m : Line) (q t v : Point) → across l m t *ℤ dx q v ≡ across l m q *ℤ dx t v +ℤ across l m v *ℤ dx q t
between_heights l m q t v = ring (l.a ∷ l.b ∷ l.c ∷ m.a ∷ m.b ∷ m.c ∷ q.x ∷ q.y ∷ q.w ∷ t.x ∷ t.y ∷ t.w ∷ v.x ∷ v.y ∷ v.w ∷ []) (search sides depth 40 fits 20000) tt

-- ---- a piece that goes on to the right isn't vertical
pub slanted : (s : Span) → IsSpan s → IsRightOf s.lower s.upper → pos 0 <ℤ s.line.b
slanted s h r =
    by_lt_z (pos 0) s.line.b (λ k. k) (λ k. absurd (no (flat s.line.b k h.line.runs.forward)))
  where
    flat : (b : ℤ) → b ≤ℤ pos 0 → pos 0 ≤ℤ b → b ≡ pos 0
    flat b h k = omega (arith, ints)

    along : (l : Line) (p q : Point) → l.a *ℤ dx p q ≡ side_of l q *ℤ p.w -ℤ side_of l p *ℤ q.w -ℤ l.b *ℤ (q.y *ℤ p.w -ℤ p.y *ℤ q.w)
    along l p q = ring (l.a ∷ l.b ∷ l.c ∷ p.x ∷ p.y ∷ p.w ∷ q.x ∷ q.y ∷ q.w ∷ []) (search sides depth 40 fits 20000) tt

    no : s.line.b ≡ pos 0 → ⊥
    no e =
        let z : s.line.a *ℤ dx s.lower s.upper ≡ pos 0 =
        along s.line s.lower s.upper
        ∙ (λ i. h.way.upper_on i *ℤ s.lower.w -ℤ h.way.lower_on i *ℤ s.upper.w -ℤ e i *ℤ (s.upper.y *ℤ s.lower.w -ℤ s.lower.y *ℤ s.upper.w))
        ∙ ring (s.lower.w ∷ s.upper.w ∷ s.lower.y ∷ s.upper.y ∷ []) (search sides depth 40 fits 20000) tt in
        let a : s.line.a ≡ pos 0 = cancel_zero {x = s.line.a} {k = dx s.lower s.upper} (omega (arith, ints)) z in
        let b = h.line.runs.upward e in
        omega (arith, ints)

-- ---- points on the right
right_chain : (p q r : Point) → pos 0 <ℤ p.w → pos 0 <ℤ q.w → pos 0 <ℤ r.w → (p.x *ℤ q.w) ≤ℤ (q.x *ℤ p.w) → IsRightOf q r → IsRightOf p r
right_chain p q r hp hq hr h k =
    let a = mul_nonneg {a = q.x *ℤ p.w -ℤ p.x *ℤ q.w} {b = r.w} (omega (arith, ints)) (weak hr) in
    let b = mul_pos {a = r.x *ℤ q.w -ℤ q.x *ℤ r.w} {b = p.w} (omega (arith, ints)) hp in
    let c : (r.x *ℤ p.w -ℤ p.x *ℤ r.w) *ℤ q.w ≡ (q.x *ℤ p.w -ℤ p.x *ℤ q.w) *ℤ r.w +ℤ (r.x *ℤ q.w -ℤ q.x *ℤ r.w) *ℤ p.w = ring (p.x ∷ p.w ∷ q.x ∷ q.w ∷ r.x ∷ r.w ∷ []) (search sides depth 40 fits 20000) tt in
    let d = cancel_pos {x = r.x *ℤ p.w -ℤ p.x *ℤ r.w} hq (omega (arith, ints)) in
    omega (arith, ints)

-- a point that isn't after another isn't on its right
upto_right : (p q : Point) → IsPoint p → IsPoint q → IsAtMost p q → (p.x *ℤ q.w) ≤ℤ (q.x *ℤ p.w)
upto_right p q hp hq h = by (apart_weak p q hp hq h)
  where
    by : IsWeak (q.x *ℤ p.w -ℤ p.x *ℤ q.w) (q.y *ℤ p.w -ℤ p.y *ℤ q.w) → (p.x *ℤ q.w) ≤ℤ (q.x *ℤ p.w)
    by (inl a) = omega (arith, ints)
    by (inr a) = let e = a.0 in omega (arith, ints)

right_less : (p q : Point) → IsPoint p → IsPoint q → IsRightOf p q → point_cmp p q ≡ Less
right_less p q hp hq h = elim (in_order q p) [ inl a ↦ absurd (no (upto_right q p hq hp a)) | inr b ↦ b ]
  where
    no : (q.x *ℤ p.w) ≤ℤ (p.x *ℤ q.w) → ⊥
    no k = omega (arith, ints)

module _ (piece : ℕ → Span) (n : ℕ) (pins : List Point) (spans : (i : ℕ) → i < n → IsSpan (piece i)) (pinned : (r : Point) → Member r pins → IsPoint r)
    (vs : List Point) (listed : (r : Point) → IsEvent piece n pins r → Member r vs) (event : (r : Point) → Member r vs → IsEvent piece n pins r)
    (q : Point) (hq : IsPoint q) (places : List ℕ) (queue : List Point) (status : IsStatus piece n q places) (known : IsQueue piece n pins (Some q) places queue) (final : IsLastOfAbscissa piece n pins q) where
  upper_end : (i : ℕ) → i < n → IsEvent piece n pins (piece i).upper
  upper_end i h = inl (record { place = i; within = h; is_end = inr refl })

  lower_end : (i : ℕ) → i < n → IsEvent piece n pins (piece i).lower
  lower_end i h = inl (record { place = i; within = h; is_end = inl refl })

  goes_across : (i : ℕ) → i < n → IsMet q (piece i) → IsAcross q (piece i)
  goes_across i h m = record { begun = upto_right (piece i).lower q (spans i h).lower hq m.begun; unended = final (piece i).upper (upper_end i h) m.unended }

  is_met : (i : ℕ) → i < n → IsAcross q (piece i) → IsMet q (piece i)
  is_met i h a = record {
    begun = elim (in_order (piece i).lower q) [ inl b ↦ b | inr b ↦ absurd (no (piece i).lower a.begun (final (piece i).lower (lower_end i h) b)) ];
    unended = right_less q (piece i).upper hq (spans i h).upper a.unended;
  }
    where
      no : (l : Point) → (l.x *ℤ q.w) ≤ℤ (q.x *ℤ l.w) → IsRightOf q l → ⊥
      no l h k = omega (arith, ints)

  -- two pieces of the status, and the next event v: their order holds up to there
  module _ (v : Point) (next : IsNext piece n pins (Some q) v) (t : Point) (inside : IsInSlab piece n pins q t) where
    hv : IsPoint v
    hv = event_point piece n pins spans pinned v next.event

    right_of_t : IsRightOf t v
    right_of_t = inside.free v next.event next.beyond

    same_order : (i j : ℕ) → Member i places → Member j places → status_cmp piece q i j ≡ Less → slab_cmp piece t i j ≡ Less
    same_order i j mi mj h =
        let l = (piece i).line in
        let m = (piece j).line in
        let a = (status.met i).0 mi in
        let b = (status.met j).0 mj in
        let w : waiting_cmp piece v i j ≡ Less = later in
        let at_q = low_across l m q (int_cmp (pos 0) (lean l m)) (nat_cmp i j) h in
        let at_v = low_across l m v (int_cmp (lean l m) (pos 0)) (nat_cmp i j) w in
        by_lt_z (pos 0) (across l m t)
        (λ s. ap (λ o. ordering_then o (nat_cmp i j)) (height_less l m t inside.proper s))
        (λ s. level_there at_q at_v s)
      where
        later : waiting_cmp piece v i j ≡ Less
        later = order_for piece n pins spans pinned q hq places queue status known v next i j ((status.met i).0 mi).0 ((status.met j).0 mj).0 ((status.met i).0 mi).1 ((status.met j).0 mj).1 h

        slanted_i : pos 0 <ℤ (piece i).line.b
        slanted_i =
            let a = (status.met i).0 mi in
            let s = spans i a.0 in
            let e = goes_across i a.0 a.1 in
            slanted (piece i) s (right_chain (piece i).lower q (piece i).upper s.lower.range.positive hq.range.positive s.upper.range.positive e.begun e.unended)

        flat_sum : (a b c x y z : ℤ) → pos 0 <ℤ x → pos 0 <ℤ y → pos 0 <ℤ z → a *ℤ x ≡ b *ℤ y +ℤ c *ℤ z → a ≤ℤ pos 0 → pos 0 ≤ℤ b → pos 0 ≤ℤ c → (b ≡ pos 0) × (c ≡ pos 0)
        flat_sum a b c x y z hx hy hz e ha hb hc =
            let k = mul_nonneg {a = neg_ℤ a} {b = x} (omega (arith, ints)) (weak hx) in
            let r : neg_ℤ a *ℤ x ≡ neg_ℤ (a *ℤ x) = ring (a ∷ x ∷ []) (search sides depth 40 fits 20000) tt in
            let u = mul_nonneg hb (weak hy) in
            let w = mul_nonneg hc (weak hz) in
            (cancel_zero hy (omega (arith, ints)), cancel_zero hz (omega (arith, ints)))

        no_lean : (a w b v d n : ℤ) → pos 0 <ℤ d → a *ℤ w ≡ b *ℤ v +ℤ d *ℤ n → a ≡ pos 0 → b ≡ pos 0 → n ≡ pos 0
        no_lean a w b v d n hd e f g =
            let x : a *ℤ w ≡ pos 0 = ap (λ z. z *ℤ w) f ∙ ring (w ∷ []) (search sides depth 40 fits 20000) tt in
            let y : b *ℤ v ≡ pos 0 = ap (λ z. z *ℤ v) g ∙ ring (v ∷ []) (search sides depth 40 fits 20000) tt in
            let z : n *ℤ d ≡ d *ℤ n = ring (n ∷ d ∷ []) (search sides depth 40 fits 20000) tt in
            cancel_zero {x = n} {k = d} hd (omega (arith, ints))

        no_upward : (s n a x b u : ℤ) → pos 0 <ℤ b → s *ℤ n ≡ a *ℤ x +ℤ b *ℤ u → n ≡ pos 0 → x ≡ pos 0 → u ≡ pos 0
        no_upward s n a x b u hb e f g =
            let y : s *ℤ n ≡ pos 0 = ap (λ z. s *ℤ z) f ∙ ring (s ∷ []) (search sides depth 40 fits 20000) tt in
            let z : a *ℤ x ≡ pos 0 = ap (λ z. a *ℤ z) g ∙ ring (a ∷ []) (search sides depth 40 fits 20000) tt in
            let w : u *ℤ b ≡ b *ℤ u = ring (u ∷ b ∷ []) (search sides depth 40 fits 20000) tt in
            cancel_zero {x = u} {k = b} hb (omega (arith, ints))

        level_there : pos 0 ≤ℤ across (piece i).line (piece j).line q → pos 0 ≤ℤ across (piece i).line (piece j).line v → across (piece i).line (piece j).line t ≤ℤ pos 0 → slab_cmp piece t i j ≡ Less
        level_there low_q low_v high_t =
            let l = (piece i).line in
            let m = (piece j).line in
            let qt = inside.right in
            let tv = right_of_t in
            let qv = right_chain q t v hq.range.positive inside.proper hv.range.positive (omega (arith, ints)) tv in
            let z = flat_sum (across l m t) (across l m q) (across l m v) (dx q v) (dx t v) (dx q t) (omega (arith, ints)) (omega (arith, ints)) (omega (arith, ints)) (between_heights l m q t v) high_t low_q low_v in
            let n = no_lean (across l m v) q.w (across l m q) v.w (dx q v) (lean l m) (omega (arith, ints)) (across_moves l m q v) z.1 z.0 in
            let u = no_upward (side_of l q) (lean l m) l.a (across l m q) l.b (upward l m q) slanted_i (cross_back l m q) n z.0 in
            let e = one_line (piece i) (piece j) q (spans i ((status.met i).0 mi).0) (spans j ((status.met j).0 mj).0) hq z.0 u n in
            let k : nat_cmp i j ≡ Less = sym (ap (λ (k : Line). ordering_then (after_cmp q k m) (nat_cmp i j)) e ∙ ap (λ o. ordering_then o (nat_cmp i j)) (itself_after m q)) ∙ h in
            ap (λ (k : Line). ordering_then (height_cmp k m t) (nat_cmp i j)) e ∙ ap (λ o. ordering_then o (nat_cmp i j)) (height_itself m t) ∙ k

  -- the status is the list of the next slab
  pub slab_list : IsSlabList piece n pins q places
  slab_list = record {
    spans = λ i. (
      (λ m. let a = (status.met i).0 m in (a.0, goes_across i a.0 a.1)),
      (λ h. (status.met i).1 (h.0, is_met i h.0 h.1)),
    );
    ascends = λ t inside. ordered t inside (first_of piece n pins spans pinned (Some q) vs);
  }
    where
      ordered : (t : Point) → IsInSlab piece n pins q t → FirstOf piece n pins spans pinned (Some q) vs → IsAscending (slab_cmp piece t) places
      ordered t inside (first v k b f) =
          ascends_by (status_cmp piece q) (slab_cmp piece t) places (same_order v (record { event = event v k; beyond = b; first = λ r e c. f r (listed r e) c }) t inside) status.ascends
      ordered t inside (no_more f) =
          ascends_by (status_cmp piece q) (slab_cmp piece t) places (λ i j mi mj h. let a = (status.met i).0 mi in absurd (f (piece i).upper (listed (piece i).upper (upper_end i a.0)) a.1.unended)) status.ascends

-- The events are finitely many: a list has them all.
use Rattle.std.proofs.Common.{◌≡◌, ℕ, zero, suc, ◌<◌, pos, refl, ap, sym, ◌∙◌, subst, arith, inl, inr, List, [], ◌∷◌, ◌++◌, Ordering, Less, Equal, Greater, eqb}
use Rattle.std.specs.Prelude.{◌⊎◌, Option, Some, Bool, true, false}
use Rattle.std.proofs.lemmas.Int.{ints}
use Rattle.std.proofs.lemmas.Bool.{eqb-true, eqb-false}
use Rattle.std.specs.Ordering.{int_cmp}
use Rattle.integers.proofs.Compare.{less_out, equal_out, greater_out}
use Rattle.exact_plane.specs.declared.meets.Meet.{Meet}
use Rattle.exact_plane.specs.declared.meets.Meet.TheVariants.{Apart, At, Along}
use Rattle.exact_plane.specs.Line.{Line}
use Rattle.exact_plane.specs.Meet.{IsMeeting}
use Rattle.exact_plane.specs.MeetOf.{weight_of, crossing_meet}
use Rattle.exact_plane.specs.Point.{Point, IsPoint}
use Rattle.exact_plane.specs.Span.{Span, IsAtMost, IsSpan}
use Rattle.exact_plane.proofs.Meetings.{parallel_one, crossing_is, weight_turned}
use Rattle.plane_graphs.specs.Ascending.{Member}
use Rattle.plane_graphs.proofs.Lists.{in_left, in_right, in_either}
use Rattle.sweep_events.specs.EventList.{joined, points_of, common_by, common, ends_at, meetings_at, all_events}
use Rattle.sweep_events.specs.Events.{AreMeeting, IsEvent, IsBeyond, IsPointAfter, IsNext, IsQueue, IsStatusAfter}
use Rattle.sweep_events.specs.Slab.{IsLastOfAbscissa, IsSlabList}
use Rattle.sweep_events.specs.Status.{IsStatus}
use Rattle.sweep_events.proofs.Queue.{least_is_next, none_left}
use Rattle.sweep_events.proofs.SlabList.{slab_list}

in_joined : (f : ℕ → List Point) (n i : ℕ) (r : Point) → i < n → Member r (f i) → Member r (joined f n)
unfolding joined
in_joined f zero i r h m = absurd (omega arith)
in_joined f (suc n) i r h m = at (eqb i n) refl (λ k. in_joined f n i r k m)
  where
    at : (b : Bool) → eqb i n ≡ b → (i < n → Member r (joined f n)) → Member r (f n ++ joined f n)
    at true e ih = in_left r (f n) (joined f n) (subst (λ k. Member r (f k)) (eqb-true i n e) m)
    at false e ih = let ne : i ≡ n → ⊥ = eqb-false i n e in in_right r (f n) (joined f n) (ih (omega arith))

of_joined : (f : ℕ → List Point) (n : ℕ) (r : Point) → Member r (joined f n) → (i : ℕ) × (i < n) × Member r (f i)
unfolding joined
of_joined f zero r m = absurd m
of_joined f (suc n) r m = elim (in_either r (f n) (joined f n) m) [
  | inl a ↦ (n, omega arith, a)
  | inr b ↦ (let w = of_joined f n r b in (w.0, omega (arith, w.1), w.2))
]

only_point : (s t : Span) (m : Meet) → IsMeeting s t m → (r : Point) → AreMeeting s t r → Member r (points_of m)
unfolding points_of
only_point s t Apart h r a = absurd (h r a.point a.on_first a.on_second)
only_point s t (At p) h r a = inl (h.only r a.point a.on_first a.on_second)
only_point s t (Along p q) h r a = absurd (a.lines_differ h.one_line)

in_common : (s t : Span) → IsSpan s → IsSpan t → (r : Point) → AreMeeting s t r → Member r (common s t)
unfolding common common_by
in_common s t hs ht r a = at (int_cmp (weight_of s.line t.line) (pos 0)) refl
  where
    at : (o : Ordering) → int_cmp (weight_of s.line t.line) (pos 0) ≡ o → Member r (common_by o s t)
    at Less e = only_point t s (crossing_meet t s) (crossing_is t s ht hs (weight_turned s.line t.line (less_out _ _ e))) r (record { point = a.point; on_first = a.on_second; on_second = a.on_first; lines_differ = λ (f : t.line ≡ s.line). a.lines_differ (sym f) })
    at Equal e = absurd (a.lines_differ (parallel_one s.line t.line r hs.line ht.line a.point.range.positive (equal_out _ _ e) a.on_first.on a.on_second.on))
    at Greater e = only_point s t (crossing_meet s t) (crossing_is s t hs ht (greater_out _ _ e)) r a

weightless : (l m : Line) → l ≡ m → weight_of l m ≡ pos 0
weightless l m e = ap (λ (k : Line). weight_of k m) e ∙ omega (arith, ints)

is_point_of : (s t : Span) (m : Meet) → IsMeeting s t m → (r : Point) → Member r (points_of m) → (s.line ≡ t.line → ⊥) → AreMeeting s t r
unfolding points_of
is_point_of s t Apart h r k d = absurd k
is_point_of s t (At p) h r (inl e) d = subst (λ (q : Point). AreMeeting s t q) (sym e) (record { point = h.point; on_first = h.on_first; on_second = h.on_second; lines_differ = d })
is_point_of s t (At p) h r (inr k) d = absurd k
is_point_of s t (Along p q) h r k d = absurd k

of_common : (s t : Span) → IsSpan s → IsSpan t → (r : Point) → Member r (common s t) → AreMeeting s t r
unfolding common common_by
of_common s t hs ht r m = at (int_cmp (weight_of s.line t.line) (pos 0)) refl m
  where
    turned : AreMeeting t s r → AreMeeting s t r
    turned a = record { point = a.point; on_first = a.on_second; on_second = a.on_first; lines_differ = λ (f : s.line ≡ t.line). a.lines_differ (sym f) }

    at : (o : Ordering) → int_cmp (weight_of s.line t.line) (pos 0) ≡ o → Member r (common_by o s t) → AreMeeting s t r
    at Less e k =
        let w = less_out (weight_of s.line t.line) (pos 0) e in
        turned (is_point_of t s (crossing_meet t s) (crossing_is t s ht hs (weight_turned s.line t.line w)) r k (λ (f : t.line ≡ s.line). let z = weightless s.line t.line (sym f) in absurd (omega (arith, ints))))
    at Equal e k = absurd k
    at Greater e k =
        let w = greater_out (weight_of s.line t.line) (pos 0) e in
        is_point_of s t (crossing_meet s t) (crossing_is s t hs ht w) r k (λ (f : s.line ≡ t.line). let z = weightless s.line t.line f in absurd (omega (arith, ints)))

module _ (piece : ℕ → Span) (n : ℕ) (pins : List Point) (spans : (i : ℕ) → i < n → IsSpan (piece i)) (pinned : (r : Point) → Member r pins → IsPoint r) where
  pub listed : (r : Point) → IsEvent piece n pins r → Member r (all_events piece n pins)
  unfolding all_events meetings_at ends_at
  listed r (inl e) = in_left r (joined (ends_at piece n pins) n) (pins ++ joined (meetings_at piece n pins) n) (in_joined (ends_at piece n pins) n e.place r e.within (by e.is_end))
    where
      by : (r ≡ (piece e.place).lower) ⊎ (r ≡ (piece e.place).upper) → Member r ((piece e.place).lower ∷ (piece e.place).upper ∷ [])
      by (inl f) = inl f
      by (inr f) = inr (inl f)
  listed r (inr (inl m)) = in_right r (joined (ends_at piece n pins) n) (pins ++ joined (meetings_at piece n pins) n) (in_left r pins (joined (meetings_at piece n pins) n) m)
  listed r (inr (inr m)) =
      in_right r (joined (ends_at piece n pins) n) (pins ++ joined (meetings_at piece n pins) n) (in_right r pins (joined (meetings_at piece n pins) n)
      (in_joined (meetings_at piece n pins) n m.one r m.one_within (in_joined (λ j. common (piece m.one) (piece j)) n m.other r m.other_within
      (in_common (piece m.one) (piece m.other) (spans m.one m.one_within) (spans m.other m.other_within) r m.meet))))

  pub event : (r : Point) → Member r (all_events piece n pins) → IsEvent piece n pins r
  unfolding all_events meetings_at ends_at
  event r m = elim (in_either r (joined (ends_at piece n pins) n) (pins ++ joined (meetings_at piece n pins) n) m) [
    | inl a ↦ (let w = of_joined (ends_at piece n pins) n r a in inl (record { place = w.0; within = w.1; is_end = ended w.0 w.2 }))
    | inr b ↦ elim (in_either r pins (joined (meetings_at piece n pins) n) b) [
      | inl c ↦ inr (inl c)
      | inr c ↦ (
          let w = of_joined (meetings_at piece n pins) n r c in
          let v = of_joined (λ j. common (piece w.0) (piece j)) n r w.2 in
          inr (inr (record { one = w.0; other = v.0; one_within = w.1; other_within = v.1; meet = of_common (piece w.0) (piece v.0) (spans w.0 w.1) (spans v.0 v.1) r v.2 })))
    ]
  ]
    where
      ended : (i : ℕ) → Member r ((piece i).lower ∷ (piece i).upper ∷ []) → (r ≡ (piece i).lower) ⊎ (r ≡ (piece i).upper)
      ended i (inl e) = inl e
      ended i (inr (inl e)) = inr e
      ended i (inr (inr e)) = absurd e

  -- ---- what was proved over a list of all events
  module _ (last : Option Point) (places : List ℕ) (queue : List Point) (hp : IsPointAfter last) (status : IsStatusAfter piece n last places) (known : IsQueue piece n pins last places queue) where
    -- the least point of the queue is the next event
    pub next_event : (q : Point) → Member q queue → ((r : Point) → Member r queue → IsAtMost q r) → IsNext piece n pins last q
    next_event = least_is_next piece n pins spans pinned (all_events piece n pins) listed event last places queue hp status known

    -- where the queue is empty, none is left
    pub no_event : queue ≡ [] → (r : Point) → IsEvent piece n pins r → IsBeyond last r → ⊥
    no_event = none_left piece n pins spans pinned (all_events piece n pins) listed event last places queue hp status known

  -- the status after the last event of an abscissa is the list of the next slab
  pub slab_after : (q : Point) → IsPoint q → (places : List ℕ) (queue : List Point) → IsStatus piece n q places → IsQueue piece n pins (Some q) places queue → IsLastOfAbscissa piece n pins q → IsSlabList piece n pins q places
  slab_after q hq places queue status known final = slab_list piece n pins spans pinned (all_events piece n pins) listed event q hq places queue status known final

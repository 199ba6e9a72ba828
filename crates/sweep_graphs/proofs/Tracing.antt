-- An event more: the lists of a trace are right again.
use Rattle.std.proofs.Common.{◌≡◌, ℕ, ◌+◌, ◌<◌, true, arith, refl, sym, ap, ◌∙◌, subst, ◌⊎◌, inl, inr, List, [], ◌∷◌, ◌++◌, length, map, ℤ, pos}
use Rattle.std.specs.Prelude.{slice_index_or, Option, None, Some, IfSome, IfNone}
use Rattle.std.specs.Ordering.{is_le}
use Rattle.std.specs.declared.cmp.Ordering.{Ordering}
use Rattle.std.specs.declared.cmp.Ordering.TheVariants.{Less, Equal, Greater}
use Rattle.std.proofs.lemmas.Int.{ints, by_lt_z}
use Rattle.std.proofs.lemmas.Bool.{cases_lt}
use Rattle.std.proofs.lemmas.List.{get_or_append_left, get_or_push, length-append}
use Rattle.exact_plane.specs.Line.{side_of}
use Rattle.exact_plane.specs.Point.{Point}
use Rattle.exact_plane.specs.PointOrder.{point_cmp}
use Rattle.exact_plane.specs.PointOrderLaws.{same_point}
use Rattle.exact_plane.specs.Span.{Span, IsSpan, LiesOn, IsAtMost}
use Rattle.exact_plane.proofs.Orders.{at_most_itself, less_at_most, at_most_both}
use Rattle.plane_graphs.specs.Ascending.{Member, IsAscending}
use Rattle.plane_graphs.proofs.Lists.{in_left, in_right, in_either, in_map, of_map}
use Rattle.sweep_events.specs.declared.event.Event.{Event}
use Rattle.sweep_events.specs.Events.{IsEvent, IsNext, IsBeyond}
use Rattle.sweep_events.specs.Below.{IsPieceBelow, IsPieceBelowAfter, IsBelowLast}
use Rattle.sweep_events.specs.Places.{piece_at, AreSpans}
use Rattle.sweep_events.specs.Status.{IsMet}
use Rattle.sweep_events.specs.Sweep.{Swept, IsEventAt, IsNextEvent, IsOver}
use Rattle.sweep_events.proofs.EventSteps.{append_ascends, in_order, not_both, less_chain, chain_less}
use Rattle.sweep_graphs.specs.declared.trace.OpenStretch.{OpenStretch}
use Rattle.sweep_graphs.specs.declared.trace.Stretch.{Stretch}
use Rattle.sweep_graphs.specs.Traces.{stretch_to, open_at, Traced, no_point, point_at, IsEventOn, IsStep, IsUpto, IsLastOn, IsStretch, IsOpenBelow, IsMetAfter, IsTraced, IsNoted, IsTrace}

-- ---- points in order
on_or_not : (z : ℤ) → (z ≡ pos 0) ⊎ (z ≡ pos 0 → ⊥)
on_or_not z = by_lt_z z (pos 0) (λ h. inr (λ e. absurd (omega (arith, ints)))) (λ h. by_lt_z (pos 0) z (λ k. inr (λ e. absurd (omega (arith, ints)))) (λ k. inl (omega (arith, ints))))

module _ (pieces : List Span) (pins : List Point) (spans : AreSpans pieces) (last : Option Point) (old new : Traced) (e : Event) (under : Option ℕ) where
  abbrev piece : ℕ → Span
  piece i = piece_at pieces i

  abbrev n : ℕ
  n = length pieces

  abbrev q : Point
  q = e.point

  abbrev OnPiece : ℕ → Point → Type 0
  OnPiece i r = IsEventOn (piece_at pieces) (length pieces) pins i r

  module _ (next : IsNext (piece_at pieces) (length pieces) pins last e.point) (event : IsEventAt pieces e.point e.ends e.starts e.passes) (lies : IsPieceBelow (piece_at pieces) (length pieces) e.point under) (t : IsTraced (piece_at pieces) (length pieces) pins last old) (noted : IsNoted old new e under) where
    -- ---- what comes up to q
    upto_or : (l : Option Point) (r : Point) → IsUpto (piece_at pieces) (length pieces) pins l r ⊎ IsBeyond l r
    upto_or None r = inr tt
    upto_or (Some p) r = elim (in_order r p) [ inl h ↦ inl h | inr h ↦ inr h ]

    old_before : (l : Option Point) (r : Point) → IsUpto (piece_at pieces) (length pieces) pins l r → IsBeyond l q → point_cmp r q ≡ Less
    old_before None r h k = elim h [ ]
    old_before (Some p) r h k = chain_less r p q h k

    before_old : (r : Point) → IsEvent (piece_at pieces) (length pieces) pins r → point_cmp r q ≡ Less → IsUpto (piece_at pieces) (length pieces) pins last r
    before_old r E h = elim (upto_or last r) [ inl k ↦ k | inr k ↦ absurd (not_both r q h (next.first r E k)) ]

    upto_old : (r : Point) → IsEvent (piece_at pieces) (length pieces) pins r → IsAtMost r q → IsUpto (piece_at pieces) (length pieces) pins last r ⊎ (r ≡ q)
    upto_old r E h = elim (upto_or last r) [ inl k ↦ inl k | inr k ↦ inr (at_most_both r q h (next.first r E k)) ]

    before : (r : Point) → IsUpto (piece_at pieces) (length pieces) pins last r → point_cmp r q ≡ Less
    before r h = old_before last r h next.beyond

    -- ---- points
    ascends : IsAscending point_cmp new.points
    ascends =
        subst (IsAscending point_cmp) (sym noted.points)
        (append_ascends point_cmp old.points (e.point ∷ []) t.ascends (tt, tt) (λ x y mx my. elim my [
          | inl k ↦ subst (λ z. point_cmp x z ≡ Less) (sym k) (before x ((t.points_are x).0 mx).1)
          | inr k ↦ absurd k
        ]))

    points_out : (r : Point) → Member r new.points → IsEvent (piece_at pieces) (length pieces) pins r × IsAtMost r q
    points_out r m = elim (in_either r old.points (e.point ∷ []) (subst (Member r) noted.points m)) [
      | inl a ↦ (let k = (t.points_are r).0 a in (k.0, less_at_most r q (before r k.1)))
      | inr a ↦ elim a [ inl k ↦ subst (λ z. IsEvent (piece_at pieces) (length pieces) pins z × IsAtMost z q) (sym k) (next.event, at_most_itself q) | inr k ↦ absurd k ]
    ]

    points_in : (r : Point) → IsEvent (piece_at pieces) (length pieces) pins r → IsAtMost r q → Member r new.points
    points_in r E h = subst (Member r) (sym noted.points) (elim (upto_old r E h) [
      | inl k ↦ in_left r old.points (e.point ∷ []) ((t.points_are r).1 (E, k))
      | inr k ↦ in_right r old.points (e.point ∷ []) (inl k)
    ])

    longer : length new.points ≡ length old.points + 1
    longer = ap length noted.points ∙ length-append old.points (e.point ∷ [])

    still_at : (k : ℕ) → k < length old.points → point_at new.points k ≡ point_at old.points k
    still_at k h = ap (λ ps. slice_index_or ps k no_point) noted.points ∙ get_or_append_left old.points (e.point ∷ []) no_point k h

    now_at : point_at new.points (length old.points) ≡ q
    now_at = ap (λ ps. slice_index_or ps (length old.points) no_point) noted.points ∙ get_or_push old.points e.point no_point (length old.points) refl

    -- ---- pieces through q
    span : (i : ℕ) → i < n → IsSpan (piece i)
    span i h = spans i h

    lower_event : (i : ℕ) → i < n → IsEvent (piece_at pieces) (length pieces) pins (piece i).lower
    lower_event i h = inl (record { place = i; within = h; is_end = inl refl })

    -- a piece with q on it that begins before q is met after what was last, and q ends it or is inside it
    met_after : (l : Option Point) (i : ℕ) → IsUpto (piece_at pieces) (length pieces) pins l (piece i).lower → IsBeyond l q → IsAtMost q (piece i).upper → IsMetAfter (piece_at pieces) (length pieces) pins l i
    met_after None i a b c = elim a [ ]
    met_after (Some p) i a b c = record { begun = a; unended = less_chain p q (piece i).upper b c }

    was_met : (i : ℕ) → i < n → point_cmp (piece i).lower q ≡ Less → IsAtMost q (piece i).upper → IsMetAfter (piece_at pieces) (length pieces) pins last i
    was_met i h a c = met_after last i (before_old (piece i).lower (lower_event i h) a) next.beyond c

    coming : (i : ℕ) → Member i e.ends ⊎ Member i e.passes → (i < n) × (point_cmp (piece i).lower q ≡ Less) × LiesOn (piece i) q
    coming i (inl m) =
        let a = (event.ending.member i).0 m in
        let s = span i a.0 in
        let l : point_cmp (piece i).lower q ≡ Less = subst (λ z. point_cmp (piece i).lower z ≡ Less) a.1 s.way.ascending in
        (a.0, l, subst (LiesOn (piece i)) a.1 (record { on = s.way.upper_on; from = less_at_most (piece i).lower (piece i).upper s.way.ascending; upto = at_most_itself (piece i).upper }))
    coming i (inr m) = let a = (event.passing.member i).0 m in (a.0, a.1.after, a.1.on)

    came : (i : ℕ) → i < n → point_cmp (piece i).lower q ≡ Less → LiesOn (piece i) q → Member i e.ends ⊎ Member i e.passes
    came i h a o = at (point_cmp q (piece i).upper) refl
      where
        at : (c : Ordering) → point_cmp q (piece i).upper ≡ c → Member i e.ends ⊎ Member i e.passes
        at Less k = inr ((event.passing.member i).1 (h, record { on = o; after = a; before = k }))
        at Equal k = inl ((event.ending.member i).1 (h, sym (same_point q (piece i).upper k)))
        at Greater k = absurd (clash (subst (λ x. is_le x ≡ true) k o.upto))
          where
            clash : is_le Greater ≡ true → ⊥
            clash f = cc

    last_of : (i : ℕ) → Member i e.ends ⊎ Member i e.passes → IsLastOn (piece_at pieces) (length pieces) pins last i (point_at old.points (slice_index_or old.lasts i 0)) × (slice_index_or old.lasts i 0 < length old.points)
    last_of i m = let c = coming i m in t.lasts_are i c.0 (was_met i c.0 c.1 c.2.upto)

    -- ---- stretches
    new_stretch : (i : ℕ) → Member i e.ends ⊎ Member i e.passes → IsStretch (piece_at pieces) (length pieces) pins new.points (stretch_to old.lasts (length old.points) i)
    new_stretch i m =
        let c = coming i m in
        let l = last_of i m in
        let a = point_at old.points (slice_index_or old.lasts i 0) in
        let s : IsStep (piece_at pieces) (length pieces) pins i a q = record {
          within = c.0;
          first = l.0.on;
          second = (next.event, c.2);
          ahead = before a l.0.upto;
          none = λ r R h k. not_both a r h (l.0.best r R (before_old r R.0 k));
        } in
        let u = longer in
        let b = l.1 in
        record {
          low_in = omega arith;
          high_in = omega arith;
          step = subst (λ z. IsStep (piece_at pieces) (length pieces) pins i z (point_at new.points (length old.points))) (sym (still_at (slice_index_or old.lasts i 0) l.1)) (subst (λ z. IsStep (piece_at pieces) (length pieces) pins i a z) (sym now_at) s);
        }

    old_stretch : (s : Stretch) → IsStretch (piece_at pieces) (length pieces) pins old.points s → IsStretch (piece_at pieces) (length pieces) pins new.points s
    old_stretch s h =
        let u = longer in
        let a = h.low_in in
        let b = h.high_in in
        record {
          low_in = omega arith;
          high_in = omega arith;
          step = subst (λ z. IsStep (piece_at pieces) (length pieces) pins s.piece z (point_at new.points s.high)) (sym (still_at s.low a)) (subst (λ z. IsStep (piece_at pieces) (length pieces) pins s.piece (point_at old.points s.low) z) (sym (still_at s.high b)) h.step);
        }

    sound : (s : Stretch) → Member s new.stretches → IsStretch (piece_at pieces) (length pieces) pins new.points s
    sound s m =
        let f = stretch_to old.lasts (length old.points) in
        elim (in_either s old.stretches (map f e.ends ++ map f e.passes) (subst (Member s) noted.stretches m)) [
          | inl a ↦ old_stretch s (t.sound s a)
          | inr a ↦ elim (in_either s (map f e.ends) (map f e.passes) a) [
            | inl b ↦ (let r = of_map f s e.ends b in subst (IsStretch (piece_at pieces) (length pieces) pins new.points) (sym r.2) (new_stretch r.0 (inl r.1)))
            | inr b ↦ (let r = of_map f s e.passes b in subst (IsStretch (piece_at pieces) (length pieces) pins new.points) (sym r.2) (new_stretch r.0 (inr r.1)))
          ]
        ]

    there : (i : ℕ) → Member i e.ends ⊎ Member i e.passes → Member (stretch_to old.lasts (length old.points) i) new.stretches
    there i m =
        let f = stretch_to old.lasts (length old.points) in
        subst (Member (f i)) (sym noted.stretches) (in_right (f i) old.stretches (map f e.ends ++ map f e.passes) (elim m [ inl a ↦ in_left (f i) (map f e.ends) (map f e.passes) (in_map f i e.ends a) | inr a ↦ in_right (f i) (map f e.ends) (map f e.passes) (in_map f i e.passes a) ]))

    complete : (i : ℕ) (a b : Point) → IsStep (piece_at pieces) (length pieces) pins i a b → IsAtMost b q → (s : Stretch) × Member s new.stretches × (s.piece ≡ i) × (point_at new.points s.low ≡ a) × (point_at new.points s.high ≡ b)
    complete i a b s h = elim (upto_old b s.second.0 h) [
      | inl k ↦
          let r = t.complete i a b s k in
          let g = t.sound r.0 r.1 in
          (r.0, subst (Member r.0) (sym noted.stretches) (in_left r.0 old.stretches _ r.1), r.2, still_at r.0.low g.low_in ∙ r.3, still_at r.0.high g.high_in ∙ r.4)
      | inr k ↦
          let ahead : point_cmp a q ≡ Less = subst (λ z. point_cmp a z ≡ Less) k s.ahead in
          let on : LiesOn (piece i) q = subst (LiesOn (piece i)) k s.second.1 in
          let m = came i s.within (chain_less (piece i).lower a q s.first.1.from ahead) on in
          let l = last_of i m in
          let x = point_at old.points (slice_index_or old.lasts i 0) in
          let best : IsAtMost a x = l.0.best a s.first (before_old a s.first.0 ahead) in
          let worse : IsAtMost x a = elim (in_order x a) [ inl w ↦ w | inr w ↦ absurd (s.none x l.0.on w (subst (λ z. point_cmp x z ≡ Less) (sym k) (before x l.0.upto))) ] in
          (stretch_to old.lasts (length old.points) i, there i m, refl, still_at (slice_index_or old.lasts i 0) l.1 ∙ at_most_both x a worse best, now_at ∙ sym k)
    ]

    -- ---- the last events on pieces
    no_place : (i : ℕ) → (side_of (piece i).line q ≡ pos 0 → ⊥) → (Member i e.passes → ⊥) × (Member i e.starts → ⊥)
    no_place i off = (
      λ m. off ((event.passing.member i).0 m).1.on.on,
      λ m. let a = (event.starting.member i).0 m in off (subst (λ z. side_of (piece i).line z ≡ pos 0) a.1 (span i a.0).way.lower_on),
    )

    lasts_are : (i : ℕ) → i < n → IsMet q (piece i) → IsLastOn (piece_at pieces) (length pieces) pins (Some q) i (point_at new.points (slice_index_or new.lasts i 0)) × (slice_index_or new.lasts i 0 < length new.points)
    lasts_are i h m = elim (on_or_not (side_of (piece i).line q)) [
      | inl on ↦
          let o : LiesOn (piece i) q = record { on = on; from = m.begun; upto = less_at_most q (piece i).upper m.unended } in
          let place : Member i e.passes ⊎ Member i e.starts = elim (in_order q (piece i).lower) [
            | inl k ↦ inr ((event.starting.member i).1 (h, at_most_both (piece i).lower q m.begun k))
            | inr k ↦ elim (came i h k o) [
              | inl a ↦ absurd (not_both q (piece i).upper m.unended (subst (λ z. IsAtMost z q) (sym ((event.ending.member i).0 a).1) (at_most_itself q)))
              | inr a ↦ inl a
            ]
          ] in
          let s = noted.set i place in
          let l : IsLastOn (piece_at pieces) (length pieces) pins (Some q) i q = record { on = (next.event, o); upto = at_most_itself q; best = λ r R u. u } in
          let u = longer in
          (subst (λ z. IsLastOn (piece_at pieces) (length pieces) pins (Some q) i z) (sym (ap (point_at new.points) s ∙ now_at)) l, omega arith)
      | inr off ↦
          let none = no_place i off in
          let s = noted.kept i none.0 none.1 in
          let a : point_cmp (piece i).lower q ≡ Less = elim (in_order q (piece i).lower) [
            | inl k ↦ absurd (off (subst (λ z. side_of (piece i).line z ≡ pos 0) (at_most_both (piece i).lower q m.begun k) (span i h).way.lower_on))
            | inr k ↦ k
          ] in
          let l = t.lasts_are i h (was_met i h a (less_at_most q (piece i).upper m.unended)) in
          let u = longer in
          let x = point_at old.points (slice_index_or old.lasts i 0) in
          let k : IsLastOn (piece_at pieces) (length pieces) pins (Some q) i x = record {
            on = l.0.on;
            upto = less_at_most x q (before x l.0.upto);
            best = λ r R w. elim (upto_old r R.0 w) [ inl y ↦ l.0.best r R y | inr y ↦ absurd (off (subst (λ z. side_of (piece i).line z ≡ pos 0) y R.1.on)) ];
          } in
          let b = l.1 in
          (subst (λ z. IsLastOn (piece_at pieces) (length pieces) pins (Some q) i z) (sym (ap (point_at new.points) s ∙ still_at (slice_index_or old.lasts i 0) l.1)) k, subst (λ z. z < length new.points) (sym s) (omega arith))
    ]

    -- ---- what is below q
    below_now : (u : Option ℕ) → IsPieceBelow (piece_at pieces) (length pieces) q u → IsOpenBelow (piece_at pieces) (length pieces) pins new.points q (open_at new.lasts u)
    below_now None h = h
    below_now (Some j) h = let l = lasts_are j h.0.0 h.0.1 in (h, l.0, l.1)

    still_below : (r : Point) (o : Option OpenStretch) → IsOpenBelow (piece_at pieces) (length pieces) pins old.points r o → IsOpenBelow (piece_at pieces) (length pieces) pins new.points r o
    still_below r None h = h
    still_below r (Some o) (a, b, c) = (a, subst (IsLastOn (piece_at pieces) (length pieces) pins (Some r) o.piece) (sym (still_at o.low c)) b, let u = longer in omega arith)

    below_are : (k : ℕ) → k < length new.points → IsOpenBelow (piece_at pieces) (length pieces) pins new.points (point_at new.points k) (slice_index_or new.below k None)
    below_are k h = elim (cases_lt k (length old.points)) [
      | inl l ↦
          let b : slice_index_or new.below k None ≡ slice_index_or old.below k None = ap (λ bs. slice_index_or bs k None) noted.below ∙ get_or_append_left old.below (open_at new.lasts under ∷ []) None k (let p = t.paired in omega arith) in
          subst (IsOpenBelow (piece_at pieces) (length pieces) pins new.points (point_at new.points k)) (sym b)
          (still_below (point_at new.points k) (slice_index_or old.below k None) (subst (λ z. IsOpenBelow (piece_at pieces) (length pieces) pins old.points z (slice_index_or old.below k None)) (sym (still_at k l)) (t.below_are k l)))
      | inr l ↦
          let u = longer in
          let e' : k ≡ length old.points = omega arith in
          let b : slice_index_or new.below k None ≡ open_at new.lasts under = ap (λ bs. slice_index_or bs k None) noted.below ∙ get_or_push old.below (open_at new.lasts under) None k (t.paired ∙ sym e') in
          subst (IsOpenBelow (piece_at pieces) (length pieces) pins new.points (point_at new.points k)) (sym b) (subst (λ z. IsOpenBelow (piece_at pieces) (length pieces) pins new.points z (open_at new.lasts under)) (sym (ap (point_at new.points) e' ∙ now_at)) (below_now under lies))
    ]

    pub traced_on : IsTraced (piece_at pieces) (length pieces) pins (Some e.point) new
    traced_on = record {
      ascends = ascends;
      points_are = λ r. (λ m. points_out r m, λ h. points_in r h.0 h.1);
      counted = noted.counted ∙ t.counted;
      lasts_are = lasts_are;
      sound = sound;
      complete = complete;
      paired = ap length noted.below ∙ length-append old.below (open_at new.lasts under ∷ []) ∙ ap (λ k. k + 1) t.paired ∙ sym longer;
      below_are = below_are;
    }

-- ---- at the end
pub all_traced : (pieces : List Span) (pins : List Point) (last : Option Point) (t : Traced) → ((r : Point) → IsEvent (piece_at pieces) (length pieces) pins r → IsBeyond last r → ⊥) → IsTraced (piece_at pieces) (length pieces) pins last t → IsTrace pieces pins (record { points = t.points; stretches = t.stretches; below = t.below })
all_traced pieces pins last t over h = record {
  ascends = h.ascends;
  points_are = λ r. (λ m. ((h.points_are r).0 m).0, λ E. (h.points_are r).1 (E, upto last r E (over r E)));
  sound = h.sound;
  complete = λ i a b s. h.complete i a b s (upto last b s.second.0 (over b s.second.0));
  paired = h.paired;
  below_are = h.below_are;
}
  where
    upto : (l : Option Point) (r : Point) → IsEvent (piece_at pieces) (length pieces) pins r → (IsBeyond l r → ⊥) → IsUpto (piece_at pieces) (length pieces) pins l r
    upto None r E k = absurd (k tt)
    upto (Some p) r E k = elim (in_order r p) [ inl a ↦ a | inr a ↦ absurd (k a) ]

-- ---- by what a sweep says
module _ (pieces : List Span) (pins : List Point) (spans : AreSpans pieces) (s s' : Swept) (old : Traced) (here : s.pieces ≡ pieces) (pinned : s.pins ≡ pins) (t : IsTraced (piece_at pieces) (length pieces) pins s.last old) (o : Option Event) (e : Event) (some : o ≡ Some e) (next : IfSome o (IsNextEvent s)) where
  next_here : IsNext (piece_at pieces) (length pieces) pins s.last e.point × IsEventAt pieces e.point e.ends e.starts e.passes
  next_here =
      let a : IsNextEvent s e = subst (λ x. IfSome x (IsNextEvent s)) some next in
      subst (λ ks. IsNext (piece_at ks) (length ks) pins s.last e.point × IsEventAt ks e.point e.ends e.starts e.passes) here
      (subst (λ ps. IsNext (piece_at s.pieces) (length s.pieces) ps s.last e.point × IsEventAt s.pieces e.point e.ends e.starts e.passes) pinned a)

  pub ends_within : (i : ℕ) → Member i e.ends → i < length old.lasts
  ends_within i m = let a = (next_here.1.ending.member i).0 m in let k = a.0 in let c = t.counted in omega arith

  pub starts_within : (i : ℕ) → Member i e.starts → i < length old.lasts
  starts_within i m = let a = (next_here.1.starting.member i).0 m in let k = a.0 in let c = t.counted in omega arith

  pub passes_within : (i : ℕ) → Member i e.passes → i < length old.lasts
  passes_within i m = let a = (next_here.1.passing.member i).0 m in let k = a.0 in let c = t.counted in omega arith

  module _ (moves : IfSome o (λ x. s'.last ≡ Some x.point)) (stays : s'.pieces ≡ s.pieces) (under : Option ℕ) (told : IsBelowLast s' under) where
    moved : s'.last ≡ Some e.point
    moved = subst (λ x. IfSome x (λ y. s'.last ≡ Some y.point)) some moves

    lies_here : IsPieceBelow (piece_at pieces) (length pieces) e.point under
    lies_here = subst (λ ks. IsPieceBelow (piece_at ks) (length ks) e.point under) (stays ∙ here) (subst (λ l. IsPieceBelowAfter (piece_at s'.pieces) (length s'.pieces) l under) moved told)

    pub below_within : (i : ℕ) → under ≡ Some i → i < length old.lasts
    below_within i h = let k = (subst (IsPieceBelow (piece_at pieces) (length pieces) e.point) h lies_here).0.0 in let c = t.counted in omega arith

    pub traced_here : (new : Traced) → IsNoted old new e under → IsTraced (piece_at pieces) (length pieces) pins s'.last new
    traced_here new noted =
        subst (λ l. IsTraced (piece_at pieces) (length pieces) pins l new) (sym moved)
        (traced_on pieces pins spans s.last old new e under next_here.0 next_here.1 lies_here t noted)

pub traced_over : (pieces : List Span) (pins : List Point) (s : Swept) (t : Traced) → s.pieces ≡ pieces → s.pins ≡ pins → IsTraced (piece_at pieces) (length pieces) pins s.last t → IsOver s → IsTrace pieces pins (record { points = t.points; stretches = t.stretches; below = t.below })
traced_over pieces pins s t here pinned h over =
    all_traced pieces pins s.last t
    (subst (λ ks. (r : Point) → IsEvent (piece_at ks) (length ks) pins r → IsBeyond s.last r → ⊥) here
    (subst (λ ps. (r : Point) → IsEvent (piece_at s.pieces) (length s.pieces) ps r → IsBeyond s.last r → ⊥) pinned over)) h

pub over_of : (s s' : Swept) (o : Option Event) → o ≡ None → IfNone o (IsOver s × (s' ≡ s)) → IsOver s
over_of s s' o none h = (subst (λ x. IfNone x (IsOver s × (s' ≡ s))) none h).0

-- What a segment and the edge of a dart have in common tells the meeting points on the edge and at its ends.
use Rattle.std.proofs.Common.{◌≡◌, Some, true, Contains, List, refl, sym, ap, ◌∙◌, subst, inl, inr, ◌⊎◌, ⊎_elim}
use Rattle.exact_plane.specs.Line.{Line, IsOn}
use Rattle.exact_plane.specs.Meet.{IsMeeting, IsCommonPart}
use Rattle.exact_plane.specs.MeetOf.{later, earlier}
use Rattle.exact_plane.specs.Point.{Point, IsPoint}
use Rattle.exact_plane.specs.Segment.{Segment, line_of_segment}
use Rattle.exact_plane.specs.Span.{Span, IsAtMost, LiesOn as LiesOnSpan, IsSpan, span_of_segment}
use Rattle.exact_plane.specs.declared.meets.Meet.{Meet}
use Rattle.exact_plane.specs.declared.meets.Meet.TheVariants.{Apart, At, Along}
use Rattle.exact_plane.proofs.Orders.{at_most_itself, at_most_chain, at_most_both, less_at_most, later_keeps, earlier_keeps, from_later, to_later, upto_earlier, to_earlier}
use Rattle.plane_graphs.specs.Ascending.{Member}
use Rattle.plane_graphs.specs.Graph.{Edge}
use Rattle.plane_graphs.specs.Line.{IsProper, are_parallel, crossing}
use Rattle.plane_graphs.proofs.Lines.{point_is_proper}
use Rattle.plane_graphs.proofs.Lists.{clash}
use Rattle.plane_graphs.proofs.Marks.{le_cases}
use Rattle.plane_graphs.proofs.Order.{Lt, lt_never}
use Rattle.slab_laws.specs.declared.names.DartId.{DartId}
use Rattle.slab_laws.specs.Skeleton.{inside}
use Rattle.slab_laws.specs.Sound.{edge_in, IsGraphSound}
use Rattle.slab_laws.specs.View.{View, HasDart, point_in, source_in, target_in, line_in}
use Rattle.locate_naive.proofs.Within.{within_inside}
use Rattle.sound_views.proofs.ForwardDarts.{target_has}
use Rattle.zone_walk.specs.Found.{IsWhole}
use Rattle.zone_walk.specs.Searches.{IsOnEdge, points_of_meet}
use Rattle.zone_walk.specs.Sights.{span_in}
use Rattle.zone_walk.specs.Zone.{is_on_segment, meeting_points}
use Rattle.zone_walk.proofs.Aheads.{no_vertex_inside, one_inside}
use Rattle.zone_walk.proofs.Courses.{IsCourse, lies_in, parallel_itself}
use Rattle.zone_walk.proofs.MeetingPoints.{MeetsAt, lower, upper, vertex, passed, IsPassed, passes_out}
use Rattle.zone_walk.proofs.Passing.{at_most_in, within_out, passed_lies, passed_at}
use Rattle.zone_walk.proofs.SeenSpans.{at_most_out, ends_are}
use Rattle.zone_walk.proofs.Stretches.{forward_one, meets_lies, meets_proper, told, listed}

module _ (v : View) (s : IsGraphSound v) (g : Segment) (c : IsCourse g) (W : IsSpan (span_of_segment g)) (d : DartId) (has : HasDart v d) (is : IsSpan (span_in v d)) where
  abbrev whole : Span
  whole = span_of_segment g

  abbrev span : Span
  span = span_in v d

  abbrev low : Point
  low = span.lower

  abbrev high : Point
  high = span.upper

  abbrev from : Point
  from = point_in v (source_in v d)

  abbrev to : Point
  to = point_in v (target_in v d)

  all : IsWhole whole
  all = record { span = W; line = refl }

  -- ---- the ends of the edge are those of the dart
  abbrev ends : ((from ≡ low) × (to ≡ high)) ⊎ ((to ≡ low) × (from ≡ high))
  ends = ends_are v s d has

  Placed : Point → Type 0
  Placed p = (p ≡ low) ⊎ ((p ≡ high) ⊎ (inside (edge_in v d) p ≡ true))

  placed : (p : Point) → IsOnEdge v d p → Placed p
  unfolding Placed
  placed p (inl e) = ⊎_elim (λ w. inl (e ∙ w.0)) (λ w. inr (inl (e ∙ w.1))) ends
  placed p (inr (inl e)) = ⊎_elim (λ w. inr (inl (e ∙ w.1))) (λ w. inl (e ∙ w.0)) ends
  placed p (inr (inr i)) = inr (inr i)

  at_low : IsOnEdge v d low
  at_low = ⊎_elim (λ w. inl (sym w.0)) (λ w. inr (inl (sym w.0))) ends

  at_high : IsOnEdge v d high
  at_high = ⊎_elim (λ w. inr (inl (sym w.1))) (λ w. inl (sym w.1)) ends

  -- an end on the segment is a meeting point
  at_end : (p : Point) → (p ≡ from) ⊎ (p ≡ to) → is_on_segment g p ≡ true → MeetsAt v g p
  at_end p (inl e) on = vertex (source_in v d) (s.linked.source d has) e on
  at_end p (inr e) on = vertex (target_in v d) (target_has v s d has) e on

  low_end : (p : Point) → p ≡ low → is_on_segment g p ≡ true → MeetsAt v g p
  low_end p e on = at_end p (⊎_elim (λ w. inl (e ∙ sym w.0)) (λ w. inr (e ∙ sym w.0)) ends) on

  high_end : (p : Point) → p ≡ high → is_on_segment g p ≡ true → MeetsAt v g p
  high_end p e on = at_end p (⊎_elim (λ w. inr (e ∙ sym w.1)) (λ w. inl (e ∙ sym w.1)) ends) on

  -- ---- a meeting point on the edge is a point of both spans
  same_line : (x : DartId) → HasDart v x → (p : Point) → IsProper p → inside (edge_in v x) p ≡ true → inside (edge_in v d) p ≡ true → line_in v x ≡ line_in v d
  same_line x hx p proper i j =
      let a = forward_one v s x hx in
      let b = forward_one v s d has in
      sym a.line
      ∙ ap (line_in v) (one_inside v s a.dart b.dart p a.forward b.forward proper (ap (λ (e : Edge). inside e p) a.edge ∙ i) (ap (λ (e : Edge). inside e p) b.edge ∙ j))
      ∙ b.line

  passed_here : (x : DartId) → HasDart v x → (p : Point) → IsProper p → IsPassed v g x p → inside (edge_in v d) p ≡ true → IsPassed v g d p
  passed_here x hx p proper k i =
      let e = same_line x hx p proper k.inner i in
      record {
        crosses = ap (λ (l : Line). are_parallel (line_of_segment g) l) (sym e) ∙ k.crosses;
        crossing = k.crossing ∙ ap (λ (l : Line). crossing (line_of_segment g) l) e;
        on_segment = k.on_segment;
        inner = i;
      }

  inside_point : (p : Point) → MeetsAt v g p → inside (edge_in v d) p ≡ true → IsPoint p
  inside_point p (lower e) i = subst IsPoint (sym e) W.lower
  inside_point p (upper e) i = subst IsPoint (sym e) W.upper
  inside_point p (vertex w hw e on) i = absurd (no_vertex_inside v s d w has hw (ap (inside (edge_in v d)) (sym e) ∙ i))
  inside_point p (passed x hx m) i = (passed_lies v d whole span all is refl refl p (passed_here x hx p (meets_proper v s g c p (passed x hx m)) (passes_out v g x p m) i)).0

  IsKnown : Point → Type 0
  IsKnown p = IsPoint p × LiesOnSpan whole p × LiesOnSpan span p

  on_whole : (p : Point) → MeetsAt v g p → LiesOnSpan whole p
  on_whole p m = let l = meets_lies v s g c p m in record { on = l.on; from = at_most_in g.lower p l.from.never; upto = at_most_in p g.upper l.upto.never }

  known : (p : Point) → MeetsAt v g p → Placed p → IsKnown p
  unfolding Placed IsKnown
  known p m (inl e) = (subst IsPoint (sym e) is.lower, on_whole p m, subst (LiesOnSpan span) (sym e) (record { on = is.way.lower_on; from = at_most_itself low; upto = less_at_most low high is.way.ascending }))
  known p m (inr (inl e)) = (subst IsPoint (sym e) is.upper, on_whole p m, subst (LiesOnSpan span) (sym e) (record { on = is.way.upper_on; from = less_at_most low high is.way.ascending; upto = at_most_itself high }))
  known p m (inr (inr i)) =
      let P = inside_point p m i in
      let w = within_out span is p (point_is_proper p P) i in
      (P, on_whole p m, record { on = w.on; from = less_at_most low p w.low.is; upto = less_at_most p high w.high.is })

  -- ---- so it is one of the points that both have in common
  IsOneOf : Meet → Point → Type 0
  IsOneOf m p = ((points_of_meet m).0 ≡ Some p) ⊎ ((points_of_meet m).1 ≡ Some p)

  module _ (a b : Point) (h : IsCommonPart whole span a b) where
    abbrev part : Span
    part = record { lower = a; upper = b; line = whole.line }

    first : LiesOnSpan whole a × LiesOnSpan span a
    first = (h.common a h.part.lower).1 (record { on = h.part.way.lower_on; from = at_most_itself a; upto = less_at_most a b h.part.way.ascending })

    last : LiesOnSpan whole b × LiesOnSpan span b
    last = (h.common b h.part.upper).1 (record { on = h.part.way.upper_on; from = less_at_most a b h.part.way.ascending; upto = at_most_itself b })

    module _ (p : Point) (later_on : Lt g.lower p) where
      along_inside : MeetsAt v g p → LiesOnSpan part p → inside (edge_in v d) p ≡ true → (a ≡ p) ⊎ (b ≡ p)
      along_inside (lower e) l i = absurd (lt_never (subst (Lt g.lower) e later_on))
      along_inside (upper e) l i = inr (at_most_both b p (subst (IsAtMost b) (sym e) last.0.upto) l.upto)
      along_inside (vertex w hw e on) l i = absurd (no_vertex_inside v s d w has hw (ap (inside (edge_in v d)) (sym e) ∙ i))
      along_inside (passed x hx m) l i =
          let k = passes_out v g x p m in
          let e = same_line x hx p (meets_proper v s g c p (passed x hx m)) k.inner i in
          clash (parallel_itself (line_of_segment g) (line_in v x) (h.one_line ∙ sym e)) k.crosses

      along : MeetsAt v g p → Placed p → (a ≡ p) ⊎ (b ≡ p)
      unfolding Placed IsKnown
      along m o =
          let k = known p m o in
          let l = (h.common p k.0).0 (k.1, k.2) in
          elim o [
            | inl e ↦ inl (at_most_both a p l.from (subst (λ (x : Point). IsAtMost x a) (sym e) first.1.from))
            | inr n ↦ elim n [
              | inl e ↦ inr (at_most_both b p (subst (IsAtMost b) (sym e) last.1.upto) l.upto)
              | inr i ↦ along_inside m l i
            ]
          ]

  told_by : (m : Meet) → IsMeeting whole span m → (p : Point) → Lt g.lower p → MeetsAt v g p → Placed p → IsOneOf m p
  unfolding IsOneOf IsKnown
  told_by Apart h p l m o = let k = known p m o in absurd (h p k.0 k.1 k.2)
  told_by (At q) h p l m o = let k = known p m o in inl (ap Some (sym (h.only p k.0 k.1 k.2)))
  told_by (Along a b) h p l m o = ⊎_elim (λ e. inl (ap Some e)) (λ e. inr (ap Some e)) (along a b h p l m o)

  -- each later meeting point on the edge is told
  pub is_told : (m : Meet) → IsMeeting whole span m → (p : Point) → Lt g.lower p → Contains (meeting_points v g) p → IsOnEdge v d p → ((points_of_meet m).0 ≡ Some p) ⊎ ((points_of_meet m).1 ≡ Some p)
  unfolding IsOneOf
  is_told m h p l k o = told_by m h p l (told v s g c p k) (placed p o)

  -- ---- and what is told is one
  in_span : (p : Point) → IsPoint p → LiesOnSpan span p → IsOnEdge v d p
  in_span p P l = elim (le_cases low p (at_most_out low p l.from)) [
    | inl e ↦ subst (IsOnEdge v d) e at_low
    | inr k ↦ elim (le_cases p high (at_most_out p high l.upto)) [
      | inl e ↦ subst (IsOnEdge v d) (sym e) at_high
      | inr n ↦ inr (inr (within_inside (line_in v d) (edge_in v d) p (s.drawn.line d has) (point_is_proper low is.lower) (point_is_proper high is.upper) (point_is_proper p P) is.way.lower_on is.way.upper_on (record { on = l.on; after = k; before = n })))
    ]
  ]

  on_segment : (p : Point) → LiesOnSpan whole p → is_on_segment g p ≡ true
  on_segment p l = lies_in g p (record { on = l.on; from = at_most_out g.lower p l.from; upto = at_most_out p g.upper l.upto })

  Sound : Point → Type 0
  Sound p = MeetsAt v g p × IsOnEdge v d p

  common_point : (q : Point) → IsMeeting whole span (At q) → Sound q
  unfolding Sound
  common_point q h =
      let o = in_span q h.point h.on_second in
      let on = on_segment q h.on_first in (
        elim o [
          | inl e ↦ at_end q (inl e) on
          | inr n ↦ elim n [
            | inl e ↦ at_end q (inr e) on
            | inr i ↦ passed d has (subst (λ (xs : List Point). Member q xs) (sym (passed_at v d whole span all is refl refl q (record { meeting = h; inner = i })).one) (inl refl))
          ]
        ],
        o,
      )

  first_point : (a b : Point) → IsCommonPart whole span a b → Sound a
  unfolding Sound
  first_point a b h =
      let w = first a b h in
      let q : Point = later g.lower low in
      let upto : IsAtMost q a = to_later g.lower low a w.0.from w.1.from in
      let f = from_later g.lower low q (at_most_itself q) in
      let on : IsOn whole.line q = later_keeps (IsOn whole.line) g.lower low W.way.lower_on (subst (λ (l : Line). IsOn l low) (sym h.one_line) is.way.lower_on) in
      let P : IsPoint q = later_keeps IsPoint g.lower low W.lower is.lower in
      let l = (h.common q P).0 (
        record { on = on; from = f.0; upto = at_most_chain q a g.upper upto w.0.upto },
        record { on = subst (λ (n : Line). IsOn n q) h.one_line on; from = f.1; upto = at_most_chain q a high upto w.1.upto },
      ) in
      let e : q ≡ a = at_most_both q a upto l.from in
      let either : (q ≡ g.lower) ⊎ (q ≡ low) = later_keeps (λ x. (x ≡ g.lower) ⊎ (x ≡ low)) g.lower low (inl refl) (inr refl) in
      (⊎_elim (λ k. lower (sym e ∙ k)) (λ k. low_end a (sym e ∙ k) (on_segment a w.0)) either, in_span a h.part.lower w.1)

  last_point : (a b : Point) → IsCommonPart whole span a b → Sound b
  unfolding Sound
  last_point a b h =
      let w = last a b h in
      let q : Point = earlier g.upper high in
      let from_b : IsAtMost b q = to_earlier g.upper high b w.0.upto w.1.upto in
      let f = upto_earlier g.upper high q (at_most_itself q) in
      let on : IsOn whole.line q = earlier_keeps (IsOn whole.line) g.upper high W.way.upper_on (subst (λ (l : Line). IsOn l high) (sym h.one_line) is.way.upper_on) in
      let P : IsPoint q = earlier_keeps IsPoint g.upper high W.upper is.upper in
      let l = (h.common q P).0 (
        record { on = on; from = at_most_chain g.lower b q w.0.from from_b; upto = f.0 },
        record { on = subst (λ (n : Line). IsOn n q) h.one_line on; from = at_most_chain low b q w.1.from from_b; upto = f.1 },
      ) in
      let e : q ≡ b = at_most_both q b l.upto from_b in
      let either : (q ≡ g.upper) ⊎ (q ≡ high) = earlier_keeps (λ x. (x ≡ g.upper) ⊎ (x ≡ high)) g.upper high (inl refl) (inr refl) in
      (⊎_elim (λ k. upper (sym e ∙ k)) (λ k. high_end b (sym e ∙ k) (on_segment b w.0)) either, in_span b h.part.upper w.1)

  some_is : (p q : Point) → Some p ≡ Some q → p ≡ q
  some_is p q e = cc

  sound_by : (m : Meet) → IsMeeting whole span m → (p : Point) → IsOneOf m p → Sound p
  unfolding IsOneOf Sound
  sound_by Apart h p (inl e) = absurd cc
  sound_by Apart h p (inr e) = absurd cc
  sound_by (At q) h p (inl e) = subst (λ x. MeetsAt v g x × IsOnEdge v d x) (some_is q p e) (common_point q h)
  sound_by (At q) h p (inr e) = absurd cc
  sound_by (Along a b) h p (inl e) = subst (λ x. MeetsAt v g x × IsOnEdge v d x) (some_is a p e) (first_point a b h)
  sound_by (Along a b) h p (inr e) = subst (λ x. MeetsAt v g x × IsOnEdge v d x) (some_is b p e) (last_point a b h)

  pub is_sound : (m : Meet) → IsMeeting whole span m → (p : Point) → ((points_of_meet m).0 ≡ Some p) ⊎ ((points_of_meet m).1 ≡ Some p) → Contains (meeting_points v g) p × IsOnEdge v d p
  unfolding IsOneOf Sound
  is_sound m h p o = let w = sound_by m h p o in (listed v s g c p w.0, w.1)

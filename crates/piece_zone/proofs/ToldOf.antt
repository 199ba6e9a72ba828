-- What one piece of a layer tells of a segment.
use Rattle.std.proofs.Common.{◌≡◌, ◌≢◌, ℕ, ◌*ℤ◌, true, false, Contains, None, Some, refl, sym, ap, ◌∙◌, subst, inl, inr, ◌⊎◌, ⊎_elim}
use Rattle.exact_plane.specs.Line.{Line, IsOn}
use Rattle.exact_plane.specs.Meet.{AreApart, IsOnlyCommon, IsCommonPart}
use Rattle.exact_plane.specs.Point.{Point}
use Rattle.exact_plane.specs.Segment.{Segment, line_of_segment}
use Rattle.exact_plane.specs.Span.{Span, IsAtMost, IsSpan, LiesOn as LiesOnSpan, span_of_segment}
use Rattle.exact_plane.proofs.Meetings.{parallel_one}
use Rattle.exact_plane.proofs.Orders.{at_most_chain}
use Rattle.plane_graphs.specs.Ascending.{Member}
use Rattle.plane_graphs.specs.Graph.{Edge as PlaneEdge}
use Rattle.plane_graphs.specs.Line.{IsProper, are_parallel, precedes}
use Rattle.plane_graphs.specs.Piece.{Piece, Present}
use Rattle.plane_graphs.specs.Strands.{strand_piece, strands}
use Rattle.plane_graphs.proofs.Lines.{apart_out, point_is_proper}
use Rattle.plane_graphs.proofs.Lists.{clash}
use Rattle.plane_graphs.proofs.Marks.{le_cases, le_lt_lt}
use Rattle.plane_graphs.proofs.Order.{Lt, lt_in, lt_never, lt_out}
use Rattle.integers.proofs.Tests.{not_true}
use Rattle.slab_laws.specs.declared.names.DartId.{DartId}
use Rattle.slab_laws.specs.declared.names.VertexId.{VertexId}
use Rattle.slab_laws.specs.declared.present.Piece.{Piece as PieceInMemory}
use Rattle.slab_laws.specs.Pieces.{piece_of}
use Rattle.slab_laws.specs.Skeleton.{inside}
use Rattle.slab_laws.specs.Sound.{edge_in, IsGraphSound}
use Rattle.slab_laws.specs.View.{View, HasVertex, HasDart, line_in, point_in, source_in, target_in}
use Rattle.arr_notes.specs.Curves.{IsForward}
use Rattle.sound_views.proofs.ForwardDarts.{target_has}
use Rattle.dcel_records.specs.declared.spot.Spot.TheVariants.{Vertex, Edge}
use Rattle.locate_naive.proofs.Within.{dart_in_out, in_dart}
use Rattle.curve_history.specs.Cuts.{modelled}
use Rattle.curve_history.specs.DrawnRecords.{IsPassed}
use Rattle.curve_history.specs.Past.{Past, strands_on}
use Rattle.piece_location.specs.Layers.{present_of, IsPastOf}
use Rattle.piece_location.proofs.DrawnPieces.{edge_ahead}
use Rattle.piece_location.proofs.Layers.{drawn, side_in}
use Rattle.zone_walk.specs.Searches.{IsLedTo, IsOnEdge}
use Rattle.zone_walk.specs.Zone.{is_on_segment, meeting_points}
use Rattle.zone_walk.proofs.Aheads.{not_before}
use Rattle.zone_walk.proofs.Courses.{IsCourse, lies_in}
use Rattle.zone_walk.proofs.LineCrossings.{is_crossing}
use Rattle.zone_walk.proofs.MeetingPoints.{MeetsAt, passed, passes_one, vertex}
use Rattle.zone_walk.proofs.OutsideBox.{along}
use Rattle.zone_walk.proofs.Passing.{at_most_in, not_alone}
use Rattle.zone_walk.proofs.SeenSpans.{at_most_out}
use Rattle.zone_walk.proofs.Stretches.{listed, meets_lies, meets_proper, told}
use Rattle.piece_zone.specs.Told.{span_of, IsEdgeOf, IsToldOf}
use Rattle.piece_zone.proofs.Drawn.{dart_led, edge_line, from_vertex, to_vertex}
use Rattle.piece_zone.proofs.Spans.{never_apart, not_before_first, only_is, part_starts, first_either}

module _ (v : View) (h : Past) (past : IsPastOf v h) (is : h.pieces ≡ modelled h.rows) (n : ℕ) (k : PieceInMemory) (here : Member (n, k) h.rows) where
  s : IsGraphSound v
  s = past.sound

  abbrev piece : Span
  piece = span_of k

  abbrev side : Piece
  side = strand_piece (piece_of k)

  abbrev sides : Present
  sides = strands (present_of v h)

  here_side : Member side sides.pieces
  here_side = side_in v h past is (n, k) here

  line_along : (r : DartId) → IsForward v r → Member side.curve (strands_on h r) → line_in v r ≡ piece.line
  line_along r f m = edge_line v (strands_on h) sides (drawn v h past is) side here_side r f m

  -- ---- the points of an edge of the piece are on the piece
  module _ (d : DartId) (has : HasDart v d) (e : IsEdgeOf v h k d) (q : Point) (Q : IsProper q) (on : IsOnEdge v d q) where
    ends_are : edge_in v d ≡ record { low = point_in v (source_in v e.dart); high = point_in v (target_in v e.dart) }
    ends_are = sym e.forward.edge ∙ edge_ahead v (strands_on h) sides (drawn v h past is) e.dart e.forward.forward

    pub lies : LiesOnSpan piece q
    lies =
        let a = along v s d has q Q on in
        record {
          on = subst (λ (l : Line). IsOn l q) (sym e.forward.line ∙ line_along e.dart e.forward.forward e.runs) a.on;
          from = at_most_chain k.from (edge_in v d).low q (subst (λ (z : PlaneEdge). IsAtMost k.from z.low) (sym ends_are) (at_most_in k.from _ (λ l. clash (lt_in l) e.from))) a.from;
          upto = at_most_chain q (edge_in v d).high k.to a.upto (subst (λ (z : PlaneEdge). IsAtMost z.high k.to) (sym ends_are) (at_most_in _ k.to (λ l. clash (lt_in l) e.to)));
        }

    -- a point of the edge at which no vertex is is between its ends
    between : ((w : VertexId) → HasVertex v w → point_in v w ≢ q) → IsPassed v h k q e.dart
    between free =
        let i : inside (edge_in v e.dart) q ≡ true = ap (λ (z : PlaneEdge). inside z q) e.forward.edge ∙ within on in
        let w = dart_in_out v s e.dart q e.forward.forward Q i in
        record { forward = e.forward.forward; runs = e.runs; from = lt_in w.after; to = lt_in w.before }
      where
        within : IsOnEdge v d q → inside (edge_in v d) q ≡ true
        within (inl i) = absurd (free (source_in v d) (s.linked.source d has) (sym i))
        within (inr (inl i)) = absurd (free (target_in v d) (target_has v s d has) (sym i))
        within (inr (inr i)) = i

-- ---- with a segment
module _ (v : View) (h : Past) (past : IsPastOf v h) (is : h.pieces ≡ modelled h.rows) (g : Segment) (c : IsCourse g) where
  -- a meeting point is on the segment
  module _ (q : Point) (m : Contains (meeting_points v g) q) where
    pub proper : IsProper q
    proper = meets_proper v past.sound g c q (told v past.sound g c q m)

    pub on_whole : LiesOnSpan (span_of_segment g) q
    on_whole = let l = meets_lies v past.sound g c q (told v past.sound g c q m) in record { on = l.on; from = at_most_in g.lower q l.from.never; upto = at_most_in q g.upper l.upto.never }

  on_segment : (q : Point) → LiesOnSpan (span_of_segment g) q → is_on_segment g q ≡ true
  on_segment q l = lies_in g q (record { on = l.on; from = at_most_out g.lower q l.from; upto = at_most_out q g.upper l.upto })

  vertex_meets : (q : Point) → LiesOnSpan (span_of_segment g) q → (w : VertexId) → HasVertex v w → point_in v w ≡ q → Contains (meeting_points v g) q
  vertex_meets q l w has e = listed v past.sound g c q (vertex w has (sym e) (on_segment q l))

module _ (v : View) (h : Past) (past : IsPastOf v h) (is : h.pieces ≡ modelled h.rows) (g : Segment) (c : IsCourse g) (W : IsSpan (span_of_segment g)) (n : ℕ) (k : PieceInMemory) (here : Member (n, k) h.rows) (K : IsSpan (span_of k)) where
  abbrev whole : Span
  whole = span_of_segment g

  abbrev part : Span
  part = span_of k

  -- ---- nothing is common
  pub told_apart : AreApart whole part → IsToldOf v h g k None
  told_apart a = record {
    meets = tt;
    there = tt;
    all = λ d has e q on m later. absurd (never_apart whole part W K q (proper v h past is g c q m) (on_whole v h past is g c q m) (lies v h past is n k here d has e q (proper v h past is g c q m) on) a);
  }

  -- ---- one point is common
  module _ (p : Point) (o : IsOnlyCommon whole part p) where
    is_it : (d : DartId) → HasDart v d → IsEdgeOf v h k d → (q : Point) → IsOnEdge v d q → Contains (meeting_points v g) q → q ≡ p
    is_it d has e q on m = only_is whole part W K q (proper v h past is g c q m) (on_whole v h past is g c q m) (lies v h past is n k here d has e q (proper v h past is g c q m) on) p o

    -- a vertex is there
    pub told_vertex : (w : VertexId) → HasVertex v w → point_in v w ≡ p → IsToldOf v h g k (Some (record { point = p; spot = Vertex w }))
    told_vertex w has at = record {
      meets = vertex_meets v h past is g c p o.on_first w has at;
      there = (has, at);
      all = λ d hd e q on m later. inl (record { point = p; spot = Vertex w }, refl, is_it d hd e q on m);
    }

    module _ (free : (w : VertexId) → HasVertex v w → point_in v w ≢ p) where
      -- no edge of the piece has it
      pub told_none : ((d : DartId) → IsPassed v h k p d → ⊥) → IsToldOf v h g k None
      told_none none = record {
        meets = tt;
        there = tt;
        all = λ d has e q on m later.
            let i : q ≡ p = is_it d has e q on m in
            absurd (none e.dart (subst (λ x. IsPassed v h k x e.dart) i (between v h past is n k here d has e q (proper v h past is g c q m) on (λ w hw j. free w hw (j ∙ i)))));
      }

      -- an edge of the piece has it inside
      module _ (d : DartId) (a : IsPassed v h k p d) where
        P : IsProper p
        P = point_is_proper p o.point

        line : line_in v d ≡ part.line
        line = line_along v h past is n k here d a.forward a.runs

        inner : inside (edge_in v d) p ≡ true
        inner = in_dart v past.sound d p a.forward P (record { on = subst (λ (l : Line). IsOn l p) (sym line) o.on_second.on; after = lt_out _ p a.from; before = lt_out p _ a.to })

        after : Lt k.from p
        after = elim (le_cases k.from p (at_most_out k.from p o.on_second.from)) [
          | inl i ↦ let w = from_vertex v (strands_on h) (strands (present_of v h)) (drawn v h past is) (strand_piece (piece_of k)) (side_in v h past is (n, k) here) in absurd (free w.0 w.1 (w.2 ∙ i))
          | inr l ↦ l
        ]

        before : Lt p k.to
        before = elim (le_cases p k.to (at_most_out p k.to o.on_second.upto)) [
          | inl i ↦ let w = to_vertex v (strands_on h) (strands (present_of v h)) (drawn v h past is) (strand_piece (piece_of k)) (side_in v h past is (n, k) here) in absurd (free w.0 w.1 (w.2 ∙ sym i))
          | inr l ↦ l
        ]

        crosses : are_parallel (line_of_segment g) part.line ≡ false
        crosses = not_true (are_parallel (line_of_segment g) part.line) (λ e. not_alone whole part W K (parallel_one (line_of_segment g) part.line p W.line K.line P.positive (apart_out ((line_of_segment g).a *ℤ part.line.b) (part.line.a *ℤ (line_of_segment g).b) e) o.on_first.on o.on_second.on) p o after before)

        meets_there : MeetsAt v g p
        meets_there =
            let x : are_parallel (line_of_segment g) (line_in v d) ≡ false = ap (λ (l : Line). are_parallel (line_of_segment g) l) line ∙ crosses in
            passed d a.forward.0
            (subst (Member p)
            (sym (passes_one v g d p (record { crosses = x; crossing = is_crossing (line_of_segment g) (line_in v d) x p P o.on_first.on (subst (λ (l : Line). IsOn l p) (sym line) o.on_second.on); on_segment = on_segment v h past is g c p o.on_first; inner = inner })))
            (inl refl))

        pub told_edge : IsToldOf v h g k (Some (record { point = p; spot = Edge d }))
        told_edge = record {
          meets = listed v past.sound g c p meets_there;
          there = (a.forward.0, a.forward.1, inner);
          all = λ x hx e q on m later. inl (record { point = p; spot = Edge d }, refl, is_it x hx e q on m);
        }

  -- ---- a part is common
  module _ (a b : Point) (o : IsCommonPart whole part a b) where
    -- an edge of the piece leads to each point of it but the first
    led : (q : Point) → LiesOnSpan part q → IsAtMost k.from a → Lt a q → IsLedTo v g q
    led q l f after =
        let w = dart_led v (strands_on h) (strands (present_of v h)) (drawn v h past is) (strand_piece (piece_of k)) (side_in v h past is (n, k) here) q (le_lt_lt (at_most_out k.from a f) after) (at_most_out q k.to l.upto) in
        (w.0, record { forward = w.1; line = line_along v h past is n k here w.0 w.1 w.2 ∙ sym o.one_line; begins = lt_in w.3; ends = not_before w.4 })

    module _ (d : DartId) (has : HasDart v d) (e : IsEdgeOf v h k d) (q : Point) (on : IsOnEdge v d q) (m : Contains (meeting_points v g) q) (later : precedes g.lower q ≡ true) where
      on_piece : LiesOnSpan part q
      on_piece = lies v h past is n k here d has e q (proper v h past is g c q m) on

      -- the first one is the piece's lower end, if it is behind the segment's
      starts : a ≡ q → a ≡ k.from
      starts i = elim (first_either whole part W K q (proper v h past is g c q m) (on_whole v h past is g c q m) on_piece a b o) [
        | inl j ↦ absurd (lt_never (subst (λ x. Lt x q) (sym j ∙ i) (lt_out g.lower q later)))
        | inr j ↦ j
      ]

      first_or_led : ((q ≡ a) × (a ≡ k.from)) ⊎ IsLedTo v g q
      first_or_led = elim (le_cases a q (at_most_out a q (not_before_first whole part W K q (proper v h past is g c q m) (on_whole v h past is g c q m) on_piece a b o))) [
        | inl i ↦ inl (sym i, starts i)
        | inr l ↦ inr (led q on_piece (part_starts whole part a b o).1.from l)
      ]

    pub told_first : (w : VertexId) → HasVertex v w → point_in v w ≡ a → IsToldOf v h g k (Some (record { point = a; spot = Vertex w }))
    told_first w has at = record {
      meets = vertex_meets v h past is g c a (part_starts whole part a b o).0 w has at;
      there = (has, at);
      all = λ d hd e q on m later. ⊎_elim (λ z. inl (record { point = a; spot = Vertex w }, refl, z.0)) (λ z. inr z) (first_or_led d hd e q on m later);
    }

    pub told_inner : ((w : VertexId) → HasVertex v w → point_in v w ≢ a) → IsToldOf v h g k None
    told_inner free = record {
      meets = tt;
      there = tt;
      all = λ d hd e q on m later.
          ⊎_elim
          (λ z. let w = from_vertex v (strands_on h) (strands (present_of v h)) (drawn v h past is) (strand_piece (piece_of k)) (side_in v h past is (n, k) here) in absurd (free w.0 w.1 (w.2 ∙ sym z.1)))
          (λ z. inr z)
          (first_or_led d hd e q on m later);
    }

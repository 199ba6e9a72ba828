-- A search goes on as points are taken, and finds what it looks at.
use Rattle.std.proofs.Common.{◌≡◌, ◌≢◌, true, false, not, Some, None, Contains, Option, List, refl, sym, ap, ◌∙◌, subst, inl, inr, ◌⊎◌, ⊎_elim}
use Rattle.std.specs.Map.{keys_of}
use Rattle.exact_plane.specs.Line.{Line, side_of, IsOn}
use Rattle.exact_plane.specs.Meet.{IsMeeting}
use Rattle.exact_plane.specs.Point.{Point}
use Rattle.exact_plane.specs.PointOrderLaws.{and_true}
use Rattle.exact_plane.specs.Segment.{Segment, AreEnds}
use Rattle.exact_plane.specs.Span.{Span, IsSpan, span_of_segment}
use Rattle.exact_plane.specs.declared.meets.Meet.{Meet}
use Rattle.exact_plane.specs.declared.meets.Meet.TheVariants.{Apart}
use Rattle.plane_graphs.specs.Ascending.{Member}
use Rattle.plane_graphs.specs.Graph.{Edge as PlaneEdge}
use Rattle.plane_graphs.specs.Line.{precedes, is_on}
use Rattle.plane_graphs.proofs.Lines.{zero_out}
use Rattle.plane_graphs.proofs.Lists.{clash, not_out}
use Rattle.plane_graphs.proofs.Marks.{le_lt_lt}
use Rattle.plane_graphs.proofs.Order.{Lt, lt_out}
use Rattle.slab_laws.specs.declared.names.DartId.{DartId}
use Rattle.slab_laws.specs.declared.names.VertexId.{VertexId}
use Rattle.slab_laws.specs.Skeleton.{inside}
use Rattle.slab_laws.specs.Sound.{edge_in, dart_in, IsGraphSound}
use Rattle.slab_laws.specs.View.{View, HasVertex, HasDart, point_in, source_in, twin_in, target_in, line_in}
use Rattle.counted_looks.specs.declared.boundary_part.BoundaryPart.{BoundaryPart}
use Rattle.counted_looks.specs.declared.boundary_part.BoundaryPart.TheVariants.{Dart, Isolated}
use Rattle.dcel_records.specs.declared.spot.Spot.{Spot}
use Rattle.dcel_records.specs.declared.spot.Spot.TheVariants.{Vertex, Edge}
use Rattle.sound_views.proofs.ForwardDarts.{is_behind, target_has}
use Rattle.zone_walk.specs.FoundPoints.{entries_in}
use Rattle.zone_walk.specs.Searches.{AreKept, IsOnEdge, IsThere, AreFoundAfter, IsPartTaken, IsOneSearch, IsSearchFrom, IsBehind, HasSeen, passes_here, points_of_meet}
use Rattle.zone_walk.specs.Sights.{IsDartMet, IsVertexMet, span_in, is_on_span, meet_between}
use Rattle.zone_walk.specs.declared.edge_points.CommonPoints.{CommonPoints}
use Rattle.zone_walk.specs.Zone.{is_on_segment, meeting_points, are_one}
use Rattle.zone_walk.specs.declared.search.Search.{Search}
use Rattle.zone_walk.proofs.Behind.{crossed}
use Rattle.zone_walk.proofs.Courses.{IsCourse, course, lies_in, line-itself}
use Rattle.exact_plane.specs.WholeParts.{bounding_box, excludes, whole_parts}
use Rattle.zone_walk.proofs.MeetingPoints.{MeetsAt, vertex}
use Rattle.zone_walk.proofs.OutsideBox.{outside_missed}
use Rattle.zone_walk.proofs.SeenMeetings.{is_told, is_sound}
use Rattle.zone_walk.proofs.Stretches.{listed, told, meets_lies, meets_proper}

-- ---- what is at a point of an edge
module _ (v : View) (s : IsGraphSound v) (d : DartId) (has : HasDart v d) (p : Point) where
  pub at_source : p ≡ point_in v (source_in v d) → (w : VertexId) → w ≡ source_in v d → IsThere v p (Vertex w)
  at_source e w q = subst (λ (u : VertexId). HasVertex v u × (point_in v u ≡ p)) (sym q) (s.linked.source d has, sym e)

  pub at_target : p ≡ point_in v (target_in v d) → (w : VertexId) → w ≡ target_in v d → IsThere v p (Vertex w)
  at_target e w q = subst (λ (u : VertexId). HasVertex v u × (point_in v u ≡ p)) (sym q) (target_has v s d has, sym e)

  within : p ≢ point_in v (source_in v d) → p ≢ point_in v (target_in v d) → IsOnEdge v d p → inside (edge_in v d) p ≡ true
  within f g (inl e) = absurd (f e)
  within f g (inr (inl e)) = absurd (g e)
  within f g (inr (inr i)) = i

  pub at_forward : p ≢ point_in v (source_in v d) → p ≢ point_in v (target_in v d) → (dart_in v d).forward ≡ true → IsOnEdge v d p → IsThere v p (Edge d)
  at_forward f g b o = (has, b, within f g o)

  pub at_backward : p ≢ point_in v (source_in v d) → p ≢ point_in v (target_in v d) → (dart_in v d).forward ≡ false → (t : DartId) → t ≡ twin_in v d → IsOnEdge v d p → IsThere v p (Edge t)
  at_backward f g b t e o = let k = is_behind v s d has b t e in (k.forward.0, k.forward.1, ap (λ (z : PlaneEdge). inside z p) k.edge ∙ within f g o)

-- ---- searches
pub one_on : (k l m : Search) → IsOneSearch k l → IsOneSearch l m → IsOneSearch k m
one_on k l m a b = record { segment = b.segment ∙ a.segment; here = b.here ∙ a.here; visited = b.visited ∙ a.visited; whole = b.whole ∙ a.whole; bounds = b.bounds ∙ a.bounds; failed = λ e. a.failed (b.failed e) }

pub kept_on : (a b c : List (Point × Spot)) → AreKept a b → AreKept b c → AreKept a c
kept_on a b c f g p m = g p (f p m)

-- a part that is taken stays so
pub part_kept : (v : View) (s : Segment) (here : Point) (es fs : List (Point × Spot)) → AreKept es fs → (t : BoundaryPart) → IsPartTaken v s here es t → IsPartTaken v s here fs t
part_kept v s here es fs k (Dart d) h = λ p o c l. ⊎_elim (λ m. inl (k p m)) (λ e. inr e) (h p o c l)
part_kept v s here es fs k (Isolated w) h = λ c l. ⊎_elim (λ m. inl (k (point_in v w) m)) (λ e. inr e) (h c l)

-- and so in a search that has gone on
pub part_on : (v : View) (k l : Search) → IsOneSearch k l → AreKept (entries_in k.found) (entries_in l.found) → (t : BoundaryPart) → IsPartTaken v k.segment k.here (entries_in k.found) t → IsPartTaken v l.segment l.here (entries_in l.found) t
part_on v k l one kept t h =
    subst (λ (z : Segment). IsPartTaken v z l.here (entries_in l.found) t) (sym one.segment)
    (subst (λ (z : Point). IsPartTaken v k.segment z (entries_in l.found) t) (sym one.here)
    (part_kept v k.segment k.here (entries_in k.found) (entries_in l.found) kept t h))

pub still_seen : (v : View) (k l : Search) → IsOneSearch k l → AreKept (entries_in k.found) (entries_in l.found) → (t : BoundaryPart) → HasSeen v k t → HasSeen v l t
still_seen v k l one kept t h failed = part_on v k l one kept t (h (one.failed failed))

-- what one look takes
abbrev TakesOnly : View → Search → Search → (Point → Type 0) → Type 0
TakesOnly v k l P = (p : Point) (at : Spot) → Member (p, at) (entries_in l.found) → Member (p, at) (entries_in k.found) ⊎ (P p × IsThere v p at × (precedes k.here p ≡ true))

pub both_takes : (v : View) (P Q R : Point → Type 0) (k l m : Search) → IsOneSearch k l → TakesOnly v k l P → TakesOnly v l m Q → ((p : Point) → P p → R p) → ((p : Point) → Q p → R p) → TakesOnly v k m R
both_takes v P Q R k l m one f g a b p at i = elim (g p at i) [
  | inr w ↦ inr (b p w.0, w.1, ap (λ (x : Point). precedes x p) (sym one.here) ∙ w.2)
  | inl n ↦ elim (f p at n) [ inl o ↦ inl o | inr w ↦ inr (a p w.0, w.1, w.2) ]
]

pub goes_on : (v : View) (P : Point → Type 0) (o k l : Search) → IsSearchFrom v o k → IsOneSearch k l → l.gathered ≡ k.gathered → AreKept (entries_in k.found) (entries_in l.found) → ((p : Point) → P p → Contains (meeting_points v k.segment) p) → TakesOnly v k l P → IsSearchFrom v o l
goes_on v P o k l h one same kept sound only = record {
  one = one_on o k l h.one one;
  sound = h.sound;
  ends = subst (λ (z : Segment). AreEnds z) (sym one.segment) h.ends;
  whole = subst (λ (z : Segment). IsSpan (span_of_segment z)) (sym one.segment) h.whole;
  spanned = one.whole ∙ h.spanned ∙ ap span_of_segment (sym one.segment);
  boxed = one.bounds ∙ h.boxed ∙ ap bounding_box (sym one.whole);
  stands = subst (λ (z : Segment). Contains (meeting_points v z) l.here) (sym one.segment) (subst (Contains (meeting_points v k.segment)) (sym one.here) h.stands);
  found =
      subst (λ (z : Segment). AreFoundAfter v z l.here (entries_in l.found)) (sym one.segment)
      (subst (λ (z : Point). AreFoundAfter v k.segment z (entries_in l.found)) (sym one.here)
      (λ p at m. elim (only p at m) [ inl n ↦ h.found p at n | inr w ↦ record { meets = sound p w.0; later = w.2; there = w.1 } ]));
  kept = kept_on (entries_in o.found) (entries_in k.found) (entries_in l.found) h.kept kept;
  gathered = λ e d has. part_on v k l one kept (Dart d) (h.gathered (sym same ∙ e) d has);
}

-- ---- a look at a dart
points_between : (p : Point) (o : Option Point) → points_of_meet (meet_between p o) ≡ (Some p, o)
points_between p None = refl
points_between p (Some q) = refl

module _ (v : View) (o k : Search) (h : IsSearchFrom v o k) (d : DartId) (has : HasDart v d) where
  abbrev way : IsCourse k.segment
  way = course k.segment h.ends

  -- the search stands at a point of the segment
  stands : MeetsAt v k.segment k.here
  stands = told v h.sound k.segment way k.here h.stands

  pub after_lower : (p : Point) → precedes k.here p ≡ true → Lt k.segment.lower p
  after_lower p l = le_lt_lt (meets_lies v h.sound k.segment way k.here stands).from (lt_out k.here p l)

  of_segment : (m : Meet) → IsMeeting k.whole (span_in v d) m → IsMeeting (span_of_segment k.segment) (span_in v d) m
  of_segment m = subst (λ (w : Span). IsMeeting w (span_in v d) m) h.spanned

  -- nothing is common
  pub none_taken : IsSpan (span_in v d) → IsMeeting k.whole (span_in v d) Apart → (es : List (Point × Spot)) → IsPartTaken v k.segment k.here es (Dart d)
  none_taken is meet es = λ p on c l.
      ⊎_elim (λ e. absurd (no_point e)) (λ e. absurd (no_point e))
      (is_told v h.sound k.segment way h.whole d has is Apart (of_segment Apart meet) p (after_lower p l) c on)
    where
      no_point : {p : Point} → None ≡ Some p → ⊥
      no_point e = cc

  -- the line of its edge passes through the point where the search stands, and isn't the segment's
  pub here_taken : (m : Line) → m ≡ line_in v d → passes_here m k ≡ true → (es : List (Point × Spot)) → IsPartTaken v k.segment k.here es (Dart d)
  here_taken m is passes es = λ p on meets later.
      let w = and_true (is_on m k.here) (not (are_one m k.whole.line)) passes in
      absurd
      (crossed v h.sound k.segment way k.here (meets_proper v h.sound k.segment way k.here stands) (meets_lies v h.sound k.segment way k.here stands) d has
      (subst (λ (l : Line). IsOn l k.here) is (zero_out (side_of m k.here) w.0))
      (λ e. clash (line-itself m k.whole.line (is ∙ e ∙ sym (ap (λ (z : Span). z.line) h.spanned))) (not_out (are_one m k.whole.line) w.1))
      p on meets later)

  -- the segment came in by its edge
  pub entry_taken : IsBehind v o.segment o.here (Some d) → (es : List (Point × Spot)) → IsPartTaken v k.segment k.here es (Dart d)
  entry_taken behind es = λ p on meets later.
      absurd (behind p on (subst (λ (z : Segment). Contains (meeting_points v z) p) h.one.segment meets) (ap (λ (x : Point). precedes x p) (sym h.one.here) ∙ later))

  -- the box of the segment rules the dart out, by its two points as they were told
  pub outside_taken : (p q : Point) → p ≡ point_in v (source_in v d) → q ≡ point_in v (target_in v d) → excludes k.bounds (whole_parts p) (whole_parts q) ≡ true → (es : List (Point × Spot)) → IsPartTaken v k.segment k.here es (Dart d)
  outside_taken p q e f out es = λ r on c l.
      absurd
      (outside_missed v h.sound d has k.segment way
      ((λ i. excludes (sym (h.boxed ∙ ap bounding_box h.spanned) i) (whole_parts (sym e i)) (whole_parts (sym f i))) ∙ out)
      r (told v h.sound k.segment way r c) on)

  module _ (c : CommonPoints) (met : IsDartMet v k.whole d c) where
    is_meet : IsMeeting (span_of_segment k.segment) (span_in v d) (meet_between c.first c.last)
    is_meet = of_segment (meet_between c.first c.last) met.meet

    pub is_point : (p : Point) → (Some c.first ≡ Some p) ⊎ (c.last ≡ Some p) → Contains (meeting_points v k.segment) p × IsOnEdge v d p
    is_point p e =
        is_sound v h.sound k.segment way h.whole d has met.span (meet_between c.first c.last) is_meet p
        (subst (λ (z : Option Point × Option Point). (z.0 ≡ Some p) ⊎ (z.1 ≡ Some p)) (sym (points_between c.first c.last)) e)

    pub dart_taken : (es : List (Point × Spot)) → ((p : Point) → (Some c.first ≡ Some p) ⊎ (c.last ≡ Some p) → precedes k.here p ≡ true → Member p (keys_of es)) → IsPartTaken v k.segment k.here es (Dart d)
    dart_taken es f p on m l =
        inl
        (f p
        (subst (λ (z : Option Point × Option Point). (z.0 ≡ Some p) ⊎ (z.1 ≡ Some p)) (points_between c.first c.last)
        (is_told v h.sound k.segment way h.whole d has met.span (meet_between c.first c.last) is_meet p (after_lower p l) m on))
        l)

-- ---- a look at a vertex
module _ (v : View) (o k : Search) (h : IsSearchFrom v o k) (w : VertexId) (has : HasVertex v w) where
  of_whole : is_on_span k.whole (point_in v w) ≡ is_on_segment k.segment (point_in v w)
  of_whole = ap (λ (z : Span). is_on_span z (point_in v w)) h.spanned

  pub vertex_meets : (p : Point) → IsVertexMet v k.whole w (Some p) → Contains (meeting_points v k.segment) p
  vertex_meets p met = listed v h.sound k.segment (course k.segment h.ends) p (vertex w has met.0 (ap (is_on_segment k.segment) met.0 ∙ sym of_whole ∙ met.1))

  pub vertex_missed : is_on_span k.whole (point_in v w) ≡ false → Contains (meeting_points v k.segment) (point_in v w) → ⊥
  vertex_missed e c = clash (lies_in k.segment (point_in v w) (meets_lies v h.sound k.segment (course k.segment h.ends) (point_in v w) (told v h.sound k.segment (course k.segment h.ends) (point_in v w) c))) (sym of_whole ∙ e)

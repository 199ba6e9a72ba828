-- The meeting points of a segment and a graph: which points they are, that all are on the segment, and that they ascend.
use Rattle.std.proofs.Common.{◌≡◌, Bool, true, false, ◌&&◌, cond, List, [], ◌∷◌, ◌++◌, map, refl, sym, ap, ◌∙◌, subst, inl, inr, ⊎_elim}
use Rattle.std.specs.List.{filter, flat_map}
use Rattle.exact_plane.specs.Line.{side_of}
use Rattle.exact_plane.specs.Point.{Point}
use Rattle.exact_plane.specs.PointOrder.{point_cmp}
use Rattle.exact_plane.specs.PointOrderLaws.{point_cmp_total, same_point as point_cmp_exact, and_true}
use Rattle.exact_plane.specs.Segment.{Segment, line_of_segment}
use Rattle.exact_plane.specs.Span.{IsSpan, span_of_segment}
use Rattle.plane_graphs.specs.Ascending.{Member, IsAscending}
use Rattle.plane_graphs.specs.Line.{precedes, is_on, are_parallel, crossing}
use Rattle.plane_graphs.proofs.Ascending.{IsAscending-ascending}
use Rattle.plane_graphs.proofs.Lists.{and_in, not_in, in_left, in_right, in_either, in_filter, of_filter, in_map, of_map, in_flat_map, of_flat_map, of_ascending, in_ascending}
use Rattle.plane_graphs.proofs.Lines.{zero_in}
use Rattle.plane_graphs.proofs.Order.{Lt, lt_out, lt_never, lt_both}
use Rattle.slab_laws.specs.declared.names.DartId.{DartId}
use Rattle.slab_laws.specs.declared.names.VertexId.{VertexId}
use Rattle.slab_laws.specs.Skeleton.{inside}
use Rattle.slab_laws.specs.Sound.{points_of, edge_in}
use Rattle.slab_laws.specs.Tables.{row_at, names, NamesAscend}
use Rattle.slab_laws.specs.View.{View, HasVertex, HasDart, vertex_id, dart_id, point_in, point_or, line_in}
use Rattle.sound_views.proofs.NameTables.{has_name, name_has, row_found}
use Rattle.zone_walk.specs.Zone.{is_on_segment, passes, meeting_points}

-- ---- the points of a view
module _ (v : View) (ascend : NamesAscend (names v.vertices)) where
  vertex_point : (w : VertexId) → HasVertex v w → Member (point_in v w) (points_of v)
  vertex_point w has =
      let r = of_map (λ r. r.0) w.0 v.vertices (has_name v.vertices w.0 has) in
      let e : point_in v w ≡ r.0.1.point = ap (λ n. point_or (row_at v.vertices n)) r.2 ∙ ap point_or (row_found v.vertices r.0 ascend r.1) in
      in_ascending point_cmp point_cmp_total point_cmp_exact (point_in v w) (map (λ r. r.1.point) v.vertices)
      (subst (λ (p : Point). Member p (map (λ r. r.1.point) v.vertices)) (sym e) (in_map (λ r. r.1.point) r.0 v.vertices r.1))

  point_vertex : (p : Point) → Member p (points_of v) → (w : VertexId) × HasVertex v w × (p ≡ point_in v w)
  point_vertex p m =
      let r = of_map (λ r. r.1.point) p v.vertices (of_ascending point_cmp point_cmp_total point_cmp_exact p (map (λ r. r.1.point) v.vertices) m) in
      (vertex_id r.0.0, name_has v.vertices r.0.0 (in_map (λ r. r.0) r.0 v.vertices r.1), r.2 ∙ sym (ap point_or (row_found v.vertices r.0 ascend r.1)))

-- ---- where a segment passes through an edge
pub record IsPassed (v : View) (s : Segment) (d : DartId) (p : Point) : Type 0 where
  pub crosses : are_parallel (line_of_segment s) (line_in v d) ≡ false
  pub crossing : p ≡ crossing (line_of_segment s) (line_in v d)
  pub on_segment : is_on_segment s p ≡ true
  pub inner : inside (edge_in v d) p ≡ true

passed_one : (a b : Bool) (p r : Point) → Member p (cond a [] (cond b (r ∷ []) [])) → (a ≡ false) × (b ≡ true) × (p ≡ r)
passed_one true b p r m = absurd m
passed_one false true p r (inl e) = (refl, refl, e)
passed_one false true p r (inr m) = absurd m
passed_one false false p r m = absurd m

one_passed : (a b : Bool) (r : Point) → a ≡ false → b ≡ true → cond a [] (cond b (r ∷ []) []) ≡ r ∷ []
one_passed a b r e f = rw (e, f) refl

none_passed : (a b : Bool) (r : Point) → (a ≡ false → b ≡ true → ⊥) → cond a [] (cond b (r ∷ []) []) ≡ []
none_passed true b r f = refl
none_passed false true r f = absurd (f refl refl)
none_passed false false r f = refl

module _ (v : View) (s : Segment) (d : DartId) where
  abbrev place : Point
  place = crossing (line_of_segment s) (line_in v d)

  pub passes_out : (p : Point) → Member p (passes v s d) → IsPassed v s d p
  passes_out p m =
      let w = passed_one (are_parallel (line_of_segment s) (line_in v d)) (is_on_segment s place && inside (edge_in v d) place) p place m in
      let b = and_true (is_on_segment s place) (inside (edge_in v d) place) w.1 in
      record { crosses = w.0; crossing = w.2; on_segment = ap (is_on_segment s) w.2 ∙ b.0; inner = ap (inside (edge_in v d)) w.2 ∙ b.1 }

  pub passes_one : (p : Point) → IsPassed v s d p → passes v s d ≡ p ∷ []
  passes_one p h =
      one_passed (are_parallel (line_of_segment s) (line_in v d)) (is_on_segment s place && inside (edge_in v d) place) place h.crosses
      (and_in (ap (is_on_segment s) (sym h.crossing) ∙ h.on_segment) (ap (inside (edge_in v d)) (sym h.crossing) ∙ h.inner))
      ∙ ap (λ (q : Point). q ∷ []) (sym h.crossing)

  pub passes_none : ((p : Point) → IsPassed v s d p → ⊥) → passes v s d ≡ []
  passes_none f =
      none_passed (are_parallel (line_of_segment s) (line_in v d)) (is_on_segment s place && inside (edge_in v d) place) place
      (λ a b. let w = and_true (is_on_segment s place) (inside (edge_in v d) place) b in f place (record { crosses = a; crossing = refl; on_segment = w.0; inner = w.1 }))

-- ---- the meeting points
pub data MeetsAt (v : View) (s : Segment) (p : Point) : Type 0 where
  lower : p ≡ s.lower → MeetsAt v s p
  upper : p ≡ s.upper → MeetsAt v s p
  vertex : (w : VertexId) → HasVertex v w → p ≡ point_in v w → is_on_segment s p ≡ true → MeetsAt v s p
  passed : (d : DartId) → HasDart v d → Member p (passes v s d) → MeetsAt v s p

abbrev vertices_on : View → (s : Segment) → List Point
vertices_on v s = filter (is_on_segment s) (points_of v)

abbrev all_passes : (v : View) (s : Segment) → List Point
all_passes v s = flat_map (λ r. passes v s (dart_id r.0)) v.darts

module _ (v : View) (s : Segment) where
  passed_row : (p : Point) → Member p (all_passes v s) → MeetsAt v s p
  passed_row p m =
      let r = of_flat_map (λ r. passes v s (dart_id r.0)) p v.darts m in
      passed (dart_id r.0.0) (name_has v.darts r.0.0 (in_map (λ r. r.0) r.0 v.darts r.1)) r.2

  row_passed : (p : Point) (d : DartId) → HasDart v d → Member p (passes v s d) → Member p (all_passes v s)
  row_passed p d has m =
      let r = of_map (λ r. r.0) d.0 v.darts (has_name v.darts d.0 has) in
      in_flat_map (λ r. passes v s (dart_id r.0)) r.0 p v.darts r.1 (subst (λ n. Member p (passes v s (dart_id n))) r.2 m)

  pub meetings_ascend : IsAscending point_cmp (meeting_points v s)
  unfolding meeting_points
  meetings_ascend = IsAscending-ascending point_cmp point_cmp_total _

  module _ (ascend : NamesAscend (names v.vertices)) (p : Point) where
    on_vertex : Member p (vertices_on v s) → MeetsAt v s p
    on_vertex m =
        let f = of_filter (is_on_segment s) p (points_of v) m in
        let w = point_vertex v ascend p f.0 in
        vertex w.0 w.1 w.2 f.1

    told : Member p (s.lower ∷ s.upper ∷ (vertices_on v s ++ all_passes v s)) → MeetsAt v s p
    told (inl e) = lower e
    told (inr (inl e)) = upper e
    told (inr (inr m)) = ⊎_elim on_vertex (passed_row p) (in_either p (vertices_on v s) (all_passes v s) m)

    listed : MeetsAt v s p → Member p (s.lower ∷ s.upper ∷ (vertices_on v s ++ all_passes v s))
    listed (lower e) = inl e
    listed (upper e) = inr (inl e)
    listed (vertex w has e on) =
        inr (inr (in_left p (vertices_on v s) (all_passes v s) (in_filter (is_on_segment s) p (points_of v) (subst (λ (q : Point). Member q (points_of v)) (sym e) (vertex_point v ascend w has)) on)))
    listed (passed d has m) = inr (inr (in_right p (vertices_on v s) (all_passes v s) (row_passed p d has m)))

    pub of_meetings : Member p (meeting_points v s) → MeetsAt v s p
    unfolding meeting_points
    of_meetings m = told (of_ascending point_cmp point_cmp_total point_cmp_exact p _ m)

    pub in_meetings : MeetsAt v s p → Member p (meeting_points v s)
    unfolding meeting_points
    in_meetings h = in_ascending point_cmp point_cmp_total point_cmp_exact p _ (listed h)

-- ---- all are on the segment
pub on_by : (s : Segment) (p : Point) → is_on (line_of_segment s) p ≡ true → (Lt p s.lower → ⊥) → (Lt s.upper p → ⊥) → is_on_segment s p ≡ true
on_by s p l f g = and_in l (and_in (not_in (precedes p s.lower) (λ e. f (lt_out p s.lower e))) (not_in (precedes s.upper p) (λ e. g (lt_out s.upper p e))))

module _ (s : Segment) (is : IsSpan (span_of_segment s)) where
  ahead : Lt s.lower s.upper
  ahead = record { is = is.way.ascending }

  pub lower_on_segment : is_on_segment s s.lower ≡ true
  lower_on_segment = on_by s s.lower (zero_in (side_of (line_of_segment s) s.lower) is.way.lower_on) (λ l. lt_never l) (λ l. lt_both l ahead)

  pub upper_on_segment : is_on_segment s s.upper ≡ true
  upper_on_segment = on_by s s.upper (zero_in (side_of (line_of_segment s) s.upper) is.way.upper_on) (λ l. lt_both l ahead) (λ l. lt_never l)

  pub meets_on_segment : (v : View) (p : Point) → MeetsAt v s p → is_on_segment s p ≡ true
  meets_on_segment v p (lower e) = ap (is_on_segment s) e ∙ lower_on_segment
  meets_on_segment v p (upper e) = ap (is_on_segment s) e ∙ upper_on_segment
  meets_on_segment v p (vertex w has e on) = on
  meets_on_segment v p (passed d has m) = (passes_out v s d p m).on_segment

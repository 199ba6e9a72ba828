-- Where the segment enters a face, what it meets next is on the boundary of the face, or is its upper end in it.
use Rattle.std.proofs.Common.{◌≡◌, ◌≢◌, true, false, Contains, List, refl, sym, ap, ◌∙◌, subst, inl, inr, ◌⊎◌}
use Rattle.std.specs.Map.{keys_of}
use Rattle.exact_plane.specs.Line.{Line, IsOn}
use Rattle.exact_plane.specs.Point.{Point}
use Rattle.exact_plane.specs.Segment.{Segment, line_of_segment}
use Rattle.plane_graphs.specs.Ascending.{Member}
use Rattle.plane_graphs.specs.Graph.{Edge}
use Rattle.plane_graphs.specs.Line.{IsProper, precedes}
use Rattle.plane_graphs.proofs.Lines.{span_runs}
use Rattle.plane_graphs.proofs.Lists.{clash}
use Rattle.plane_graphs.proofs.Marks.{Le, le_cases, le_same, le_lt, le_lt_lt, lt_le_lt}
use Rattle.plane_graphs.proofs.Order.{Lt, lt_out, lt_in, lt_never, Tri, tri}
use Rattle.plane_graphs.proofs.Order.Tri.{less, same, more}
use Rattle.integers.proofs.Tests.{not_true}
use Rattle.slab_laws.specs.declared.names.DartId.{DartId}
use Rattle.slab_laws.specs.declared.names.FaceId.{FaceId}
use Rattle.slab_laws.specs.declared.names.VertexId.{VertexId}
use Rattle.slab_laws.specs.Darts.{Dart}
use Rattle.slab_laws.specs.FacesSound.{IsSound}
use Rattle.slab_laws.specs.Skeleton.{inside}
use Rattle.slab_laws.specs.Sound.{edge_in, edge_between, IsGraphSound}
use Rattle.slab_laws.specs.View.{View, Faces, HasVertex, HasDart, point_in, source_in, twin_in, target_in}
use Rattle.sound_views.proofs.NamedDarts.{twin_dart}
use Rattle.sound_changes.proofs.Collinear.{flat_on_line, on_line_of_ends}
use Rattle.sound_changes.proofs.PointInside.{inside_out, inside_in}
use Rattle.sound_changes.proofs.SplitCases.{edge_of_ends, ahead_by}
use Rattle.counted_looks.specs.Boundaries as walks
use Rattle.counted_looks.specs.declared.boundary_part.BoundaryPart.{BoundaryPart}
use Rattle.counted_looks.specs.declared.boundary_part.BoundaryPart.TheVariants as walked
use Rattle.zone_walk.specs.Parts.{IsClearBetween, IsFaceBetween, TellsFace, IsOnBoundary}
use Rattle.zone_walk.proofs.PartLaws.{parts_have_one_face, first_reached_is_on_boundary, faces_are_told}
use Rattle.dcel_records.specs.Spots.{IsInFace}
use Rattle.dcel_records.specs.declared.spot.Spot.{Spot}
use Rattle.dcel_records.specs.declared.spot.Spot.TheVariants.{Face}
use Rattle.face_location.specs.Spots.{IsSpotOf}
use Rattle.zone_walk.specs.Searches.{IsLedTo, IsPartTaken, LeadsTo}
use Rattle.zone_walk.specs.Walk.{IsAhead}
use Rattle.zone_walk.specs.Zone.{meeting_points, IsNextMeeting, IsSpotBetween}
use Rattle.zone_walk.proofs.Aheads.{at_most, not_before}
use Rattle.zone_walk.proofs.Courses.{IsCourse, LiesOn, lies_out, lies_in}
use Rattle.zone_walk.proofs.MeetingPoints.{MeetsAt, lower, upper, vertex, passed, passes_out}
use Rattle.zone_walk.proofs.Stretches.{face_between, told, listed, meets_lies, meets_proper}

module _ (v : View) (f : Faces) (S : IsSound v f) (g : Segment) (c : IsCourse g) (p : Point) (proper : IsProper p) (on : LiesOn g p) (before : Lt p g.upper) where
  s : IsGraphSound v
  s = S.graph

  abbrev line : Line
  line = line_of_segment g

  -- ---- between two points of the segment
  module _ (q : Point) (P : IsProper q) (on_q : LiesOn g q) (l : Lt p q) where
    edge_is : edge_between p q ≡ edge_of_ends p q
    edge_is = ap (λ (d : Dart). d.edge) (ahead_by p q (lt_in l))

    between_out : (t : Point) → IsProper t → inside (edge_between p q) t ≡ true → LiesOn g t × Lt p t × Lt t q
    between_out t T i =
        let j = inside_out (edge_of_ends p q) t proper P T (subst (λ (z : Edge). inside z t ≡ true) edge_is i) in
        let o : IsOn line t = on_line_of_ends line p q t (span_runs p q proper P l) on.on on_q.on j.on in
        (record { on = o; from = le_lt (le_lt_lt on.from j.after); upto = le_lt (lt_le_lt j.before on_q.upto) }, j.after, j.before)

    between_in : (t : Point) → IsProper t → LiesOn g t → Lt p t → Lt t q → inside (edge_between p q) t ≡ true
    between_in t T o a b =
        subst (λ (z : Edge). inside z t ≡ true) (sym edge_is)
        (inside_in (edge_of_ends p q) t proper P T (record { after = a; before = b; on = flat_on_line line p q t c.line.runs on.on on_q.on o.on }))

  module _ (a : FaceId) (none : (d : DartId) → IsAhead v line p d → ⊥) (tells : TellsFace v f p g.upper a) where
    module _ (q : Point) (n : IsNextMeeting v g p q) where
      lies : LiesOn g q
      lies = meets_lies v s g c q (told v s g c q n.meets)

      there : IsProper q
      there = meets_proper v s g c q (told v s g c q n.meets)

      first : Lt p q
      first = lt_out p q n.later

      clear : IsClearBetween v p q
      clear t T i = let w = between_out q there lies first t T i in face_between v s g c p on none q n t T (lies_in g t w.0) (lt_in w.1) (lt_in w.2)

      tells_there : TellsFace v f p q a
      tells_there = elim (le_cases q g.upper lies.upto) [
        | inl e ↦ subst (λ (x : Point). TellsFace v f p x a) (sym e) tells
        | inr l ↦ faces_are_told.nearer v f p g.upper q a s proper c.upper there (between_in g.upper c.upper (record { on = c.upper_on; from = le_lt c.ahead; upto = le_same g.upper }) before q there lies first l) tells
      ]

      faced : IsFaceBetween v f p q a
      faced = parts_have_one_face v f p q a s proper there clear tells_there

      -- the part lies in the face
      pub spots : IsSpotBetween v f g p q (Face a)
      spots t T o k m =
          let l = lies_out g t o in
          let i = between_in q there lies first t T l (lt_out p t k) (lt_out t q m) in
          record { met = clear t T i; face = faced t T i }

      bounded : IsOnBoundary v f q a
      bounded = first_reached_is_on_boundary v f p q a S proper there (λ e. lt_never (subst (Lt p) (sym e) first)) clear faced

      pub face_at : IsInFace v q → IsSpotOf v f q (Face a)
      face_at h = record { met = h; face = bounded.inner h }

      -- no edge leads to it: the edge would go on from p, or begin between
      not_led : (e : DartId) → LeadsTo v g q e → ⊥
      not_led e h = by (tri p low)
        where
          low : Point
          low = point_in v (source_in v e)

          begins : Lt low q
          begins = lt_out low q h.begins

          ends : Lt p (point_in v (target_in v e))
          ends = lt_le_lt first (at_most q (point_in v (target_in v e)) h.ends)

          by : Tri p low → ⊥
          by (less l) =
              let on_line : IsOn line low = subst (λ (m : Line). IsOn m low) h.line (s.drawn.starts e h.forward.0) in
              let m : MeetsAt v g low = vertex (source_in v e) (s.linked.source e h.forward.0) refl (lies_in g low (record { on = on_line; from = le_lt (le_lt_lt on.from l); upto = le_lt (lt_le_lt begins lies.upto) })) in
              clash (lt_in begins) (n.none_between low (listed v s g c low m) (lt_in l))
          by (same i) = none e (record { forward = h.forward; line = h.line; begins = not_before (subst (λ (x : Point). Le x p) i (le_same p)); ends = lt_in ends })
          by (more l) = none e (record { forward = h.forward; line = h.line; begins = not_before (le_lt l); ends = lt_in ends })

      -- where it isn't found on the boundary it meets nothing
      module _ (es : List (Point × Spot)) (taken : (t : BoundaryPart) → walks.IsOnBoundary v f a t → IsPartTaken v g p es t) (missing : Member q (keys_of es) → ⊥) where
        untaken : Member q (keys_of es) ⊎ IsLedTo v g q → ⊥
        untaken (inl m) = missing m
        untaken (inr e) = not_led e.0 e.1

        no_vertex : (w : VertexId) → HasVertex v w → point_in v w ≢ q
        no_vertex w W e = elim (bounded.vertex w W e) [
          | inl b ↦ untaken (subst (λ (x : Point). Member x (keys_of es) ⊎ IsLedTo v g x) e (taken (walked.Isolated w) (b.0, b.1) (subst (Contains (meeting_points v g)) (sym e) n.meets) (ap (precedes p) e ∙ n.later)))
          | inr d ↦ untaken (taken (walked.Dart d.dart) (d.has, d.left) q (inr (inl (sym e ∙ ap (point_in v) (sym d.into)))) n.meets n.later)
        ]

        no_edge : (d : DartId) → HasDart v d → inside (edge_in v d) q ≡ false
        no_edge d D = not_true (inside (edge_in v d) q) (λ i. elim (bounded.edge d D i) [
          | inl e ↦ untaken (taken (walked.Dart d) (D, e) q (inr (inr i)) n.meets n.later)
          | inr e ↦
              let t = twin_dart v s d D in
              untaken (taken (walked.Dart (twin_in v d)) (s.twinned.has d D, e) q (inr (inr (ap (λ (x : Dart). inside x.edge q) t ∙ i))) n.meets n.later)
        ])

        pub nothing_met : IsInFace v q
        nothing_met = record { no_vertex = no_vertex; no_edge = no_edge }

-- a meeting point that meets nothing after another is the upper end
module _ (v : View) (s : IsGraphSound v) (g : Segment) (c : IsCourse g) where
  pub alone_is_upper : (p : Point) → LiesOn g p → (q : Point) → IsNextMeeting v g p q → IsInFace v q → q ≡ g.upper
  alone_is_upper p on q n h = by (told v s g c q n.meets)
    where
      by : MeetsAt v g q → q ≡ g.upper
      by (lower e) = absurd (on.from.never (subst (Lt p) e (lt_out p q n.later)))
      by (upper e) = e
      by (vertex w hw e o) = absurd (h.no_vertex w hw (sym e))
      by (passed d hd m) = clash (passes_out v g d q m).inner (h.no_edge d hd)

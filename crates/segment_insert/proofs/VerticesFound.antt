-- The step that makes a point a vertex, by where the records have the point.
use Rattle.std.proofs.Common.{◌≡◌, ℕ, true, refl, sym, ap, ◌∙◌, subst, inl, inr}
use Rattle.std.specs.List.{Contains}
use Rattle.exact_plane.specs.Point.{Point}
use Rattle.plane_graphs.specs.Ascending.{Member}
use Rattle.plane_graphs.specs.Graph.{Graph, Mark, mark, edge_of, collinear, det}
use Rattle.plane_graphs.specs.Graph as plane
use Rattle.plane_graphs.specs.Line.{IsProper}
use Rattle.plane_graphs.proofs.Closed as closed
use Rattle.plane_graphs.proofs.Lines.{zero_in}
use Rattle.plane_graphs.proofs.Lists.{clash, some_of}
use Rattle.slab_faces.proofs.InnerPoints.{inside_by}
use Rattle.edit_steps.specs.Allowed.{IsSound, IsAllowed}
use Rattle.edit_steps.specs.Steps.{AddVertex, SplitEdge, vertex_step_by}
use Rattle.edit_steps.proofs.Split.{step_is}
use Rattle.slab_faces.proofs.OneEdge.{one_edge_at_most}
use Rattle.slab_laws.specs.declared.names.DartId.{DartId}
use Rattle.slab_laws.specs.Skeleton.{inside, side}
use Rattle.slab_laws.specs.Sound.{edge_in, skeleton_of, IsGraphSound}
use Rattle.slab_laws.specs.View.{View, HasDart, point_in, source_in, target_in}
use Rattle.sound_changes.proofs.SplitCases.{edge_of_ends}
use Rattle.sound_changes.proofs.PointInside.{IsInside}
use Rattle.sound_changes.proofs.KnownNames.{point_known, edge_known}
use Rattle.arr_notes.specs.Curves.{Curves, IsForward, AreCurvesOf}
use Rattle.dcel_records.specs.Spots.{IsInFace}
use Rattle.arr_notes.specs.RecordGraph.{drawn_graph}
use Rattle.sound_views.specs.RecordGraphLaws.{IsMarkOf}
use Rattle.sound_changes.proofs.StepHolds.{held_point, mark_held, held_mark}
use Rattle.segment_insert.proofs.VerticesWalk.{forward_edge, inside_ends}

-- a point inside an edge is inside its marks
marked_inside : (a b p : Point) (c : ℕ) → IsInside (edge_of_ends a b) p → plane.inside p (mark a b c) ≡ true
unfolding side collinear det
marked_inside a b p c i = closed.inside_in p (mark a b c) i.after i.before (zero_in (det a b p) i.on)

-- a point that a sound step makes a vertex is a point of the plane
pub proper_by_step : (p : Point) (g : Graph) → IsSound (vertex_step_by p g.marks) g → IsProper p
unfolding IsAllowed
proper_by_step p g k =
    elim (step_is p g.marks) [
      | inl r ↦ (subst (λ s. IsSound s g) r.3 k).allowed.0.proper
      | inr r ↦ (subst (λ s. IsSound s g) r.1 k).allowed.0.proper
    ]

module _ (v : View) (h : Curves) (s : IsGraphSound v) where
  -- a mark's edge is the dart's
  mark_edge : (m : Mark) (d : DartId) → IsMarkOf v h m d → edge_in v d ≡ edge_of m
  mark_edge m d k = forward_edge v d k.forward ∙ (λ t. record { low = k.low t; high = k.high t })

  mark_proper : (m : Mark) (d : DartId) → IsMarkOf v h m d → IsProper m.low × IsProper m.high
  mark_proper m d k = (
    subst IsProper k.low (s.drawn.proper (source_in v d) (s.linked.source d k.forward.0)),
    subst IsProper k.high (s.drawn.proper (target_in v d) (s.linked.source _ (s.twinned.has d k.forward.0))),
  )

  module _ (p : Point) (proper : IsProper p) where
    -- a point inside a mark is inside its dart's edge
    dart_inside : (m : Mark) (d : DartId) → IsMarkOf v h m d → plane.inside p m ≡ true → inside (edge_in v d) p ≡ true
    dart_inside m d k i =
        let a = closed.inside_out p m i in
        let b = mark_proper m d k in
        subst (λ e. inside e p ≡ true) (sym (mark_edge m d k)) (inside_by (edge_of m) p b.0 b.1 proper a.0 a.1 a.2)

    -- inside a face a vertex comes
    pub face_step : IsInFace v p → vertex_step_by p (drawn_graph v h).marks ≡ AddVertex p
    face_step o =
        elim (step_is p (drawn_graph v h).marks) [
          | inl r ↦ let k = held_mark v s.named h r.0 r.1 in clash (dart_inside r.0 k.0 k.1 r.2) (o.no_edge k.0 k.1.forward.0)
          | inr r ↦ r.1
        ]

    -- inside an edge that edge is split
    module _ (a : AreCurvesOf v h) (d : DartId) (f : IsForward v d) (i : inside (edge_in v d) p ≡ true) where
      abbrev A : Point
      A = point_in v (source_in v d)

      abbrev B : Point
      B = point_in v (target_in v d)

      same_edge : (m : Mark) (e : DartId) → IsMarkOf v h m e → plane.inside p m ≡ true → edge_of m ≡ edge_of_ends A B
      same_edge m e k j =
          sym (mark_edge m e k)
          ∙ one_edge_at_most (skeleton_of v) (edge_in v e) (edge_in v d) p s.plane proper.positive (edge_known v e k.forward.0) (edge_known v d f.0) (dart_inside m e k j) i
          ∙ forward_edge v d f

      some_mark : (c : ℕ) → Member c (h d) → Member (mark A B c) (drawn_graph v h).marks
      some_mark c n = mark_held v s.named h (mark A B c) d (record { forward = f; low = refl; high = refl; curve = n })

      pub edge_step : vertex_step_by p (drawn_graph v h).marks ≡ SplitEdge A B p
      edge_step =
          elim (step_is p (drawn_graph v h).marks) [
            | inl r ↦ let k = held_mark v s.named h r.0 r.1 in let e = same_edge r.0 k.0 k.1 r.2 in r.3 ∙ ap (λ z. SplitEdge z.low z.high p) e
            | inr r ↦ let c = some_of (h d) (a.some d f) in absurd (r.0 (mark A B c.0) (some_mark c.0 c.1) (marked_inside A B p c.0 (inside_ends v d p s f proper i)))
          ]

  -- ---- such a point is no vertex
  pub face_new : (p : Point) → IsInFace v p → Member p (drawn_graph v h).points → ⊥
  face_new p o m = let u = held_point v s.named h p m in o.no_vertex u.0 u.1.has u.1.at

  pub edge_new : (p : Point) (d : DartId) → HasDart v d → inside (edge_in v d) p ≡ true → Member p (drawn_graph v h).points → ⊥
  edge_new p d o i m =
      let u = held_point v s.named h p m in
      clash i (s.plane.clear (edge_in v d) p (edge_known v d o) (subst (Contains (skeleton_of v).vertices) u.1.at (point_known v s.named u.0 u.1.has)))

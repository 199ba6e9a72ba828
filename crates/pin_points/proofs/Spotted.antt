-- What a point meets tells of the graph that the records draw: whether its point is pinned, and by which step it becomes a vertex.
use Rattle.std.proofs.Common.{◌≡◌, ◌≢◌, ◌≤◌, arith, Bool, true, false, not, cond, [], ◌∷◌, refl, sym, ap, ap₂, ◌∙◌, subst, inl, inr}
use Rattle.std.specs.List.{list_any}
use Rattle.exact_plane.specs.Point.{Point}
use Rattle.plane_graphs.specs.Ascending.{Member}
use Rattle.plane_graphs.specs.Graph.{Graph, Mark, inside as inside_mark, on_edge}
use Rattle.plane_graphs.specs.Line.{IsProper, precedes, same_point}
use Rattle.plane_graphs.proofs.Closed.{inside_in as inside_mark_in, inside_out as inside_mark_out}
use Rattle.plane_graphs.proofs.Lists.{and_in, any_in, any_out, both_ways, clash, not_in}
use Rattle.plane_graphs.proofs.Order.{Lt, lt_out, lt_never, lt_both, same_in, same_out}
use Rattle.edit_steps.specs.Allowed.{AreSound}
use Rattle.edit_steps.specs.Steps.{AddVertex as AddVertexAt, SplitEdge as SplitEdgeAt, vertex_step_by, vertex_steps, missing_points}
use Rattle.edit_steps.proofs.Split.{step_is}
use Rattle.slab_laws.specs.declared.names.DartId.{DartId}
use Rattle.slab_laws.specs.declared.names.VertexId.{VertexId}
use Rattle.slab_laws.specs.Darts.{Dart}
use Rattle.slab_laws.specs.Skeleton.{inside}
use Rattle.slab_laws.specs.Sound.{IsGraphSound, edge_in}
use Rattle.slab_laws.specs.View.{View, HasVertex, HasDart, point_in, pinned_in, source_in, target_in}
use Rattle.sound_changes.proofs.SplitCases.{edge_of_ends, ahead_by}
use Rattle.sound_changes.proofs.PointInside.{inside_in, inside_out}
use Rattle.sound_changes.proofs.KnownNames.{point_known, edge_known}
use Rattle.arr_notes.specs.Curves.{Curves, AreCurvesOf, is_forward}
use Rattle.dcel_records.specs.declared.spot.Met.{Met}
use Rattle.dcel_records.specs.declared.spot.Met.TheVariants.{Vertex, Edge as InEdge, Nothing}
use Rattle.dcel_records.specs.Spots.{IsInFace, IsMet}
use Rattle.arr_notes.specs.RecordGraph.{drawn_graph}
use Rattle.sound_views.specs.RecordGraphLaws.{IsMarkOf}
use Rattle.sound_views.proofs.ForwardDarts.{target_has}
use Rattle.sound_views.proofs.GraphDrawn.{graphs_are_plane}
use Rattle.sound_changes.proofs.StepHolds.{held_mark, point_held, held_point, pin_held, held_pin}
use Rattle.told_steps.specs.VertexMade.{IsPlaneWith, darts_at, steps_at, vertices_at}
use Rattle.pin_points.specs.Pins.{MayBecomeVertex, is_pinned_met, new_vertex_steps}
use Rattle.told_steps.proofs.Passed.{flat_in, flat_out, mark_there}
use Rattle.integers.proofs.Tests.{not_true}

-- ---- steps for one point
module _ (p : Point) (g : Graph) where
  steps_by : (b : Bool) → not (list_any (same_point p) g.points) ≡ b → new_vertex_steps p g ≡ vertex_steps (cond b (p ∷ []) []) g
  unfolding missing_points
  steps_by b e = ap (λ c. vertex_steps (cond c (p ∷ []) []) g) e

  pub none_missing : Member p g.points → new_vertex_steps p g ≡ []
  unfolding vertex_steps
  none_missing m = steps_by false (ap not (any_in (same_point p) p g.points m (same_in p p refl)))

  pub one_missing : (Member p g.points → ⊥) → new_vertex_steps p g ≡ vertex_step_by p g.marks ∷ []
  unfolding vertex_steps
  one_missing none = steps_by true (not_in (list_any (same_point p) g.points) (λ t. let q = any_out (same_point p) g.points t in none (subst (λ z. Member z g.points) (sym (same_out p q.0 q.2)) q.1)))

-- a point strictly inside an edge is on it, and is no end of it
inside_on : (p : Point) (m : Mark) → inside_mark p m ≡ true → on_edge p m ≡ true
unfolding on_edge
inside_on p m i =
    let k = inside_mark_out p m i in
    and_in (and_in (not_in (precedes p m.low) (λ e. lt_both k.0 (lt_out p m.low e))) (not_in (precedes m.high p) (λ e. lt_both k.1 (lt_out m.high p e)))) k.2

-- ---- pins
module _ (v : View) (h : Curves) (s : IsGraphSound v) (p : Point) where
  abbrev drawn : Graph
  drawn = drawn_graph v h

  -- no vertex is inside an edge
  no_vertex_in_edge : (d : DartId) → HasDart v d → inside (edge_in v d) p ≡ true → (w : VertexId) → HasVertex v w → point_in v w ≢ p
  no_vertex_in_edge d o i w has e = clash (subst (λ z. inside (edge_in v d) z ≡ true) (sym e) i) (s.plane.clear (edge_in v d) (point_in v w) (edge_known v d o) (point_known v s.named w has))

  pub none_pinned : ((w : VertexId) → HasVertex v w → point_in v w ≢ p) → list_any (same_point p) drawn.pins ≡ false
  none_pinned none = not_true (list_any (same_point p) drawn.pins) (λ t.
      let q = any_out (same_point p) drawn.pins t in
      let w = held_pin v s.named h q.0 q.1 in
      none w.0 w.1.has (w.1.at ∙ sym (same_out p q.0 q.2)))

  pub pinned_vertex : (w : VertexId) → HasVertex v w → point_in v w ≡ p → list_any (same_point p) drawn.pins ≡ pinned_in v w
  pinned_vertex w has at =
      both_ways (list_any (same_point p) drawn.pins) (pinned_in v w)
      (λ t.
      let q = any_out (same_point p) drawn.pins t in
      let u = held_pin v s.named h q.0 q.1 in
      subst (λ z. pinned_in v z ≡ true) (s.drawn.points u.0 w u.1.has has (u.1.at ∙ sym (same_out p q.0 q.2) ∙ sym at)) u.2)
      (λ t. any_in (same_point p) (point_in v w) drawn.pins (pin_held v s.named h w has t) (same_in p (point_in v w) (sym at)))

  pub pinned_met : (at : Met) → IsMet v p at → list_any (same_point p) drawn.pins ≡ is_pinned_met v at
  pinned_met (Vertex w) o = pinned_vertex w o.0 o.1
  pinned_met (InEdge d) o = none_pinned (no_vertex_in_edge d o.0 o.2)
  pinned_met Nothing o = none_pinned o.no_vertex

-- ---- steps where it is met
module _ (v : View) (h : Curves) (s : IsGraphSound v) (a : AreCurvesOf v h) (p : Point) (proper : IsProper p) where
  abbrev g : Graph
  g = drawn_graph v h

  -- the edge of a forward dart goes from its source to its target
  forward_edge : (d : DartId) → is_forward v d ≡ true → edge_in v d ≡ edge_of_ends (point_in v (source_in v d)) (point_in v (target_in v d))
  forward_edge d f = ap (λ (e : Dart). e.edge) (ahead_by (point_in v (source_in v d)) (point_in v (target_in v d)) f)

  -- the point is inside the edge of a forward dart where it is inside its marks
  pub mark_inside : (m : Mark) (d : DartId) → IsMarkOf v h m d → inside (edge_in v d) p ≡ true → inside_mark p m ≡ true
  mark_inside m d k i =
      let o = k.forward.0 in
      let e : edge_in v d ≡ edge_of_ends m.low m.high = forward_edge d k.forward.1 ∙ ap₂ edge_of_ends k.low k.high in
      let low = subst IsProper k.low (s.drawn.proper (source_in v d) (s.linked.source d o)) in
      let high = subst IsProper k.high (s.drawn.proper (target_in v d) (target_has v s d o)) in
      let j = inside_out (edge_of_ends m.low m.high) p low high proper (subst (λ z. inside z p ≡ true) e i) in
      inside_mark_in p m j.after j.before (flat_in m.low m.high p j.on)

  pub inside_edge : (m : Mark) (d : DartId) → IsMarkOf v h m d → inside_mark p m ≡ true → inside (edge_in v d) p ≡ true
  inside_edge m d k i =
      let o = k.forward.0 in
      let e : edge_in v d ≡ edge_of_ends m.low m.high = forward_edge d k.forward.1 ∙ ap₂ edge_of_ends k.low k.high in
      let low = subst IsProper k.low (s.drawn.proper (source_in v d) (s.linked.source d o)) in
      let high = subst IsProper k.high (s.drawn.proper (target_in v d) (target_has v s d o)) in
      let j = inside_mark_out p m i in
      subst (λ z. inside z p ≡ true) (sym e) (inside_in (edge_of_ends m.low m.high) p low high proper (record { after = j.0; before = j.1; on = flat_out m.low m.high p j.2 }))

  -- two marks that have the point inside have one edge
  one_edge : (m n : Mark) → Member m g.marks → Member n g.marks → inside_mark p m ≡ true → inside_mark p n ≡ true → (m.low ≡ n.low) × (m.high ≡ n.high)
  one_edge m n hm hn i j =
      elim ((graphs_are_plane v h s a).apart m n hm hn p proper (inside_on p m i) (inside_on p n j)) [
        | inl e ↦ e
        | inr e ↦
            let k = inside_mark_out p m i in
            elim e.0 [
              | inl q ↦ absurd (lt_never (subst (λ z. Lt m.low z) q k.0))
              | inr q ↦ absurd (lt_never (subst (λ z. Lt z m.high) q k.1))
            ]
      ]

  not_there : ((w : VertexId) → HasVertex v w → point_in v w ≢ p) → Member p g.points → ⊥
  not_there none m = let w = held_point v s.named h p m in none w.0 w.1.has w.1.at

  -- it is inside an edge, in a face, at a vertex
  at_edge : (d : DartId) → IsMet v p (InEdge d) → new_vertex_steps p g ≡ SplitEdgeAt (point_in v (source_in v d)) (point_in v (target_in v d)) p ∷ []
  at_edge d o =
      let m = mark_there v h s a d (o.0, o.1) in
      let i = mark_inside m.0 d m.2 o.2 in
      one_missing p g (not_there (no_vertex_in_edge v h s p d o.0 o.2)) ∙ ap (λ z. z ∷ []) (elim (step_is p g.marks) [
        | inl n ↦ let e = one_edge n.0 m.0 n.1 m.1 n.2 i in n.3 ∙ ap₂ (λ x y. SplitEdgeAt x y p) (e.0 ∙ sym m.2.low) (e.1 ∙ sym m.2.high)
        | inr n ↦ absurd (n.0 m.0 m.1 i)
      ])

  at_face : IsInFace v p → new_vertex_steps p g ≡ AddVertexAt p ∷ []
  at_face f =
      one_missing p g (not_there f.no_vertex) ∙ ap (λ z. z ∷ []) (elim (step_is p g.marks) [
        | inl n ↦ let d = held_mark v s.named h n.0 n.1 in clash (inside_edge n.0 d.0 d.1 n.2) (f.no_edge d.0 d.1.forward.0)
        | inr n ↦ n.1
      ])

  at_vertex : (w : VertexId) → IsMet v p (Vertex w) → new_vertex_steps p g ≡ []
  at_vertex w o = none_missing p g (subst (λ z. Member z g.points) o.1 (point_held v s.named h w o.0))

  pub at_met : (at : Met) → IsMet v p at → new_vertex_steps p g ≡ steps_at v p at
  at_met (Vertex w) o = at_vertex w o
  at_met (InEdge d) o = at_edge d o
  at_met Nothing o = at_face o

  -- where its step is sound, the graph is plane with it
  pub plane_with : (at : Met) → IsMet v p at → MayBecomeVertex p g → IsPlaneWith v h p at
  plane_with (Vertex w) o may = tt
  plane_with (InEdge d) o may = tt
  plane_with Nothing o may = (subst (λ ss. AreSound ss g) (at_face o) may).0.plane

-- ---- room there
pub one_vertex : (at : Met) → vertices_at at ≤ 1
one_vertex (Vertex w) = omega arith
one_vertex (InEdge d) = omega arith
one_vertex Nothing = omega arith

pub two_darts : (at : Met) → darts_at at ≤ 2
two_darts (Vertex w) = omega arith
two_darts (InEdge d) = omega arith
two_darts Nothing = omega arith

-- One vertex fewer, without darts and without a pin.
use Rattle.std.proofs.Common.{◌≡◌, false, sym, ap, ◌∙◌, subst}
use Rattle.std.proofs.lemmas.Bool.{false≢true}
use Rattle.exact_plane.specs.Point.{Point}
use Rattle.plane_graphs.specs.Ascending.{Member}
use Rattle.plane_graphs.specs.Graph.{Graph}
use Rattle.slab_laws.specs.declared.names.DartId.{DartId}
use Rattle.slab_laws.specs.declared.names.VertexId.{VertexId}
use Rattle.slab_laws.specs.Sound.{IsNamed, IsGraphSound}
use Rattle.slab_laws.specs.View.{View, HasVertex, HasDart, point_in, pinned_in, source_in}
use Rattle.arr_notes.specs.Reads.{IsSameVertex, IsSameDart, IsVertexLess}
use Rattle.arr_notes.specs.ViewChanges.{without_vertex}
use Rattle.arr_notes.proofs.PairReads.{names_stay}
use Rattle.arr_notes.proofs.VertexReads.{vertex_is_removed}
use Rattle.rotation_order.specs.VertexRings.{IsBare}
use Rattle.edit_steps.specs.Steps.{RemoveVertex as RemoveVertexAt, points_without, apply}
use Rattle.arr_notes.specs.declared.change.Change.TheVariants.{RemoveVertex}
use Rattle.arr_notes.specs.Curves.{Curves, AreCurvesOf}
use Rattle.arr_notes.specs.RecordGraph.{drawn_graph}
use Rattle.sound_changes.specs.StepLaws.{IsApplied}
use Rattle.sound_changes.proofs.StepGraphs.{IsWithin, applied, in_without, of_without}
use Rattle.sound_changes.proofs.StepHolds.{point_held, held_point, pin_held, held_pin}
use Rattle.sound_changes.proofs.StepSameDarts.{marks_kept, marks_known, curves_kept}

-- the points and the pins; some dart may leave the vertex
module _ (v : View) (w : VertexId) (s : IsGraphSound v) (has : HasVertex v w) (loose : pinned_in v w ≡ false) where
  abbrev g : View
  g = without_vertex v w

  less : IsVertexLess v g w
  less = vertex_is_removed v w s.named

  named : IsNamed g
  named = (names_stay v s.named).vertex_less w

  left : (u : VertexId) → HasVertex g u → IsSameVertex v g u
  left u o = less.others u (λ q. less.gone (subst (HasVertex g) q o))

  module _ (h : Curves) where
    pub points_from : (q : Point) → Member q (drawn_graph g h).points → Member q (points_without (point_in v w) (drawn_graph v h).points)
    points_from q m =
        let r = held_point g named h q m in
        let k = left r.0 r.1.has in
        in_without q (point_in v w) (drawn_graph v h).points (subst (λ z. Member z (drawn_graph v h).points) (sym k.point ∙ r.1.at) (point_held v s.named h r.0 (k.had r.1.has)))
        (λ e. less.gone (subst (HasVertex g) (s.drawn.points r.0 w (k.had r.1.has) has (sym k.point ∙ r.1.at ∙ e)) r.1.has))

    pub points_into : (q : Point) → Member q (points_without (point_in v w) (drawn_graph v h).points) → Member q (drawn_graph g h).points
    points_into q m =
        let n = of_without q (point_in v w) (drawn_graph v h).points m in
        let r = held_point v s.named h q n.0 in
        let k = less.others r.0 (λ e. n.1 (sym r.1.at ∙ ap (point_in v) e)) in
        subst (λ z. Member z (drawn_graph g h).points) (k.point ∙ r.1.at) (point_held g named h r.0 (k.has r.1.has))

    pub pins_from : (q : Point) → Member q (drawn_graph g h).pins → Member q (drawn_graph v h).pins
    pins_from q m =
        let r = held_pin g named h q m in
        let k = left r.0 r.1.has in
        subst (λ z. Member z (drawn_graph v h).pins) (sym k.point ∙ r.1.at) (pin_held v s.named h r.0 (k.had r.1.has) (sym k.pinned ∙ r.2))

    pub pins_into : (q : Point) → Member q (drawn_graph v h).pins → Member q (drawn_graph g h).pins
    pins_into q m =
        let r = held_pin v s.named h q m in
        let k = less.others r.0 (λ e. false≢true (sym loose ∙ ap (pinned_in v) (sym e) ∙ r.2)) in
        subst (λ z. Member z (drawn_graph g h).pins) (k.point ∙ r.1.at) (pin_held g named h r.0 (k.has r.1.has) (k.pinned ∙ r.2))

module _ (v : View) (w : VertexId) (s : IsGraphSound v) (has : HasVertex v w) (loose : pinned_in v w ≡ false) (bare : IsBare v w) (h : Curves) (a : AreCurvesOf v h) where
  abbrev fewer : View
  fewer = without_vertex v w

  abbrev after : Graph
  after = apply (RemoveVertexAt (point_in v w)) (drawn_graph v h)

  darts : (d : DartId) → IsSameDart v fewer d
  darts = (less v w s has loose).darts

  at : (d : DartId) → HasDart v d → point_in fewer (source_in v d) ≡ point_in v (source_in v d)
  at d o = ((less v w s has loose).others (source_in v d) (λ q. bare d (o, q))).point

  less_from : IsWithin (drawn_graph fewer h) after
  unfolding apply
  less_from = record { points = points_from v w s has loose h; marks = marks_known v fewer s (named v w s has loose) darts at h; pins = pins_from v w s has loose h }

  less_into : IsWithin after (drawn_graph fewer h)
  unfolding apply
  less_into = record { points = points_into v w s has loose h; marks = marks_kept v fewer s (named v w s has loose) darts at h; pins = pins_into v w s has loose h }

  pub vertex_removed : IsApplied v h (RemoveVertex w)
  vertex_removed = applied v h (RemoveVertex w) (curves_kept v fewer s (named v w s has loose) darts at h a) less_from less_into

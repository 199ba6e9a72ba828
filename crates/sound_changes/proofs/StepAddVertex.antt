-- One more vertex.
use Rattle.std.proofs.Common.{◌≡◌, sym, ap, ◌∙◌, subst, inl, inr}
use Rattle.std.proofs.lemmas.Bool.{false≢true}
use Rattle.exact_plane.specs.Point.{Point}
use Rattle.plane_graphs.specs.Ascending.{Member}
use Rattle.plane_graphs.specs.Graph.{Graph}
use Rattle.slab_laws.specs.declared.names.DartId.{DartId}
use Rattle.slab_laws.specs.declared.names.FaceId.{FaceId}
use Rattle.slab_laws.specs.declared.names.VertexId.{VertexId}
use Rattle.slab_laws.specs.Sound.{IsNamed, IsGraphSound}
use Rattle.slab_laws.specs.View.{View, HasVertex, HasDart, point_in, pinned_in, source_in}
use Rattle.arr_notes.specs.Reads.{IsSameVertex, IsVertexMore}
use Rattle.arr_notes.specs.ViewChanges.{with_vertex}
use Rattle.arr_notes.proofs.PairReads.{names_stay}
use Rattle.arr_notes.proofs.VertexReads.{vertex_is_added}
use Rattle.sound_changes.specs.ChangeFits.{IsNewVertex}
use Rattle.edit_steps.specs.Steps.{AddVertex as AddVertexAt, apply}
use Rattle.arr_notes.specs.declared.change.Change.TheVariants.{AddVertex}
use Rattle.arr_notes.specs.Curves.{Curves, AreCurvesOf}
use Rattle.arr_notes.proofs.Names.{cases_vertex}
use Rattle.arr_notes.specs.RecordGraph.{drawn_graph}
use Rattle.sound_changes.specs.StepLaws.{IsApplied}
use Rattle.sound_changes.proofs.StepGraphs.{IsWithin, applied, in_points, of_points}
use Rattle.sound_changes.proofs.StepHolds.{point_held, held_point, mark_held, pin_held, held_pin, drawn_within}
use Rattle.sound_changes.proofs.StepSameDarts.{marks_kept, marks_known, curves_kept, darts_paired}
use Rattle.sound_changes.proofs.StepSkeletons.{IsPaired}

module _ (v : View) (w : VertexId) (p : Point) (s : IsGraphSound v) (n : IsNewVertex v w p) where
  abbrev g : View
  g = with_vertex v w p

  more : IsVertexMore v g w p
  more = vertex_is_added v w p

  named : IsNamed g
  named = (names_stay v s.named).vertex w p

  old : (u : VertexId) → HasVertex v u → IsSameVertex v g u
  old u o = more.others u (λ q. n.name (subst (HasVertex v) q o))

  at : (d : DartId) → HasDart v d → point_in g (source_in v d) ≡ point_in v (source_in v d)
  at d o = (old (source_in v d) (s.linked.source d o)).point

  pub more_paired : IsPaired g
  more_paired = darts_paired v g s named more.darts at

  module _ (h : Curves) (a : AreCurvesOf v h) where
    abbrev after : Graph
    after = apply (AddVertexAt p) (drawn_graph v h)

    pub more_from : IsWithin (drawn_graph g h) after
    unfolding apply
    more_from = drawn_within g named h after
        (λ u o. in_points (point_in g u) p (drawn_graph v h).points (elim (cases_vertex u w) [
          | inl e ↦ inl (ap (point_in g) e ∙ more.point)
          | inr ne ↦ let k = more.others u ne in inr (subst (λ z. Member z (drawn_graph v h).points) (sym k.point) (point_held v s.named h u (k.had o)))
        ]))
        (λ m d k. marks_known v g s named more.darts at h m (mark_held g named h m d k))
        (λ u o e. elim (cases_vertex u w) [
          | inl q ↦ absurd (false≢true (sym more.pinned ∙ ap (pinned_in g) (sym q) ∙ e))
          | inr ne ↦ let k = more.others u ne in subst (λ z. Member z (drawn_graph v h).pins) (sym k.point) (pin_held v s.named h u (k.had o) (sym k.pinned ∙ e))
        ])

    pub more_into : IsWithin after (drawn_graph g h)
    unfolding apply
    more_into = record {
      points = λ q m. elim (of_points q p (drawn_graph v h).points m) [
        | inl e ↦ subst (λ z. Member z (drawn_graph g h).points) (more.point ∙ sym e) (point_held g named h w more.has)
        | inr k ↦
            let r = held_point v s.named h q k in
            subst (λ z. Member z (drawn_graph g h).points) ((old r.0 r.1.has).point ∙ r.1.at) (point_held g named h r.0 ((old r.0 r.1.has).has r.1.has))
      ];
      marks = marks_kept v g s named more.darts at h;
      pins = λ q m.
          let r = held_pin v s.named h q m in
          let k = old r.0 r.1.has in
          subst (λ z. Member z (drawn_graph g h).pins) (k.point ∙ r.1.at) (pin_held g named h r.0 (k.has r.1.has) (k.pinned ∙ r.2));
    }

    pub vertex_added : (face : FaceId) → IsApplied v h (AddVertex w p face)
    vertex_added face = applied v h (AddVertex w p face) (curves_kept v g s named more.darts at h a) more_from more_into

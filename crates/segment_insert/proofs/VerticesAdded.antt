-- A vertex comes inside a face: where other points lie, as it was told before.
use Rattle.std.proofs.Common.{◌≡◌, ◌≢◌, sym, ap, ap₂, ◌∙◌, subst, inl, inr}
use Rattle.exact_plane.specs.Point.{Point}
use Rattle.plane_graphs.specs.Line.{precedes}
use Rattle.slab_laws.specs.declared.names.DartId.{DartId}
use Rattle.slab_laws.specs.declared.names.VertexId.{VertexId}
use Rattle.slab_laws.specs.Skeleton.{inside}
use Rattle.slab_laws.specs.Sound.{dart_in, IsGraphSound}
use Rattle.slab_laws.specs.View.{View, HasVertex, HasDart, point_in, source_in, twin_in, target_in, next_in}
use Rattle.sound_views.proofs.NamedDarts.{by_points}
use Rattle.arr_notes.specs.Reads.{IsSameVertex, IsVertexMore}
use Rattle.arr_notes.specs.ViewChanges.{with_vertex}
use Rattle.arr_notes.proofs.VertexReads.{vertex_is_added}
use Rattle.arr_notes.proofs.Names.{cases_vertex}
use Rattle.dcel_records.specs.Spots.{IsInFace}
use Rattle.segment_insert.specs.Coming.{LeadsTo}
use Rattle.segment_insert.specs.Coming.LeadsTo.{here, onward}

module _ (v : View) (w : VertexId) (q : Point) (s : IsGraphSound v) (new : ¬ HasVertex v w) where
  abbrev g : View
  g = with_vertex v w q

  more : IsVertexMore v g w q
  more = vertex_is_added v w q

  pub old_vertex : (u : VertexId) → HasVertex v u → IsSameVertex v g u
  old_vertex u o = more.others u (λ e. new (subst (HasVertex v) e o))

  starts : (d : DartId) → HasDart v d → point_in g (source_in g d) ≡ point_in v (source_in v d)
  starts d o = ap (point_in g) (more.darts d).source ∙ (old_vertex (source_in v d) (s.linked.source d o)).point

  ends : (d : DartId) → HasDart v d → point_in g (target_in g d) ≡ point_in v (target_in v d)
  ends d o = ap (λ e. point_in g (source_in g e)) (more.darts d).twin ∙ starts (twin_in v d) (s.twinned.has d o)

  way : (d : DartId) → HasDart v d → dart_in g d ≡ dart_in v d
  way d o = ap₂ by_points (starts d o) (ends d o)

  pub leads_too : (p : Point) (e d : DartId) → LeadsTo v p e d → LeadsTo g p e d
  leads_too p e d (here j) = let k = way e j.0 in here ((more.darts e).has j.0, ap (λ x. x.forward) k ∙ j.1, ap (λ x. inside x.edge p) k ∙ j.2)
  leads_too p e d (onward a f l k) =
      onward a ((more.darts a).has f.0, ap (λ x. x.forward) (way a f.0) ∙ f.1) (ap (λ z. precedes z p) (ends a f.0) ∙ l)
      (subst (LeadsTo g p e) (sym (more.darts a).next) (leads_too p e (next_in v a) k))

  pub face_too : (p : Point) → q ≢ p → IsInFace v p → IsInFace g p
  face_too p ne o = record {
    no_vertex = λ u has e. elim (cases_vertex u w) [
      | inl k ↦ ne (sym more.point ∙ ap (point_in g) (sym k) ∙ e)
      | inr nw ↦ let k = more.others u nw in o.no_vertex u (k.had has) (sym k.point ∙ e)
    ];
    no_edge = λ d has. let o' = (more.darts d).had has in ap (λ x. inside x.edge p) (way d o') ∙ o.no_edge d o';
  }

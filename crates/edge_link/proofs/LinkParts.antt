-- What the link of darts leaves of the records, where cycles and faces are written before it and after it.
use Rattle.std.proofs.Common.{◌≡◌, ◌+◌, Option, Some, sym, ap, subst, ◌∙◌}
use Rattle.exact_plane.specs.Line.{Line}
use Rattle.slab_laws.specs.declared.names.CycleId.{CycleId}
use Rattle.slab_laws.specs.declared.names.DartId.{DartId}
use Rattle.slab_laws.specs.declared.names.VertexId.{VertexId}
use Rattle.slab_laws.specs.Sound.{IsGraphSound}
use Rattle.slab_laws.specs.Tables.{row_at}
use Rattle.slab_laws.specs.View.{View, Faces, HasDart, cycle_or, cycle_in}
use Rattle.arr_notes.specs.FaceWriters.{on_cycle}
use Rattle.arr_notes.specs.Step.{add_edge}
use Rattle.arr_notes.proofs.Reading.{dart_number}
use Rattle.arr_notes.proofs.VertexReads.{put_hit, put_miss}
use Rattle.dcel_records.specs.RecordsView.{RecordsView, graph_part, IsSpare}
use Rattle.face_steps.specs.EdgePairs.{IsEdgeApart}
use Rattle.face_steps.proofs.StepHoles.{not_x, not_y}
use Rattle.edge_link.specs.Links.{AreNewDarts}

-- before and after are the records where the darts are linked; on the way to the one and from the other the graph stays
module _ (old before after new : RecordsView) (d m : DartId) (u w : VertexId) (at_u at_w : Option DartId) (l : Line) (first : graph_part before ≡ graph_part old) (last : graph_part new ≡ graph_part after) where
  pub still_new : AreNewDarts before.graph d m → AreNewDarts old.graph d m
  still_new n = subst (λ g. AreNewDarts g d m) (ap (λ p. p.graph) first) n

  pub same_link : after.graph ≡ add_edge before.graph d m u w at_u at_w l → new.graph ≡ add_edge old.graph d m u w at_u at_w l
  same_link e = ap (λ p. p.graph) last ∙ e ∙ ap (λ p. add_edge p.graph d m u w at_u at_w l) first

  pub same_sound : IsGraphSound after.graph → IsGraphSound new.graph
  same_sound s = subst IsGraphSound (sym (ap (λ p. p.graph) last)) s

  pub same_spare : IsSpare after before 0 2 → IsSpare new old 0 2
  same_spare s = record {
    of_vertices = sym (ap (λ p. p.spare_vertices) first) ∙ s.of_vertices ∙ sym (ap (λ p. p.spare_vertices + 0) last);
    of_darts = sym (ap (λ p. p.spare_darts) first) ∙ s.of_darts ∙ sym (ap (λ p. p.spare_darts + 2) last);
    capacity_of_vertices = sym (ap (λ p. p.capacity_of_vertices) first) ∙ s.capacity_of_vertices ∙ sym (ap (λ p. p.capacity_of_vertices) last);
    capacity_of_darts = sym (ap (λ p. p.capacity_of_darts) first) ∙ s.capacity_of_darts ∙ sym (ap (λ p. p.capacity_of_darts) last);
  }

-- ---- the cycles of darts, where the new ones are put on a cycle
module _ (v g : View) (d m : DartId) (u w : VertexId) (l : Line) (apart : IsEdgeApart v g d m u w l) (f : Faces) (c : CycleId) where
  abbrev s : Faces
  s = on_cycle m c (on_cycle d c f)

  pub first_row : row_at s.cycle_of d.0 ≡ Some c
  first_row = put_miss m.0 c _ d.0 (dart_number d m apart.more.two_names) ∙ put_hit d.0 c f.cycle_of

  pub second_row : row_at s.cycle_of m.0 ≡ Some c
  second_row = put_hit m.0 c _

  pub old_row : (k : DartId) → HasDart v k → row_at s.cycle_of k.0 ≡ row_at f.cycle_of k.0
  old_row k o = put_miss m.0 c _ k.0 (dart_number k m (not_y v g d m u w l apart k o)) ∙ put_miss d.0 c f.cycle_of k.0 (dart_number k d (not_x v g d m u w l apart k o))

  pub old_cycle : (k : DartId) → HasDart v k → cycle_in s k ≡ cycle_in f k
  old_cycle k o = ap cycle_or (old_row k o)

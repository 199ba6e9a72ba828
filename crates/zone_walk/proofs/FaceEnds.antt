-- Up to a meeting point inside a face the segment goes through this face.
use Rattle.std.proofs.Common.{refl, sym, subst}
use Rattle.exact_plane.specs.Line.{Line, IsOn}
use Rattle.exact_plane.specs.Point.{Point}
use Rattle.exact_plane.specs.Segment.{Segment, line_of_segment}
use Rattle.plane_graphs.proofs.Lists.{clash}
use Rattle.plane_graphs.proofs.Marks.{le_lt, le_lt_lt, lt_le_lt}
use Rattle.plane_graphs.proofs.Order.{Lt, lt_in, lt_out, Tri, tri}
use Rattle.plane_graphs.proofs.Order.Tri.{less, same, more}
use Rattle.slab_laws.specs.declared.names.DartId.{DartId}
use Rattle.slab_laws.specs.Sound.{IsGraphSound}
use Rattle.slab_laws.specs.View.{View, point_in, source_in, target_in}
use Rattle.dcel_records.specs.declared.spot.Met.TheVariants.{Nothing}
use Rattle.dcel_records.specs.Spots.{IsInFace}
use Rattle.locate_naive.proofs.Within.{in_dart}
use Rattle.sound_views.proofs.ForwardDarts.{target_has}
use Rattle.zone_walk.specs.Walk.{IsAhead}
use Rattle.zone_walk.specs.Zone.{IsMetBetween, IsNextMeeting}
use Rattle.zone_walk.proofs.Aheads.{at_most}
use Rattle.zone_walk.proofs.Courses.{IsCourse, LiesOn, lies_in}
use Rattle.zone_walk.proofs.MeetingPoints.{vertex}
use Rattle.zone_walk.proofs.Stretches.{face_between, listed, meets_lies, meets_proper, told}

module _ (v : View) (s : IsGraphSound v) (g : Segment) (c : IsCourse g) (p q : Point) (here : LiesOn g p) (next : IsNextMeeting v g p q) (there : IsInFace v q) where
  lies : LiesOn g q
  lies = meets_lies v s g c q (told v s g c q next.meets)

  before : Lt p q
  before = lt_out p q next.later

  -- an edge that goes on along the segment would end between, or at q, or have q inside
  none_ahead : (d : DartId) → IsAhead v (line_of_segment g) p d → ⊥
  none_ahead d h = by (tri t q)
    where
      t : Point
      t = point_in v (target_in v d)

      on : IsOn (line_of_segment g) t
      on = subst (λ (l : Line). IsOn l t) h.line (s.drawn.ends d h.forward.0)

      by : Tri t q → ⊥
      by (less l) =
          let at = listed v s g c t (vertex (target_in v d) (target_has v s d h.forward.0) refl (lies_in g t (record { on = on; from = le_lt (le_lt_lt here.from (lt_out p t h.ends)); upto = le_lt (lt_le_lt l lies.upto) }))) in
          clash (lt_in l) (next.none_between t at h.ends)
      by (same e) = there.no_vertex (target_in v d) (target_has v s d h.forward.0) e
      by (more l) =
          clash
          (in_dart v s d q h.forward (meets_proper v s g c q (told v s g c q next.meets))
          (record {
            on = subst (λ (n : Line). IsOn n q) (sym h.line) lies.on;
            after = le_lt_lt (at_most (point_in v (source_in v d)) p h.begins) before;
            before = l;
          }))
          (there.no_edge d h.forward.0)

  pub through_face : IsMetBetween v g p q Nothing
  through_face = face_between v s g c p here none_ahead q next

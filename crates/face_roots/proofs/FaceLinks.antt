-- What starts at a vertex is in the face of what is below; a cycle is inner where it starts something at its least vertex.
use Rattle.std.proofs.Common.{◌≡◌, false, sym, ap, ◌∙◌, subst}
use Rattle.std.specs.Ordering.{ordering_then, is_lt}
use Rattle.exact_plane.specs.Point.{Point}
use Rattle.exact_plane.specs.PointOrder.{point_cmp}
use Rattle.plane_graphs.proofs.Order.{Lt, tri, lt_trans}
use Rattle.plane_graphs.proofs.Order.Tri.{less, same, more}
use Rattle.std.proofs.lemmas.Bool.{false≢true}
use Rattle.slab_laws.specs.Skeleton.{Skeleton, IsPlaneSkeleton}
use Rattle.slab_laws.specs.Darts.{Dart, source, target}
use Rattle.slab_laws.specs.Rows.{least_dart_of}
use Rattle.sound_views.proofs.CycleDartOrder.{lead_not_after}
use Rattle.sound_changes.specs.NextLaws.{IsDartOf}
use Rattle.face_changes.specs.Kinds.{is_outer}
use Rattle.face_roots.specs.CycleLinks.{IsStart, IsFirstOut, StartsAtLeast, LinksTellFaces}
use Rattle.face_roots.proofs.BelowVertices.{corner_face}
use Rattle.face_roots.proofs.StartFaces.{start_face, bare_face}
use Rattle.face_roots.proofs.InnerCycles.{starts_there, inner_if}

-- the least dart of a cycle starts where one of its darts does, or before
pub lead_before : (g : Skeleton) (d : Dart) (v : Point) → Lt (source d) v → Lt (source (least_dart_of g d)) v
lead_before g d v h = elim (tri (source (least_dart_of g d)) (source d)) [
  | less k ↦ lt_trans k h
  | same k ↦ subst (λ u. Lt u v) (sym k) h
  | more k ↦ absurd (false≢true (sym (lead_not_after g d) ∙ ap (λ o. is_lt (ordering_then o (point_cmp (target d) (target (least_dart_of g d))))) k.is))
]

by_start : (g : Skeleton) (plane : IsPlaneSkeleton g) (d : Dart) (D : IsDartOf g d) → is_outer g d ≡ false → StartsAtLeast g d
by_start g plane d D h =
    let s = starts_there g plane d D h in
    record { start = subst (IsStart g) s.least s.start; dart = s.dart; first = subst (λ u. IsFirstOut g u s.dart) s.least s.first; same = s.same }

pub links_tell_faces : LinksTellFaces
links_tell_faces = record {
  corner = corner_face;
  start = λ g v x o plane s f b. start_face g plane v x o s f b;
  bare = λ g v o plane s b. bare_face g plane v o s b;
  inner = λ g d plane D. (λ h. by_start g plane d D h, λ s. inner_if g plane d D s.dart s.start s.first s.same);
}

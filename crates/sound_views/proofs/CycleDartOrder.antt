-- The darts of a plane graph in their order: the order tells them apart, and the least of a cycle is a dart.
use Rattle.std.proofs.Common.{◌≡◌, false, map, length, arith}
use Rattle.plane_graphs.specs.Ascending.{Member as In}
use Rattle.plane_graphs.proofs.Ascending.{to_member, from_member}
use Rattle.slab_laws.specs.Skeleton.{Skeleton, IsPlaneSkeleton}
use Rattle.slab_laws.specs.Darts.{Dart, darts}
use Rattle.slab_laws.specs.Rotation.{dart_cmp, dart_below, same_dart, next}
use Rattle.slab_laws.specs.Rows.{dart_list, least_dart_of}
use Rattle.slab_laws.specs.Cycles.{dart_labels}
use Rattle.slab_faces.proofs.Member.{member_in}
use Rattle.slab_faces.proofs.NextLemmas.{darts_exact}
use Rattle.slab_faces.proofs.CyclesLemmas.{is_set, one_to_one}
use Rattle.slab_faces.proofs.DartOrder.{dart_cmp_total, dart_below_order, tied_darts, along, link}
use Rattle.slab_faces.proofs.ClassesLemmas.{not_above}
use Rattle.sound_views.specs.FaceOrderLaws.{AllAreListed}
use Rattle.sound_views.proofs.FacesAscend.{different, none_dropped}

-- no dart comes before the least of its cycle
pub lead_not_after : (g : Skeleton) (d : Dart) → dart_below d (least_dart_of g d) ≡ false
unfolding dart_labels
lead_not_after g d = not_above same_dart dart_below darts_exact dart_below_order (map (link g) (darts g)) d

module _ (g : Skeleton) (plane : IsPlaneSkeleton g) where
  -- none of the darts is dropped
  all_listed : length (dart_list g) ≡ length (darts g)
  unfolding dart_list
  all_listed = none_dropped dart_cmp dart_cmp_total (darts g) (tied_darts g plane) (different same_dart darts_exact (darts g) (λ d m. let k = (is_set g plane).once d (from_member (darts g) d m) in omega arith))

  -- the least dart of a cycle is a dart
  pub lead_in : (d : Dart) → In d (darts g) → In (least_dart_of g d) (darts g)
  lead_in d m =
      (along g (λ x y. (In x (darts g) → In y (darts g)) × (In y (darts g) → In x (darts g))) (record { itself = λ x. (λ k. k, λ k. k); back = λ x y k. (k.1, k.0); on = λ x y z k l. (λ n. l.0 (k.0 n), λ n. k.1 (l.1 n)) })
      (λ x n. (λ _. to_member (darts g) (next (darts g) x) ((one_to_one g plane).inside x (member_in (darts g) x n)), λ _. to_member (darts g) x (member_in (darts g) x n))) d).0 m

pub all_are_listed : AllAreListed
all_are_listed g plane = all_listed g plane

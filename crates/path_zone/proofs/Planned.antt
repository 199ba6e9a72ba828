-- The plan has the meetings that were gathered.
use Rattle.std.proofs.Common.{◌⊎◌, List, [], sym, subst, ⊎_elim}
use Rattle.exact_plane.specs.Point.{Point}
use Rattle.exact_plane.specs.PointOrder.{point_cmp}
use Rattle.exact_plane.specs.Segment.{Segment}
use Rattle.plane_graphs.specs.Ascending.{Member, IsAscending}
use Rattle.plane_graphs.proofs.Ascending.{to_member}
use Rattle.plane_graphs.proofs.Lists.{of_map}
use Rattle.slab_laws.specs.View.{View, Faces}
use Rattle.zone_walk.specs.declared.plan.Meeting.{Meeting}
use Rattle.zone_walk.specs.Zone.{meeting_points, points_of_meetings}
use Rattle.path_zone.specs.Gathered.{HasMore, HasPoint, IsPathMeeting}
use Rattle.path_zone.specs.PathZone.{IsPathZone, IsWhereSideMeets, IsWhereSidesMeet}

module _ (v : View) (f : Faces) (ss : List Segment) (ms : List Meeting) (more : HasMore v f ss [] ms) (each : (s : Segment) (x : Point) → Member s ss → Member x (meeting_points v s) → HasPoint ms x) (own : (x : Point) → IsWhereSidesMeet ss x → HasPoint ms x) where
  of_path : (m : Meeting) → Member m ms → IsPathMeeting v f ss m
  of_path m i = ⊎_elim (λ n. absurd n) (λ w. w) (more.came m i)

  module _ (ns : List Meeting) (ascend : IsAscending point_cmp (points_of_meetings ns)) (from : (m : Meeting) → Member m ns → Member m ms) (points : (x : Point) → HasPoint ms x → HasPoint ns x) where
    placed : (x : Point) → HasPoint ns x → IsWhereSideMeets v ss x ⊎ IsWhereSidesMeet ss x
    placed x i =
        let r = of_map (λ (m : Meeting). m.point) x ns i in
        subst (λ (p : Point). IsWhereSideMeets v ss p ⊎ IsWhereSidesMeet ss p) (sym r.2) (of_path r.0 (from r.0 r.1)).place

    pub planned : IsPathZone v f ss (record { vertices = ns })
    planned = record {
      ascend = ascend;
      spots = λ m c. (of_path m (from m (to_member ns m c))).spot;
      only = placed;
      each = λ s x i n. points x (each s x i n);
      own = λ x w. points x (own x w);
    }

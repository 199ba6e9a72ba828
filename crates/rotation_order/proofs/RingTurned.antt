-- What follows a dart by name is what follows it in the graph.
use Rattle.std.proofs.Common.{◌≡◌, ℕ, sym, ap, ◌∙◌, subst}
use Rattle.std.specs.List.{Contains}
use Rattle.exact_plane.specs.Point.{Point}
use Rattle.rotation_order.specs.RingOrder.{IsStrictOn, sooner_by}
use Rattle.rotation_order.specs.Ring.{Out, IsApart, IsAfter, IsNextOrFirst, is_next, is_first}
use Rattle.rotation_order.proofs.RingBetween.{after_of}
use Rattle.slab_laws.specs.declared.names.VertexId.{VertexId}
use Rattle.slab_laws.specs.Darts.{Dart, darts, IsTurn, on, round}
use Rattle.slab_laws.specs.Rotation.{twin, earlier, ring, after, next, OutOf}
use Rattle.slab_laws.specs.Skeleton.{Skeleton, IsPlaneSkeleton}
use Rattle.slab_laws.specs.Sound.{skeleton_of, dart_in, IsTwinned}
use Rattle.slab_laws.specs.View.{View, dart_id, point_in}
use Rattle.slab_faces.proofs.RotationLemmas.{earlier_out, earlier_in, round_at}
use Rattle.slab_faces.proofs.NextLemmas.{start_in, ring_in, after_follows, follower_out, turn_of}
use Rattle.rotation_order.specs.VertexRings.{turns_in}
use Rattle.rotation_order.proofs.RingNames.{out_of}
use Rattle.sound_views.proofs.RoundTurned.{next_of_twin}

pub next_at : (g : Skeleton) (p : Point) (d : Dart) → OutOf g p d → next (darts g) (twin d) ≡ after d (ring (darts g) p)
next_at g p d o = next_of_twin (darts g) d ∙ ap (λ q. after d (ring (darts g) q)) o.at

-- a point that a dart goes out of is a vertex
pub vertex_there : (g : Skeleton) (p : Point) (d : Dart) → IsPlaneSkeleton g → OutOf g p d → Contains g.vertices p
vertex_there g p d plane o = subst (Contains g.vertices) o.at (start_in g d.edge d.forward plane o.in')

pub strict_at : (g : Skeleton) (p : Point) (d : Dart) → IsPlaneSkeleton g → OutOf g p d → IsStrictOn earlier (OutOf g p)
strict_at g p d plane o = let r = round_at g p plane (vertex_there g p d plane o) in record { itself = r.itself; asym = r.asym; on = r.on; total = r.total }

-- what follows a dart in the graph's ring goes out of the same point
pub follower_goes_out : (g : Skeleton) (p : Point) (d : Dart) → IsPlaneSkeleton g → OutOf g p d → OutOf g p (after d (ring (darts g) p))
follower_goes_out g p d plane o =
    let V = vertex_there g p d plane o in
    follower_out g p plane V d (after d (ring (darts g) p)) (after_follows g p plane V d (ring_in g p plane V d.edge d.forward o))

follower_turns : (g : Skeleton) (p : Point) (d : Dart) → IsPlaneSkeleton g → OutOf g p d → (e : Dart) → e ≡ after d (ring (darts g) p) → IsTurn g p d.edge e.edge d.forward e.forward
follower_turns g p d plane o e q =
    let V = vertex_there g p d plane o in
    let t = turn_of g p plane V d (after d (ring (darts g) p)) (after_follows g p plane V d (ring_in g p plane V d.edge d.forward o)) in
    subst (λ k. IsTurn g p d.edge k.edge d.forward k.forward) (sym q) t

module _ (v : View) (twinned : IsTwinned v) (plane : IsPlaneSkeleton (skeleton_of v)) (w : VertexId) where
  by_names : (d e : ℕ) → IsTurn (skeleton_of v) (point_in v w) (dart_in v (dart_id d)).edge (dart_in v (dart_id e)).edge (dart_in v (dart_id d)).forward (dart_in v (dart_id e)).forward → IsNextOrFirst earlier (turns_in v) w.0 d e
  by_names d e (on a none) = is_next (earlier_in (dart_in v (dart_id d)) (dart_in v (dart_id e)) a) (λ c oc p q.
      none (dart_in v (dart_id c)).edge (dart_in v (dart_id c)).forward (out_of v twinned plane w c oc) (earlier_out (dart_in v (dart_id d)) (dart_in v (dart_id c)) p) (earlier_out (dart_in v (dart_id c)) (dart_in v (dart_id e)) q))
  by_names d e (round last first) = is_first
      (λ c oc p. last (dart_in v (dart_id c)).edge (dart_in v (dart_id c)).forward (out_of v twinned plane w c oc) (earlier_out (dart_in v (dart_id d)) (dart_in v (dart_id c)) p))
      (λ c oc q. first (dart_in v (dart_id c)).edge (dart_in v (dart_id c)).forward (out_of v twinned plane w c oc) (earlier_out (dart_in v (dart_id c)) (dart_in v (dart_id e)) q))

  -- a name of the graph's follower is the follower by name
  pub follows_by_name : IsApart (OutOf (skeleton_of v) (point_in v w)) (turns_in v) w.0 → (d e : ℕ) → Out (turns_in v) w.0 d → Out (turns_in v) w.0 e → dart_in v (dart_id e) ≡ after (dart_in v (dart_id d)) (ring (darts (skeleton_of v)) (point_in v w)) → IsAfter (sooner_by earlier) (turns_in v) w.0 d e
  follows_by_name apart d e od oe q =
      let o = out_of v twinned plane w d od in
      let s = strict_at (skeleton_of v) (point_in v w) (dart_in v (dart_id d)) plane o in
      after_of earlier (OutOf (skeleton_of v) (point_in v w)) s (turns_in v) w.0 apart d e oe
      (by_names d e (follower_turns (skeleton_of v) (point_in v w) (dart_in v (dart_id d)) plane o (dart_in v (dart_id e)) q))

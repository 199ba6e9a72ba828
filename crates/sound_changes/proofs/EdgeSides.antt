-- The darts out of a vertex, with one more edge and without it.
use Rattle.std.proofs.Common.{◌≡◌, ◌≢◌, ℕ, sym, ap, ◌∙◌}
use Rattle.exact_plane.specs.Line.{Line}
use Rattle.rotation_order.specs.RingOrder.{IsStrictOn}
use Rattle.rotation_order.specs.Ring.{Out}
use Rattle.rotation_order.proofs.RingEdits.{kept}
use Rattle.slab_laws.specs.declared.names.DartId.{DartId}
use Rattle.slab_laws.specs.declared.names.VertexId.{VertexId}
use Rattle.slab_laws.specs.Rotation.{earlier, OutOf}
use Rattle.slab_laws.specs.Skeleton.{IsPlaneSkeleton}
use Rattle.slab_laws.specs.Sound.{skeleton_of, dart_in, IsTwinned}
use Rattle.slab_laws.specs.View.{View, IsOutOf, vertex_id, dart_id, point_in, source_in}
use Rattle.arr_notes.specs.AfterAround.{after_in}
use Rattle.rotation_order.specs.VertexRings.{turns_in, RingOf}
use Rattle.rotation_order.proofs.RingNames.{out_of}
use Rattle.rotation_order.proofs.RingTurned.{strict_at}
use Rattle.sound_changes.specs.EdgePlaces.{IsEdgeMore}
use Rattle.sound_changes.proofs.RingsKept.{up, source_old, way_old}

-- the order of the ways out of a vertex that some dart leaves
pub strict_of : (v : View) (t : IsTwinned v) (plane : IsPlaneSkeleton (skeleton_of v)) (x : VertexId) (n : ℕ) → Out (turns_in v) x.0 n → IsStrictOn earlier (OutOf (skeleton_of v) (point_in v x))
strict_of v t plane x n o = strict_at (skeleton_of v) (point_in v x) (dart_in v (dart_id n)) plane (out_of v t plane x n o)

pub named_out : (v : View) (x : VertexId) (n : ℕ) → Out (turns_in v) x.0 n → IsOutOf v x (dart_id n)
named_out v x n o = (o.0, ap vertex_id o.1)

pub out_by_name : (v : View) (x : VertexId) (d : DartId) → IsOutOf v x d → Out (turns_in v) x.0 d.0
out_by_name v x d o = (o.0, ap (λ z. z.0) o.1)

module _ (g h : View) (d m : DartId) (u w : VertexId) (l : Line) (p : IsEdgeMore g h d m u w l) where
  pub first_out : Out (turns_in h) u.0 d.0
  first_out = (p.first, ap (λ z. z.0) p.source_first)

  pub into : (x : VertexId) (n : ℕ) → Out (turns_in g) x.0 n → Out (turns_in h) x.0 n
  into x n o = (up g h d m u w l p (dart_id n) o.0, ap (λ z. z.0) (source_old g h d m u w l p (dart_id n) o.0) ∙ o.1)

  pub from : (x : VertexId) (n : ℕ) → Out (turns_in h) x.0 n → dart_id n ≢ d → dart_id n ≢ m → Out (turns_in g) x.0 n
  from x n o a b = let q = p.others (dart_id n) a b in (q.had o.0, sym (ap (λ z. z.0) q.source) ∙ o.1)

  -- another dart out of u than d is old
  pub from_start : (n : ℕ) → Out (turns_in h) u.0 n → n ≢ d.0 → Out (turns_in g) u.0 n
  from_start n o ne = from u n o (λ q. ne (ap (λ z. z.0) q)) (λ q. p.two_ends (sym (ap vertex_id o.1) ∙ ap (λ z. source_in h z) q ∙ p.source_second))

  -- a dart out of a vertex that isn't an end is old
  pub from_else : (x : VertexId) → x ≢ u → x ≢ w → (n : ℕ) → Out (turns_in h) x.0 n → Out (turns_in g) x.0 n
  from_else x nu nw n o =
      from x n o
      (λ q. nu (sym (ap vertex_id o.1) ∙ ap (λ z. source_in h z) q ∙ p.source_first))
      (λ q. nw (sym (ap vertex_id o.1) ∙ ap (λ z. source_in h z) q ∙ p.source_second))

  -- the way that an old dart goes
  pub way : IsTwinned g → (x : VertexId) (n : ℕ) → Out (turns_in g) x.0 n → dart_in h (dart_id n) ≡ dart_in g (dart_id n)
  way t x n o = way_old g h d m u w l p t (dart_id n) o.0

  -- ---- the ring of a vertex that isn't an end
  pub ring_up : (tg : IsTwinned g) (th : IsTwinned h) → IsPlaneSkeleton (skeleton_of h) → (x : VertexId) → x ≢ u → x ≢ w → ((n : ℕ) → Out (turns_in g) x.0 n → after_in h (dart_id n) ≡ after_in g (dart_id n)) → RingOf g x → RingOf h x
  ring_up tg th plane x nu nw after =
      kept earlier (turns_in g) (turns_in h) x.0 (OutOf (skeleton_of g) (point_in g x)) (OutOf (skeleton_of h) (point_in h x)) (record {
        from = from_else x nu nw;
        into = into x;
        inside = out_of h th plane x;
        way = way tg x;
        after = λ n o. ap (λ z. z.0) (after n o);
      })

  pub ring_down : (tg : IsTwinned g) → IsPlaneSkeleton (skeleton_of g) → (x : VertexId) → x ≢ u → x ≢ w → ((n : ℕ) → Out (turns_in g) x.0 n → after_in h (dart_id n) ≡ after_in g (dart_id n)) → RingOf h x → RingOf g x
  ring_down tg plane x nu nw after =
      kept earlier (turns_in h) (turns_in g) x.0 (OutOf (skeleton_of h) (point_in h x)) (OutOf (skeleton_of g) (point_in g x)) (record {
        from = into x;
        into = from_else x nu nw;
        inside = out_of g tg plane x;
        way = λ n o. sym (way tg x n (from_else x nu nw n o));
        after = λ n o. sym (ap (λ z. z.0) (after n (from_else x nu nw n o)));
      })

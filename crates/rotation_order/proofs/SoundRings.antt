-- A sound view has rings, and a view with rings is sound.
use Rattle.std.proofs.Common.{◌≡◌, ℕ, refl, sym, ap, ◌∙◌, subst, inl, inr}
use Rattle.std.proofs.lemmas.Bool.{cases_eq}
use Rattle.rotation_order.specs.RingOrder.{IsStrictOn, sooner_by}
use Rattle.rotation_order.specs.Ring.{Out, IsApart, IsAfter}
use Rattle.rotation_order.proofs.RingEdits.{apart_of}
use Rattle.rotation_order.proofs.RingOrders.{round_by}
use Rattle.rotation_order.proofs.Rings.{one_after, one_before}
use Rattle.slab_laws.specs.declared.names.DartId.{DartId}
use Rattle.slab_laws.specs.declared.names.VertexId.{VertexId}
use Rattle.slab_laws.specs.Darts.{source, darts}
use Rattle.slab_laws.specs.Rotation.{earlier, ring, after, next, OutOf}
use Rattle.slab_laws.specs.Skeleton.{IsPlaneSkeleton}
use Rattle.slab_laws.specs.Sound.{skeleton_of, dart_in, IsNamed, IsTwinned, IsDrawn, IsGraphSound}
use Rattle.slab_laws.specs.View.{View, HasVertex, HasDart, vertex_id, dart_id, point_in, source_in, twin_in, next_in, target_in}
use Rattle.sound_views.proofs.NamedDarts.{source_by}
use Rattle.rotation_order.specs.VertexRings.{turns_in, RingOf}
use Rattle.rotation_order.specs.SoundRingLaws.{SoundViewsHaveRings, RingsMakeSoundViews}
use Rattle.rotation_order.proofs.RingNames.{twin_dart, out_of, named_out}
use Rattle.rotation_order.proofs.RingTurned.{next_at, strict_at, follower_goes_out, follows_by_name}

-- ---- a sound view has rings
module _ (v : View) (s : IsGraphSound v) (w : VertexId) where
  apart : IsApart (OutOf (skeleton_of v) (point_in v w)) (turns_in v) w.0
  apart = record {
    inside = out_of v s.twinned s.plane w;
    differ = λ c d oc od ne q. ne (ap (λ e. e.0) (s.turned.differ (dart_id c) (dart_id d) oc.0 od.0 q));
  }

  -- what comes after the twin leaves the same vertex
  after_out : (d : ℕ) → Out (turns_in v) w.0 d → Out (turns_in v) w.0 (next_in v (twin_in v (dart_id d))).0
  after_out d o =
      let t = twin_in v (dart_id d) in
      let has = s.twinned.has (dart_id d) o.0 in
      (s.linked.has t has, ap (λ u. u.0) (s.linked.joins t has) ∙ ap (λ e. (source_in v e).0) (s.twinned.back (dart_id d) o.0) ∙ o.1)

  after_way : (d : ℕ) → Out (turns_in v) w.0 d → dart_in v (next_in v (twin_in v (dart_id d))) ≡ after (dart_in v (dart_id d)) (ring (darts (skeleton_of v)) (point_in v w))
  after_way d o =
      s.turned.turns (twin_in v (dart_id d)) (s.twinned.has (dart_id d) o.0)
      ∙ ap (next (darts (skeleton_of v))) (twin_dart v s.twinned s.plane (dart_id d) o.0)
      ∙ next_at (skeleton_of v) (point_in v w) (dart_in v (dart_id d)) (out_of v s.twinned s.plane w d o)

  ring_of : RingOf v w
  ring_of = record {
    inside = out_of v s.twinned s.plane w;
    follows = λ d o. follows_by_name v s.twinned s.plane w apart d (next_in v (twin_in v (dart_id d))).0 o (after_out d o) (after_way d o);
    differ = apart.differ;
  }

pub sound_views_have_rings : SoundViewsHaveRings
sound_views_have_rings v w s has = ring_of v s w

-- ---- a view with rings is sound
module _ (v : View) (twinned : IsTwinned v) (sourced : (d : DartId) → HasDart v d → HasVertex v (source_in v d)) (drawn : IsDrawn v) (plane : IsPlaneSkeleton (skeleton_of v)) (rings : (w : VertexId) → HasVertex v w → RingOf v w) where
  -- the ring that the dart's twin stands in, and the dart's follower in it
  twin_ring : (d : DartId) → HasDart v d → RingOf v (target_in v d)
  twin_ring d has = rings (target_in v d) (sourced (twin_in v d) (twinned.has d has))

  twin_out : (d : DartId) → HasDart v d → Out (turns_in v) (target_in v d).0 (twin_in v d).0
  twin_out d has = (twinned.has d has, refl)

  follows : (d : DartId) → HasDart v d → IsAfter (sooner_by earlier) (turns_in v) (target_in v d).0 (twin_in v d).0 (next_in v d).0
  follows d has =
      subst (λ e. IsAfter (sooner_by earlier) (turns_in v) (target_in v d).0 (twin_in v d).0 (next_in v e).0) (twinned.back d has)
      ((twin_ring d has).follows (twin_in v d).0 (twin_out d has))

  strict : (d : DartId) → HasDart v d → IsStrictOn earlier (OutOf (skeleton_of v) (point_in v (target_in v d)))
  strict d has =
      strict_at (skeleton_of v) (point_in v (target_in v d)) (dart_in v (twin_in v d)) plane
      (out_of v twinned plane (target_in v d) (twin_in v d).0 (twin_out d has))

  apart_at : (d : DartId) → HasDart v d → IsApart (OutOf (skeleton_of v) (point_in v (target_in v d))) (turns_in v) (target_in v d).0
  apart_at d has = apart_of earlier (OutOf (skeleton_of v) (point_in v (target_in v d))) (turns_in v) (target_in v d).0 (twin_ring d has)

  joins : (d : DartId) → HasDart v d → source_in v (next_in v d) ≡ target_in v d
  joins d has = ap vertex_id (follows d has).out.1

  -- two darts that one dart follows have one twin
  once : (d e : DartId) → HasDart v d → HasDart v e → next_in v d ≡ next_in v e → d ≡ e
  once d e hd he q =
      let t : target_in v e ≡ target_in v d = sym (joins e he) ∙ ap (source_in v) (sym q) ∙ joins d hd in
      let oe : Out (turns_in v) (target_in v d).0 (twin_in v e).0 = (twinned.has e he, ap (λ u. u.0) t) in
      let fe : IsAfter (sooner_by earlier) (turns_in v) (target_in v d).0 (twin_in v e).0 (next_in v d).0 = subst (λ u. IsAfter (sooner_by earlier) (turns_in v) u.0 (twin_in v e).0 (next_in v d).0) t (subst (λ f. IsAfter (sooner_by earlier) (turns_in v) (target_in v e).0 (twin_in v e).0 f.0) (sym q) (follows e he)) in
      let n : (twin_in v d).0 ≡ (twin_in v e).0 =
      one_before (sooner_by earlier) (OutOf (skeleton_of v) (point_in v (target_in v d))) (round_by earlier (OutOf (skeleton_of v) (point_in v (target_in v d))) (strict d hd)) (turns_in v) (target_in v d).0 (apart_at d hd)
      (twin_in v d).0 (twin_in v e).0 (next_in v d).0 (twin_out d hd) oe (follows d hd) fe in
      sym (twinned.back d hd) ∙ ap (λ k. twin_in v (dart_id k)) n ∙ twinned.back e he

  -- two darts with the same two points leave one vertex, and in its ring they are one
  differ : (d e : DartId) → HasDart v d → HasDart v e → dart_in v d ≡ dart_in v e → d ≡ e
  differ d e hd he q =
      let p : point_in v (source_in v d) ≡ point_in v (source_in v e) = sym (source_by (point_in v (source_in v d)) (point_in v (target_in v d))) ∙ ap source q ∙ source_by (point_in v (source_in v e)) (point_in v (target_in v e)) in
      let w : source_in v d ≡ source_in v e = drawn.points (source_in v d) (source_in v e) (sourced d hd) (sourced e he) p in
      elim (cases_eq d.0 e.0) [
        | inl n ↦ ap dart_id n
        | inr ne ↦ absurd ((rings (source_in v e) (sourced e he)).differ d.0 e.0 (hd, ap (λ u. u.0) w) (he, refl) ne q)
      ]

  -- the graph's follower of the twin has a name, and in the ring one name alone follows the twin
  turns : (d : DartId) → HasDart v d → dart_in v (next_in v d) ≡ next (darts (skeleton_of v)) (dart_in v d)
  turns d has =
      let w = target_in v d in
      let p = point_in v w in
      let t = twin_in v d in
      let o = twin_out d has in
      let out = out_of v twinned plane w t.0 o in
      let m = named_out v twinned plane drawn sourced w (sourced t o.0) (after (dart_in v t) (ring (darts (skeleton_of v)) p)) (follower_goes_out (skeleton_of v) p (dart_in v t) plane out) in
      let f = follows_by_name v twinned plane w (apart_at d has) t.0 m.0 o m.1 m.2 in
      let n : (next_in v d).0 ≡ m.0 = one_after (sooner_by earlier) (OutOf (skeleton_of v) p) (round_by earlier (OutOf (skeleton_of v) p) (strict d has)) (turns_in v) w.0 (apart_at d has) t.0 (next_in v d).0 m.0 o (follows d has) f in
      ap (λ k. dart_in v (dart_id k)) n
      ∙ m.2
      ∙ sym (next_at (skeleton_of v) p (dart_in v t) out)
      ∙ ap (next (darts (skeleton_of v))) (sym (twin_dart v twinned plane t o.0))
      ∙ ap (λ e. next (darts (skeleton_of v)) (dart_in v e)) (twinned.back d has)

  sound : IsNamed v → IsGraphSound v
  sound named = record {
    named = named;
    twinned = twinned;
    linked = record { source = sourced; has = λ d has. (follows d has).out.0; joins = joins; once = once };
    drawn = drawn;
    turned = record { differ = differ; turns = turns };
    plane = plane;
  }

pub rings_make_sound_views : RingsMakeSoundViews
rings_make_sound_views v named twinned sourced drawn plane rings = sound v twinned sourced drawn plane rings named

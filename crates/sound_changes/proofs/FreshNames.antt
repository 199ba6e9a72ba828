-- An edge that fits into a view is one that it does not draw.
use Rattle.std.proofs.Common.{◌≡◌, inl, inr, ℕ, true, Option, Some, None, sym, subst}
use Rattle.std.proofs.lemmas.Bool.{cases_eq}
use Rattle.exact_plane.specs.Line.{Line}
use Rattle.plane_graphs.specs.Ascending.{Member}
use Rattle.plane_graphs.proofs.Ascending.{from_member}
use Rattle.rotation_order.specs.RingOrder.{sooner_by}
use Rattle.rotation_order.specs.Ring.{Out}
use Rattle.rotation_order.proofs.RingOrders.{round_by}
use Rattle.slab_laws.specs.declared.names.DartId.{DartId}
use Rattle.slab_laws.specs.declared.names.VertexId.{VertexId}
use Rattle.slab_laws.specs.Darts.{Dart}
use Rattle.slab_laws.specs.Rotation.{earlier, OutOf}
use Rattle.slab_laws.specs.Sound.{skeleton_of, edge_between, dart_in, IsGraphSound}
use Rattle.slab_laws.specs.View.{View, HasVertex, dart_id, point_in}
use Rattle.arr_notes.specs.AfterAround.{after_in}
use Rattle.sound_views.proofs.NamedDarts.{source_by}
use Rattle.rotation_order.specs.VertexRings.{turns_in}
use Rattle.rotation_order.proofs.RingNames.{out_of, named_out as found_out}
use Rattle.rotation_order.proofs.SoundRings.{sound_views_have_rings}
use Rattle.sound_changes.specs.EdgePlaces.{dart_between, IsPlaceFor, FitsAddedEdge}
use Rattle.sound_changes.proofs.EdgeSides.{strict_of, named_out, out_by_name}

-- no dart goes the way that a place is for: it would come between a dart and the one after it
way_is_free : (v : View) (u : VertexId) (at : Option DartId) (x : Dart) → IsGraphSound v → HasVertex v u → IsPlaceFor v u at x → (n : ℕ) → Out (turns_in v) u.0 n → dart_in v (dart_id n) ≡ x → ⊥
way_is_free v u None x s has p n o q = p (dart_id n) (named_out v u n o)
way_is_free v u (Some a) x s has p n o q =
    let oa = out_by_name v u a p.0 in
    let f = (sound_views_have_rings v u s has).follows a.0 oa in
    let round = round_by earlier (OutOf (skeleton_of v) (point_in v u)) (strict_of v s.twinned s.plane u n o) in
    let A = out_of v s.twinned s.plane u a.0 oa in
    let N = out_of v s.twinned s.plane u n o in
    let F = out_of v s.twinned s.plane u (after_in v a).0 f.out in
    let k : sooner_by earlier (dart_in v a) (dart_in v (dart_id n)) (dart_in v (after_in v a)) ≡ true = subst (λ z. sooner_by earlier (dart_in v a) z (dart_in v (after_in v a)) ≡ true) (sym q) p.1 in
    elim (cases_eq n (after_in v a).0) [
      | inl e ↦
          let i : sooner_by earlier (dart_in v a) (dart_in v (dart_id n)) (dart_in v (dart_id n)) ≡ true = subst (λ z. sooner_by earlier (dart_in v a) (dart_in v (dart_id n)) (dart_in v (dart_id z)) ≡ true) (sym e) k in
          round.apart (dart_in v a) (dart_in v (dart_id n)) (dart_in v (dart_id n)) A N N i i
      | inr ne ↦ round.apart (dart_in v a) (dart_in v (dart_id n)) (dart_in v (after_in v a)) A N F k (f.first n o ne)
    ]

pub fresh : (v : View) (d m : DartId) (u w : VertexId) (at_u at_w : Option DartId) (l : Line) → IsGraphSound v → FitsAddedEdge v d m u w at_u at_w l → Member (edge_between (point_in v u) (point_in v w)) (skeleton_of v).edges → ⊥
fresh v d m u w at_u at_w l s f k =
    let x = dart_between (point_in v u) (point_in v w) in
    let o : OutOf (skeleton_of v) (point_in v u) x = record { in' = from_member (skeleton_of v).edges x.edge k; at = source_by (point_in v u) (point_in v w) } in
    let r = found_out v s.twinned s.plane s.drawn s.linked.source u f.start x o in
    way_is_free v u at_u x s f.start f.place_at_start r.0 r.1 r.2

-- The rings of a view with one more edge.
use Rattle.std.proofs.Common.{◌≡◌, ◌≢◌, inl, inr, ℕ, true, Option, Some, None, refl, sym, ap, ◌∙◌, subst}
use Rattle.std.proofs.lemmas.Bool.{cases_eq}
use Rattle.exact_plane.specs.Line.{Line}
use Rattle.rotation_order.specs.RingOrder.{sooner_by}
use Rattle.rotation_order.specs.Ring.{Out, IsInsert}
use Rattle.rotation_order.proofs.RingEdits.{lone, inserted}
use Rattle.slab_laws.specs.declared.names.DartId.{DartId}
use Rattle.slab_laws.specs.declared.names.VertexId.{VertexId}
use Rattle.slab_laws.specs.Rotation.{earlier, OutOf}
use Rattle.slab_laws.specs.Skeleton.{IsPlaneSkeleton}
use Rattle.slab_laws.specs.Sound.{skeleton_of, dart_in, IsTwinned}
use Rattle.slab_laws.specs.View.{View, HasVertex, HasDart, IsOutOf, vertex_id, dart_id, point_in}
use Rattle.arr_notes.specs.AfterAround.{after_in}
use Rattle.rotation_order.specs.VertexRings.{turns_in, RingOf}
use Rattle.rotation_order.proofs.RingNames.{out_of}
use Rattle.sound_changes.specs.EdgePlaces.{IsEdgeMore}
use Rattle.sound_changes.proofs.RingsKept.{swapped, vertex_down}
use Rattle.sound_changes.proofs.EdgeSides.{strict_of, named_out, out_by_name, first_out, into, from_start, way, ring_up}

-- where d stands in the ring of u
pub record IsEnd (g h : View) (u : VertexId) (d : DartId) (at : Option DartId) : Type 0 where
  pub bare : at ≡ None → (after_in h d ≡ d) × ((k : DartId) → ¬ IsOutOf g u k)
  pub place : (a : DartId) → at ≡ Some a → IsOutOf g u a × (after_in h d ≡ after_in g a) × (after_in h a ≡ d) × (sooner_by earlier (dart_in g a) (dart_in h d) (dart_in g (after_in g a)) ≡ true)

pub record IsGrown (g h : View) (d m : DartId) (u w : VertexId) (at_u at_w : Option DartId) : Type 0 where
  pub at_start : IsEnd g h u d at_u
  pub at_end : IsEnd g h w m at_w
  pub others : (k : DartId) → HasDart g k → (at_u ≡ Some k → ⊥) → (at_w ≡ Some k → ⊥) → after_in h k ≡ after_in g k

pub turned_round : (g h : View) (d m : DartId) (u w : VertexId) (at_u at_w : Option DartId) → IsGrown g h d m u w at_u at_w → IsGrown g h m d w u at_w at_u
turned_round g h d m u w at_u at_w r = record { at_start = r.at_end; at_end = r.at_start; others = λ k o a b. r.others k o b a }

module _ (g h : View) (d m : DartId) (u w : VertexId) (l : Line) (p : IsEdgeMore g h d m u w l) (at_u at_w : Option DartId) (r : IsGrown g h d m u w at_u at_w) (tg : IsTwinned g) (th : IsTwinned h) (plane : IsPlaneSkeleton (skeleton_of h)) where
  bare_ring : at_u ≡ None → RingOf h u
  bare_ring e =
      let b = r.at_start.bare e in
      lone earlier (turns_in h) (turns_in h) u.0 (OutOf (skeleton_of h) (point_in h u)) d.0 (record {
        from = λ n o. elim (cases_eq n d.0) [ inl q ↦ q | inr ne ↦ absurd (b.1 (dart_id n) (named_out g u n (from_start g h d m u w l p n o ne))) ];
        x_out = first_out g h d m u w l p;
        inside = out_of h th plane u d.0 (first_out g h d m u w l p);
        after_x = ap (λ z. z.0) b.0;
      })

  -- the place of another end is no dart out of this vertex
  not_other : (x : VertexId) (n : ℕ) → Out (turns_in g) x.0 n → x ≢ w → at_w ≡ Some (dart_id n) → ⊥
  not_other x n o ne q = ne (sym (ap vertex_id o.1) ∙ (r.at_end.place (dart_id n) q).0.1)

  not_first_place : (x : VertexId) (n : ℕ) → Out (turns_in g) x.0 n → x ≢ u → at_u ≡ Some (dart_id n) → ⊥
  not_first_place x n o ne q = ne (sym (ap vertex_id o.1) ∙ (r.at_start.place (dart_id n) q).0.1)

  some_one : (a b : DartId) → at_u ≡ Some a → at_u ≡ Some b → a ≡ b
  some_one a b e f = let s : Some a ≡ Some b = sym e ∙ f in cc

  in_place : (a : DartId) → at_u ≡ Some a → IsInsert earlier (OutOf (skeleton_of h) (point_in h u)) (turns_in g) (turns_in h) u.0 d.0 a.0
  in_place a e =
      let b = r.at_start.place a e in
      record {
        from = λ n o. elim (cases_eq n d.0) [ inl q ↦ inl q | inr ne ↦ inr (from_start g h d m u w l p n o ne) ];
        into = into g h d m u w l p u;
        x_out = first_out g h d m u w l p;
        a_out = out_by_name g u a b.0;
        inside = out_of h th plane u;
        way = way g h d m u w l p tg u;
        after_x = ap (λ z. z.0) b.1;
        after_a = ap (λ z. z.0) b.2;
        after = λ n o ne. ap (λ z. z.0) (r.others (dart_id n) o.0 (λ q. ne (ap (λ z. z.0) (some_one (dart_id n) a q e))) (not_other u n o p.two_ends));
        place = b.3;
      }

  ring_at : (o : Option DartId) → at_u ≡ o → RingOf g u → RingOf h u
  ring_at None e s = bare_ring e
  ring_at (Some a) e s =
      inserted earlier (turns_in g) (turns_in h) u.0 (OutOf (skeleton_of g) (point_in g u)) (OutOf (skeleton_of h) (point_in h u))
      (strict_of h th plane u d.0 (first_out g h d m u w l p)) d.0 a.0 (in_place a e) s

  pub ring_at_start : RingOf g u → RingOf h u
  ring_at_start s = ring_at at_u refl s

  pub ring_elsewhere : (x : VertexId) → x ≢ u → x ≢ w → RingOf g x → RingOf h x
  ring_elsewhere x nu nw = ring_up g h d m u w l p tg th plane x nu nw (λ n o. r.others (dart_id n) o.0 (not_first_place x n o nu) (not_other x n o nw))

pub rings_grow : (g h : View) (d m : DartId) (u w : VertexId) (l : Line) (p : IsEdgeMore g h d m u w l) (at_u at_w : Option DartId) → IsGrown g h d m u w at_u at_w → IsTwinned g → IsTwinned h → IsPlaneSkeleton (skeleton_of h) → ((x : VertexId) → HasVertex g x → RingOf g x) → (x : VertexId) → HasVertex h x → RingOf h x
rings_grow g h d m u w l p at_u at_w r tg th plane rings x has =
    elim (cases_eq x.0 u.0) [
      | inl q ↦ subst (λ z. RingOf h z) (sym (ap vertex_id q)) (ring_at_start g h d m u w l p at_u at_w r tg th plane (subst (λ z. RingOf g z) (ap vertex_id q) (rings x (vertex_down g h d m u w l p x has))))
      | inr nu ↦ elim (cases_eq x.0 w.0) [
        | inl q ↦ subst (λ z. RingOf h z) (sym (ap vertex_id q)) (ring_at_start g h m d w u l (swapped g h d m u w l p) at_w at_u (turned_round g h d m u w at_u at_w r) tg th plane (subst (λ z. RingOf g z) (ap vertex_id q) (rings x (vertex_down g h d m u w l p x has))))
        | inr nw ↦ ring_elsewhere g h d m u w l p at_u at_w r tg th plane x (λ q. nu (ap (λ z. z.0) q)) (λ q. nw (ap (λ z. z.0) q)) (rings x (vertex_down g h d m u w l p x has))
      ]
    ]

-- In a sound view no dart follows itself, and names of darts before and after the places of a new edge.
use Rattle.std.proofs.Common.{◌≡◌, ◌≢◌, inl, inr, Option, Some, None, refl, sym, ap, ◌∙◌, subst}
use Rattle.plane_graphs.specs.Line.{precedes}
use Rattle.slab_laws.specs.declared.names.DartId.{DartId}
use Rattle.slab_laws.specs.declared.names.VertexId.{VertexId}
use Rattle.slab_laws.specs.Sound.{IsGraphSound, edge_between, dart_in}
use Rattle.slab_laws.specs.View.{View, HasDart, point_in, source_in, target_in, twin_in, next_in}
use Rattle.arr_notes.specs.CurvedView.{IsPlaceOut}
use Rattle.arr_notes.specs.Step.{followed}
use Rattle.mirror_observer.specs.Tables.{led_from}
use Rattle.mirror_observer.proofs.Around.{IsEnd}

module _ (v : View) (s : IsGraphSound v) where
  pub no_loop : (d : DartId) → HasDart v d → next_in v d ≢ d
  no_loop d h q =
      let j : source_in v d ≡ target_in v d = ap (source_in v) (sym q) ∙ s.linked.joins d h in
      let back : target_in v (twin_in v d) ≡ target_in v d = ap (source_in v) (s.twinned.back d h) ∙ j in
      let e : dart_in v (twin_in v d) ≡ dart_in v d =
      (λ i. record {
        edge = edge_between (point_in v (sym j i)) (point_in v (back i));
        forward = precedes (point_in v (sym j i)) (point_in v (back i));
      }) in
      s.twinned.other d h (s.turned.differ (twin_in v d) d (s.twinned.has d h) h e)

  pub end_of : (u : VertexId) (o : Option DartId) (out again : DartId) → IsPlaceOut v u o → IsEnd (λ x. HasDart v x) (next_in v) out again (led_from v o again) (followed v o out)
  end_of u None out again h = inl (refl, refl)
  end_of u (Some a) out again h = inr (s.twinned.has a h.0, refl)

  -- the darts before both new ones differ
  pub ends_apart : (d m : DartId) (u w : VertexId) (o q : Option DartId) → u ≢ w → ¬ HasDart v d → ¬ HasDart v m → IsPlaceOut v u o → IsPlaceOut v w q →
      HasDart v (led_from v o m) → HasDart v (led_from v q d) → led_from v o m ≢ led_from v q d
  ends_apart d m u w None q uw nd nm a b hx hy e = nm hx
  ends_apart d m u w (Some x) None uw nd nm a b hx hy e = nd hy
  ends_apart d m u w (Some x) (Some y) uw nd nm a b hx hy e =
      uw (sym a.1 ∙ ap (source_in v) (sym (s.twinned.back x a.0) ∙ ap (twin_in v) e ∙ s.twinned.back y b.0) ∙ b.1)

  pub led_not_first : (d m : DartId) (u : VertexId) (o : Option DartId) → d ≢ m → ¬ HasDart v d → IsPlaceOut v u o → led_from v o m ≢ d
  led_not_first d m u None dm nd a e = dm (sym e)
  led_not_first d m u (Some x) dm nd a e = nd (subst (λ z. HasDart v z) e (s.twinned.has x a.0))

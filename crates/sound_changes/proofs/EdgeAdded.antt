-- What is read of a view after an edge was added.
use Rattle.std.proofs.Common.{◌≡◌, ◌≢◌, Option, Some, None, refl, sym, ap, ◌∙◌, subst}
use Rattle.exact_plane.specs.Line.{Line}
use Rattle.rotation_order.specs.RingOrder.{sooner_by}
use Rattle.slab_laws.specs.declared.names.DartId.{DartId}
use Rattle.slab_laws.specs.declared.names.VertexId.{VertexId}
use Rattle.slab_laws.specs.Rotation.{earlier}
use Rattle.slab_laws.specs.Skeleton.{IsPlaneSkeleton}
use Rattle.slab_laws.specs.Sound.{skeleton_of, dart_in, IsNamed, IsGraphSound}
use Rattle.slab_laws.specs.View.{View, DartRecord, HasDart, IsOutOf, point_in, source_in, twin_in, next_in}
use Rattle.arr_notes.specs.Reads.{IsRelinked, IsPairMore}
use Rattle.arr_notes.specs.ViewChanges.{with_pair}
use Rattle.arr_notes.proofs.DartReads.{next_is_set}
use Rattle.arr_notes.proofs.PairReads.{pair_is_added, names_stay}
use Rattle.arr_notes.proofs.Reading.{same_vertex}
use Rattle.arr_notes.specs.Step.{followed, led, add_edge}
use Rattle.arr_notes.specs.AfterAround.{after_in}
use Rattle.rotation_order.proofs.SoundRings.{sound_views_have_rings, rings_make_sound_views}
use Rattle.sound_changes.specs.EdgePlaces.{dart_between, IsPlaceFor, FitsAddedEdge, IsEdgeMore}
use Rattle.sound_changes.proofs.RingsKept.{swapped, twin_old, way_new, twinned_up, sourced_up, drawn_up}
use Rattle.sound_changes.proofs.OneMoreEdge.{IsGrown, rings_grow}

-- ---- another follower in some place
unchanged : (h : View) → IsRelinked h h
unchanged h = record { has = λ e o. o; had = λ e o. o; source = λ e. refl; twin = λ e. refl; line = λ e. refl; vertices = λ w. same_vertex h h w refl }

led_relinked : (v : View) (at : Option DartId) (x : DartId) (h : View) → IsRelinked h (led v at x h)
led_relinked v None x h = unchanged h
led_relinked v (Some a) x h = (next_is_set h (twin_in v a) x).relinked

led_hit : (v : View) (a : DartId) (x : DartId) (h : View) → HasDart h (twin_in v a) → next_in (led v (Some a) x h) (twin_in v a) ≡ x
led_hit v a x h o = (next_is_set h (twin_in v a) x).next o

led_miss : (v : View) (at : Option DartId) (x : DartId) (h : View) (k : DartId) → ((a : DartId) → at ≡ Some a → k ≢ twin_in v a) → next_in (led v at x h) k ≡ next_in h k
led_miss v None x h k n = refl
led_miss v (Some a) x h k n = ((next_is_set h (twin_in v a) x).others k (n a refl)).next

led_vertices : (v : View) (at : Option DartId) (x : DartId) (h : View) → (led v at x h).vertices ≡ h.vertices
led_vertices v None x h = refl
led_vertices v (Some a) x h = refl

led_named : (v : View) (at : Option DartId) (x : DartId) (h : View) → IsNamed h → IsNamed (led v at x h)
led_named v None x h n = n
led_named v (Some a) x h n = (names_stay h n).next (twin_in v a) x

module _ (v : View) (d m : DartId) (u w : VertexId) (at_u at_w : Option DartId) (l : Line) (s : IsGraphSound v) (f : FitsAddedEdge v d m u w at_u at_w l) where
  abbrev first_row : DartRecord
  first_row = record { source = u; twin = m; next = followed v at_w m; line = l }

  abbrev second_row : DartRecord
  second_row = record { source = w; twin = d; next = followed v at_u d; line = l }

  abbrev paired : View
  paired = with_pair v d m first_row second_row

  abbrev started : View
  started = led v at_u d paired

  abbrev whole : View
  whole = add_edge v d m u w at_u at_w l

  pair : IsPairMore v paired d m first_row second_row
  pair = pair_is_added v d m first_row second_row f.two_names

  half : IsRelinked paired started
  half = led_relinked v at_u d paired

  rest : IsRelinked started whole
  rest = led_relinked v at_w m started

  pub more : IsEdgeMore v whole d m u w l
  more = record {
    first_new = f.first_new;
    second_new = f.second_new;
    two_names = f.two_names;
    two_ends = f.two_ends;
    first = rest.has d (half.has d pair.first.has);
    second = rest.has m (half.has m pair.second.has);
    source_first = rest.source d ∙ half.source d ∙ pair.first.source;
    source_second = rest.source m ∙ half.source m ∙ pair.second.source;
    twin_first = rest.twin d ∙ half.twin d ∙ pair.first.twin;
    twin_second = rest.twin m ∙ half.twin m ∙ pair.second.twin;
    line_first = rest.line d ∙ half.line d ∙ pair.first.line;
    line_second = rest.line m ∙ half.line m ∙ pair.second.line;
    vertices = led_vertices v at_w m started ∙ led_vertices v at_u d paired;
    others = λ e a b. let q = pair.others e a b in record {
      has = λ o. rest.has e (half.has e (q.has o));
      had = λ o. q.had (half.had e (rest.had e o));
      source = rest.source e ∙ half.source e ∙ q.source;
      twin = rest.twin e ∙ half.twin e ∙ q.twin;
      line = rest.line e ∙ half.line e ∙ q.line;
    };
  }

  pub named : IsNamed whole
  named = led_named v at_w m started (led_named v at_u d paired ((names_stay v s.named).pair d m first_row second_row))

  -- ---- the places at both ends
  at_start : (o : Option DartId) → at_u ≡ o → IsPlaceFor v u o (dart_between (point_in v u) (point_in v w))
  at_start o e = subst (λ z. IsPlaceFor v u z (dart_between (point_in v u) (point_in v w))) e f.place_at_start

  at_end : (o : Option DartId) → at_w ≡ o → IsPlaceFor v w o (dart_between (point_in v w) (point_in v u))
  at_end o e = subst (λ z. IsPlaceFor v w z (dart_between (point_in v w) (point_in v u))) e f.place_at_end

  start_out : (a : DartId) → at_u ≡ Some a → IsOutOf v u a
  start_out a e = (at_start (Some a) e).0

  end_out : (a : DartId) → at_w ≡ Some a → IsOutOf v w a
  end_out a e = (at_end (Some a) e).0

  start_twin : (a : DartId) → at_u ≡ Some a → HasDart v (twin_in v a)
  start_twin a e = s.twinned.has a (start_out a e).0

  end_twin : (a : DartId) → at_w ≡ Some a → HasDart v (twin_in v a)
  end_twin a e = s.twinned.has a (end_out a e).0

  one_twin : (j k : DartId) → HasDart v j → HasDart v k → twin_in v j ≡ twin_in v k → j ≡ k
  one_twin j k a b q = sym (s.twinned.back j a) ∙ ap (λ z. twin_in v z) q ∙ s.twinned.back k b

  -- the places are two darts, out of two vertices
  apart : (a b : DartId) → at_u ≡ Some a → at_w ≡ Some b → twin_in v a ≢ twin_in v b
  apart a b e g q = f.two_ends (sym (start_out a e).1 ∙ ap (λ z. source_in v z) (one_twin a b (start_out a e).0 (end_out b g).0 q) ∙ (end_out b g).1)

  -- ---- who follows whom
  new_follower : (k : DartId) → ¬ HasDart v k → next_in whole k ≡ next_in paired k
  new_follower k n =
      led_miss v at_w m started k (λ a e q. n (subst (λ z. HasDart v z) (sym q) (end_twin a e)))
      ∙ led_miss v at_u d paired k (λ a e q. n (subst (λ z. HasDart v z) (sym q) (start_twin a e)))

  paired_has : (k : DartId) → HasDart v k → HasDart paired k
  paired_has k o = (pair.others k (λ q. f.first_new (subst (λ z. HasDart v z) q o)) (λ q. f.second_new (subst (λ z. HasDart v z) q o))).has o

  after_first : after_in whole d ≡ followed v at_u d
  after_first = ap (λ z. next_in whole z) more.twin_first ∙ new_follower m f.second_new ∙ pair.second.next

  after_second : after_in whole m ≡ followed v at_w m
  after_second = ap (λ z. next_in whole z) more.twin_second ∙ new_follower d f.first_new ∙ pair.first.next

  after_start : (a : DartId) → at_u ≡ Some a → after_in whole a ≡ d
  after_start a e =
      ap (λ z. next_in whole z) (twin_old v whole d m u w l more a (start_out a e).0)
      ∙ led_miss v at_w m started (twin_in v a) (λ b g. apart a b e g)
      ∙ subst (λ o. next_in (led v o d paired) (twin_in v a) ≡ d) (sym e) (led_hit v a d paired (paired_has (twin_in v a) (start_twin a e)))

  after_end : (a : DartId) → at_w ≡ Some a → after_in whole a ≡ m
  after_end a e =
      ap (λ z. next_in whole z) (twin_old v whole d m u w l more a (end_out a e).0)
      ∙ subst (λ o. next_in (led v o m started) (twin_in v a) ≡ m) (sym e) (led_hit v a m started (half.has (twin_in v a) (paired_has (twin_in v a) (end_twin a e))))

  after_other : (k : DartId) → HasDart v k → (at_u ≡ Some k → ⊥) → (at_w ≡ Some k → ⊥) → after_in whole k ≡ after_in v k
  after_other k o nu nw =
      let t = s.twinned.has k o in
      ap (λ z. next_in whole z) (twin_old v whole d m u w l more k o)
      ∙ led_miss v at_w m started (twin_in v k) (λ a e q. nw (e ∙ ap Some (sym (one_twin k a o (end_out a e).0 q))))
      ∙ led_miss v at_u d paired (twin_in v k) (λ a e q. nu (e ∙ ap Some (sym (one_twin k a o (start_out a e).0 q))))
      ∙ (pair.others (twin_in v k) (λ q. f.first_new (subst (λ z. HasDart v z) q t)) (λ q. f.second_new (subst (λ z. HasDart v z) q t))).next

  pub grown : IsGrown v whole d m u w at_u at_w
  grown = record {
    at_start = record {
      bare = λ e. (after_first ∙ ap (λ o. followed v o d) e, at_start None e);
      place = λ a e. (
        start_out a e,
        after_first ∙ ap (λ o. followed v o d) e,
        after_start a e,
        ap (λ x. sooner_by earlier (dart_in v a) x (dart_in v (after_in v a))) (way_new v whole d m u w l more) ∙ (at_start (Some a) e).1,
      );
    };
    at_end = record {
      bare = λ e. (after_second ∙ ap (λ o. followed v o m) e, at_end None e);
      place = λ a e. (
        end_out a e,
        after_second ∙ ap (λ o. followed v o m) e,
        after_end a e,
        ap (λ x. sooner_by earlier (dart_in v a) x (dart_in v (after_in v a))) (way_new v whole m d w u l (swapped v whole d m u w l more)) ∙ (at_end (Some a) e).1,
      );
    };
    others = after_other;
  }

  pub added : IsPlaneSkeleton (skeleton_of whole) → IsGraphSound whole
  added plane =
      let t = twinned_up v whole d m u w l more s.twinned in
      rings_make_sound_views whole named t
      (sourced_up v whole d m u w l more f.start f.end s.linked.source)
      (drawn_up v whole d m u w l more s.twinned f.line f.through_start f.through_end s.drawn)
      plane
      (rings_grow v whole d m u w l more at_u at_w grown s.twinned t plane (λ x has. sound_views_have_rings v x s has))

-- What is read of a view after an edge was removed.
use Rattle.std.proofs.Common.{◌≡◌, ◌≢◌, inl, inr, Bool, true, false, not, map, refl, sym, ap, ap₂, ◌∙◌}
use Rattle.exact_plane.specs.Line.{Line}
use Rattle.plane_graphs.specs.Ascending.{Member}
use Rattle.plane_graphs.specs.Graph.{Edge, edge_cmp}
use Rattle.plane_graphs.proofs.Ascending.{to_member, from_member, IsAscending-ascending}
use Rattle.plane_graphs.proofs.Meaning.{edge_cmp_total}
use Rattle.slab_laws.specs.declared.names.DartId.{DartId}
use Rattle.slab_laws.specs.declared.names.VertexId.{VertexId}
use Rattle.slab_laws.specs.Skeleton.{IsPlaneSkeleton}
use Rattle.slab_laws.specs.Sound.{skeleton_of, edge_in, dart_in, IsNamed, IsTwinned, IsGraphSound}
use Rattle.slab_laws.specs.View.{View, HasDart, dart_id, point_in, source_in, twin_in, next_in, target_in, line_in}
use Rattle.arr_notes.specs.Reads.{IsRedirected, IsPairLess}
use Rattle.arr_notes.specs.ViewChanges.{redirect}
use Rattle.arr_notes.proofs.DartReads.{darts_are_redirected}
use Rattle.arr_notes.proofs.PairReads.{pair_is_removed, names_stay}
use Rattle.arr_notes.specs.Step.{remove_edge}
use Rattle.sound_views.proofs.NamedDarts.{by_points, twin_dart}
use Rattle.rotation_order.proofs.SoundRings.{rings_make_sound_views}
use Rattle.sound_changes.specs.EdgePlaces.{IsEdgeMore, IsDrawnLess}
use Rattle.sound_changes.proofs.RingsKept.{not_first, not_second, up, twin_old, twinned_down, sourced_down, drawn_down}
use Rattle.sound_changes.proofs.EdgeRemovedRings.{fewer_plane}
use Rattle.sound_changes.proofs.EdgeDrawn.{edge_drawn, edge_old, split, stays, drawn_more}
use Rattle.sound_changes.proofs.OneEdgeFewer.{IsShrunk, rings_shrink}

module _ (v : View) (d : DartId) (s : IsGraphSound v) (has : HasDart v d) where
  abbrev opposite : DartId
  opposite = twin_in v d

  abbrev u : VertexId
  u = source_in v d

  abbrev w : VertexId
  w = target_in v d

  abbrev l : Line
  l = line_in v d

  abbrev closed_first : View
  closed_first = redirect v d (next_in v opposite)

  abbrev closed : View
  closed = redirect closed_first opposite (next_in v d)

  abbrev less : View
  less = remove_edge v d opposite

  first_closed : IsRedirected v closed_first d (next_in v opposite)
  first_closed = darts_are_redirected v d (next_in v opposite)

  second_closed : IsRedirected closed_first closed opposite (next_in v d)
  second_closed = darts_are_redirected closed_first opposite (next_in v d)

  named_closed : IsNamed closed
  named_closed = (names_stay closed_first ((names_stay v s.named).redirected d (next_in v opposite))).redirected opposite (next_in v d)

  pair_gone : IsPairLess closed less d opposite
  pair_gone = pair_is_removed closed d opposite named_closed

  has_opposite : HasDart v opposite
  has_opposite = s.twinned.has d has

  -- a dart with one vertex at both ends would be its own twin
  two_ends : source_in v d ≢ target_in v d
  two_ends e =
      s.twinned.other d has (s.turned.differ opposite d has_opposite has
      (ap₂ by_points (ap (λ z. point_in v z) (sym e)) (ap (λ z. point_in v (source_in v z)) (s.twinned.back d has) ∙ ap (λ z. point_in v z) e)))

  pub fewer : IsEdgeMore less v d opposite (source_in v d) (target_in v d) (line_in v d)
  fewer = record {
    first_new = pair_gone.first;
    second_new = pair_gone.second;
    two_names = λ q. s.twinned.other d has (sym q);
    two_ends = two_ends;
    first = has;
    second = has_opposite;
    source_first = refl;
    source_second = refl;
    twin_first = refl;
    twin_second = s.twinned.back d has;
    line_first = refl;
    line_second = s.twinned.line d has;
    vertices = refl;
    others = λ e a b. let q = pair_gone.others e a b in record {
      has = λ o. first_closed.relinked.had e (second_closed.relinked.had e (q.had o));
      had = λ o. q.has (second_closed.relinked.has e (first_closed.relinked.has e o));
      source = sym (q.source ∙ second_closed.relinked.source e ∙ first_closed.relinked.source e);
      twin = sym (q.twin ∙ second_closed.relinked.twin e ∙ first_closed.relinked.twin e);
      line = sym (q.line ∙ second_closed.relinked.line e ∙ first_closed.relinked.line e);
    };
  }

  abbrev Old : DartId → Type 0
  Old k = HasDart v k × (k ≢ d) × (k ≢ opposite)

  -- what comes after d leaves the other end than the twin does
  after_not_twin : next_in v opposite ≢ opposite
  after_not_twin q = two_ends (sym (s.linked.joins opposite has_opposite ∙ ap (λ z. source_in v z) (s.twinned.back d has)) ∙ ap (λ z. source_in v z) q)

  -- ---- who follows whom
  led_to_first : (t : DartId) → Old t → next_in v t ≡ d → next_in less t ≡ next_in v opposite
  led_to_first t o q =
      let e = first_closed.next t o.0 q in
      (pair_gone.others t o.1 o.2).next ∙ (second_closed.others t (λ z. after_not_twin (sym e ∙ z))).next ∙ e

  led_to_second : (t : DartId) → Old t → next_in v t ≡ opposite → next_in less t ≡ next_in v d
  led_to_second t o q =
      let e = (first_closed.others t (λ z. s.twinned.other d has (sym q ∙ z))).next in
      (pair_gone.others t o.1 o.2).next ∙ second_closed.next t (first_closed.relinked.has t o.0) (e ∙ q)

  led_elsewhere : (t : DartId) → Old t → next_in v t ≢ d → next_in v t ≢ opposite → next_in less t ≡ next_in v t
  led_elsewhere t o a b =
      let e = (first_closed.others t a).next in
      (pair_gone.others t o.1 o.2).next ∙ (second_closed.others t (λ z. b (sym e ∙ z))).next ∙ e

  -- the twin of a dart that stays
  old_twin : (k : DartId) → HasDart less k → Old (twin_in v k)
  old_twin k o =
      let a = up less v d opposite u w l fewer k o in
      let back = s.twinned.back k a in (
        s.twinned.has k a,
        λ q. not_second less v d opposite u w l fewer k o (sym back ∙ ap (λ z. twin_in v z) q),
        λ q. not_first less v d opposite u w l fewer k o (sym back ∙ ap (λ z. twin_in v z) q ∙ s.twinned.back d has),
      )

  twin_kept : (k : DartId) → HasDart less k → twin_in less k ≡ twin_in v k
  twin_kept k o = sym (twin_old less v d opposite u w l fewer k o)

  pub shrunk : IsShrunk less v d opposite
  shrunk = record {
    first = λ k o q. ap (λ z. next_in less z) (twin_kept k o) ∙ led_to_first (twin_in v k) (old_twin k o) q;
    second = λ k o q. ap (λ z. next_in less z) (twin_kept k o) ∙ led_to_second (twin_in v k) (old_twin k o) q ∙ ap (λ z. next_in v z) (sym (s.twinned.back d has));
    others = λ k o a b. ap (λ z. next_in less z) (twin_kept k o) ∙ led_elsewhere (twin_in v k) (old_twin k o) a b;
  }

  twinned : IsTwinned less
  twinned = twinned_down less v d opposite u w l fewer s.twinned

  named : IsNamed less
  named = (names_stay closed named_closed).pair_less d opposite

  -- ---- what is drawn
  -- along the edge of d go d and its twin alone
  along : (k : DartId) → HasDart v k → edge_in v k ≡ edge_in v d → k ≢ d → k ≢ opposite → ⊥
  along k o e a b = step (dart_in v k).forward (dart_in v d).forward refl refl
    where
      same : (dart_in v k).forward ≡ (dart_in v d).forward → ⊥
      same q = a (s.turned.differ k d o has (λ i. record { edge = e i; forward = q i }))

      against : (dart_in v k).forward ≡ not (dart_in v d).forward → ⊥
      against q = b (s.turned.differ k opposite o has_opposite ((λ i. record { edge = e i; forward = q i }) ∙ sym (twin_dart v s d has)))

      step : (f g : Bool) → (dart_in v k).forward ≡ f → (dart_in v d).forward ≡ g → ⊥
      step true true x y = same (x ∙ sym y)
      step false false x y = same (x ∙ sym y)
      step true false x y = against (x ∙ sym (ap not y))
      step false true x y = against (x ∙ sym (ap not y))

  apart : point_in v (source_in v d) ≢ point_in v (target_in v d)
  apart q = two_ends (s.drawn.points (source_in v d) (target_in v d) (s.linked.source d has) (s.linked.source opposite has_opposite) q)

  not_drawn : (x : Edge) → Member x (skeleton_of less).edges → x ≢ edge_in v d
  not_drawn x k q =
      let r = edge_drawn less x k in
      let o = up less v d opposite u w l fewer r.0 r.1 in
      let e = edge_old less v d opposite u w l fewer twinned apart r.0 r.1 in
      along r.0 o (e ∙ sym r.2 ∙ q)
      (not_first less v d opposite u w l fewer r.0 r.1)
      (not_second less v d opposite u w l fewer r.0 r.1)

  pub drawn_less : IsDrawnLess v less (edge_in v d)
  drawn_less = record {
    vertices = refl;
    edges = λ x. (
      λ k. let n = to_member (skeleton_of less).edges x k in
          (from_member (skeleton_of v).edges x (stays less v d opposite u w l fewer twinned apart x n), not_drawn x n),
      λ k. elim (split less v d opposite u w l fewer twinned apart x (to_member (skeleton_of v).edges x k.0)) [
        | inl q ↦ from_member (skeleton_of less).edges x q
        | inr q ↦ absurd (k.1 q)
      ],
    );
    listed = (drawn_more less v d opposite u w l fewer twinned apart (λ k. not_drawn (edge_in v d) k refl)).listed;
  }

  -- ---- and that is plane
  plane : IsPlaneSkeleton (skeleton_of less)
  plane =
      fewer_plane (skeleton_of v).vertices (skeleton_of v).edges (skeleton_of less).edges s.plane
      (IsAscending-ascending edge_cmp edge_cmp_total (map (λ r. edge_in less (dart_id r.0)) less.darts)) (λ e m. ((drawn_less.edges e).0 m).0)

  pub removed : IsGraphSound less
  removed =
      rings_make_sound_views less named twinned
      (sourced_down less v d opposite u w l fewer s.linked.source)
      (drawn_down less v d opposite u w l fewer twinned s.drawn)
      plane
      (rings_shrink less v d opposite u w l fewer s shrunk plane)

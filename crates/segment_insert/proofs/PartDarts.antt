-- What runs along an open part: a dart from its one end along its line leads to its other end.
use Rattle.std.proofs.Common.{◌≡◌, ◌≢◌, true, false, not, Some, pos, sym, ap, ap₂, ◌∙◌, subst}
use Rattle.std.proofs.lemmas.Bool.{false≢true}
use Rattle.exact_plane.specs.Direction.{IsOneDirection}
use Rattle.exact_plane.specs.Line.{Line, IsOn}
use Rattle.exact_plane.specs.Point.{Point}
use Rattle.plane_graphs.specs.Graph.{Edge}
use Rattle.plane_graphs.specs.Line.{precedes}
use Rattle.plane_graphs.proofs.Lists.{and_in, clash}
use Rattle.plane_graphs.proofs.Order.{Lt, Tri, less, same, more, tri, lt_out, lt_in, lt_never, lt_both}
use Rattle.slab_faces.proofs.InnerPoints.{before_in, no_sign}
use Rattle.slab_laws.specs.declared.names.DartId.{DartId}
use Rattle.slab_laws.specs.declared.names.VertexId.{VertexId}
use Rattle.slab_laws.specs.Skeleton.{inside, side}
use Rattle.slab_laws.specs.Sound.{IsGraphSound, edge_in, dart_in}
use Rattle.slab_laws.specs.View.{View, HasVertex, HasDart, IsOutOf, point_in, source_in, twin_in, target_in, line_in}
use Rattle.rotation_order.specs.Directions.{dart_direction}
use Rattle.sound_changes.proofs.SplitCases.{edge_of_ends, ahead_by}
use Rattle.sound_changes.proofs.Collinear.{flat_on_line, one_line}
use Rattle.sound_changes.proofs.KnownNames.{point_known, edge_known}
use Rattle.arr_notes.specs.Curves.{is_forward}
use Rattle.sound_views.proofs.GraphDrawn.{twins_are_directed}
use Rattle.rotation_order.specs.declared.places.Place.{Place}
use Rattle.rotation_order.specs.declared.places.Place.TheVariants.{Between, Along}
use Rattle.rotation_order.specs.Place.{direction_in, IsPlaceOf}
use Rattle.sound_changes.specs.EdgePlaces.{dart_between, IsPlaceFor}
use Rattle.edge_link.specs.EdgePlaces.{IsAlongEdge, IsPlaceOfEdge}
use Rattle.edge_link.proofs.DirectionPlaces.{place_of_edge}
use Rattle.segment_insert.specs.Parts.{IsOpenPart}
use Rattle.segment_insert.proofs.Lines.{own_way}
use Rattle.integers.proofs.Tests.{not_true}

-- no vertex is on a dart's line strictly between its ends
module _ (v : View) (s : IsGraphSound v) (e : DartId) (has : HasDart v e) (f : is_forward v e ≡ true) where
  abbrev low : Point
  low = point_in v (source_in v e)

  abbrev high : Point
  high = point_in v (target_in v e)

  pub starts_at : HasVertex v (source_in v e)
  starts_at = s.linked.source e has

  pub ends_at : HasVertex v (target_in v e)
  ends_at = s.linked.source (twin_in v e) (s.twinned.has e has)

  pub none_within : (x : VertexId) → HasVertex v x → IsOn (line_in v e) (point_in v x) → Lt low (point_in v x) → Lt (point_in v x) high → ⊥
  none_within x hx on a b =
      let t = point_in v x in
      let E : Edge = edge_of_ends low high in
      let q : edge_in v e ≡ E = ap (λ d. d.edge) (ahead_by low high f) in
      let z : side E t ≡ pos 0 = flat_on_line (line_in v e) low high t (s.drawn.line e has).runs (s.drawn.starts e has) (s.drawn.ends e has) on in
      let i : inside E t ≡ true = and_in (and_in (before_in low t (s.drawn.proper _ starts_at) (s.drawn.proper x hx) a) (before_in t high (s.drawn.proper x hx) (s.drawn.proper _ ends_at) b)) (no_sign (side E t) z) in
      false≢true (sym (s.plane.clear (edge_in v e) t (edge_known v e has) (point_known v s.named x hx)) ∙ subst (λ z. inside z t ≡ true) (sym q) i)

module _ (v : View) (s : IsGraphSound v) (l : Line) (u w : VertexId) (o : IsOpenPart v l u w) where
  abbrev p : Point
  p = point_in v u

  abbrev q : Point
  q = point_in v w

  pub two_ends : u ≢ w
  two_ends e = lt_never (lt_out p p (subst (λ z. precedes p (point_in v z) ≡ true) (sym e) o.forward))

  pub backward : precedes q p ≡ false
  backward = not_true (precedes q p) (λ e. lt_both (lt_out p q o.forward) (lt_out q p e))

  module _ (e : DartId) (has : HasDart v e) (f : is_forward v e ≡ true) (on : line_in v e ≡ l) where
    forward_to_end : source_in v e ≡ u → target_in v e ≡ w
    forward_to_end at =
        let t = target_in v e in
        let first : Lt p (point_in v t) = subst (λ z. Lt (point_in v z) (point_in v t)) at (lt_out _ _ f) in
        by (tri (point_in v t) q) first
      where
        by : Tri (point_in v (target_in v e)) q → Lt p (point_in v (target_in v e)) → target_in v e ≡ w
        by (less k) first = clash (lt_in k) (o.none_between (target_in v e) (ends_at v s e has f) (subst (λ z. IsOn z (point_in v (target_in v e))) on (s.drawn.ends e has)) (lt_in first))
        by (same k) first = s.drawn.points (target_in v e) w (ends_at v s e has f) o.end k
        by (more k) first = absurd (none_within v s e has f w o.end (subst (λ z. IsOn z q) (sym on) o.through_end) (subst (λ z. Lt (point_in v z) q) (sym at) (lt_out p q o.forward)) k)

    forward_from_start : target_in v e ≡ w → source_in v e ≡ u
    forward_from_start at =
        let t = source_in v e in
        let last : Lt (point_in v t) q = subst (λ z. Lt (point_in v t) (point_in v z)) at (lt_out _ _ f) in
        by (tri (point_in v t) p) last
      where
        by : Tri (point_in v (source_in v e)) p → Lt (point_in v (source_in v e)) q → source_in v e ≡ u
        by (less k) last = absurd (none_within v s e has f u o.start (subst (λ z. IsOn z p) (sym on) o.through_start) k (subst (λ z. Lt p (point_in v z)) (sym at) (lt_out p q o.forward)))
        by (same k) last = s.drawn.points (source_in v e) u (starts_at v s e has f) o.start k
        by (more k) last = clash (lt_in last) (o.none_between (source_in v e) (starts_at v s e has f) (subst (λ z. IsOn z (point_in v (source_in v e))) on (s.drawn.starts e has)) (lt_in k))

  pub along_forward : (d : DartId) → IsAlongEdge v u l (dart_between p q) d → is_forward v d ≡ true
  along_forward d a = a.way ∙ o.forward

  pub along_ends : (d : DartId) → IsAlongEdge v u l (dart_between p q) d → target_in v d ≡ w
  along_ends d a = forward_to_end d a.out.0 (along_forward d a) a.line a.out.1

  -- a dart back from the upper end along the line leads to the lower one
  pub back_ends : (d : DartId) → IsAlongEdge v w l (dart_between q p) d → target_in v d ≡ u
  back_ends d a =
      let t = twin_in v d in
      let has = a.out.0 in
      let f : is_forward v t ≡ true = twins_are_directed v s d has ∙ ap not (a.way ∙ backward) in
      forward_from_start t (s.twinned.has d has) f (s.twinned.line d has ∙ a.line) (ap (source_in v) (s.twinned.back d has) ∙ a.out.1)

  -- the edge between both ends is along the line
  between_line : (d : DartId) → IsOutOf v u d → target_in v d ≡ w → line_in v d ≡ l
  between_line d out at =
      let has = out.0 in
      let m = line_in v d in
      one_line m l p q (s.drawn.line d has) o.line (s.drawn.proper u o.start) (s.drawn.proper w o.end) (lt_out p q o.forward)
      (subst (λ z. IsOn m (point_in v z)) out.1 (s.drawn.starts d has)) (subst (λ z. IsOn m (point_in v z)) at (s.drawn.ends d has)) o.through_start o.through_end

  between_way : (d : DartId) → IsOutOf v u d → target_in v d ≡ w → IsOneDirection (direction_in v d) (dart_direction l true)
  between_way d out at =
      let f : (dart_in v d).forward ≡ true = ap₂ (λ x y. precedes (point_in v x) (point_in v y)) out.1 at ∙ o.forward in
      subst (λ z. IsOneDirection z (dart_direction l true)) (sym (ap₂ dart_direction (between_line d out at) f)) (own_way l true o.line)

  pub none_between_darts : (a b : DartId) → IsPlaceOf v u (dart_direction l true) (Between a b) → (d : DartId) → IsOutOf v u d → target_in v d ≢ w
  none_between_darts a b k d out at = k.free d out (between_way d out at)

  -- ---- the place of the line's direction at the lower end, and that of its opposite at the upper
  pub placed_on : (k : Place) → IsPlaceOf v u (dart_direction l true) k → IsPlaceOfEdge v u l (dart_between p q) k
  placed_on k h = place_of_edge v s u w l o.start o.end two_ends o.line o.through_start o.through_end k (subst (λ b. IsPlaceOf v u (dart_direction l b) k) (sym o.forward) h)

  placed_back : (k : Place) → IsPlaceOf v w (dart_direction l false) k → IsPlaceOfEdge v w l (dart_between q p) k
  placed_back k h = place_of_edge v s w u l o.end o.start (λ e. two_ends (sym e)) o.line o.through_end o.through_start k (subst (λ b. IsPlaceOf v w (dart_direction l b) k) (sym backward) h)

  pub back_between : (a b : DartId) → IsPlaceOf v w (dart_direction l false) (Between a b) → IsPlaceFor v w (Some a) (dart_between q p)
  back_between a b h = placed_back (Between a b) h

  pub never_back : (d : DartId) → ((d : DartId) → IsOutOf v u d → target_in v d ≢ w) → IsPlaceOf v w (dart_direction l false) (Along d) → ⊥
  never_back d none h =
      let a = placed_back (Along d) h in
      none (twin_in v d) (s.twinned.has d a.out.0, back_ends d a) (ap (source_in v) (s.twinned.back d a.out.0) ∙ a.out.1)

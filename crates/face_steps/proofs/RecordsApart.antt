-- The changes of the records give what the laws of tables ask of the views.
use Rattle.std.proofs.Common.{◌≡◌, ◌≢◌, Bool, true, Option, Some, refl, sym, ap, ◌∙◌, subst, ◌⊎◌, inl, inr}
use Rattle.exact_plane.specs.Line.{Line}
use Rattle.exact_plane.specs.Point.{Point}
use Rattle.slab_laws.specs.declared.names.DartId.{DartId}
use Rattle.slab_laws.specs.declared.names.VertexId.{VertexId}
use Rattle.slab_laws.specs.Darts.{Dart, darts, source}
use Rattle.slab_laws.specs.Rotation.{twin, earlier, next}
use Rattle.slab_laws.specs.Skeleton.{IsPlaneSkeleton}
use Rattle.slab_laws.specs.Sound.{skeleton_of, dart_in, IsGraphSound}
use Rattle.slab_laws.specs.View.{View, HasVertex, HasDart, point_in, source_in, target_in, twin_in, next_in, line_in}
use Rattle.arr_notes.specs.AfterAround.{after_in}
use Rattle.arr_notes.specs.Step.{add_edge, remove_edge}
use Rattle.arr_notes.specs.ViewChanges.{with_vertex, without_vertex, with_pin}
use Rattle.arr_notes.proofs.VertexReads.{vertex_is_added, vertex_is_removed, pin_is_set}
use Rattle.sound_views.proofs.NamedDarts.{names_are_darts, source_by, twin_by}
use Rattle.sound_views.proofs.RoundTurned.{twin_twice}
use Rattle.rotation_order.specs.RingOrder.{sooner_by}
use Rattle.rotation_order.specs.VertexRings.{IsBare}
use Rattle.sound_changes.specs.ChangeFits.{IsNewVertex}
use Rattle.sound_changes.specs.EdgePlaces.{FitsAddedEdge, IsPlaceFor, dart_between}
use Rattle.sound_changes.specs.NextLaws.{ComesBetween}
use Rattle.sound_changes.proofs.EdgeAdded.{more, added}
use Rattle.sound_changes.proofs.EdgeRemoved.{fewer, removed}
use Rattle.sound_changes.proofs.NextDarts.{next_with_one_more_edge}
use Rattle.sound_changes.proofs.RingsKept.{way_new}
use Rattle.sound_changes.proofs.VertexAdded.{vertex_more, pinned}
use Rattle.sound_changes.proofs.VertexRemoved.{vertex_fewer}
use Rattle.face_steps.specs.EdgePairs.{IsEdgeApart}
use Rattle.face_steps.specs.SameGraph.{IsSameGraph}
use Rattle.face_steps.specs.VertexSteps.{IsVertexApart}
use Rattle.face_steps.proofs.EdgePairs.{up, sorted, drawn_old, is_dart, is_more, twins, start_is, start_cases}

-- the dart that comes in before a place is followed by the new dart
module _ (v : View) (d m : DartId) (u w : VertexId) (at_u at_w : Option DartId) (l : Line) (s : IsGraphSound v) (f : FitsAddedEdge v d m u w at_u at_w l) (plane : IsPlaneSkeleton (skeleton_of (add_edge v d m u w at_u at_w l))) where
  abbrev V : View
  V = add_edge v d m u w at_u at_w l

  pub edge_added : IsEdgeApart v (add_edge v d m u w at_u at_w l) d m u w l
  edge_added = record { sound = s; sound_more = added v d m u w at_u at_w l s f plane; more = more v d m u w at_u at_w l s f }

  way : dart_in V d ≡ dart_between (point_in v u) (point_in v w)
  way = way_new v V d m u w l edge_added.more

  apart : point_in v u ≡ point_in v w → ⊥
  apart q = f.two_ends (s.drawn.points u w f.start f.end q)

  -- a place for a dart that is drawn as y goes
  module _ (z : VertexId) (a : DartId) (y : DartId) (Y : HasDart V y) (edge : (dart_in V y).edge ≡ (dart_in V d).edge) (place : IsPlaceFor v z (Some a) (dart_in V y)) (at : source (dart_in V y) ≡ point_in v z) where
    T : HasDart v (twin_in v a)
    T = s.twinned.has a place.0.0

    comes : ComesBetween (skeleton_of v) (dart_in v (twin_in v a)) (dart_in V y)
    comes =
        let back : twin (dart_in v (twin_in v a)) ≡ dart_in v a = ap twin (names_are_darts.twin v a s place.0.0) ∙ twin_twice (dart_in v a) in
        let on : next (darts (skeleton_of v)) (dart_in v (twin_in v a)) ≡ dart_in v (after_in v a) = sym (names_are_darts.next v (twin_in v a) s T) in
        record {
          leaves = at ∙ ap (point_in v) (sym place.0.1 ∙ ap (source_in v) (sym (s.twinned.back a place.0.0))) ∙ sym (names_are_darts.target v (twin_in v a) s T);
          met = subst (λ (z : Dart × Dart). sooner_by earlier z.0 (dart_in V y) z.1 ≡ true) (λ i. (sym back i, sym on i)) place.1;
        }

    followed_by : HasDart v (twin_in v a) × (next_in V (twin_in v a) ≡ y)
    followed_by =
        let e = edge_added in
        let k = twin_in v a in
        let K = up v V d m u w l e k T in
        let g = next_with_one_more_edge (skeleton_of v) (skeleton_of V) (dart_in V d).edge s.plane plane (is_more v V d m u w l e).more in
        let n = g.between (dart_in v k) (dart_in V y) (is_dart v V d m u w l e k T) edge comes in
        (T, e.sound_more.turned.differ (next_in V k) y (e.sound_more.linked.has k K) Y (names_are_darts.next V k e.sound_more K ∙ ap (next (darts (skeleton_of V))) (drawn_old v V d m u w l e k T) ∙ n))

  pub first_place : (a : DartId) → at_u ≡ Some a → HasDart v (twin_in v a) × (next_in (add_edge v d m u w at_u at_w l) (twin_in v a) ≡ d)
  first_place a q =
      followed_by u a d edge_added.more.first refl
      (subst (IsPlaceFor v u (Some a)) (sym way) (subst (λ z. IsPlaceFor v u z (dart_between (point_in v u) (point_in v w))) q f.place_at_start)) (start_is v V d m u w l edge_added)

  turned : dart_between (point_in v w) (point_in v u) ≡ dart_in V m
  turned = twin_by (point_in v u) (point_in v w) apart ∙ ap twin (sym way) ∙ sym (twins v V d m u w l edge_added)

  pub second_place : (b : DartId) → at_w ≡ Some b → HasDart v (twin_in v b) × (next_in (add_edge v d m u w at_u at_w l) (twin_in v b) ≡ m)
  second_place b q =
      followed_by w b m edge_added.more.second (ap (λ (z : Dart). z.edge) (twins v V d m u w l edge_added))
      (subst (IsPlaceFor v w (Some b)) turned (subst (λ z. IsPlaceFor v w z (dart_between (point_in v w) (point_in v u))) q f.place_at_end))
      (ap source (sym turned) ∙ source_by (point_in v w) (point_in v u))

-- ---- an edge that goes
module _ (v : View) (d : DartId) (s : IsGraphSound v) (has : HasDart v d) where
  abbrev less : View
  less = remove_edge v d (twin_in v d)

  pub edge_removed : IsEdgeApart (remove_edge v d (twin_in v d)) v d (twin_in v d) (source_in v d) (target_in v d) (line_in v d)
  edge_removed = record { sound = removed v d s has; sound_more = s; more = fewer v d s has }

-- the dart before one that goes
pub before_it : (v w : View) (x y : DartId) (p q : VertexId) (l : Line) (k : DartId) → IsEdgeApart v w x y p q l → HasDart w k → next_in w k ≡ x → ((k ≡ y) × IsBare v p) ⊎ HasDart v k
before_it v w x y p q l k m K n = elim (start_cases v w x y p q l m) [
  | inl none ↦ elim (sorted v w x y p q l m k K) [
    | inl o ↦ inr o
    | inr r ↦ elim r [ inl e ↦ absurd (itself (sym (ap (next_in w) e) ∙ n)) | inr e ↦ inl (e, none) ]
  ]
  | inr c ↦ inr (subst (HasDart v) (m.sound_more.linked.once c.0 k (up v w x y p q l m c.0 c.1) K (c.2 ∙ sym n)) c.1)
]
  where
    -- a dart doesn't follow itself, for it would end where it begins
    itself : next_in w x ≡ x → ⊥
    itself e = m.more.two_ends (sym m.more.source_first ∙ ap (source_in w) (sym e) ∙ m.sound_more.linked.joins x m.more.first ∙ ap (source_in w) m.more.twin_first ∙ m.more.source_second)

-- ---- vertices and pins
pub vertex_added : (v : View) (u : VertexId) (p : Point) → IsGraphSound v → IsNewVertex v u p → IsPlaneSkeleton (skeleton_of (with_vertex v u p)) → IsVertexApart v (with_vertex v u p) u p
vertex_added v u p s n plane =
    let m = vertex_is_added v u p in
    let other : (z : VertexId) → HasVertex v z → z ≢ u = λ z o e. n.name (subst (HasVertex v) e o) in
    record {
      sound = s;
      sound_more = vertex_more v u p s n plane;
      new = n.name;
      has = m.has;
      point = m.point;
      up = λ z o. let r = m.others z (other z o) in (r.has o, r.point);
      down = λ z o e. (m.others z e).had o;
      darts = m.darts;
    }

pub vertex_removed : (v : View) (u : VertexId) → IsGraphSound v → HasVertex v u → IsBare v u → IsVertexApart (without_vertex v u) v u (point_in v u)
vertex_removed v u s has bare =
    let m = vertex_is_removed v u s.named in
    let other : (z : VertexId) → HasVertex (without_vertex v u) z → z ≢ u = λ z o e. m.gone (subst (HasVertex (without_vertex v u)) e o) in
    record {
      sound = vertex_fewer v u s bare;
      sound_more = s;
      new = m.gone;
      has = has;
      point = refl;
      up = λ z o. let r = m.others z (other z o) in (r.had o, sym r.point);
      down = λ z o e. (m.others z e).has o;
      darts = λ k. let r = m.darts k in record { has = r.had; had = r.has; source = sym r.source; twin = sym r.twin; next = sym r.next; line = sym r.line };
    }

pub same_but_pin : (v : View) (u : VertexId) (b : Bool) → IsGraphSound v → IsSameGraph v (with_pin v u b)
same_but_pin v u b s =
    let m = pin_is_set v u b in
    record { sound = s; sound_more = pinned v u b s; vertices = λ z. (m.has z, m.had z); points = m.point; darts = m.darts }

-- A point that a vertex sees is in the face at the place of its direction: with the edge between both, the new edge has one cycle on both sides, and this is that of the dart before the place.
-- g is the graph, m has the point as a vertex, and h the edge too.
use Rattle.std.proofs.Common.{◌≡◌, ◌≢◌, ◌↔◌, ◌⊎◌, ◌+◌, Bool, true, false, cond, Some, None, refl, sym, ap, ◌∙◌, subst, inl, inr, ◌∷◌}
use Rattle.std.specs.Prelude.{not}
use Rattle.std.specs.List.{Contains, count_by}
use Rattle.std.proofs.lemmas.List.Sums.{sum_by-cons}
use Rattle.integers.proofs.Tests.{not_not}
use Rattle.exact_plane.specs.Point.{Point}
use Rattle.exact_plane.specs.PointOrder.{point_cmp}
use Rattle.plane_graphs.specs.Ascending.{Member, IsAscending}
use Rattle.plane_graphs.specs.Graph.{Edge, edge_cmp}
use Rattle.plane_graphs.specs.Line.{IsProper}
use Rattle.plane_graphs.proofs.Ascending.{to_member, from_member}
use Rattle.slab_laws.specs.declared.names.DartId.{DartId}
use Rattle.slab_laws.specs.declared.names.VertexId.{VertexId}
use Rattle.slab_laws.specs.declared.slab_cell.SlabCell.{SlabCell}
use Rattle.slab_laws.specs.Cycles.{left_of_dart}
use Rattle.slab_laws.specs.Darts.{Dart, darts, source, target, start}
use Rattle.slab_laws.specs.Faces.{cells}
use Rattle.slab_laws.specs.Meets.{SameFace}
use Rattle.slab_laws.specs.Rotation.{twin, next, earlier}
use Rattle.slab_laws.specs.Skeleton.{Skeleton, IsPlaneSkeleton, same_point}
use Rattle.slab_laws.specs.Slabs.{left_cell}
use Rattle.slab_laws.specs.Sound.{skeleton_of, dart_in, IsGraphSound}
use Rattle.slab_laws.specs.View.{View, HasVertex, point_in, source_in, twin_in}
use Rattle.slab_faces.proofs.ListedCells.{dart_cell}
use Rattle.slab_faces.proofs.Member.{member_in}
use Rattle.slab_faces.proofs.Sets.{set_cons}
use Rattle.slab_faces.proofs.Shift.{same_sum}
use Rattle.slab_faces.proofs.Turns.{face_at, face_trans, face_sym, member_cases}
use Rattle.slab_faces.proofs.WallsLemmas.{cell_there}
use Rattle.sound_views.proofs.NamedDarts.{names_are_darts, source_by, target_by}
use Rattle.rotation_order.specs.RingOrder.{sooner_by}
use Rattle.rotation_order.specs.VertexRings.{IsBare}
use Rattle.sound_changes.specs.EdgePlaces.{dart_between, IsPlaceFor}
use Rattle.sound_changes.specs.NextLaws.{IsDartOf, IsBareEnd, ComesBetween}
use Rattle.sound_changes.proofs.KnownNames.{point_known, edge_known, points_proper, points_ascend, edges_ascend}
use Rattle.face_changes.specs.FacesByPairs.{beside, round}
use Rattle.face_changes.specs.OneMoreEdge.{IsOneMoreEdge, LiesIn}
use Rattle.face_changes.specs.OneMoreVertex.{HasOneMoreVertex, widened}
use Rattle.face_changes.proofs.LinkedCycles.{dart_there}
use Rattle.face_changes.proofs.OneMoreEdge.{one_kind_each, cells_with_one_more_edge, sides_of_one_more_edge, cycles_with_one_more_edge}
use Rattle.face_changes.proofs.OneMoreVertex.{one_more_vertex}
use Rattle.face_steps.specs.FaceAhead.{IsSeenFrom, FacesAhead}
use Rattle.face_steps.proofs.AheadDrawn.{points, edges, new, point_out, point_in as point_there, edge_out, edge_in as edge_there, points_ascend as points_up_still, plane_with_edge, plane_with_point}
use Rattle.face_steps.proofs.Counted.{in_front, behind, point_set}
use Rattle.face_steps.proofs.LoneDarts.{lone_dart}

module _ (g : Skeleton) (points_up : IsAscending point_cmp g.vertices) (edges_up : IsAscending edge_cmp g.edges) (proper : (x : Point) → Member x g.vertices → IsProper x) (plane : IsPlaneSkeleton g) (q p : Point) (Q : Member q g.vertices) (P : IsProper p) (seen : IsSeenFrom g q p) where
  abbrev m : Skeleton
  m = record { vertices = points g points_up edges_up proper plane q p Q P seen; edges = g.edges }

  abbrev h : Skeleton
  h = record { vertices = m.vertices; edges = edges g points_up edges_up proper plane q p Q P seen }

  -- the dart from q to p
  abbrev x : Dart
  x = dart_between q p

  plane_m : IsPlaneSkeleton m
  plane_m = plane_with_point g points_up edges_up proper plane q p Q P seen

  plane_h : IsPlaneSkeleton h
  plane_h = plane_with_edge g points_up edges_up proper plane q p Q P seen

  no_vertex : Member p g.vertices → ⊥
  no_vertex = new g points_up edges_up proper plane q p Q P seen

  apart : q ≡ p → ⊥
  apart e = no_vertex (subst (λ t. Member t g.vertices) e Q)

  -- ---- one more vertex
  points_are : (t : Point) → Contains m.vertices t ↔ (Contains g.vertices t ⊎ (t ≡ p))
  points_are t = (
    λ c. elim (point_out g points_up edges_up proper plane q p Q P seen t (to_member m.vertices t c)) [ inl e ↦ inr e | inr k ↦ inl (from_member g.vertices t k) ],
    λ c. from_member m.vertices t (point_there g points_up edges_up proper plane q p Q P seen t (elim c [ inl k ↦ inr (to_member g.vertices t k) | inr e ↦ inl e ])),
  )

  counts : (t : Point → Bool) → count_by t m.vertices ≡ cond (t p) 1 0 + count_by t g.vertices
  counts t =
      same_sum same_point (λ z. cond (t z) 1 0) m.vertices (p ∷ g.vertices)
      (point_set m.vertices (points_up_still g points_up edges_up proper plane q p Q P seen)) (set_cons same_point p g.vertices (point_set g.vertices points_up) (λ c. no_vertex (to_member g.vertices p c)))
      (λ z c. elim ((points_are z).0 c) [ inl k ↦ behind p g.vertices z k | inr e ↦ subst (Contains (p ∷ g.vertices)) (sym e) (in_front p g.vertices) ])
      (λ z c. (points_are z).1 (elim (member_cases p g.vertices z c) [ inl e ↦ inr (sym e) | inr k ↦ inl k ]))
      ∙ sum_by-cons (λ z. cond (t z) 1 0) p g.vertices

  one_vertex : HasOneMoreVertex g m p
  one_vertex = record { plane = plane; plane_more = plane_m; edges = refl; vertices = points_are; counts = counts }

  -- what is in one face with the point's cell there was so without it
  down : (c : SlabCell) → Contains (cells m) c → SameFace m c (left_cell m p) → SameFace g (widened g p c) (left_cell g p)
  down c C s =
      face_trans g _ _ _ ((one_more_vertex.faces g m p c (left_cell m p) one_vertex C (member_in (cells m) _ (cell_there m p plane_m P.positive))).0 s)
      (face_at g _ _ (one_more_vertex.left g m p p one_vertex P.positive))

  -- ---- one more edge
  start_is : source x ≡ q
  start_is = source_by q p

  end_is : source (twin x) ≡ p
  end_is = target_by q p

  start_there : (d : Dart) → IsDartOf g d → Member (source d) g.vertices
  start_there d D = to_member g.vertices (source d) (by d.forward)
    where
      by : (b : Bool) → Contains g.vertices (start d.edge b)
      by true = plane.lower_in d.edge D
      by false = plane.upper_in d.edge D

  none_at_end : (d : Dart) → IsDartOf g d → source d ≡ p → ⊥
  none_at_end d D e = no_vertex (subst (λ t. Member t g.vertices) e (start_there d D))

  bare_end : IsBareEnd m (twin x)
  bare_end d D e = none_at_end d D (e ∙ end_is)

  fresh : ¬ Contains g.edges x.edge
  fresh c = none_at_end (twin x) c end_is

  is_more : IsOneMoreEdge m h x.edge
  is_more = record {
    plane = plane_m;
    plane_more = plane_h;
    more = record {
      vertices = refl;
      fresh = fresh;
      edges = λ f. (
        λ c. elim (edge_out g points_up edges_up proper plane q p Q P seen f (to_member h.edges f c)) [ inl e ↦ inr e | inr k ↦ inl (from_member g.edges f k) ],
        λ c. from_member h.edges f (edge_there g points_up edges_up proper plane q p Q P seen f (elim c [ inl k ↦ inr (to_member g.edges f k) | inr e ↦ inl e ])),
      );
    };
  }

  q_there : Contains m.vertices q
  q_there = (points_are q).1 (inl (from_member g.vertices q Q))

  p_there : Contains m.vertices p
  p_there = (points_are p).1 (inr refl)

  -- where an end has no dart without the edge, what is left of the new dart out of it is what is round it
  lone : (y : Dart) → y.edge ≡ x.edge → (t : Point) → Contains m.vertices t → source y ≡ t → target y ≢ t → ((d : Dart) → IsDartOf g d → source d ≢ t) → SameFace h (left_of_dart h y) (left_cell h t)
  lone y along t T at other none =
      lone_dart h t y.edge y.forward plane_h T (record { in' = (is_more.more.edges y.edge).1 (inr along); at = at }) (λ c r o.
      elim ((is_more.more.edges c).0 o.in') [
        | inl C ↦ absurd (none (record { edge = c; forward = r }) C o.at)
        | inr e ↦ let z = e ∙ sym along in (z, one_way y.edge y.forward r at other (subst (λ (k : Edge). start k r ≡ t) z o.at))
      ])
    where
      one_way : (k : Edge) (f r : Bool) → start k f ≡ t → start k (not f) ≢ t → start k r ≡ t → r ≡ f
      one_way k true true a b e = refl
      one_way k false false a b e = refl
      one_way k true false a b e = absurd (b e)
      one_way k false true a b e = absurd (b e)

  at_end : SameFace h (left_of_dart h (twin x)) (left_cell h p)
  at_end = lone (twin x) refl p p_there end_is (λ e. apart (sym (ap (start x.edge) (not_not x.forward) ∙ start_is) ∙ e)) none_at_end

  end_lies : LiesIn m h x.edge (left_cell h p) (left_cell m p)
  end_lies = cells_with_one_more_edge.vertex m h x p is_more p_there

  -- ---- the place has a dart before it
  pub at_dart : (a : Dart) → IsDartOf g a → ComesBetween g a x → SameFace g (left_of_dart g a) (left_cell g p)
  at_dart a A between =
      let grown = cycles_with_one_more_edge.grown m h x a is_more A (record { leaves = between.leaves; met = between.met }) bare_end in
      let s = face_trans h _ _ _ (one_kind_each.face h a (twin x) plane_h (sym grown.second)) at_end in
      let t = (sides_of_one_more_edge.one m h x _ _ _ _ is_more (grown.first ∙ sym grown.second) (cells_with_one_more_edge.dart m h x a is_more A) end_lies).0 s in
      subst (λ c. SameFace g c (left_cell g p)) (one_more_vertex.dart g m p a one_vertex A) (down (left_of_dart m a) (member_in (cells m) _ (dart_cell m plane_m a.edge a.forward A)) t)

  -- ---- the vertex has no dart
  pub at_bare : ((d : Dart) → IsDartOf g d → source d ≢ q) → SameFace g (left_cell g q) (left_cell g p)
  at_bare none =
      let hole = cycles_with_one_more_edge.new_hole m h x is_more (λ d D e. none d D (e ∙ start_is)) bare_end in
      let a = lone x refl q q_there start_is (λ e. apart (sym e ∙ end_is)) none in
      let s = face_trans h _ _ _ (face_sym h _ _ a) (face_trans h _ _ _ (one_kind_each.face h x (twin x) plane_h (sym hole.one)) at_end) in
      let t = (sides_of_one_more_edge.one m h x _ _ _ _ is_more (sym hole.one) (cells_with_one_more_edge.vertex m h x q is_more q_there) end_lies).0 s in
      let Q' = (proper q Q).positive in
      subst (λ c. SameFace g c (left_cell g p)) (one_more_vertex.left g m p q one_vertex Q') (down (left_cell m q) (member_in (cells m) _ (cell_there m q plane_m Q')) t)

-- ---- by names
module _ (v : View) (u : VertexId) (p : Point) (s : IsGraphSound v) (has : HasVertex v u) (P : IsProper p) (seen : IsSeenFrom (skeleton_of v) (point_in v u) p) where
  abbrev q : Point
  q = point_in v u

  proper_there : (x : Point) → Member x (skeleton_of v).vertices → IsProper x
  proper_there x k = points_proper v s x (from_member (skeleton_of v).vertices x k)

  vertex_there : Member q (skeleton_of v).vertices
  vertex_there = to_member (skeleton_of v).vertices q (point_known v s.named u has)

  bare_place : IsBare v u → SameFace (skeleton_of v) (left_cell (skeleton_of v) q) (left_cell (skeleton_of v) p)
  bare_place none =
      at_bare (skeleton_of v) (points_ascend v) (edges_ascend v) proper_there s.plane q p vertex_there P seen (λ d D e.
      let r = names_are_darts.there v d s (dart_there (skeleton_of v) d D) in
      none r.0 (r.1, s.drawn.points (source_in v r.0) u (s.linked.source r.0 r.1) has (sym (names_are_darts.source v r.0 s r.1) ∙ ap source r.2 ∙ e)))

  dart_place : (a : DartId) → IsPlaceFor v u (Some a) (dart_between q p) → SameFace (skeleton_of v) (left_of_dart (skeleton_of v) (dart_in v (twin_in v a))) (left_cell (skeleton_of v) p)
  dart_place a place =
      let A = place.0.0 in
      let t = twin_in v a in
      let T = s.twinned.has a A in
      let back : twin_in v t ≡ a = s.twinned.back a A in
      at_dart (skeleton_of v) (points_ascend v) (edges_ascend v) proper_there s.plane q p vertex_there P seen (dart_in v t) (edge_known v t T) (record {
        leaves = source_by q p ∙ sym (names_are_darts.target v t s T ∙ ap (λ z. point_in v (source_in v z)) back ∙ ap (point_in v) place.0.1);
        met = subst (λ d. sooner_by earlier d (dart_between q p) (next (darts (skeleton_of v)) (dart_in v t)) ≡ true) (ap (dart_in v) (sym back) ∙ names_are_darts.twin v t s T)
            (subst (λ d. sooner_by earlier (dart_in v a) (dart_between q p) d ≡ true) (names_are_darts.next v t s T) place.1);
      })

pub faces_ahead : FacesAhead
faces_ahead v f u None p s has P place seen = (round u, (has, place), refl, bare_place v u p s has P seen place)
faces_ahead v f u (Some a) p s has P place seen = (beside (twin_in v a), s.twinned.has a place.0.0, refl, dart_place v u p s has P seen a place)

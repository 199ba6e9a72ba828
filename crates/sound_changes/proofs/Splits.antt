-- What is read of the view with an edge in two, and that it is sound.
use Rattle.std.proofs.Common.{◌≡◌, ◌≢◌, ◌⊎◌, ◌↔◌, true, not, ◌&&◌, ◌==◌, cond, pos, refl, sym, ap, ◌∙◌, subst}
use Rattle.std.specs.List.{Contains}
use lib.Signed.{lt_z}
use Rattle.exact_plane.specs.Point.{Point}
use Rattle.exact_plane.specs.PointOrderLaws.{and_true}
use Rattle.plane_graphs.specs.Graph.{Edge}
use Rattle.plane_graphs.proofs.Crossed.{runs_lt}
use Rattle.plane_graphs.proofs.Lines.{span_runs}
use Rattle.plane_graphs.proofs.Lists.{clash, not_out}
use Rattle.plane_graphs.proofs.Order.{lt_in, lt_out}
use Rattle.rotation_order.specs.EdgeParts.{lower_part, upper_part}
use Rattle.rotation_order.proofs.EdgeCuts.{parted}
use Rattle.rotation_order.proofs.Factors.{zero_between}
use Rattle.slab_laws.specs.declared.names.DartId.{DartId}
use Rattle.slab_laws.specs.declared.names.VertexId.{VertexId}
use Rattle.slab_laws.specs.Skeleton.{IsPlaneSkeleton, inside, side}
use Rattle.slab_laws.specs.Skeleton as counted
use Rattle.slab_laws.specs.Sound.{skeleton_of, edge_in, IsNamed, IsGraphSound}
use Rattle.slab_laws.specs.View.{View, DartRecord, HasVertex, HasDart, point_in, source_in, twin_in, next_in, line_in}
use Rattle.slab_faces.proofs.PlaneGraphs.{comes_runs}
use Rattle.arr_notes.specs.Reads.{IsSameVertex, IsVertexMore, IsRedirected, IsPairMore, IsSourceSet, IsNextSet}
use Rattle.arr_notes.specs.ViewChanges.{with_vertex, with_pair, with_source, redirect}
use Rattle.arr_notes.proofs.DartReads.{next_is_set, source_is_set, darts_are_redirected}
use Rattle.arr_notes.proofs.PairReads.{pair_is_added, names_stay}
use Rattle.arr_notes.proofs.Reading.{dart_number}
use Rattle.arr_notes.proofs.VertexReads.{vertex_is_added}
use Rattle.sound_changes.specs.ChangeFits.{FitsSplit}
use Rattle.sound_changes.specs.SplitLaws.{EdgeInTwoKeepsViewsSound, EdgeInTwoIsDrawn}
use Rattle.arr_notes.specs.Step.{split_edge}
use Rattle.sound_changes.specs.SplitHalves.{IsHalved}
use Rattle.sound_changes.proofs.SplitCases.{edge_of_ends, ahead_by}
use Rattle.sound_changes.proofs.Collinear.{on_line_of_ends}
use Rattle.sound_changes.proofs.SplitDrawn.{points_parted, edges_parted}
use Rattle.sound_changes.proofs.PointInside.{inside_out}
use Rattle.sound_changes.proofs.KnownNames.{point_known, edge_known, points_proper, points_ascend, edges_ascend}
use Rattle.sound_changes.proofs.SplitEdge.{IsFollowed, IsCut, parted_sound}
use Rattle.sound_changes.proofs.PlaneParts.{parted_plane}
use Rattle.integers.proofs.Tests.{other_number, same_number}

pub then_vertex : (a b c : View) (u : VertexId) → IsSameVertex a b u → IsSameVertex b c u → IsSameVertex a c u
then_vertex a b c u x y = record { has = λ k. y.has (x.has k); had = λ k. x.had (y.had k); point = y.point ∙ x.point; pinned = y.pinned ∙ x.pinned }

module _ (v : View) (d : DartId) (w : VertexId) (p : Point) (n m : DartId) (s : IsGraphSound v) (c : FitsSplit v d w p n m) where
  abbrev t : DartId
  t = twin_in v d

  abbrev rn : DartRecord
  rn = record { source = w; twin = m; next = cond ((next_in v d).0 == t.0) m (next_in v d); line = line_in v d }

  abbrev rm : DartRecord
  rm = record { source = source_in v t; twin = n; next = t; line = line_in v d }

  abbrev v1 : View
  v1 = with_vertex v w p

  abbrev v2 : View
  v2 = redirect v1 t m

  abbrev v3 : View
  v3 = with_pair v2 n m rn rm

  abbrev v4 : View
  v4 = with_source v3 t w

  abbrev h : View
  h = split_edge v d w p n m

  x1 : IsVertexMore v v1 w p
  x1 = vertex_is_added v w p

  x2 : IsRedirected v1 v2 t m
  x2 = darts_are_redirected v1 t m

  x3 : IsPairMore v2 v3 n m rn rm
  x3 = pair_is_added v2 n m rn rm c.differ

  x4 : IsSourceSet v3 v4 t w
  x4 = source_is_set v3 t w

  x5 : IsNextSet v4 h d n
  x5 = next_is_set v4 d n

  t_has : HasDart v t
  t_has = s.twinned.has d c.dart

  d_t : d ≢ t
  d_t q = s.twinned.other d c.dart (sym q)

  not_n : (k : DartId) → HasDart v k → k ≢ n
  not_n k o q = c.first (subst (HasDart v) q o)

  not_m : (k : DartId) → HasDart v k → k ≢ m
  not_m k o q = c.second (subst (HasDart v) q o)

  after_1 : (u : VertexId) → IsSameVertex v1 h u
  after_1 u = then_vertex v1 v2 h u (x2.relinked.vertices u) (then_vertex v2 v3 h u (x3.vertices u) (then_vertex v3 v4 h u (x4.vertices u) (x5.relinked.vertices u)))

  old_vertex : (u : VertexId) → u ≢ w → IsSameVertex v h u
  old_vertex u ne = then_vertex v v1 h u (x1.others u ne) (after_1 u)

  not_w : (u : VertexId) → HasVertex v u → u ≢ w
  not_w u o q = c.vertex (subst (HasVertex v) q o)

  has_2 : (k : DartId) → HasDart v k → HasDart v2 k
  has_2 k o = x2.relinked.has k ((x1.darts k).has o)

  has_3 : (k : DartId) → HasDart v k → HasDart v3 k
  has_3 k o = (x3.others k (not_n k o) (not_m k o)).has (has_2 k o)

  has_5 : (k : DartId) → HasDart v3 k → HasDart h k
  has_5 k o = x5.relinked.has k (x4.has k o)

  pub halved : IsHalved v h d t n m w
  halved = record {
    n_new = c.first;
    m_new = c.second;
    n_m = c.differ;
    has_n = has_5 n x3.first.has;
    has_m = has_5 m x3.second.has;
    has_d = c.dart;
    has_t = t_has;
    d_t = d_t;
    twin_d = refl;
    twin_t = s.twinned.back d c.dart;
    has_old = λ k o. has_5 k (has_3 k o);
    had = λ k o nn nm. (x1.darts k).had (x2.relinked.had k ((x3.others k nn nm).had (x4.had k (x5.relinked.had k o))));
    source_n = x5.relinked.source n ∙ (x4.others n (λ q. not_n t t_has (sym q))).source ∙ x3.first.source;
    source_m = x5.relinked.source m ∙ (x4.others m (λ q. not_m t t_has (sym q))).source ∙ x3.second.source;
    source_t = x5.relinked.source t ∙ x4.source (has_3 t t_has);
    source_old = λ k o nt. x5.relinked.source k ∙ (x4.others k nt).source ∙ (x3.others k (not_n k o) (not_m k o)).source ∙ x2.relinked.source k ∙ (x1.darts k).source;
    twin_n = x5.relinked.twin n ∙ x4.twin n ∙ x3.first.twin;
    twin_m = x5.relinked.twin m ∙ x4.twin m ∙ x3.second.twin;
    twin_old = λ k o. x5.relinked.twin k ∙ x4.twin k ∙ (x3.others k (not_n k o) (not_m k o)).twin ∙ x2.relinked.twin k ∙ (x1.darts k).twin;
    line_n = x5.relinked.line n ∙ x4.line n ∙ x3.first.line;
    line_m = x5.relinked.line m ∙ x4.line m ∙ x3.second.line;
    line_old = λ k o. x5.relinked.line k ∙ x4.line k ∙ (x3.others k (not_n k o) (not_m k o)).line ∙ x2.relinked.line k ∙ (x1.darts k).line;
    w_new = c.vertex;
    w_has = (after_1 w).has x1.has;
    vertex_has = λ u o. (old_vertex u (not_w u o)).has o;
    vertex_had = λ u o ne. (old_vertex u ne).had o;
    vertex_point = λ u o. (old_vertex u (not_w u o)).point;
  }

  pub at_w : point_in h w ≡ p
  at_w = (after_1 w).point ∙ x1.point

  next_n : next_in h n ≡ cond ((next_in v d).0 == t.0) m (next_in v d)
  next_n = (x5.others n (λ q. not_n d c.dart (sym q))).next ∙ x4.next n ∙ x3.first.next

  -- the followers of old darts but d, after the redirection
  next_2 : (k : DartId) → HasDart v k → k ≢ d → next_in h k ≡ next_in v2 k
  next_2 k o nd = (x5.others k nd).next ∙ x4.next k ∙ (x3.others k (not_n k o) (not_m k o)).next

  pub followed : IsFollowed v h d t n m
  followed = record {
    after_t = x5.next (x4.has d (has_3 d c.dart));
    after_n = (x5.others m (λ q. not_m d c.dart (sym q))).next ∙ x4.next m ∙ x3.second.next;
    after_m = λ ne. next_n ∙ ap (λ b. cond b m (next_in v d)) (other_number (next_in v d).0 t.0 (dart_number (next_in v d) t ne));
    alone = λ q. next_n ∙ ap (λ z. cond (z.0 == t.0) m (next_in v d)) q ∙ ap (λ b. cond b m (next_in v d)) (same_number t.0);
    to = λ k o nd q. next_2 k o nd ∙ x2.next k ((x1.darts k).has o) ((x1.darts k).next ∙ q);
    same = λ k o nd ne. next_2 k o nd ∙ (x2.others k (λ q. ne (sym (x1.darts k).next ∙ q))).next ∙ (x1.darts k).next;
  }

  named : IsNamed h
  named = (names_stay v4 ((names_stay v3 ((names_stay v2 ((names_stay v1 ((names_stay v s.named).vertex w p)).redirected t m)).pair n m rn rm)).source t w)).next d n

  -- ---- the point inside the edge
  abbrev A : Point
  A = point_in v (source_in v d)

  abbrev B : Point
  B = point_in v (source_in v t)

  pub whole : edge_in v d ≡ edge_of_ends A B
  whole = ap (λ x. x.edge) (ahead_by A B c.forward)

  in_ends : inside (edge_of_ends A B) p ≡ true
  in_ends = subst (λ e. inside e p ≡ true) whole c.inside_edge

  inner : ((counted.precedes A p && counted.precedes p B) ≡ true) × ((not (lt_z (side (edge_of_ends A B) p) (pos 0)) && not (lt_z (pos 0) (side (edge_of_ends A B) p))) ≡ true)
  inner = and_true (counted.precedes A p && counted.precedes p B) (not (lt_z (side (edge_of_ends A B) p) (pos 0)) && not (lt_z (pos 0) (side (edge_of_ends A B) p))) in_ends

  on_edge : side (edge_of_ends A B) p ≡ pos 0
  on_edge =
      let k = and_true (not (lt_z (side (edge_of_ends A B) p) (pos 0))) (not (lt_z (pos 0) (side (edge_of_ends A B) p))) inner.1 in
      zero_between (side (edge_of_ends A B) p) (not_out _ k.0) (not_out _ k.1)

  ordered : (counted.precedes A p ≡ true) × (counted.precedes p B ≡ true)
  ordered = and_true (counted.precedes A p) (counted.precedes p B) inner.0

  pub cut : IsCut v d t p
  cut =
      let a = s.drawn.proper (source_in v d) (s.linked.source d c.dart) in
      let b = s.drawn.proper (source_in v t) (s.linked.source t t_has) in
      record {
        proper = c.proper;
        before = lt_in (runs_lt A p a c.proper (comes_runs A p ordered.0));
        behind = lt_in (runs_lt p B c.proper b (comes_runs p B ordered.1));
        parted = parted (edge_of_ends A B) p a.positive b.positive c.proper.positive in_ends;
        on = on_line_of_ends (line_in v d) A B p (span_runs A B a b (lt_out A B c.forward)) (s.drawn.starts d c.dart) (s.drawn.ends d c.dart) on_edge;
        free = λ u hu q. clash c.inside_edge (s.plane.clear (edge_in v d) p (edge_known v d c.dart) (subst (Contains (skeleton_of v).vertices) q (point_known v s.named u hu)));
      }

  sound_by : IsPlaneSkeleton (skeleton_of h) → IsGraphSound h
  sound_by plane = parted_sound v h d t n m w halved followed s p at_w cut plane named

-- ---- what is drawn
pub split_drawn : EdgeInTwoIsDrawn
split_drawn v d w p n m s c =
    let i = halved v d w p n m s c in
    let k = cut v d w p n m s c in
    let u = whole v d w p n m s c in (
      points_parted v (split_edge v d w p n m) d (twin_in v d) n m w i s.named (named v d w p n m s c) p (at_w v d w p n m s c),
      λ e. subst (λ (x : Edge). Contains (skeleton_of (split_edge v d w p n m)).edges e ↔ ((Contains (skeleton_of v).edges e × (e ≢ x)) ⊎ ((e ≡ lower_part x p) ⊎ (e ≡ upper_part x p)))) (sym u)
          (edges_parted v (split_edge v d w p n m) d (twin_in v d) n m w i s.twinned s.linked.source p (at_w v d w p n m s c) k.before k.behind s.turned.differ e),
    )

-- ---- and that is plane
pub split_sound : EdgeInTwoKeepsViewsSound
split_sound v d w p n m s c =
    let drawn = split_drawn v d w p n m s c in
    let E = edge_known v d c.dart in
    let fine = points_proper v s in
    let i = inside_out (edge_in v d) p (fine (edge_in v d).low (s.plane.lower_in (edge_in v d) E)) (fine (edge_in v d).high (s.plane.upper_in (edge_in v d) E)) c.proper c.inside_edge in
    sound_by v d w p n m s c
    (parted_plane (skeleton_of v) (skeleton_of (split_edge v d w p n m)) (edge_in v d) p s.plane fine (points_ascend (split_edge v d w p n m)) (edges_ascend (split_edge v d w p n m)) E c.proper i drawn.0 drawn.1)

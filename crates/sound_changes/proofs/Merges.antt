-- What is read of the view with two edges in one, that it is sound, and what it draws.
use Rattle.std.proofs.Common.{◌≡◌, ◌≢◌, ◌⊎◌, ◌↔◌, true, not, ◌&&◌, ◌==◌, cond, pos, refl, sym, ap, ap₂, ◌∙◌, subst}
use Rattle.std.specs.List.{Contains}
use lib.Signed.{lt_z}
use Rattle.exact_plane.specs.Line.{side_of}
use Rattle.exact_plane.specs.Point.{Point}
use Rattle.plane_graphs.specs.Graph.{Edge}
use Rattle.plane_graphs.specs.Line.{IsProper, precedes}
use Rattle.plane_graphs.proofs.Lines.{span_runs}
use Rattle.plane_graphs.proofs.Lists.{and_in}
use Rattle.plane_graphs.proofs.Order.{lt_in, lt_out, lt_trans, lt_never}
use Rattle.rotation_order.specs.EdgeParts.{lower_part, upper_part, IsParted}
use Rattle.rotation_order.proofs.EdgeCuts.{parted}
use Rattle.slab_laws.specs.declared.names.DartId.{DartId}
use Rattle.slab_laws.specs.declared.names.VertexId.{VertexId}
use Rattle.slab_laws.specs.Skeleton.{IsPlaneSkeleton, inside, side}
use Rattle.slab_laws.specs.Sound.{skeleton_of, edge_in, edge_between, IsNamed, IsTwinned, IsGraphSound}
use Rattle.slab_laws.specs.View.{View, HasVertex, HasDart, point_in, source_in, twin_in, next_in, target_in, line_in}
use Rattle.slab_faces.proofs.PlaneGraphs.{comes_before}
use Rattle.arr_notes.specs.Reads.{IsSameVertex, IsRedirected, IsSourceSet, IsNextSet, IsPairLess, IsVertexLess}
use Rattle.arr_notes.specs.ViewChanges.{without_pair, with_next, with_source, redirect}
use Rattle.arr_notes.proofs.DartReads.{next_is_set, source_is_set, darts_are_redirected}
use Rattle.arr_notes.proofs.PairReads.{pair_is_removed, names_stay}
use Rattle.arr_notes.proofs.Reading.{dart_number}
use Rattle.arr_notes.proofs.VertexReads.{vertex_is_removed}
use Rattle.arr_notes.specs.Step.{merge_edge}
use Rattle.sound_changes.specs.ChangeFits.{FitsMerge}
use Rattle.sound_changes.specs.SplitLaws.{TwoEdgesInOneKeepViewsSound, TwoEdgesInOneAreDrawn}
use Rattle.sound_changes.specs.SplitHalves.{IsHalved}
use Rattle.sound_changes.proofs.SplitCases.{edge_of_ends, ahead_by}
use Rattle.sound_changes.proofs.Collinear.{flat_on_line}
use Rattle.sound_changes.proofs.SplitDrawn.{points_joined, edges_joined}
use Rattle.sound_changes.proofs.VertexRemoved.{both_ends}
use Rattle.sound_changes.proofs.MergedEdge.{IsRejoined, twinned_back, sourced_back, joined_sound}
use Rattle.sound_changes.proofs.KnownNames.{point_known, edge_known, known_edge, points_proper, points_ascend, edges_ascend}
use Rattle.sound_changes.proofs.PlaneParts.{joined_plane}
use Rattle.sound_changes.proofs.Splits.{then_vertex}
use Rattle.sound_changes.proofs.SplitDirections as ways
use Rattle.integers.proofs.Tests.{other_number, same_number}

module _ (v : View) (w : VertexId) (d n : DartId) (s : IsGraphSound v) (c : FitsMerge v w d n) where
  abbrev t : DartId
  t = twin_in v d

  abbrev m : DartId
  m = twin_in v n

  abbrev nd : DartId
  nd = cond ((next_in v n).0 == m.0) t (next_in v n)

  abbrev v1 : View
  v1 = redirect v m t

  abbrev v2 : View
  v2 = with_source v1 t (source_in v m)

  abbrev v3 : View
  v3 = with_next v2 d nd

  abbrev v4 : View
  v4 = without_pair v3 n m

  abbrev g : View
  g = merge_edge v w d n

  named_3 : IsNamed v3
  named_3 = (names_stay v2 ((names_stay v1 ((names_stay v s.named).redirected m t)).source t (source_in v m))).next d nd

  named_4 : IsNamed v4
  named_4 = (names_stay v3 named_3).pair_less n m

  pub named : IsNamed g
  named = (names_stay v4 named_4).vertex_less w

  x1 : IsRedirected v v1 m t
  x1 = darts_are_redirected v m t

  x2 : IsSourceSet v1 v2 t (source_in v m)
  x2 = source_is_set v1 t (source_in v m)

  x3 : IsNextSet v2 v3 d nd
  x3 = next_is_set v2 d nd

  x4 : IsPairLess v3 v4 n m
  x4 = pair_is_removed v3 n m named_3

  x5 : IsVertexLess v4 g w
  x5 = vertex_is_removed v4 w named_4

  t_has : HasDart v t
  t_has = s.twinned.has d c.first

  m_has : HasDart v m
  m_has = s.twinned.has n c.second

  t_twin : twin_in v t ≡ d
  t_twin = s.twinned.back d c.first

  m_twin : twin_in v m ≡ n
  m_twin = s.twinned.back n c.second

  -- ---- the three points in order
  abbrev A : Point
  A = point_in v (source_in v d)

  abbrev P : Point
  P = point_in v w

  abbrev B : Point
  B = point_in v (source_in v m)

  before : precedes A P ≡ true
  before = subst (λ z. precedes A (point_in v z) ≡ true) c.arrives c.first_forward

  behind : precedes P B ≡ true
  behind = subst (λ z. precedes (point_in v z) B ≡ true) c.leaves c.second_forward

  a_w : source_in v d ≢ w
  a_w q = lt_never (lt_out P P (subst (λ z. precedes (point_in v z) P ≡ true) q before))

  b_w : source_in v m ≢ w
  b_w q = lt_never (lt_out P P (subst (λ z. precedes P (point_in v z) ≡ true) q behind))

  t_n : t ≢ n
  t_n q = lt_never (lt_trans (lt_out A P before) (lt_out P A (subst (λ z. precedes P (point_in v (source_in v z)) ≡ true) (ap (twin_in v) (sym q) ∙ t_twin) behind)))

  t_m : t ≢ m
  t_m q = b_w (ap (source_in v) (sym q) ∙ c.arrives)

  d_n : d ≢ n
  d_n q = a_w (ap (source_in v) q ∙ c.leaves)

  d_m : d ≢ m
  d_m q = t_n (ap (twin_in v) q ∙ m_twin)

  n_m : n ≢ m
  n_m q = b_w (ap (source_in v) (sym q) ∙ c.leaves)

  d_t : d ≢ t
  d_t q = a_w (ap (source_in v) q ∙ c.arrives)

  -- ---- what is read
  down : (k : DartId) → HasDart g k → HasDart v3 k
  down k o = (x4.others k (λ q. x4.first (subst (HasDart v4) q ((x5.darts k).had o))) (λ q. x4.second (subst (HasDart v4) q ((x5.darts k).had o)))).had ((x5.darts k).had o)

  not_n : (k : DartId) → HasDart g k → k ≢ n
  not_n k o q = x4.first (subst (HasDart v4) q ((x5.darts k).had o))

  not_m : (k : DartId) → HasDart g k → k ≢ m
  not_m k o q = x4.second (subst (HasDart v4) q ((x5.darts k).had o))

  had_v : (k : DartId) → HasDart g k → HasDart v k
  had_v k o = x1.relinked.had k (x2.had k (x3.relinked.had k (down k o)))

  has_g : (k : DartId) → HasDart v k → k ≢ n → k ≢ m → HasDart g k
  has_g k o nn nm = (x5.darts k).has ((x4.others k nn nm).has (x3.relinked.has k (x2.has k (x1.relinked.has k o))))

  source_g : (k : DartId) → k ≢ n → k ≢ m → k ≢ t → source_in g k ≡ source_in v k
  source_g k nn nm nt = (x5.darts k).source ∙ (x4.others k nn nm).source ∙ x3.relinked.source k ∙ (x2.others k nt).source ∙ x1.relinked.source k

  source_t : source_in g t ≡ source_in v m
  source_t = (x5.darts t).source ∙ (x4.others t t_n t_m).source ∙ x3.relinked.source t ∙ x2.source (x1.relinked.has t t_has)

  twin_g : (k : DartId) → k ≢ n → k ≢ m → twin_in g k ≡ twin_in v k
  twin_g k nn nm = (x5.darts k).twin ∙ (x4.others k nn nm).twin ∙ x3.relinked.twin k ∙ x2.twin k ∙ x1.relinked.twin k

  line_g : (k : DartId) → k ≢ n → k ≢ m → line_in g k ≡ line_in v k
  line_g k nn nm = (x5.darts k).line ∙ (x4.others k nn nm).line ∙ x3.relinked.line k ∙ x2.line k ∙ x1.relinked.line k

  next_g : (k : DartId) → k ≢ n → k ≢ m → k ≢ d → next_in g k ≡ next_in v1 k
  next_g k nn nm ne = (x5.darts k).next ∙ (x4.others k nn nm).next ∙ (x3.others k ne).next ∙ x2.next k

  next_d : next_in g d ≡ nd
  next_d = (x5.darts d).next ∙ (x4.others d d_n d_m).next ∙ x3.next (x2.has d (x1.relinked.has d c.first))

  to_4 : (u : VertexId) → IsSameVertex v v4 u
  to_4 u = then_vertex v v1 v4 u (x1.relinked.vertices u) (then_vertex v1 v2 v4 u (x2.vertices u) (then_vertex v2 v3 v4 u (x3.relinked.vertices u) (x4.vertices u)))

  vertex_g : (u : VertexId) → u ≢ w → IsSameVertex v g u
  vertex_g u ne = then_vertex v v4 g u (to_4 u) (x5.others u ne)

  not_w : (u : VertexId) → HasVertex g u → u ≢ w
  not_w u o q = x5.gone (subst (HasVertex g) q o)

  pub halved : IsHalved g v d t n m w
  halved = record {
    n_new = λ o. not_n n o refl;
    m_new = λ o. not_m m o refl;
    n_m = n_m;
    has_n = c.second;
    has_m = m_has;
    has_d = has_g d c.first d_n d_m;
    has_t = has_g t t_has t_n t_m;
    d_t = d_t;
    twin_d = twin_g d d_n d_m;
    twin_t = twin_g t t_n t_m ∙ t_twin;
    has_old = had_v;
    had = has_g;
    source_n = c.leaves;
    source_m = sym source_t;
    source_t = c.arrives;
    source_old = λ k o nt. sym (source_g k (not_n k o) (not_m k o) nt);
    twin_n = refl;
    twin_m = m_twin;
    twin_old = λ k o. sym (twin_g k (not_n k o) (not_m k o));
    line_n = sym c.line ∙ sym (line_g d d_n d_m);
    line_m = s.twinned.line n c.second ∙ sym c.line ∙ sym (line_g d d_n d_m);
    line_old = λ k o. sym (line_g k (not_n k o) (not_m k o));
    w_new = x5.gone;
    w_has = subst (HasVertex v) c.leaves (s.linked.source n c.second);
    vertex_has = λ u o. (vertex_g u (not_w u o)).had o;
    vertex_had = λ u o ne. (vertex_g u ne).has o;
    vertex_point = λ u o. sym (vertex_g u (not_w u o)).point;
  }

  pub rejoined : IsRejoined g v d t n m
  rejoined = record {
    after_t = λ ne. next_d ∙ ap (λ b. cond b t (next_in v n)) (other_number (next_in v n).0 m.0 (dart_number (next_in v n) m ne));
    alone = λ q. next_d ∙ ap (λ z. cond (z.0 == m.0) t (next_in v n)) q ∙ ap (λ b. cond b t (next_in v n)) (same_number m.0);
    to = λ k o ne q. next_g k (not_n k o) (not_m k o) ne ∙ x1.next k (had_v k o) q;
    same = λ k o ne nq. next_g k (not_n k o) (not_m k o) ne ∙ (x1.others k nq).next;
  }

  far_w : source_in g t ≢ w
  far_w q = b_w (sym source_t ∙ q)

  only : (k : DartId) → HasDart v k → source_in v k ≡ w → (k ≡ n) ⊎ (k ≡ t)
  only = c.only

  pub twinned_g : IsTwinned g
  twinned_g = twinned_back g v d t n m w halved s far_w only

  pub sourced_g : (k : DartId) → HasDart g k → HasVertex g (source_in g k)
  sourced_g = sourced_back g v d t n m w halved s far_w only

  -- ---- the point between
  same_a : A ≡ point_in g (source_in g d)
  same_a = ap (point_in v) (halved.source_old d halved.has_d d_t) ∙ halved.vertex_point (source_in g d) (sourced_g d halved.has_d)

  same_b : B ≡ point_in g (source_in g t)
  same_b = ap (point_in v) halved.source_m ∙ halved.vertex_point (source_in g t) (sourced_g t halved.has_t)

  pub before_g : precedes (point_in g (source_in g d)) P ≡ true
  before_g = subst (λ z. precedes z P ≡ true) same_a before

  pub behind_g : precedes P (point_in g (source_in g t)) ≡ true
  behind_g = subst (λ z. precedes P z ≡ true) same_b behind

  proper_a : IsProper A
  proper_a = s.drawn.proper (source_in v d) (s.linked.source d c.first)

  proper_p : IsProper P
  proper_p = s.drawn.proper w halved.w_has

  proper_b : IsProper B
  proper_b = s.drawn.proper (source_in v m) (s.linked.source m m_has)

  flat : side (edge_of_ends A B) P ≡ pos 0
  flat =
      flat_on_line (line_in v d) A B P (s.drawn.line d c.first).runs (s.drawn.starts d c.first)
      (ap (λ l. side_of l B) c.line ∙ s.drawn.ends n c.second)
      (ap (λ z. side_of (line_in v d) (point_in v z)) (sym c.arrives) ∙ s.drawn.ends d c.first)

  pub between : inside (edge_of_ends A B) P ≡ true
  between =
      and_in
      (and_in (comes_before A P (span_runs A P proper_a proper_p (lt_out A P before))) (comes_before P B (span_runs P B proper_p proper_b (lt_out P B behind))))
      (ap (λ z. not (lt_z z (pos 0)) && not (lt_z (pos 0) z)) flat)

  parts : IsParted (edge_of_ends (point_in g (source_in g d)) (point_in g (source_in g t))) P
  parts =
      subst (λ z. IsParted (edge_of_ends z (point_in g (source_in g t))) P) same_a
      (subst (λ z. IsParted (edge_of_ends A z) P) same_b (parted (edge_of_ends A B) P proper_a.positive proper_b.positive proper_p.positive between))

  merged : IsPlaneSkeleton (skeleton_of g) → IsGraphSound g
  merged plane = joined_sound g v d t n m w halved s far_w only rejoined P refl before_g behind_g parts plane named

  -- ---- what is drawn
  near_is : edge_in v d ≡ edge_of_ends (point_in g (source_in g d)) P
  near_is = ap (λ x. x.edge) (ways.near_ahead g v d t n m w halved twinned_g sourced_g P refl before_g behind_g)

  far_is : edge_in v n ≡ edge_of_ends P (point_in g (source_in g t))
  far_is = ap (λ x. x.edge) (ways.far_ahead g v d t n m w halved twinned_g sourced_g P refl before_g behind_g)

  pub whole_is : edge_between A B ≡ edge_of_ends (point_in g (source_in g d)) (point_in g (source_in g t))
  whole_is = ap₂ edge_between same_a same_b ∙ ap (λ x. x.edge) (ahead_by (point_in g (source_in g d)) (point_in g (source_in g t)) (ways.ends_ordered g v d t n m w halved twinned_g sourced_g P refl before_g behind_g))

  points_drawn : (q : Point) → Contains (skeleton_of g).vertices q ↔ (Contains (skeleton_of v).vertices q × (q ≢ P))
  points_drawn = points_joined g v d t n m w halved named s.named s.drawn.points

  edges_drawn : (e : Edge) → Contains (skeleton_of g).edges e ↔ ((Contains (skeleton_of v).edges e × (e ≢ edge_in v d) × (e ≢ edge_in v n)) ⊎ (e ≡ edge_between A B))
  edges_drawn e =
      subst (λ (x : Edge). Contains (skeleton_of g).edges e ↔ ((Contains (skeleton_of v).edges e × (e ≢ x) × (e ≢ edge_in v n)) ⊎ (e ≡ edge_between A B))) (sym near_is)
      (subst (λ (x : Edge). Contains (skeleton_of g).edges e ↔ ((Contains (skeleton_of v).edges e × (e ≢ edge_of_ends (point_in g (source_in g d)) P) × (e ≢ x)) ⊎ (e ≡ edge_between A B))) (sym far_is)
      (subst (λ (x : Edge). Contains (skeleton_of g).edges e ↔ ((Contains (skeleton_of v).edges e × (e ≢ edge_of_ends (point_in g (source_in g d)) P) × (e ≢ edge_of_ends P (point_in g (source_in g t)))) ⊎ (e ≡ x))) (sym whole_is)
      (edges_joined g v d t n m w halved twinned_g sourced_g P refl before_g behind_g s.turned.differ e)))

  -- ---- and that is plane
  lower_is : edge_in v d ≡ lower_part (edge_of_ends A B) P
  lower_is = near_is ∙ ap (λ z. edge_of_ends z P) (sym same_a)

  upper_is : edge_in v n ≡ upper_part (edge_of_ends A B) P
  upper_is = far_is ∙ ap (edge_of_ends P) (sym same_b)

  pub straight : edge_between A B ≡ edge_of_ends A B
  straight = ap (λ x. x.edge) (ahead_by A B (lt_in (lt_trans (lt_out A P before) (lt_out P B behind))))

  ends_known : (e : Edge) → Contains (skeleton_of g).edges e → Contains (skeleton_of g).vertices e.low × Contains (skeleton_of g).vertices e.high
  ends_known e k =
      let r = known_edge g e k in
      both_ends (Contains (skeleton_of g).vertices) (precedes (point_in g (source_in g r.0)) (point_in g (target_in g r.0))) (point_in g (source_in g r.0)) (point_in g (target_in g r.0))
      (point_known g named (source_in g r.0) (sourced_g r.0 r.1)) (point_known g named (target_in g r.0) (sourced_g (twin_in g r.0) (twinned_g.has r.0 r.1))) e r.2

  plane : IsPlaneSkeleton (skeleton_of g)
  plane =
      joined_plane (skeleton_of v) (skeleton_of g) (edge_of_ends A B) P s.plane (points_proper v s) (points_ascend g) (edges_ascend g)
      (subst (Contains (skeleton_of v).edges) lower_is (edge_known v d c.first)) (subst (Contains (skeleton_of v).edges) upper_is (edge_known v n c.second))
      (record { after = lt_out A P before; before = lt_out P B behind; on = flat })
      points_drawn
      (λ e. subst (λ (x : Edge). Contains (skeleton_of g).edges e ↔ ((Contains (skeleton_of v).edges e × (e ≢ x) × (e ≢ upper_part (edge_of_ends A B) P)) ⊎ (e ≡ edge_of_ends A B))) lower_is
      (subst (λ (x : Edge). Contains (skeleton_of g).edges e ↔ ((Contains (skeleton_of v).edges e × (e ≢ edge_in v d) × (e ≢ x)) ⊎ (e ≡ edge_of_ends A B))) upper_is
      (subst (λ (x : Edge). Contains (skeleton_of g).edges e ↔ ((Contains (skeleton_of v).edges e × (e ≢ edge_in v d) × (e ≢ edge_in v n)) ⊎ (e ≡ x))) straight (edges_drawn e))))
      ends_known

pub merge_sound : TwoEdgesInOneKeepViewsSound
merge_sound v w d n s c = merged v w d n s c (plane v w d n s c)

pub merge_drawn : TwoEdgesInOneAreDrawn
merge_drawn v w d n s c = (points_drawn v w d n s c, edges_drawn v w d n s c)

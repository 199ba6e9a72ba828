-- What a view with one more edge draws, by the view without it. g and h are the two graphs, X is the dart x as it is drawn.
use Rattle.std.proofs.Common.{◌≡◌, ◌≢◌, Bool, true, false, refl, sym, ap, ◌∙◌, subst, ◌⊎◌, inl, inr}
use Rattle.std.specs.Prelude.{not}
use Rattle.std.specs.List.{Contains}
use Rattle.exact_plane.specs.Line.{Line}
use Rattle.plane_graphs.specs.Ascending.{Member}
use Rattle.plane_graphs.specs.Graph.{Edge}
use Rattle.slab_laws.specs.declared.names.DartId.{DartId}
use Rattle.slab_laws.specs.declared.names.VertexId.{VertexId}
use Rattle.slab_laws.specs.Changes.{IsCell}
use Rattle.slab_laws.specs.Cycles.{left_of_dart}
use Rattle.slab_laws.specs.Darts.{Dart, darts, source, target, IsOut}
use Rattle.slab_laws.specs.FacesSound.{lead_in}
use Rattle.slab_laws.specs.Meets.{SameFace}
use Rattle.slab_laws.specs.Rotation.{twin, next}
use Rattle.slab_laws.specs.Rows.{least_dart_of}
use Rattle.slab_laws.specs.Skeleton.{Skeleton}
use Rattle.slab_laws.specs.Slabs.{left_cell}
use Rattle.slab_laws.specs.Sound.{skeleton_of, dart_in, edge_between}
use Rattle.slab_laws.specs.Subdivision.{first_cell}
use Rattle.slab_laws.specs.View.{View, HasVertex, HasDart, IsOutOf, point_in, source_in, twin_in, next_in}
use Rattle.slab_faces.proofs.NextLemmas.{next_one}
use Rattle.sound_views.proofs.NamedDarts.{names_are_darts}
use Rattle.rotation_order.specs.VertexRings.{IsBare}
use Rattle.sound_changes.specs.EdgePlaces.{IsDrawnMore, dart_between}
use Rattle.sound_changes.specs.NextLaws.{HasEdgeMore, IsDartOf, IsBareEnd, ComesBetween, IsNextWithMore}
use Rattle.sound_changes.proofs.EdgeDrawn.{drawn_more, edge_drawn}
use Rattle.sound_changes.proofs.NextDarts.{next_with_one_more_edge}
use Rattle.sound_changes.proofs.RingsKept.{swapped, up as up_dart, source_old, twin_old, point_same, vertex_up, vertex_down, three, way_old, way_new, not_first, not_second}
use Rattle.face_changes.specs.OneMoreEdge.{IsOneMoreEdge, LiesIn}
use Rattle.face_changes.proofs.LinkedCycles.{dart_there, there_dart}
use Rattle.face_changes.proofs.OneMoreEdge.{cells_with_one_more_edge}
use Rattle.face_changes.proofs.RecordsAfterSplits.{vertex_known}
use Rattle.face_steps.specs.EdgePairs.{IsEdgeApart}
use Rattle.face_steps.proofs.LoneDarts.{lone_dart}

-- seen from the other end
pub turned_round : (v w : View) (x y : DartId) (p q : VertexId) (l : Line) → IsEdgeApart v w x y p q l → IsEdgeApart v w y x q p l
turned_round v w x y p q l m = record { sound = m.sound; sound_more = m.sound_more; more = swapped v w x y p q l m.more }

module _ (v w : View) (x y : DartId) (p q : VertexId) (l : Line) (m : IsEdgeApart v w x y p q l) where
  abbrev pub g : Skeleton
  g = skeleton_of v

  abbrev pub h : Skeleton
  h = skeleton_of w

  abbrev pub X : Dart
  X = dart_in w x

  -- ---- names
  pub up : (k : DartId) → HasDart v k → HasDart w k
  up k o = up_dart v w x y p q l m.more k o

  pub drawn_old : (k : DartId) → HasDart v k → dart_in w k ≡ dart_in v k
  drawn_old k o = way_old v w x y p q l m.more m.sound.twinned k o

  pub sorted : (k : DartId) → HasDart w k → HasDart v k ⊎ (k ≡ x) ⊎ (k ≡ y)
  sorted = three v w x y p q l m.more (λ k. HasDart w k → HasDart v k ⊎ (k ≡ x) ⊎ (k ≡ y)) (λ _. inr (inl refl)) (λ _. inr (inr refl)) (λ k a b o. inl ((m.more.others k a b).had o))

  pub twins : dart_in w y ≡ twin (dart_in w x)
  twins = ap (dart_in w) (sym m.more.twin_first) ∙ names_are_darts.twin w x m.sound_more m.more.first

  pub point_is : (u : VertexId) → point_in w u ≡ point_in v u
  point_is u = point_same v w x y p q l m.more u

  pub vertex_above : (u : VertexId) → HasVertex v u → HasVertex w u
  vertex_above u o = vertex_up v w x y p q l m.more u o

  pub vertex_below : (u : VertexId) → HasVertex w u → HasVertex v u
  vertex_below u o = vertex_down v w x y p q l m.more u o

  pub bare_below : (u : VertexId) → IsBare w u → IsBare v u
  bare_below u none k o = none k (up k o.0, source_old v w x y p q l m.more k o.0 ∙ o.1)

  -- the vertex that x leaves has a dart without the edge, if a dart comes before x
  pub start_dart : (a : DartId) → HasDart v a → next_in w a ≡ x → IsOutOf v p (twin_in v a)
  start_dart a A na =
      let T = m.sound.twinned.has a A in
      (T, sym (source_old v w x y p q l m.more (twin_in v a) T) ∙ ap (source_in w) (sym (twin_old v w x y p q l m.more a A)) ∙ sym (m.sound_more.linked.joins a (up a A)) ∙ ap (source_in w) na ∙ m.more.source_first)

  pub listed : (k : DartId) → HasDart v k → Contains (darts (skeleton_of v)) (dart_in v k)
  listed k o = names_are_darts.known v k m.sound o

  pub is_dart : (k : DartId) → HasDart v k → IsDartOf (skeleton_of v) (dart_in v k)
  is_dart k o = there_dart (skeleton_of v) (dart_in v k) (listed k o)

  pub lead_old : (k : DartId) → HasDart v k → lead_in w k ≡ least_dart_of (skeleton_of w) (dart_in v k)
  lead_old k o = ap (least_dart_of (skeleton_of w)) (drawn_old k o)

  pub lead_second : lead_in w y ≡ least_dart_of (skeleton_of w) (twin (dart_in w x))
  lead_second = ap (least_dart_of (skeleton_of w)) twins

  -- ---- what is drawn
  pub start_is : source (dart_in w x) ≡ point_in v p
  start_is = names_are_darts.source w x m.sound_more m.more.first ∙ ap (point_in w) m.more.source_first ∙ point_is p

  pub end_is : target (dart_in w x) ≡ point_in v q
  end_is = names_are_darts.target w x m.sound_more m.more.first ∙ ap (λ z. point_in w (source_in w z)) m.more.twin_first ∙ ap (point_in w) m.more.source_second ∙ point_is q

  pub has_start : HasVertex v p
  has_start = vertex_below p (subst (HasVertex w) m.more.source_first (m.sound_more.linked.source x m.more.first))

  pub has_end : HasVertex v q
  has_end = vertex_below q (subst (HasVertex w) m.more.source_second (m.sound_more.linked.source y m.more.second))

  apart : point_in v p ≢ point_in v q
  apart e = m.more.two_ends (m.sound.drawn.points p q has_start has_end e)

  -- no old dart goes along the new edge, for it would be one of the new ones
  pub not_along : (k : DartId) → HasDart v k → (dart_in w k).edge ≡ (dart_in w x).edge → ⊥
  not_along k o e = step (dart_in w k).forward (dart_in w x).forward refl refl
    where
      same : (dart_in w k).forward ≡ (dart_in w x).forward → ⊥
      same r = not_first v w x y p q l m.more k o (m.sound_more.turned.differ k x (up k o) m.more.first (λ i. record { edge = e i; forward = r i }))

      against : (dart_in w k).forward ≡ not (dart_in w x).forward → ⊥
      against r = not_second v w x y p q l m.more k o (m.sound_more.turned.differ k y (up k o) m.more.second ((λ i. record { edge = e i; forward = r i }) ∙ sym twins))

      step : (f g : Bool) → (dart_in w k).forward ≡ f → (dart_in w x).forward ≡ g → ⊥
      step true true a b = same (a ∙ sym b)
      step false false a b = same (a ∙ sym b)
      step true false a b = against (a ∙ sym (ap not b))
      step false true a b = against (a ∙ sym (ap not b))

  way : dart_in w x ≡ dart_between (point_in v p) (point_in v q)
  way = way_new v w x y p q l m.more

  not_drawn : Member (edge_between (point_in v p) (point_in v q)) (skeleton_of v).edges → ⊥
  not_drawn k =
      let r = edge_drawn v (edge_between (point_in v p) (point_in v q)) k in
      not_along r.0 r.1 (ap (λ (z : Dart). z.edge) (drawn_old r.0 r.1) ∙ sym r.2 ∙ sym (ap (λ (z : Dart). z.edge) way))

  drawn : IsDrawnMore v w (edge_between (point_in v p) (point_in v q))
  drawn = drawn_more v w x y p q l m.more m.sound.twinned apart not_drawn

  pub is_more : IsOneMoreEdge (skeleton_of v) (skeleton_of w) (dart_in w x).edge
  is_more = record {
    plane = m.sound.plane;
    plane_more = m.sound_more.plane;
    more = subst (λ (z : Dart). HasEdgeMore (skeleton_of v) (skeleton_of w) z.edge) (sym way) (record { vertices = drawn.vertices; fresh = drawn.fresh; edges = drawn.edges });
  }

  -- ---- who follows whom
  goes : IsNextWithMore (skeleton_of v) (skeleton_of w) (dart_in w x).edge
  goes = next_with_one_more_edge (skeleton_of v) (skeleton_of w) (dart_in w x).edge m.sound.plane m.sound_more.plane is_more.more

  drawn_next : (k : DartId) → HasDart v k → next_in w k ≡ x → next (darts (skeleton_of w)) (dart_in v k) ≡ dart_in w x
  drawn_next k o e = ap (next (darts (skeleton_of w))) (sym (drawn_old k o)) ∙ sym (names_are_darts.next w k m.sound_more (up k o)) ∙ ap (dart_in w) e

  follows_one : (c d : Dart) → IsDartOf (skeleton_of w) c → IsDartOf (skeleton_of w) d → next (darts (skeleton_of w)) c ≡ next (darts (skeleton_of w)) d → c ≡ d
  follows_one c d C D e = next_one (skeleton_of w) c d m.sound_more.plane C D e

  old_there : (c : Dart) → IsDartOf (skeleton_of v) c → IsDartOf (skeleton_of w) c
  old_there c C = (is_more.more.edges c.edge).1 (inl C)

  -- an old dart that x follows is the one that it comes after
  pub comes : (k : DartId) → HasDart v k → next_in w k ≡ x → ComesBetween (skeleton_of v) (dart_in v k) (dart_in w x)
  comes k o e = elim (goes.somewhere (dart_in w x) refl) [
    | inl none ↦
        let r = goes.bare (dart_in w x) refl none in
        let z = follows_one (dart_in v k) (twin (dart_in w x)) (old_there (dart_in v k) (is_dart k o)) ((is_more.more.edges (dart_in w x).edge).1 (inr refl)) (drawn_next k o e ∙ sym r) in
        absurd (not_along k o (ap (λ (z : Dart). z.edge) (drawn_old k o ∙ z)))
    | inr c ↦
        let r = goes.between c.0 (dart_in w x) c.1 refl c.2 in
        let z = follows_one c.0 (dart_in v k) (old_there c.0 c.1) (old_there (dart_in v k) (is_dart k o)) (r ∙ sym (drawn_next k o e)) in
        subst (λ d. ComesBetween (skeleton_of v) d (dart_in w x)) z c.2
  ]

  pub bare_end : IsBare v p → IsBareEnd (skeleton_of v) (dart_in w x)
  bare_end none d D e =
      let r = names_are_darts.there v d m.sound (dart_there (skeleton_of v) d D) in
      none r.0 (r.1, m.sound.drawn.points (source_in v r.0) p (m.sound.linked.source r.0 r.1) has_start (sym (names_are_darts.source v r.0 m.sound r.1) ∙ ap source r.2 ∙ e ∙ start_is))

  -- at the start there is an old dart before x, or none goes out
  pub start_cases : IsBare v p ⊎ ((k : DartId) × HasDart v k × (next_in w k ≡ x))
  start_cases = elim (goes.somewhere (dart_in w x) refl) [
    | inl none ↦ inl (λ k o. none (dart_in v k) (is_dart k o.0) (names_are_darts.source v k m.sound o.0 ∙ ap (point_in v) o.1 ∙ sym start_is))
    | inr c ↦
        let r = names_are_darts.there v c.0 m.sound (dart_there (skeleton_of v) c.0 c.1) in
        let k = r.0 in
        let z = names_are_darts.next w k m.sound_more (up k r.1) ∙ ap (next (darts (skeleton_of w))) (drawn_old k r.1 ∙ r.2) ∙ goes.between c.0 (dart_in w x) c.1 refl c.2 in
        inr (k, r.1, m.sound_more.turned.differ (next_in w k) x (m.sound_more.linked.has k (up k r.1)) m.more.first z)
  ]

  -- ---- cells
  pub old_lies : (k : DartId) → HasDart v k → LiesIn (skeleton_of v) (skeleton_of w) (dart_in w x).edge (left_of_dart (skeleton_of w) (dart_in w k)) (left_of_dart (skeleton_of v) (dart_in v k))
  old_lies k o = subst (λ d. LiesIn g h X.edge (left_of_dart h d) (left_of_dart g (dart_in v k))) (sym (drawn_old k o)) (cells_with_one_more_edge.dart g h X (dart_in v k) is_more (is_dart k o))

  pub vertex_lies : (u : VertexId) → HasVertex v u → LiesIn (skeleton_of v) (skeleton_of w) (dart_in w x).edge (left_cell (skeleton_of w) (point_in w u)) (left_cell (skeleton_of v) (point_in v u))
  vertex_lies u t = subst (λ z. LiesIn g h X.edge (left_cell h z) (left_cell g (point_in v u))) (sym (point_is u)) (cells_with_one_more_edge.vertex g h X (point_in v u) is_more (vertex_known v u m.sound t))

  pub first_lies : LiesIn (skeleton_of v) (skeleton_of w) (dart_in w x).edge first_cell first_cell
  first_lies = cells_with_one_more_edge.first g h X is_more

  pub real_first : IsCell (skeleton_of v) (dart_in w x).edge (left_of_dart (skeleton_of w) (dart_in w x))
  real_first = cells_with_one_more_edge.new g h X is_more

  pub real_second : IsCell (skeleton_of v) (dart_in w x).edge (left_of_dart (skeleton_of w) (dart_in w y))
  real_second = subst (λ d. IsCell (skeleton_of v) (dart_in w x).edge (left_of_dart (skeleton_of w) d)) (sym twins) (cells_with_one_more_edge.new g h (twin X) is_more)

  -- at a bare start what is left of x is what was round the vertex
  only_first : IsBare v p → (c : Edge) (r : Bool) → IsOut (skeleton_of w) (point_in w p) c r → (c ≡ (dart_in w x).edge) × (r ≡ (dart_in w x).forward)
  only_first none c r o =
      let K = names_are_darts.there w (record { edge = c; forward = r }) m.sound_more (dart_there (skeleton_of w) (record { edge = c; forward = r }) o.in') in
      let s : source_in w K.0 ≡ p = m.sound_more.drawn.points (source_in w K.0) p (m.sound_more.linked.source K.0 K.1) (vertex_above p has_start) (sym (names_are_darts.source w K.0 m.sound_more K.1) ∙ ap source K.2 ∙ o.at) in
      let e : K.0 ≡ x = elim (sorted K.0 K.1) [
        | inl z ↦ absurd (none K.0 (z, sym (source_old v w x y p q l m.more K.0 z) ∙ s))
        | inr z ↦ elim z [ inl z ↦ z | inr z ↦ absurd (m.more.two_ends (sym s ∙ ap (source_in w) z ∙ m.more.source_second)) ]
      ] in
      let t = sym K.2 ∙ ap (dart_in w) e in
      (ap (λ (z : Dart). z.edge) t, ap (λ (z : Dart). z.forward) t)

  pub bare_start : IsBare v p → SameFace (skeleton_of w) (left_of_dart (skeleton_of w) (dart_in w x)) (left_cell (skeleton_of w) (point_in w p))
  bare_start none =
      let at = start_is ∙ sym (point_is p) in
      lone_dart (skeleton_of w) (point_in w p) (dart_in w x).edge (dart_in w x).forward m.sound_more.plane (vertex_known w p m.sound_more (vertex_above p has_start))
      (record { in' = (is_more.more.edges (dart_in w x).edge).1 (inr refl); at = at }) (only_first none)

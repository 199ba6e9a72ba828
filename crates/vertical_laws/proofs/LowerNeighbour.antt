-- What is directly below a vertex is told by the last vertex of its wall and the highest edge that the front meets below it.
use Rattle.std.proofs.Common.{◌≡◌, Bool, true, false, arith, refl, sym, ap, subst, ◌∙◌, inl, inr}
use Rattle.std.specs.Prelude.{pos, ◌<ℤ◌, ◌≤ℤ◌, not, ◌&&◌, ◌||◌, find, Option, Some, None}
use Rattle.std.specs.List.{Contains, list_any}
use Rattle.std.proofs.lemmas.Int.{ints, by_lt_z}
use Rattle.std.proofs.lemmas.Bool.{false≢true, and_parts, and_from, not-true, cases_Bool, false_from_ne_true}
use lib.Signed.{lt_z}
use lib.IntN.{*ℤ-zero}
use Rattle.exact_plane.specs.Point.{Point}
use Rattle.plane_graphs.specs.Graph.{Edge}
use Rattle.slab_laws.specs.Skeleton.{Skeleton, HasWeight, IsPlaneSkeleton, left_of, lower_than, on_wall, run, side, over, under, gap, below}
use Rattle.slab_laws.specs.Slabs.{reaches_right}
use Rattle.slab_laws.specs.Faces.{passes}
use Rattle.slab_faces.proofs.Ints.{times_less, times_at_most}
use Rattle.slab_faces.proofs.Walls.{left_of-asym, left_of-before, left_of-after, lower_than-asym, lower_than-before, run_positive, side-lower, on_wall_parts, side_keeps}
use Rattle.slab_faces.proofs.OverUnder.{over_in, over_out, not_over, weak_over, under_out, not_under}
use Rattle.slab_faces.proofs.LocationLemmas.{find_none}
use Rattle.slab_faces.proofs.Order.{below_from, below_asym, gap-swap}
use Rattle.slab_faces.proofs.Cells.{right_side, not_right_trans}
use Rattle.slab_faces.proofs.Slabs.{same_edge_from_touch}
use Rattle.slab_faces.proofs.Along.{below_self, side_below, side_level}
use Rattle.slab_faces.proofs.Turns.{on_own_wall}
use Rattle.slab_faces.proofs.Upright.{one_cover}
use Rattle.slab_faces.proofs.Member.{Member, member_in, in_member, none_passing, none_passes}
use Rattle.vertical_laws.specs.Vertical.{Stop, vertex, edge, is_lower, stops, is_next_below, covers_below, edge_first, below_vertex}
use Rattle.vertical_laws.specs.VerticalLaws.{IsEnding, IsVertexBelow, IsLastBelow, IsMetBelow, IsHighestMet, told_stop, told_below, LowerNeighbourIsTold}
use Rattle.vertical_laws.proofs.WallStops.{IsStop, stop_out, stop_in, one_found}

-- a stop below v, and no other between
pub record IsNearest (g : Skeleton) (v : Point) (s : Stop) : Type 0 where
  pub stop : IsStop g v s
  pub lower : is_lower v s (vertex v) ≡ true
  pub free : (t : Stop) → IsStop g v t → is_lower v s t ≡ true → is_lower v t (vertex v) ≡ true → ⊥

nearest_in : (g : Skeleton) (v : Point) (s : Stop) → IsNearest g v s → is_next_below g v s ≡ true
unfolding is_next_below
nearest_in g v s h =
    and_from _ _ h.lower (ap not (none_passing (λ t. is_lower v s t && is_lower v t (vertex v)) (stops g v) (λ t m.
    false_from_ne_true _ (λ k. let a = and_parts (is_lower v s t) (is_lower v t (vertex v)) k in h.free t (stop_out g v t m) a.0 a.1))))

nearest_out : (g : Skeleton) (v : Point) (s : Stop) → Member (stops g v) s → is_next_below g v s ≡ true → IsNearest g v s
unfolding is_next_below
nearest_out g v s m k =
    let a = and_parts (is_lower v s (vertex v)) (not (list_any (λ t. is_lower v s t && is_lower v t (vertex v)) (stops g v))) k in
    record {
      stop = stop_out g v s m;
      lower = a.0;
      free = λ t i b c. false≢true (sym (none_passes (λ t. is_lower v s t && is_lower v t (vertex v)) (stops g v) (not-true _ a.1) t (stop_in g v t i)) ∙ and_from _ _ b c);
    }

told_by : (g : Skeleton) (v : Point) (s : Stop) → IsNearest g v s → ((t : Stop) → IsNearest g v t → t ≡ s) → find (is_next_below g v) (stops g v) ≡ Some s
told_by g v s h only = one_found (is_next_below g v) (stops g v) s (stop_in g v s h.stop) (nearest_in g v s h) (λ t m k. only t (nearest_out g v t m k))

told_none : (g : Skeleton) (v : Point) → ((t : Stop) → IsNearest g v t → ⊥) → find (is_next_below g v) (stops g v) ≡ None
told_none g v none = find_none (is_next_below g v) (stops g v) (λ t m. false_from_ne_true _ (λ k. none t (nearest_out g v t m k)))

-- ---- an edge at or below one that isn't over t isn't over t
side_up : (f e : Edge) (t : Point) → pos 0 <ℤ run e → pos 0 <ℤ run f → pos 0 ≤ℤ gap f e t → pos 0 ≤ℤ side e t → pos 0 ≤ℤ side f t
unfolding gap
side_up f e t re rf h k =
    by_lt_z (side f t) (pos 0)
    (λ n.
    let a = times_at_most (run f) (pos 0) (side e t) rf k in
    let b = times_less (run e) (side f t) (pos 0) re n in
    let z = *ℤ-zero (run e) in
    let z' = *ℤ-zero (run f) in
    absurd (omega (arith, ints)))
    (λ l. omega (arith, ints))

module _ (g : Skeleton) (v : Point) (plane : IsPlaneSkeleton g) (V : Contains g.vertices v) where
  reach_of : (f : Edge) → passes v f ≡ true → reaches_right f v ≡ true
  reach_of f h = let a = and_parts (left_of f.low v) (left_of v f.high) h in and_from _ _ (ap not (left_of-asym f.low v a.0)) a.1

  -- of two that are met at a vertex u, where one is below the other
  at_most : (u : Point) (f e : Edge) → Contains g.vertices u → Contains g.edges f → Contains g.edges e → reaches_right f u ≡ true → reaches_right e u ≡ true → below f e ≡ true → pos 0 ≤ℤ gap f e u
  at_most u f e U F E rf re b =
      let s = right_side g u plane (on_own_wall g u plane U) in
      let Q = s.passes e f E F re rf in
      let S = gap-swap f e u in
      by_lt_z (gap f e u) (pos 0) (λ l. absurd (below_asym g f e plane F E b (below_from e f u Q (omega (arith, ints))))) (λ m. omega (arith, ints))

  -- and both pass
  lower_gap : (f e : Edge) → Contains g.edges f → Contains g.edges e → passes v f ≡ true → passes v e ≡ true → below f e ≡ true → pos 0 <ℤ gap f e v
  lower_gap f e F E pf pe b =
      let n = at_most v f e V F E (reach_of f pf) (reach_of e pe) b in
      let a = and_parts (left_of f.low v) (left_of v f.high) pf in
      let c = and_parts (left_of e.low v) (left_of v e.high) pe in
      by_lt_z (pos 0) (gap f e v) (λ l. l) (λ k.
      let z : gap f e v ≡ pos 0 = omega (arith, ints) in
      let same = same_edge_from_touch g f e v (record { plane = plane; F = F; E = E; P = plane.proper v V; f_through = record { from = a.0; to = a.1 }; e_through = record { from = c.0; to = c.1 }; z = z }) in
      absurd (false≢true (sym (below_self g e plane E) ∙ subst (λ x. below x e ≡ true) same b)))

  lower_test : (f e : Edge) → pos 0 <ℤ gap f e v → is_lower v (edge f) (edge e) ≡ true
  unfolding is_lower
  lower_test f e h = sym (omega (arith, ints))

  higher_gap : (f e : Edge) → is_lower v (edge f) (edge e) ≡ true → pos 0 <ℤ gap f e v
  unfolding is_lower
  higher_gap f e h = omega (arith, ints)

  -- ---- the highest edge, where all vertices of the wall below v are below the edge
  module _ (e : Edge) (h : IsHighestMet g v (Some e)) (clear : (w : Point) → IsVertexBelow g v w → over e w ≡ true) where
    long : left_of e.low e.high ≡ true
    long =
        let s = right_side g v plane (on_own_wall g v plane V) in
        (s.passes e e h.0.0 h.0.0 h.0.1 h.0.1).e_long

    passing : passes v e ≡ true
    passing =
        let a = and_parts (not (left_of v e.low)) (left_of v e.high) h.0.1 in
        let a' : left_of v e.low ≡ false = not-true _ a.0 in
        let W = plane.proper v V in
        let L = (plane.proper_edge e h.0.0).0 in
        let R = run_positive e long in
        let z = side-lower e in
        let u = under_out e v h.0.2 in
        elim (cases_Bool (left_of e.low v)) [
          | inl k ↦ and_from _ _ k a.1
          | inr k ↦ elim (cases_Bool (lower_than e.low v)) [
            | inl l ↦ (let o : side e e.low <ℤ pos 0 = over_out e e.low (clear e.low (plane.lower_in e h.0.0, and_from _ _ (ap not k) (ap not a'), l)) in absurd (omega (arith, ints)))
            | inr l ↦ elim (cases_Bool (lower_than v e.low)) [
              | inl m ↦ (let o = side_below e e.low v L R z a' k m in absurd (omega (arith, ints)))
              | inr m ↦ (let o = side_level e e.low v L z a' k l m in absurd (omega (arith, ints)))
            ]
          ]
        ]

    edge_free : (t : Stop) → IsStop g v t → is_lower v (edge e) t ≡ true → is_lower v t (vertex v) ≡ true → ⊥
    unfolding is_lower
    edge_free (vertex w) i a b =
        let o = over_out e w (clear w (i.0, i.1, b)) in
        let u = under_out e w a in
        absurd (omega (arith, ints))
    edge_free (edge f) i a b =
        let s = right_side g v plane (on_own_wall g v plane V) in
        let rf = reach_of f i.1 in
        let k = below_from e f v (s.passes e f h.0.0 i.0 h.0.1 rf) (higher_gap e f a) in
        elim (h.1 f (i.0, rf, b)) [
          | inl q ↦ false≢true (sym (below_self g e plane h.0.0) ∙ subst (λ x. below e x ≡ true) q k)
          | inr l ↦ below_asym g e f plane h.0.0 i.0 k l
        ]

    edge_nearest : IsNearest g v (edge e)
    unfolding is_lower
    edge_nearest = record { stop = (h.0.0, passing); lower = h.0.2; free = edge_free }

    edge_only : (t : Stop) → IsNearest g v t → t ≡ edge e
    unfolding is_lower
    edge_only (vertex w) n = absurd (n.free (edge e) (h.0.0, passing) (clear w (n.stop.0, n.stop.1, n.lower)) h.0.2)
    edge_only (edge f) n =
        elim (h.1 f (n.stop.0, reach_of f n.stop.1, n.lower)) [
          | inl q ↦ ap edge q
          | inr l ↦ absurd (n.free (edge e) (h.0.0, passing) (lower_test f e (lower_gap f e n.stop.0 h.0.0 n.stop.1 passing l)) h.0.2)
        ]

    edge_told : find (is_next_below g v) (stops g v) ≡ Some (edge e)
    edge_told = told_by g v (edge e) edge_nearest edge_only

  -- ---- the last vertex, where no edge that is met below v is above it
  module _ (u : Point) (l : IsLastBelow g v (Some u)) (none : (f : Edge) → IsMetBelow g v f → over f u ≡ false) where
    vertex_nearest : IsNearest g v (vertex u)
    unfolding is_lower
    vertex_nearest = record { stop = (l.0.0, l.0.1); lower = l.0.2; free = free }
      where
        free : (t : Stop) → IsStop g v t → is_lower v (vertex u) t ≡ true → is_lower v t (vertex v) ≡ true → ⊥
        free (vertex w) i a b = false≢true (sym (l.1 w (i.0, i.1, b)) ∙ a)
        free (edge f) i a b = false≢true (sym (none f (i.0, reach_of f i.1, b)) ∙ a)

    vertex_only : (t : Stop) → IsNearest g v t → t ≡ vertex u
    unfolding is_lower
    vertex_only (vertex w) n =
        let W = plane.proper v V in
        let U = plane.proper u l.0.0 in
        let P = plane.proper w n.stop.0 in
        let a = on_wall_parts u v l.0.1 in
        let b = on_wall_parts w v n.stop.1 in
        let x = not_right_trans w v u P W U b.1 a.0 in
        let y = not_right_trans u v w U W P a.1 b.0 in
        elim (cases_Bool (lower_than w u)) [
          | inl k ↦ absurd (n.free (vertex u) (l.0.0, l.0.1) k l.0.2)
          | inr k ↦
              let m = l.1 w (n.stop.0, n.stop.1, n.lower) in
              ap vertex (plane.distinct w u n.stop.0 l.0.0 (same (left_of w u) (left_of u w) (lower_than w u) y k) (same (left_of u w) (left_of w u) (lower_than u w) x m))
        ]
      where
        same : (a b c : Bool) → a ≡ false → c ≡ false → (a || (not b && c)) ≡ false
        same a true c h k = rw h refl
        same a false c h k = rw (h, k) refl
    vertex_only (edge f) n =
        let W = plane.proper v V in
        let U = plane.proper u l.0.0 in
        let p = plane.proper_edge f n.stop.0 in
        let a = on_wall_parts u v l.0.1 in
        let c = and_parts (left_of f.low v) (left_of v f.high) n.stop.1 in
        let from = left_of-before f.low v u p.0 W U c.0 a.0 in
        let to = left_of-after u v f.high U W p.1 a.1 c.1 in
        let o = not_over f u (none f (n.stop.0, reach_of f n.stop.1, n.lower)) in
        elim (cases_Bool (under f u)) [
          | inl k ↦ absurd (n.free (vertex u) (l.0.0, l.0.1) k l.0.2)
          | inr k ↦
              let z : side f u ≡ pos 0 = (let q = not_under f u k in omega (arith, ints)) in
              absurd (false≢true (sym (plane.clear f u n.stop.0 l.0.0) ∙ and_from _ _ (and_from _ _ (first _ _ from) (first _ _ to)) (level z)))
        ]
      where
        first : (a b : Bool) → a ≡ true → (a || b) ≡ true
        first a b h = rw h refl

        level : side f u ≡ pos 0 → (not (lt_z (side f u) (pos 0)) && not (lt_z (pos 0) (side f u))) ≡ true
        level z = rw z refl

    vertex_told : find (is_next_below g v) (stops g v) ≡ Some (vertex u)
    vertex_told = told_by g v (vertex u) vertex_nearest vertex_only

  -- ---- the cases
  stop_told : (last : Option Point) (met : Option Edge) → IsLastBelow g v last → IsHighestMet g v met → find (is_next_below g v) (stops g v) ≡ told_stop last met
  unfolding told_stop is_lower
  stop_told None None l h = told_none g v none
    where
      none : (t : Stop) → IsNearest g v t → ⊥
      none (vertex w) n = l w (n.stop.0, n.stop.1, n.lower)
      none (edge f) n = h f (n.stop.0, reach_of f n.stop.1, n.lower)
  stop_told None (Some e) l h = edge_told e h (λ w k. absurd (l w k))
  stop_told (Some u) None l h = vertex_told u l (λ f m. absurd (h f m))
  stop_told (Some u) (Some e) l h = elim (cases_Bool (over e u)) [
    | inl o ↦ rw o (edge_told e h (λ w k. beneath w k o))
    | inr o ↦ rw o (vertex_told u l (λ f m. beside f m o))
  ]
    where
      W : HasWeight v
      W = plane.proper v V

      U : HasWeight u
      U = plane.proper u l.0.0

      a : (left_of u v ≡ false) × (left_of v u ≡ false)
      a = on_wall_parts u v l.0.1

      reach_u : (f : Edge) → Contains g.edges f → reaches_right f v ≡ true → reaches_right f u ≡ true
      reach_u f F r =
          let p = plane.proper_edge f F in
          let c = and_parts (not (left_of v f.low)) (left_of v f.high) r in
          and_from _ _ (ap not (not_right_trans f.low v u p.0 W U (not-true _ c.0) a.0)) (left_of-after u v f.high U W p.1 a.1 c.1)

      long_of : (f : Edge) → IsMetBelow g v f → left_of f.low f.high ≡ true
      long_of f m = ((right_side g v plane (on_own_wall g v plane V)).passes f f m.0 m.0 m.1 m.1).e_long

      beneath : (w : Point) → IsVertexBelow g v w → over e u ≡ true → over e w ≡ true
      beneath w k o =
          let P = plane.proper w k.0 in
          let b = on_wall_parts w v k.1 in
          let s = over_out e u o in
          by_lt_z (side e w) (pos 0) (λ n. over_in e w n)
          (λ n.
          let t = side_keeps e w u P U (run_positive e (long_of e h.0)) (not_right_trans u v w U W P a.1 b.0) (not_right_trans w v u P W U b.1 a.0) (l.1 w k) (omega (arith, ints)) in
          absurd (omega (arith, ints)))

      beside : (f : Edge) → IsMetBelow g v f → over e u ≡ false → over f u ≡ false
      beside f m o = elim (h.1 f m) [
        | inl q ↦ subst (λ x. over x u ≡ false) (sym q) o
        | inr b ↦
            let n = at_most u f e l.0.0 m.0 h.0.0 (reach_u f m.0 m.1) (reach_u e h.0.0 h.0.1) b in
            weak_over f u (side_up f e u (run_positive e (long_of e h.0)) (run_positive f (long_of f m)) n (not_over e u o))
      ]

  -- ---- one vertical edge at most ends at v
  ending_one : (e f : Edge) → Contains g.edges e → Contains g.edges f → covers_below e v ≡ true → covers_below f v ≡ true → lower_than e.low f.low ≡ false → e ≡ f
  ending_one e f E F h k n =
      let p = plane.proper_edge e E in
      let r = plane.proper_edge f F in
      let W = plane.proper v V in
      let a = and_parts (on_wall e.low v && on_wall e.high v && lower_than e.low v) (not (lower_than e.high v)) h in
      let b = and_parts (on_wall e.low v && on_wall e.high v) (lower_than e.low v) a.0 in
      let c = and_parts (on_wall e.low v) (on_wall e.high v) b.0 in
      let a' = and_parts (on_wall f.low v && on_wall f.high v && lower_than f.low v) (not (lower_than f.high v)) k in
      let b' = and_parts (on_wall f.low v && on_wall f.high v) (lower_than f.low v) a'.0 in
      let c' = and_parts (on_wall f.low v) (on_wall f.high v) b'.0 in
      let el = on_wall_parts e.low v c.0 in
      let eh = on_wall_parts e.high v c.1 in
      let fl = on_wall_parts f.low v c'.0 in
      let fh = on_wall_parts f.high v c'.1 in
      let wall : (x y : Point) → HasWeight x → HasWeight y → (left_of x v ≡ false) × (left_of v x ≡ false) → (left_of y v ≡ false) × (left_of v y ≡ false) → on_wall x y ≡ true =
      λ x y X Y q s. and_from _ _ (ap not (not_right_trans y v x Y W X s.1 q.0)) (ap not (not_right_trans x v y X W Y q.1 s.0)) in
      one_cover g e f plane E F (wall e.low e.high p.0 p.1 el eh)
      (and_from (on_wall f.low e.low && on_wall f.high e.low && not (lower_than e.low f.low)) _
      (and_from (on_wall f.low e.low && on_wall f.high e.low) _ (and_from _ _ (wall f.low e.low r.0 p.0 fl el) (wall f.high e.low r.1 p.0 fh el)) (ap not n))
      (lower_than-before e.low v f.high p.0 W r.1 b.1 (not-true _ a'.1)))

  ending_same : (e f : Edge) → Contains g.edges e → Contains g.edges f → covers_below e v ≡ true → covers_below f v ≡ true → f ≡ e
  ending_same e f E F h k = elim (cases_Bool (lower_than e.low f.low)) [
    | inl n ↦ ending_one f e F E k h (lower_than-asym e.low f.low n)
    | inr n ↦ sym (ending_one e f E F h k n)
  ]

  ending_told : (up : Option Edge) → IsEnding g v up → find (λ e. covers_below e v) g.edges ≡ up
  ending_told None h = find_none (λ e. covers_below e v) g.edges (λ e m. h e (member_in g.edges e m))
  ending_told (Some e) h = one_found (λ e. covers_below e v) g.edges e (in_member g.edges e h.0) h.1 (λ f m k. ending_same e f h.0 (member_in g.edges f m) h.1 k)

  first_told : (up : Option Edge) (last : Option Point) (met : Option Edge) → edge_first up (told_stop last met) ≡ told_below up last met
  unfolding edge_first told_below
  first_told None last met = refl
  first_told (Some e) last met = refl

pub lower_neighbour_is_told : LowerNeighbourIsTold
unfolding below_vertex
lower_neighbour_is_told g v up last met plane V u l h = rw (ending_told g v plane V up u, stop_told g v plane V last met l h) (first_told g v plane V up last met)

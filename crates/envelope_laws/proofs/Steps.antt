-- A wall without a vertex of the envelope changes nothing.
use Rattle.std.proofs.Common.{◌≡◌, ℕ, zero, suc, ◌≤◌, Bool, true, false, arith, refl, sym, ap, subst, ◌∙◌, inl, inr}
use Rattle.std.specs.Prelude.{pos, ◌<ℤ◌, ◌≤ℤ◌, not, ◌&&◌, ◌||◌, Option, Some, None}
use Rattle.std.specs.List.{Contains, list_any}
use Rattle.std.proofs.lemmas.Int.{ints, by_lt_z}
use Rattle.std.proofs.lemmas.Bool.{false≢true, and_parts, and_from, not-true, cases_Bool, false_from_ne_true}
use Rattle.exact_plane.specs.Point.{Point}
use Rattle.plane_graphs.specs.Graph.{Edge}
use Rattle.slab_laws.specs.Skeleton.{Skeleton, HasWeight, IsPlaneSkeleton, left_of, on_wall, side, gap, same_point}
use Rattle.slab_laws.specs.Slabs.{reaches_left, reaches_right, spans, slab_left, slab_right}
use Rattle.slab_laws.specs.Meets.{IsOnWall}
use Rattle.slab_laws.specs.Faces.{passes}
use Rattle.slab_laws.specs.Subdivision.{has_dart}
use Rattle.slab_faces.proofs.Walls.{left_of-irrefl, left_of-asym, left_of-before, left_of-after, run_positive, side-lower, side-upper, on_wall_parts}
use Rattle.slab_faces.proofs.Cells.{right_side, left_side, spans_left, spans_right, not_right_trans, right_many, right_few}
use Rattle.slab_faces.proofs.Turns.{on_own_wall, wall_before, le_antisym}
use Rattle.slab_faces.proofs.Parity.{same_point_refl}
use Rattle.slab_faces.proofs.Searches.{best_of}
use Rattle.slab_faces.proofs.Member.{Member, member_in, in_member, none_passing}
use Rattle.envelope_laws.specs.declared.which.Which.{Which}
use Rattle.envelope_laws.specs.Envelopes.{vertex_beyond, edge_beyond, outside_of, is_extreme}
use Rattle.envelope_laws.specs.Outermost.{IsOutermostIn, IsGap, IsOutermostOf}
use Rattle.envelope_laws.proofs.Outward.{turned, turned_zero, turned_swap, beyond-irrefl, beyond-trans, same_spot, edge_out, inward, outside_from, outside_asym, gap_up, side_low}
use Rattle.envelope_laws.proofs.Searching.{any_in, any_out}

-- ---- ends of edges
pub low_held : (g : Skeleton) (e : Edge) → Contains g.edges e → has_dart g e.low ≡ true
unfolding has_dart
low_held g e E = any_in (λ f. same_point f.low e.low || same_point f.high e.low) g.edges e (in_member g.edges e E) (rw (same_point_refl e.low) refl)

pub high_held : (g : Skeleton) (e : Edge) → Contains g.edges e → has_dart g e.high ≡ true
unfolding has_dart
high_held g e E = any_in (λ f. same_point f.low e.high || same_point f.high e.high) g.edges e (in_member g.edges e E) (either (same_point e.low e.high) (same_point e.high e.high) (same_point_refl e.high))
  where
    either : (a b : Bool) → b ≡ true → (a || b) ≡ true
    either true b h = refl
    either false b h = h

-- what it is to be in the list: no end of an edge is further out, and no edge passes further out
pub record IsExtreme (w : Which) (g : Skeleton) (v : Point) : Type 0 where
  pub is_end : has_dart g v ≡ true
  pub no_end : list_any (λ u. on_wall u v && (has_dart g u && vertex_beyond w u v)) g.vertices ≡ false
  pub no_edge : list_any (λ e. passes v e && edge_beyond w e v) g.edges ≡ false

pub extreme_out : (w : Which) (g : Skeleton) (v : Point) → is_extreme w g v ≡ true → IsExtreme w g v
unfolding is_extreme
extreme_out w g v h =
    let n : Bool = list_any (λ u. on_wall u v && (has_dart g u && vertex_beyond w u v)) g.vertices in
    let l : Bool = list_any (λ e. passes v e && edge_beyond w e v) g.edges in
    let a = and_parts (has_dart g v) (not n && not l) h in
    let b = and_parts (not n) (not l) a.1 in
    record { is_end = a.0; no_end = not-true _ b.0; no_edge = not-true _ b.1 }

pub extreme_in : (w : Which) (g : Skeleton) (v : Point) → IsExtreme w g v → is_extreme w g v ≡ true
unfolding is_extreme
extreme_in w g v x = and_from _ _ x.is_end (and_from _ _ (ap not x.no_end) (ap not x.no_edge))

-- an end of an edge, no end of an edge on its wall further out, and not in the list: an edge passes further out
pub some_beyond : (w : Which) (g : Skeleton) (m : Point) → has_dart g m ≡ true → ((x : Point) → Contains g.vertices x → on_wall x m ≡ true → has_dart g x ≡ true → vertex_beyond w x m ≡ true → ⊥) → is_extreme w g m ≡ false → (k : Edge) × Contains g.edges k × (passes m k ≡ true) × (edge_beyond w k m ≡ true)
some_beyond w g m d least ex =
    elim (cases_Bool (list_any (λ e. passes m e && edge_beyond w e m) g.edges)) [
      | inl h ↦
          let a = any_out (λ e. passes m e && edge_beyond w e m) g.edges h in
          let b = and_parts (passes m a.0) (edge_beyond w a.0 m) a.2 in
          (a.0, member_in g.edges a.0 a.1, b.0, b.1)
      | inr h ↦
          let n : list_any (λ u. on_wall u m && (has_dart g u && vertex_beyond w u m)) g.vertices ≡ false =
          none_passing (λ u. on_wall u m && (has_dart g u && vertex_beyond w u m)) g.vertices (λ x X. false_from_ne_true _ (λ k.
          let a = and_parts (on_wall x m) (has_dart g x && vertex_beyond w x m) k in
          let b = and_parts (has_dart g x) (vertex_beyond w x m) a.1 in
          least x (member_in g.vertices x X) a.0 b.0 b.1)) in
          absurd (false≢true (sym ex ∙ extreme_in w g m (record { is_end = d; no_end = n; no_edge = h })))
    ]

-- ---- an edge at points of one wall
pub from_left : (k : Edge) (t : Point) → passes t k ≡ true → reaches_left k t ≡ true
from_left k t h = let a = and_parts (left_of k.low t) (left_of t k.high) h in and_from _ _ a.0 (ap not (left_of-asym t k.high a.1))

pub to_right : (k : Edge) (t : Point) → passes t k ≡ true → reaches_right k t ≡ true
to_right k t h = let a = and_parts (left_of k.low t) (left_of t k.high) h in and_from _ _ (ap not (left_of-asym k.low t a.0)) a.1

module _ (w : Which) (g : Skeleton) (u : Point) (plane : IsPlaneSkeleton g) (U : Contains g.vertices u) (none : (x : Point) → Contains g.vertices x → on_wall x u ≡ true → is_extreme w g x ≡ false) where
  W : HasWeight u
  W = plane.proper u U

  -- an end of an edge on the wall has an edge that passes further out
  pub passing_beyond : (h : Point) → Contains g.vertices h → on_wall h u ≡ true → has_dart g h ≡ true → (k : Edge) × Contains g.edges k × (passes u k ≡ true) × (pos 0 <ℤ turned w (side k h))
  passing_beyond h H on d =
      let P : (x : Point) → Member g.vertices x → HasWeight x = λ x m. plane.proper x (member_in g.vertices x m) in
      elim (best_of (λ x. on_wall x u && has_dart g x) (vertex_beyond w) g.vertices (beyond-irrefl w) (λ x y z a b c p q. beyond-trans w x y z (P x a) (P y b) (P z c) p q)) [
        | inl n ↦ absurd (false≢true (sym (n h (in_member g.vertices h H)) ∙ and_from _ _ on d))
        | inr b ↦
            let m = b.0 in
            let M = member_in g.vertices m b.1.in' in
            let Q = plane.proper m M in
            let V = plane.proper h H in
            let c = and_parts (on_wall m u) (has_dart g m) b.1.passes in
            let o = on_wall_parts m u c.0 in
            let s = some_beyond w g m c.1
            (λ x X wx dx lx. let q = on_wall_parts x m wx in
            let T = plane.proper x X in
            let on : on_wall x u ≡ true = and_from _ _ (ap not (not_right_trans u m x W Q T o.0 q.0)) (ap not (not_right_trans x m u T Q W q.1 o.1)) in
            false≢true (sym (b.1.best x (in_member g.vertices x X) (and_from _ _ on dx)) ∙ lx))
            (none m M c.0) in
            let k = s.0 in
            let p = plane.proper_edge k s.1 in
            let a = and_parts (left_of k.low m) (left_of m k.high) s.2 in
            let from = left_of-before k.low m u p.0 Q W a.0 o.1 in
            let to = left_of-after u m k.high W Q p.1 o.0 a.1 in
            let long = left_of-after k.low u k.high p.0 W p.1 (left_of-asym _ _ from) to in
            let r = on_wall_parts h u on in
            let hm = not_right_trans m u h Q W V o.1 r.0 in
            let mh = not_right_trans h u m V W Q r.1 o.0 in
            let z = edge_out w k m s.3 in (
              k,
              s.1,
              and_from _ _ from to,
              elim (cases_Bool (vertex_beyond w m h)) [
                | inl n ↦ inward w k m h Q V (run_positive k long) mh hm n (omega (arith, ints))
                | inr n ↦ subst (λ x. pos 0 <ℤ turned w (side k x)) (sym (same_spot w g h m plane H M hm mh (b.1.best h (in_member g.vertices h H) (and_from _ _ on d)) n)) z
              ],
            )
      ]

  -- ---- an edge that passes the wall does so at each of its points
  passes_at : (k : Edge) (t : Point) → Contains g.edges k → passes u k ≡ true → HasWeight t → on_wall t u ≡ true → passes t k ≡ true
  passes_at k t K h T on =
      let p = plane.proper_edge k K in
      let a = and_parts (left_of k.low u) (left_of u k.high) h in
      let o = on_wall_parts t u on in
      and_from _ _ (left_of-before k.low u t p.0 W T a.0 o.0) (left_of-after t u k.high T W p.1 o.1 a.1)

  wall : IsOnWall g u
  wall = on_own_wall g u plane U

  left_spans : (k : Edge) → Contains g.edges k → passes u k ≡ true → spans g (slab_left g u) k ≡ true
  left_spans k K h = spans_left g u k plane wall K ∙ from_left k u h

  -- ---- an edge that reaches the wall from the left and is outermost there passes
  module _ (e : Edge) (h : IsOutermostIn w g (slab_left g u) e) where
    E : Contains g.edges e
    E = h.is_edge

    no_further : (k : Edge) → Contains g.edges k → passes u k ≡ true → outside_of w k e ≡ true → ⊥
    no_further k K p b = h.none k K (left_spans k K p) b

    pub edge_passes : passes u e ≡ true
    edge_passes =
        let r = sym (spans_left g u e plane wall E) ∙ h.spanning in
        let a = and_parts (left_of e.low u) (not (left_of e.high u)) r in
        let a' = not-true _ a.1 in
        let p = plane.proper_edge e E in
        elim (cases_Bool (left_of u e.high)) [
          | inl k ↦ and_from _ _ a.0 k
          | inr k ↦
              let on : on_wall e.high u ≡ true = and_from _ _ (ap not a') (ap not k) in
              let V = plane.upper_in e E in
              let s = passing_beyond e.high V on (high_held g e E) in
              let f = s.0 in
              let q = passes_at f e.high s.1 s.2 p.1 on in
              let long = left_of-before e.low u e.high p.0 W p.1 a.0 a' in
              let P = (left_side g e.high plane (on_own_wall g e.high plane V)).passes f e s.1 E (from_left f e.high q) (and_from _ _ long (ap not (left_of-irrefl e.high))) in
              let z = turned_zero w _ (side-upper e) in
              absurd (no_further f s.1 s.2 (outside_from w f e e.high P (gap_up f e e.high (run_positive e P.e_long) (run_positive f P.f_long) w s.3 (omega (arith, ints)))))
        ]

    none_after : (f : Edge) → Contains g.edges f → reaches_right f u ≡ true → outside_of w f e ≡ true → ⊥
    none_after f F r b =
        let a = and_parts (not (left_of u f.low)) (left_of u f.high) r in
        let a' = not-true _ a.0 in
        let p = plane.proper_edge f F in
        elim (cases_Bool (left_of f.low u)) [
          | inl k ↦ no_further f F (and_from _ _ k a.1) b
          | inr k ↦
              let on : on_wall f.low u ≡ true = and_from _ _ (ap not k) (ap not a') in
              let V = plane.lower_in f F in
              let s = passing_beyond f.low V on (low_held g f F) in
              let d = s.0 in
              let beside = right_side g f.low plane (on_own_wall g f.low plane V) in
              let rd = to_right d f.low (passes_at d f.low s.1 s.2 p.0 on) in
              let re = to_right e f.low (passes_at e f.low E edge_passes p.0 on) in
              let long = left_of-after f.low u f.high p.0 W p.1 a' a.1 in
              let rf : reaches_right f f.low ≡ true = and_from _ _ (ap not (left_of-irrefl f.low)) long in
              let P = beside.passes d e s.1 E rd re in
              let Q = beside.passes e f E F re rf in
              let S = turned_swap w f e f.low in
              let z = turned_zero w _ (side-lower f) in
              let n : pos 0 ≤ℤ turned w (gap f e f.low) = by_lt_z (turned w (gap f e f.low)) (pos 0) (λ l. absurd (outside_asym w g f e plane F E b (outside_from w e f f.low Q (omega (arith, ints))))) (λ m. m) in
              no_further d s.1 s.2 (outside_from w d e f.low P (gap_up d e f.low (run_positive e P.e_long) (run_positive d P.f_long) w s.3 (side_low f e f.low (run_positive e P.e_long) (run_positive f long) w n (omega (arith, ints)))))
        ]

    goes_on : IsOutermostIn w g (slab_right g u) e
    goes_on = record {
      is_edge = E;
      spanning = spans_right g u e plane wall E ∙ to_right e u edge_passes;
      none = λ f F s b. none_after f F (sym (spans_right g u f plane wall F) ∙ s) b;
    }

  gap_on : IsGap g (slab_left g u) → IsGap g (slab_right g u)
  gap_on h f F =
      false_from_ne_true _ (λ s.
      let r = sym (spans_right g u f plane wall F) ∙ s in
      let a = and_parts (not (left_of u f.low)) (left_of u f.high) r in
      elim (cases_Bool (left_of f.low u)) [
        | inl k ↦ false≢true (sym (h f F) ∙ left_spans f F (and_from _ _ k a.1))
        | inr k ↦
            let t = passing_beyond f.low (plane.lower_in f F) (and_from _ _ (ap not k) a.0) (low_held g f F) in
            false≢true (sym (h t.0 t.1) ∙ left_spans t.0 t.1 t.2)
      ])

  past_wall : (o : Option Edge) → IsOutermostOf w g (slab_left g u) o → IsOutermostOf w g (slab_right g u) o
  past_wall None h = gap_on h
  past_wall (Some e) h = goes_on e h

-- ---- from wall to wall
module _ (w : Which) (g : Skeleton) (v z : Point) (o : Option Edge) (plane : IsPlaneSkeleton g) (V : Contains g.vertices v) (Z : HasWeight z) (none : (x : Point) → Contains g.vertices x → left_of v x ≡ true → left_of x z ≡ true → is_extreme w g x ≡ false) (h : IsOutermostOf w g (slab_right g v) o) where
  own_wall : (u : Point) → Contains g.vertices u → left_of u v ≡ false → (left_of v u ≡ true → IsOutermostOf w g (slab_right g u) o) → IsOutermostOf w g (slab_right g u) o
  own_wall u U a f =
      elim (cases_Bool (left_of v u)) [
        | inl k ↦ f k
        | inr k ↦
            let e : slab_right g v ≡ slab_right g u = le_antisym _ _ (right_few g v u plane (plane.proper v V) (plane.proper u U) a) (right_few g u v plane (plane.proper u U) (plane.proper v V) k) in
            subst (λ i. IsOutermostOf w g i o) e h
      ]

  from_wall : (n : ℕ) (u : Point) → Contains g.vertices u → left_of u v ≡ false → left_of u z ≡ true → slab_right g u ≤ n → IsOutermostOf w g (slab_right g u) o
  from_wall zero u U a b l = own_wall u U a (λ k. let m = right_many g u v plane U (plane.proper v V) k in absurd (omega arith))
  from_wall (suc n) u U a b l =
      own_wall u U a (λ k.
      let r = wall_before g v u plane (plane.proper u U) V k in
      let t = r.0 in
      let T = plane.proper t r.1.is_vertex in
      let O = plane.proper u U in
      let less = right_many g u t plane U T r.1.earlier in
      let c = left_of-before t u z T O Z r.1.earlier (left_of-asym u z b) in
      let before = from_wall n t r.1.is_vertex r.2 c (omega arith) in
      past_wall w g u plane U (λ x X q.
      let i = on_wall_parts x u q in
      let Q = plane.proper x X in
      none x X (left_of-before v u x (plane.proper v V) O Q k i.0) (left_of-after x u z Q O Z i.1 b)) o
      (subst (λ i. IsOutermostOf w g i o) (sym r.1.next) before))

-- what is outermost on the right of v is so in every slab up to the next vertex of the envelope
abbrev pub EnvelopeGoesOn : Type 0
EnvelopeGoesOn =
    (w : Which) (g : Skeleton) (v u z : Point) (o : Option Edge) → IsPlaneSkeleton g → Contains g.vertices v → Contains g.vertices u → HasWeight z → left_of u v ≡ false → left_of u z ≡ true → ((x : Point) → Contains g.vertices x → left_of v x ≡ true → left_of x z ≡ true → is_extreme w g x ≡ false) → IsOutermostOf w g (slab_right g v) o → IsOutermostOf w g (slab_right g u) o

pub envelope_goes_on : EnvelopeGoesOn
envelope_goes_on w g v u z o plane V U Z a b none h = from_wall w g v z o plane V Z none h (slab_right g u) u U a b (omega arith)

-- The outline of a plane graph is its envelope.
use Rattle.std.proofs.Common.{◌≡◌, true, false, arith, refl, sym, ap, subst, ◌∙◌, ◌⊎◌, inl, inr, List, [], ◌∷◌, Ordering, Less, Equal, Greater}
use Rattle.std.specs.Prelude.{ℤ, pos, ◌<ℤ◌, ◌*ℤ◌, not, ◌&&◌, ◌||◌, filter, Option, Some, None}
use lib.Signed.{lt_z}
use Rattle.std.specs.List.{Contains, list_any}
use Rattle.std.proofs.lemmas.Int.{ints}
use Rattle.std.proofs.lemmas.Bool.{false≢true, and_parts, and_from, not-true, or_cases, cases_Bool, false_from_ne_true}
use Rattle.std.proofs.lemmas.Cmp.{tied_itself}
use Rattle.integers.proofs.Compare.{less_out, equal_out}
use Rattle.integers.proofs.Signs.{mul_pos'}
use Rattle.exact_plane.specs.Point.{Point}
use Rattle.exact_plane.specs.PointOrder.{point_cmp, by_x, weight}
use Rattle.exact_plane.specs.PointOrderLaws.{point_cmp_total}
use Rattle.exact_plane.proofs.Places.{weight-is}
use Rattle.plane_graphs.specs.Ascending.{Member, IsAscending}
use Rattle.plane_graphs.specs.Graph.{Edge}
use Rattle.plane_graphs.proofs.Ascending.{All-member, to_member, from_member}
use Rattle.plane_graphs.proofs.Lists.{IsAscending-filter}
use Rattle.slab_laws.specs.Skeleton.{Skeleton, HasWeight, IsPlaneSkeleton, left_of, on_wall, precedes, run, side, foot, same_point}
use Rattle.slab_laws.specs.Slabs.{slab_right}
use Rattle.slab_laws.specs.Faces.{passes}
use Rattle.slab_laws.specs.Subdivision.{has_dart}
use Rattle.slab_faces.proofs.Walls.{left_of-irrefl, left_of-asym, left_of-before, lower_than-asym, run_positive, side-lower, side-upper}
use Rattle.slab_faces.proofs.Turns.{foot_before, foot_after, foot_on}
use Rattle.slab_faces.proofs.Parity.{same_point_is}
use Rattle.slab_faces.proofs.Points.{before_irrefl}
use Rattle.slab_faces.proofs.Member.{member_in, in_member, filter_in, filter_out, none_passes}
use Rattle.slab_faces.proofs.Slabs.{no_order}
use Rattle.envelope_laws.specs.declared.which.Which.{Which}
use Rattle.envelope_laws.specs.Envelopes.{vertex_beyond, edge_beyond, is_extreme, outermost, between_all, outline}
use Rattle.envelope_laws.specs.Outermost.{IsOutermostOf}
use Rattle.envelope_laws.specs.EnvelopeLaws.{IsOnEdge, IsOnAnEdge, IsOutermostPoint, IsWithin, IsBetween, AreBetween, IsEnvelope, OutlinesAreEnvelopes}
use Rattle.envelope_laws.proofs.Outward.{turned_zero, same_spot, edge_out, past_line, level_line}
use Rattle.envelope_laws.proofs.Searching.{any_out}
use Rattle.envelope_laws.proofs.Steps.{low_held, high_held, extreme_out, extreme_in, envelope_goes_on}
use Rattle.envelope_laws.proofs.Ends.{none_beyond_vertex}
use Rattle.envelope_laws.proofs.Between.{IsStretch, none_beyond_between}
use Rattle.envelope_laws.proofs.Outer.{none_outside, outermost_is_told}

-- a point that comes before another isn't on its right
pub ahead : (p q : Point) → HasWeight p → HasWeight q → point_cmp p q ≡ Less → left_of q p ≡ false
unfolding left_of
ahead p q P Q h = go (by_x p q) refl
  where
    go : (o : Ordering) → by_x p q ≡ o → left_of q p ≡ false
    go Less e = let l = less_out (p.x *ℤ weight q.w) (q.x *ℤ weight p.w) e in let a = weight-is p.w P in let b = weight-is q.w Q in let l' = rw (a, b) at l in sym (omega (arith, ints))
    go Equal e = let l = equal_out (p.x *ℤ weight q.w) (q.x *ℤ weight p.w) e in let a = weight-is p.w P in let b = weight-is q.w Q in let l' = rw (a, b) at l in sym (omega (arith, ints))
    go Greater e = let k = rw e at h in absurd cc

-- ---- a point of an edge that is further out than a vertex which isn't in the list
not_precedes : (p q : Point) → left_of p q ≡ false → left_of q p ≡ true → precedes p q ≡ false
not_precedes p q a b = rw (a, b) refl

weighs : (e : Edge) (v : Point) → pos 0 <ℤ run e → HasWeight v → HasWeight (foot e v)
unfolding foot
weighs e v R V = mul_pos' (run e) v.w R V

module _ (w : Which) (g : Skeleton) (plane : IsPlaneSkeleton g) where
  backward : (e : Edge) → Contains g.edges e → precedes e.high e.low ≡ false
  backward e E =
      elim (cases_Bool (left_of e.low e.high)) [
        | inl h ↦ not_precedes e.high e.low (plane.forward e E) h
        | inr h ↦ no_order e.high e.low (plane.forward e E) h (lower_than-asym e.low e.high (plane.upright e E (and_from _ _ (ap not h) (ap not (plane.forward e E)))))
      ]

  -- an end of an edge is on the edge
  on_low : (e : Edge) → Contains g.edges e → IsOnEdge e e.low
  on_low e E =
      let p = plane.proper_edge e E in
      record { proper = p.0; from = before_irrefl e.low; to = backward e E; on = side-lower e }

  on_high : (e : Edge) → Contains g.edges e → IsOnEdge e e.high
  on_high e E =
      let p = plane.proper_edge e E in
      record { proper = p.1; from = backward e E; to = before_irrefl e.high; on = side-upper e }

  end_is_on : (v : Point) → has_dart g v ≡ true → IsOnAnEdge g v
  unfolding has_dart
  end_is_on v h =
      let a = any_out (λ e. same_point e.low v || same_point e.high v) g.edges h in
      let e = a.0 in
      let E = member_in g.edges e a.1 in
      record {
        edge = e;
        is_edge = E;
        on = elim (or_cases (same_point e.low v) (same_point e.high v) a.2) [
          | inl k ↦ subst (IsOnEdge e) (same_point_is e.low v k) (on_low e E)
          | inr k ↦ subst (IsOnEdge e) (same_point_is e.high v k) (on_high e E)
        ];
      }

  -- a vertex on an edge is an end of it
  on_is_end : (v : Point) → Contains g.vertices v → IsOnAnEdge g v → has_dart g v ≡ true
  on_is_end v V h =
      let e = h.edge in
      let E = h.is_edge in
      elim (cases_Bool (precedes e.low v)) [
        | inr a ↦ subst (λ x. has_dart g x ≡ true) (plane.distinct e.low v (plane.lower_in e E) V a h.on.from) (low_held g e E)
        | inl a ↦ elim (cases_Bool (precedes v e.high)) [
          | inr b ↦ subst (λ x. has_dart g x ≡ true) (plane.distinct e.high v (plane.upper_in e E) V h.on.to b) (high_held g e E)
          | inl b ↦ absurd (false≢true (sym (plane.clear e v E V) ∙ and_from _ _ (and_from _ _ a b) (level_passes (side e v) h.on.on)))
        ]
      ]
    where
      level_passes : (z : ℤ) → z ≡ pos 0 → (not (lt_z z (pos 0)) && not (lt_z (pos 0) z)) ≡ true
      level_passes z k = rw k refl

  -- an edge that passes the wall of v further out has a point there
  foot_beyond : (v : Point) (e : Edge) → HasWeight v → Contains g.edges e → passes v e ≡ true → edge_beyond w e v ≡ true → IsOnEdge e (foot e v) × (on_wall (foot e v) v ≡ true) × (vertex_beyond w (foot e v) v ≡ true)
  foot_beyond v e V E p b =
      let c = and_parts (left_of e.low v) (left_of v e.high) p in
      let q = plane.proper_edge e E in
      let R = run_positive e (left_of-before e.low v e.high q.0 V q.1 c.0 (left_of-asym v e.high c.1)) in
      let t = foot e v in
      let T = weighs e v R V in
      let a1 = foot_before e v v R ∙ left_of-irrefl v in
      let a2 = foot_after e v v R ∙ left_of-irrefl v in
      let s = edge_out w e v b in
      let on : IsOnEdge e (foot e v) = record {
        proper = T;
        from = not_precedes t e.low (foot_after e v e.low R ∙ left_of-asym e.low v c.0) (foot_before e v e.low R ∙ c.0);
        to = not_precedes e.high t (foot_before e v e.high R ∙ left_of-asym v e.high c.1) (foot_after e v e.high R ∙ c.1);
        on = foot_on e v;
      } in (
        on,
        and_from _ _ (ap not a2) (ap not a1),
        elim (cases_Bool (vertex_beyond w t v)) [
          | inl k ↦ k
          | inr k ↦ elim (cases_Bool (vertex_beyond w v t)) [
            | inl l ↦ (let n = past_line w e t v T R (foot_on e v) a1 a2 l in absurd (omega (arith, ints)))
            | inr l ↦ (let n = turned_zero w _ (level_line w e t v T (foot_on e v) a1 a2 k l) in absurd (omega (arith, ints)))
          ]
        ],
      )

  outermost_is_in : (v : Point) → Contains g.vertices v → has_dart g v ≡ true → IsOutermostPoint w (IsOnAnEdge g) v → is_extreme w g v ≡ true
  outermost_is_in v V d out =
      extreme_in w g v (record {
        is_end = d;
        no_end = elim (cases_Bool (list_any (λ u. on_wall u v && (has_dart g u && vertex_beyond w u v)) g.vertices)) [
          | inr h ↦ h
          | inl h ↦
              let a = any_out (λ u. on_wall u v && (has_dart g u && vertex_beyond w u v)) g.vertices h in
              let b = and_parts (on_wall a.0 v) (has_dart g a.0 && vertex_beyond w a.0 v) a.2 in
              let c = and_parts (has_dart g a.0) (vertex_beyond w a.0 v) b.1 in
              absurd (false≢true (sym (out a.0 (end_is_on a.0 c.0) b.0) ∙ c.1))
        ];
        no_edge = elim (cases_Bool (list_any (λ e. passes v e && edge_beyond w e v) g.edges)) [
          | inr h ↦ h
          | inl h ↦
              let a = any_out (λ e. passes v e && edge_beyond w e v) g.edges h in
              let b = and_parts (passes v a.0) (edge_beyond w a.0 v) a.2 in
              let E = member_in g.edges a.0 a.1 in
              let f = foot_beyond v a.0 (plane.proper v V) E b.0 b.1 in
              absurd (false≢true (sym (out (foot a.0 v) (record { edge = a.0; is_edge = E; on = f.0 }) f.1) ∙ f.2))
        ];
      })

  -- two of one wall in the list are one
  one_a_wall : (v z : Point) → Contains g.vertices v → Contains g.vertices z → is_extreme w g v ≡ true → is_extreme w g z ≡ true → left_of v z ≡ false → left_of z v ≡ false → v ≡ z
  one_a_wall v z V Z x y a b =
      let X = extreme_out w g v x in
      let Y = extreme_out w g z y in
      let n : vertex_beyond w v z ≡ false = false_from_ne_true _ (λ k. false≢true (sym (none_passes (λ u. on_wall u z && (has_dart g u && vertex_beyond w u z)) g.vertices Y.no_end v (in_member g.vertices v V)) ∙ and_from _ _ (and_from _ _ (ap not a) (ap not b)) (and_from _ _ X.is_end k))) in
      let m : vertex_beyond w z v ≡ false = false_from_ne_true _ (λ k. false≢true (sym (none_passes (λ u. on_wall u v && (has_dart g u && vertex_beyond w u v)) g.vertices X.no_end z (in_member g.vertices z Z)) ∙ and_from _ _ (and_from _ _ (ap not b) (ap not a)) (and_from _ _ Y.is_end k))) in
      same_spot w g v z plane V Z a b n m

  -- ---- the list from one of its vertices on
  record IsTail (us : List Point) : Type 0 where
    ascends : IsAscending point_cmp us
    are : (u : Point) → Member u us → Contains g.vertices u × (is_extreme w g u ≡ true)
    rest : (x : Point) → Contains g.vertices x → is_extreme w g x ≡ true → Member x us ⊎ ((u : Point) → Member u us → point_cmp x u ≡ Less)

  tail_of : (v : Point) (us : List Point) → IsTail (v ∷ us) → IsTail us
  tail_of v us t = record {
    ascends = t.ascends.1;
    are = λ u m. t.are u (inr m);
    rest = λ x X e. elim (t.rest x X e) [
      | inl m ↦ elim m [ inl k ↦ inr (λ u n. subst (λ y. point_cmp y u ≡ Less) (sym k) (All-member (λ y. point_cmp v y ≡ Less) u us t.ascends.0 n)) | inr k ↦ inl k ]
      | inr f ↦ inr (λ u n. f u (inr n))
    ];
  }

  module _ (v z : Point) (us : List Point) (t : IsTail (v ∷ z ∷ us)) where
    V : Contains g.vertices v
    V = (t.are v (inl refl)).0

    Z : Contains g.vertices z
    Z = (t.are z (inr (inl refl))).0

    less : point_cmp v z ≡ Less
    less = t.ascends.0.0

    is_ahead : left_of v z ≡ true
    is_ahead = elim (cases_Bool (left_of v z)) [
      | inl h ↦ h
      | inr h ↦
          let e = one_a_wall v z V Z (t.are v (inl refl)).1 (t.are z (inr (inl refl))).1 h (ahead v z (plane.proper v V) (plane.proper z Z) less) in
          let k = tied_itself point_cmp_total v in
          let l : point_cmp v v ≡ Less = subst (λ y. point_cmp v y ≡ Less) (sym e) less in
          absurd cc
    ]

    stretch : IsStretch w g v z
    stretch = record {
      plane = plane;
      first = V;
      second = Z;
      none = λ x X a b. false_from_ne_true _ (λ e. elim (t.rest x X e) [
        | inl m ↦ elim m [
          | inl k ↦ false≢true (sym (left_of-irrefl v) ∙ subst (λ y. left_of v y ≡ true) k a)
          | inr n ↦ elim n [
            | inl k ↦ false≢true (sym (left_of-irrefl z) ∙ subst (λ y. left_of y z ≡ true) k b)
            | inr i ↦ false≢true (sym (ahead z x (plane.proper z Z) (plane.proper x X) (All-member (λ y. point_cmp z y ≡ Less) x us t.ascends.1.0 i)) ∙ b)
          ]
        ]
        | inr f ↦ false≢true (sym (ahead x v (plane.proper x X) (plane.proper v V) (f v (inl refl))) ∙ a)
      ]);
    }

    within : (o : Option Edge) → IsOutermostOf w g (slab_right g v) o → (t : Point) → IsOnAnEdge g t → left_of v t ≡ true → left_of t z ≡ true → IsWithin w o t
    within None h t on a b = none_beyond_between.gap w g v z t on.edge stretch h on.is_edge a b on.on
    within (Some e) h t on a b = none_beyond_between.along w g v z t e on.edge stretch h on.is_edge a b on.on

    is_between : (o : Option Edge) → IsOutermostOf w g (slab_right g v) o → IsBetween w g (IsOnAnEdge g) v z o
    is_between o h = record {
      ahead = is_ahead;
      everywhere = λ u U a b. envelope_goes_on w g v u z o plane V U (plane.proper z Z) a b stretch.none h;
      none = within o h;
    }

  are_between : (us : List Point) → IsTail us → AreBetween w g (IsOnAnEdge g) us (between_all w g us)
  unfolding between_all
  are_between [] t = refl
  are_between (v ∷ []) t = refl
  are_between (v ∷ z ∷ us) t = (is_between v z us t (outermost w g v) ((outermost_is_told w g v (outermost w g v) plane (V v z us t)).0 refl), are_between (z ∷ us) (tail_of v (z ∷ us) t))

  listed : List Point
  listed = filter (is_extreme w g) g.vertices

  listed_out : (v : Point) → Contains listed v → Contains g.vertices v × (is_extreme w g v ≡ true)
  unfolding listed
  listed_out v V = let a = filter_out (is_extreme w g) g.vertices v (in_member (filter (is_extreme w g) g.vertices) v V) in (member_in g.vertices v a.0, a.1)

  listed_in : (v : Point) → Contains g.vertices v → is_extreme w g v ≡ true → Contains listed v
  unfolding listed
  listed_in v V x = member_in (filter (is_extreme w g) g.vertices) v (filter_in (is_extreme w g) g.vertices v (in_member g.vertices v V) x)

  whole : IsAscending point_cmp g.vertices → IsTail listed
  unfolding listed
  whole a = record {
    ascends = IsAscending-filter point_cmp (is_extreme w g) g.vertices a;
    are = λ u m. listed_out u (from_member listed u m);
    rest = λ x X e. inl (to_member listed x (listed_in x X e));
  }

  some_before : (t : Point) → IsOnAnEdge g t → (v : Point) × Contains listed v × (left_of t v ≡ false)
  some_before t on =
      elim (cases_Bool (list_any (λ x. not (left_of t x) && is_extreme w g x) g.vertices)) [
        | inl h ↦
            let a = any_out (λ x. not (left_of t x) && is_extreme w g x) g.vertices h in
            let b = and_parts (not (left_of t a.0)) (is_extreme w g a.0) a.2 in
            (a.0, listed_in a.0 (member_in g.vertices a.0 a.1) b.1, not-true _ b.0)
        | inr h ↦ absurd (none_outside.before w g t on.edge plane on.is_edge on.on (λ x X a. false_from_ne_true _ (λ e. false≢true (sym (none_passes (λ x. not (left_of t x) && is_extreme w g x) g.vertices h x (in_member g.vertices x X)) ∙ and_from _ _ (ap not a) e))))
      ]

  some_after : (t : Point) → IsOnAnEdge g t → (v : Point) × Contains listed v × (left_of v t ≡ false)
  some_after t on =
      elim (cases_Bool (list_any (λ x. not (left_of x t) && is_extreme w g x) g.vertices)) [
        | inl h ↦
            let a = any_out (λ x. not (left_of x t) && is_extreme w g x) g.vertices h in
            let b = and_parts (not (left_of a.0 t)) (is_extreme w g a.0) a.2 in
            (a.0, listed_in a.0 (member_in g.vertices a.0 a.1) b.1, not-true _ b.0)
        | inr h ↦ absurd (none_outside.after w g t on.edge plane on.is_edge on.on (λ x X a. false_from_ne_true _ (λ e. false≢true (sym (none_passes (λ x. not (left_of x t) && is_extreme w g x) g.vertices h x (in_member g.vertices x X)) ∙ and_from _ _ (ap not a) e))))
      ]

  is_envelope : IsAscending point_cmp g.vertices → IsEnvelope w g (IsOnAnEdge g) (outline w g)
  unfolding outline listed
  is_envelope a = record {
    are = λ v V.
        let b = listed_out v V in
        (b.0, end_is_on v (extreme_out w g v b.1).is_end, λ t on h. none_beyond_vertex w g v t on.edge plane b.0 b.1 on.is_edge h on.on);
    all = λ v V d out. listed_in v V (outermost_is_in v V (on_is_end v V d) out);
    between = are_between listed (whole a);
    before = some_before;
    after = some_after;
  }

pub outlines_are_envelopes : OutlinesAreEnvelopes
outlines_are_envelopes w g plane a = is_envelope w g plane a

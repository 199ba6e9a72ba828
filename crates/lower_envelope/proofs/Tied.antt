-- The edges of the records and their slabs: what is outermost for a slab by halving is outermost in the model.
use Rattle.std.proofs.Common.{◌≡◌, ℕ, ◌<◌, ◌≤◌, true, false, arith, sym, ap, ap₂, subst, ◌∙◌, inl, inr, List, length}
use Rattle.std.specs.Prelude.{not, ◌&&◌, slice_index_or, Option, Some, None}
use Rattle.std.specs.List.{Contains, count_by}
use Rattle.std.proofs.lemmas.Bool.{false≢true, and_parts, not-true, false_from_ne_true, cases_lt, leb-true, ltb-true, le-leb, lt-leb, le-ltb, lt-ltb}
use Rattle.std.proofs.lemmas.List.Sums.{count_by-le-length}
use lib.Dec.{leb, ltb}
use Rattle.exact_plane.specs.Point.{Point}
use Rattle.exact_plane.specs.Span.{Span}
use Rattle.plane_graphs.specs.Ascending.{Member}
use Rattle.plane_graphs.specs.Graph.{Edge}
use Rattle.slab_laws.specs.Skeleton.{Skeleton, HasWeight, IsPlaneSkeleton, left_of}
use Rattle.slab_laws.specs.Slabs.{reaches_right, spans, slab_right}
use Rattle.slab_laws.specs.SpansDrawn.{edge_of}
use Rattle.slab_faces.proofs.Sums.{fewer, fewer_than}
use Rattle.slab_faces.proofs.Member.{member_in, in_member}
use Rattle.slab_faces.proofs.Walls.{left_of-irrefl, left_of-asym, left_of-before}
use Rattle.slab_faces.proofs.Cells.{both, leb_not, ltb_yes, not_right_trans, spans_right}
use Rattle.slab_faces.proofs.Searches.{best_of}
use Rattle.slab_faces.proofs.Nudge.{right_inside, is_slab_right}
use Rattle.slab_faces.proofs.Turns.{on_own_wall}
use Rattle.slab_faces.proofs.Along.{below_self}
use Rattle.slab_faces.proofs.Slabs.{IsSlab}
use Rattle.envelope_laws.specs.declared.which.Which.{Which}
use Rattle.envelope_laws.specs.declared.which.Which.TheVariants.{Lower, Upper}
use Rattle.envelope_laws.specs.Envelopes.{outside_of}
use Rattle.envelope_laws.specs.Outermost.{IsOutermostIn, IsOutermostOf}
use Rattle.envelope_laws.proofs.Outer.{Spanning, in_turn, outside_trans}
use Rattle.envelope_laws.proofs.Unbounded.{some_outermost}
use Rattle.lower_envelope.specs.declared.slabs.Stretch.{Stretch}
use Rattle.lower_envelope.specs.Slabs.{span_at, further_at, covers, is_proper, AreSlanted, IsWithin, AreWithin, AreInTurn, IsBest, ArePlaces}
use Rattle.lower_envelope.specs.Edges.{stretch_at, stretches_upto}
use Rattle.lower_envelope.specs.Corners.{edge_at, AreSlabsOf}
use Rattle.lower_envelope.proofs.Numbers.{upto_out, upto_in, IsNumbered}

-- edges of a plane graph that aren't vertical, in a list that has those that are outermost in a slab; and some vertices, with all ends of these edges
pub record AreEdgesOf (w : Which) (g : Skeleton) (ps : List Point) (es : List Span) : Type 0 where
  pub plane : IsPlaneSkeleton g
  pub points : (p : Point) → Contains ps p → Contains g.vertices p
  pub are : (k : ℕ) → k < length es → Contains g.edges (edge_of (span_at es k))
  pub slanted : AreSlanted es
  pub all : (i : ℕ) (e : Edge) → IsOutermostIn w g i e → (k : ℕ) × (k < length es) × (edge_of (span_at es k) ≡ e)
  pub ends : (k : ℕ) → k < length es → Contains ps (span_at es k).lower × Contains ps (span_at es k).upper

itself : (w : Which) (g : Skeleton) → IsPlaneSkeleton g → (e : Edge) → Contains g.edges e → outside_of w e e ≡ false
itself Lower g plane e E = below_self g e plane E
itself Upper g plane e E = below_self g e plane E

module _ (w : Which) (g : Skeleton) (ps : List Point) (es : List Span) (h : AreEdgesOf w g ps es) where
  -- the number of the slab on the right of a point's wall
  abbrev at : Point → ℕ
  at p = count_by (λ v. not (left_of p v)) ps

  weight : (p : Point) → Contains ps p → HasWeight p
  weight p m = h.plane.proper p (h.points p m)

  number : (s : Stretch) → Member s (stretches_upto (stretch_at ps es) (length es)) → IsNumbered (stretch_at ps es) (length es) s
  number s m = upto_out (stretch_at ps es) (length es) s m

  pub within : AreWithin es (length ps) (stretches_upto (stretch_at ps es) (length es))
  within s m =
      let n = number s m in
      subst (IsWithin es (length ps)) (sym n.is) (record {
        place = n.within;
        some = ltb-true (stretch_at ps es n.place).low (stretch_at ps es n.place).high n.proper;
        high = count_by-le-length (λ v. not (left_of (span_at es n.place).upper v)) ps;
      })

  -- ---- numbers of slabs by some of the vertices
  few : (p t : Point) → HasWeight p → HasWeight t → left_of t p ≡ false → count_by (λ v. not (left_of p v)) ps ≤ count_by (λ v. not (left_of t v)) ps
  few p t P T a = fewer (λ v. not (left_of p v)) (λ v. not (left_of t v)) ps (λ v V k. ap not (not_right_trans v p t (weight v V) P T (not-true _ k) a))

  many : (p t : Point) → Contains ps p → HasWeight t → left_of t p ≡ true → count_by (λ v. not (left_of t v)) ps < count_by (λ v. not (left_of p v)) ps
  many p t m T a =
      fewer_than (λ v. not (left_of t v)) (λ v. not (left_of p v)) ps p m (ap not a) (ap not (left_of-irrefl p))
      (λ v V k. ap not (not_right_trans v t p (weight v V) T (weight p m) (not-true _ k) (left_of-asym t p a)))

  -- the range has the slab on the right of a point exactly where the edge reaches it
  reached : (k : ℕ) → k < length es → (v : Point) → HasWeight v → covers (stretch_at ps es k) (at v) ≡ reaches_right (edge_of (span_at es k)) v
  reached k l v V =
      let e = span_at es k in
      let m = h.ends k l in
      both _ _ _ _
      (leb_not (at e.lower) (at v) (left_of v e.lower) (λ a. few e.lower v (weight e.lower m.0) V a) (λ a. many e.lower v m.0 V a))
      (ltb_yes (at v) (at e.upper) (left_of v e.upper) (λ a. few e.upper v (weight e.upper m.1) V a) (λ a. many e.upper v m.1 V a))

  -- so it does exactly where the edge spans the graph's own slab there
  spanned : (k : ℕ) → k < length es → (v : Point) → Contains g.vertices v → covers (stretch_at ps es k) (at v) ≡ spans g (slab_right g v) (edge_of (span_at es k))
  spanned k l v V = reached k l v (h.plane.proper v V) ∙ sym (spans_right g v (edge_of (span_at es k)) h.plane (on_own_wall g v h.plane V) (h.are k l))

  -- an edge that is outermost on the right of a vertex is in the list
  there : (v : Point) → Contains g.vertices v → (e : Edge) → IsOutermostIn w g (slab_right g v) e → (k : ℕ) × (k < length es) × (edge_of (span_at es k) ≡ e) × (Member (stretch_at ps es k) (stretches_upto (stretch_at ps es) (length es)) × (covers (stretch_at ps es k) (at v) ≡ true))
  there v V e o =
      let r = h.all (slab_right g v) e o in
      let c : covers (stretch_at ps es r.0) (at v) ≡ true = spanned r.0 r.1 v V ∙ ap (spans g (slab_right g v)) r.2 ∙ o.spanning in
      let a = and_parts (leb (stretch_at ps es r.0).low (at v)) (ltb (at v) (stretch_at ps es r.0).high) c in
      let lo = leb-true (stretch_at ps es r.0).low (at v) a.0 in
      let hi = ltb-true (at v) (stretch_at ps es r.0).high a.1 in
      let q : is_proper (stretch_at ps es r.0) ≡ true = lt-ltb (stretch_at ps es r.0).low (stretch_at ps es r.0).high (omega (arith, lo, hi)) in
      (r.0, r.1, r.2, (upto_in (stretch_at ps es) (length es) r.0 r.1 q, c))

  -- ---- a slab by number, and the wall on its left
  record IsBeside (i : ℕ) (v : Point) : Type 0 where
    is_vertex : Contains g.vertices v
    covered : (k : ℕ) → k < length es → covers (stretch_at ps es k) i ≡ covers (stretch_at ps es k) (at v)

  near : (i k : ℕ) → k < length es → covers (stretch_at ps es k) i ≡ true → (v : Point) × IsBeside i v
  near i k l c =
      let a = and_parts (leb (stretch_at ps es k).low i) (ltb i (stretch_at ps es k).high) c in
      let from = (h.ends k l).0 in
      elim (best_of (λ x. leb (count_by (λ v. not (left_of x v)) ps) i) (λ x y. left_of y x) ps left_of-irrefl (λ x y z b c d p q. left_of-before z y x (weight z (member_in ps z d)) (weight y (member_in ps y c)) (weight x (member_in ps x b)) q (left_of-asym y x p))) [
        | inl n ↦ absurd (false≢true (sym (n (span_at es k).lower (in_member ps (span_at es k).lower from)) ∙ a.0))
        | inr b ↦
            let v = b.0 in
            let V = member_in ps v b.1.in' in
            let W = weight v V in
            let bound = leb-true (at v) i b.1.passes in
            let low : (x : Point) → Contains ps x → leb (at x) i ≡ leb (at x) (at v) = λ x X. elim (cases_lt i (at x)) [
              | inl l ↦ lt-leb (at x) i l ∙ sym (lt-leb (at x) (at v) (omega (arith, l, bound)))
              | inr l ↦ le-leb (at x) i l ∙ sym (le-leb (at x) (at v) (few x v (weight x X) W (b.1.best x (in_member ps x X) (le-leb (at x) i l))))
            ] in
            let high : (x : Point) → Contains ps x → ltb i (at x) ≡ ltb (at v) (at x) = λ x X. elim (cases_lt i (at x)) [
              | inl l ↦ lt-ltb i (at x) l ∙ sym (lt-ltb (at v) (at x) (omega (arith, l, bound)))
              | inr l ↦ le-ltb i (at x) l ∙ sym (le-ltb (at v) (at x) (few x v (weight x X) W (b.1.best x (in_member ps x X) (le-leb (at x) i l))))
            ] in
            (v, record { is_vertex = h.points v V; covered = λ j m. ap₂ (λ x y. x && y) (low (span_at es j).lower (h.ends j m).0) (high (span_at es j).upper (h.ends j m).1) })
      ]

  slab : (v : Point) → Contains g.vertices v → IsSlab g (slab_right g v) (right_inside g v)
  slab v V = is_slab_right g v h.plane (on_own_wall g v h.plane V)

  -- what covers the slab spans the graph's own one beside that wall
  spanning : (i : ℕ) (v : Point) (b : IsBeside i v) (s : Stretch) → Member s (stretches_upto (stretch_at ps es) (length es)) → covers s i ≡ true → Spanning g (slab_right g v) (right_inside g v) h.plane (slab v b.is_vertex) (edge_of (span_at es s.place))
  spanning i v b s m c =
      let n = number s m in
      subst (λ k. Spanning g (slab_right g v) (right_inside g v) h.plane (slab v b.is_vertex) (edge_of (span_at es k))) (sym (ap (λ x. x.place) n.is)) (record {
        is_edge = h.are n.place n.within;
        spanning = sym (spanned n.place n.within v b.is_vertex) ∙ sym (b.covered n.place n.within) ∙ subst (λ x. covers x i ≡ true) n.is c;
      })

  pub turns : AreInTurn (further_at w es) (stretches_upto (stretch_at ps es) (length es))
  turns i = record {
    once = λ s S a. let r = beside s S a in itself w g h.plane (edge_of (span_at es s.place)) (spanning i r.0 r.1 s S a).is_edge;
    total = λ s t S T a b. let r = beside s S a in elim (in_turn g (slab_right g r.0) (right_inside g r.0) h.plane (slab r.0 r.1.is_vertex) w (edge_of (span_at es s.place)) (edge_of (span_at es t.place)) (spanning i r.0 r.1 s S a) (spanning i r.0 r.1 t T b)) [
      | inl k ↦ inl k
      | inr k ↦ elim k [ inl l ↦ inr (inl l) | inr l ↦ inr (inr (λ x m. subst (λ e. outside_of w (edge_of (span_at es x)) e ≡ true) (sym l) m)) ]
    ];
    trans = λ s t u S T U a b c k l. let r = beside s S a in outside_trans g (slab_right g r.0) (right_inside g r.0) h.plane (slab r.0 r.1.is_vertex) w (edge_of (span_at es s.place)) (edge_of (span_at es t.place)) (edge_of (span_at es u.place)) (spanning i r.0 r.1 s S a) (spanning i r.0 r.1 t T b) (spanning i r.0 r.1 u U c) k l;
  }
    where
      beside : (s : Stretch) → Member s (stretches_upto (stretch_at ps es) (length es)) → covers s i ≡ true → (v : Point) × IsBeside i v
      beside s m c = let n = number s m in near i n.place n.within (subst (λ x. covers x i ≡ true) n.is c)

  -- ---- the best of the slab on the right of a vertex is outermost there
  of_best : (v : Point) → Contains g.vertices v → (o : Option ℕ) → IsBest (further_at w es) (λ s. covers s (at v)) (stretches_upto (stretch_at ps es) (length es)) o → IsOutermostOf w g (slab_right g v) (edge_at es o)
  of_best v V None b = λ e E. false_from_ne_true _ (λ s. let m = some_outermost w g (slab_right g v) e h.plane E s in let r = there v V m.0 m.1 in false≢true (sym (b (stretch_at ps es r.0) r.3.0) ∙ r.3.1))
  of_best v V (Some a) b =
      let n = number b.one b.in' in
      let q : a ≡ n.place = sym b.place ∙ ap (λ x. x.place) n.is in
      let i = slab_right g v in
      let E = h.are n.place n.within in
      let S : spans g i (edge_of (span_at es n.place)) ≡ true = sym (spanned n.place n.within v V) ∙ subst (λ x. covers x (at v) ≡ true) n.is b.passes in
      subst (λ k. IsOutermostIn w g i (edge_of (span_at es k))) (sym q) (record {
        is_edge = E;
        spanning = S;
        none = λ f F s out.
            let m = some_outermost w g i f h.plane F s in
            let o = m.1 in
            let r = there v V m.0 o in
            let not_out : outside_of w m.0 (edge_of (span_at es n.place)) ≡ false = subst (λ x. outside_of w x (edge_of (span_at es n.place)) ≡ false) r.2 (subst (λ k. further_at w es r.0 k ≡ false) q (b.none (stretch_at ps es r.0) r.3.0 r.3.1)) in
            elim (in_turn g i (right_inside g v) h.plane (slab v V) w m.0 (edge_of (span_at es n.place)) (record { is_edge = o.is_edge; spanning = o.spanning }) (record { is_edge = E; spanning = S })) [
              | inl k ↦ false≢true (sym not_out ∙ k)
              | inr k ↦ elim k [
                | inl l ↦ o.none (edge_of (span_at es n.place)) E S l
                | inr l ↦ o.none f F s (subst (λ x. outside_of w f x ≡ true) (sym l) out)
              ]
            ];
      })

  pub slabs_told : (slabs : List (Option ℕ)) → ((i : ℕ) → IsBest (further_at w es) (λ s. covers s i) (stretches_upto (stretch_at ps es) (length es)) (slice_index_or slabs i None)) → ArePlaces es slabs → AreSlabsOf w g ps es slabs
  slabs_told slabs b p = record { outermost = λ v V. of_best v V (slice_index_or slabs (at v) None) (b (at v)); places = p }

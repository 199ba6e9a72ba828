-- Outside an envelope no edge has a point; and what the search for an outermost edge answers.
use Rattle.std.proofs.Common.{◌≡◌, ◌↔◌, ℕ, zero, suc, ◌<◌, ◌≤◌, ◌-◌, true, false, arith, sym, ap, ◌∙◌, ◌⊎◌, inl, inr}
use Rattle.std.proofs.lemmas.Int.{ints}
use Rattle.std.specs.Prelude.{not, ◌&&◌, Option, Some, None}
use Rattle.std.specs.List.{Contains, list_any}
use Rattle.std.proofs.lemmas.Bool.{false≢true, and_parts, and_from, not-true, cases_Bool, false_from_ne_true}
use Rattle.exact_plane.specs.Point.{Point}
use Rattle.plane_graphs.specs.Graph.{Edge}
use Rattle.slab_laws.specs.Skeleton.{Skeleton, HasWeight, IsPlaneSkeleton, left_of, on_wall, below}
use Rattle.slab_laws.specs.Slabs.{reaches_right, spans, place, width, slab_right}
use Rattle.slab_laws.specs.Subdivision.{has_dart}
use Rattle.slab_faces.proofs.Walls.{left_of-irrefl, left_of-asym, left_of-before, on_wall_parts}
use Rattle.slab_faces.proofs.Cells.{not_right_trans, spans_right}
use Rattle.slab_faces.proofs.Slabs.{IsSlab, through, by_gap, below_at, gap_at, gap_trans, run_through, place_less}
use Rattle.slab_faces.proofs.Order.{gap-swap}
use Rattle.slab_faces.proofs.Sums.{fewer}
use Rattle.slab_faces.proofs.Nudge.{right_inside, is_slab_right}
use Rattle.slab_faces.proofs.Turns.{on_own_wall}
use Rattle.slab_faces.proofs.Searches.{best_of}
use Rattle.slab_faces.proofs.Member.{Member, member_in, in_member, none_passes, none_passing}
use Rattle.envelope_laws.specs.declared.which.Which.{Which}
use Rattle.envelope_laws.specs.declared.which.Which.TheVariants.{Lower, Upper}
use Rattle.envelope_laws.specs.Envelopes.{outside_of, is_extreme, is_outermost, outermost}
use Rattle.envelope_laws.specs.Outermost.{IsOutermostIn, IsGap, IsOutermostOf}
use Rattle.envelope_laws.specs.EnvelopeLaws.{IsOnEdge}
use Rattle.envelope_laws.proofs.Searching.{any_out, find_one, find_none, found, not_found}
use Rattle.envelope_laws.proofs.Steps.{passing_beyond, low_held, high_held}
use Rattle.envelope_laws.proofs.Ends.{not_before}

own : (g : Skeleton) (m : Point) → on_wall m m ≡ true
own g m = and_from _ _ (ap not (left_of-irrefl m)) (ap not (left_of-irrefl m))

none_before : (w : Which) (g : Skeleton) (t : Point) (f : Edge) → IsPlaneSkeleton g → Contains g.edges f → IsOnEdge f t → ((x : Point) → Contains g.vertices x → left_of t x ≡ false → is_extreme w g x ≡ false) → ⊥
none_before w g t f plane F on none =
    let T = on.proper in
    let P : (x : Point) → Member g.vertices x → HasWeight x = λ x m. plane.proper x (member_in g.vertices x m) in
    elim (best_of (has_dart g) left_of g.vertices left_of-irrefl (λ x y z a b c p q. left_of-before x y z (P x a) (P y b) (P z c) p (left_of-asym y z q))) [
      | inl n ↦ false≢true (sym (n f.low (in_member g.vertices f.low (plane.lower_in f F))) ∙ low_held g f F)
      | inr b ↦
          let m = b.0 in
          let M = member_in g.vertices m b.1.in' in
          let Q = plane.proper m M in
          let L = (plane.proper_edge f F).0 in
          let up : left_of t m ≡ false = not_right_trans m f.low t Q L T (b.1.best f.low (in_member g.vertices f.low (plane.lower_in f F)) (low_held g f F)) (not_before t f.low on.from).0 in
          let k = passing_beyond w g m plane M (λ x X q. let o = on_wall_parts x m q in none x X (not_right_trans x m t (plane.proper x X) Q T o.1 up)) m M (own g m) b.1.passes in
          let c = and_parts (left_of k.0.low m) (left_of m k.0.high) k.2 in
          false≢true (sym (b.1.best k.0.low (in_member g.vertices k.0.low (plane.lower_in k.0 k.1)) (low_held g k.0 k.1)) ∙ c.0)
    ]

none_after : (w : Which) (g : Skeleton) (t : Point) (f : Edge) → IsPlaneSkeleton g → Contains g.edges f → IsOnEdge f t → ((x : Point) → Contains g.vertices x → left_of x t ≡ false → is_extreme w g x ≡ false) → ⊥
none_after w g t f plane F on none =
    let T = on.proper in
    let P : (x : Point) → Member g.vertices x → HasWeight x = λ x m. plane.proper x (member_in g.vertices x m) in
    elim (best_of (has_dart g) (λ x y. left_of y x) g.vertices left_of-irrefl (λ x y z a b c p q. left_of-before z y x (P z c) (P y b) (P x a) q (left_of-asym y x p))) [
      | inl n ↦ false≢true (sym (n f.high (in_member g.vertices f.high (plane.upper_in f F))) ∙ high_held g f F)
      | inr b ↦
          let m = b.0 in
          let M = member_in g.vertices m b.1.in' in
          let Q = plane.proper m M in
          let H = (plane.proper_edge f F).1 in
          let up : left_of m t ≡ false = not_right_trans t f.high m T H Q (not_before f.high t on.to).0 (b.1.best f.high (in_member g.vertices f.high (plane.upper_in f F)) (high_held g f F)) in
          let k = passing_beyond w g m plane M (λ x X q. let o = on_wall_parts x m q in none x X (not_right_trans t m x T Q (plane.proper x X) up o.0)) m M (own g m) b.1.passes in
          let c = and_parts (left_of k.0.low m) (left_of m k.0.high) k.2 in
          false≢true (sym (b.1.best k.0.high (in_member g.vertices k.0.high (plane.upper_in k.0 k.1)) (high_held g k.0 k.1)) ∙ c.1)
    ]

-- left of all vertices of the envelope, and right of all, no edge has a point
pub record NoneOutside : Type 0 where
  pub before : (w : Which) (g : Skeleton) (t : Point) (f : Edge) → IsPlaneSkeleton g → Contains g.edges f → IsOnEdge f t → ((x : Point) → Contains g.vertices x → left_of t x ≡ false → is_extreme w g x ≡ false) → ⊥
  pub after : (w : Which) (g : Skeleton) (t : Point) (f : Edge) → IsPlaneSkeleton g → Contains g.edges f → IsOnEdge f t → ((x : Point) → Contains g.vertices x → left_of x t ≡ false → is_extreme w g x ≡ false) → ⊥

pub none_outside : NoneOutside
none_outside = record { before = none_before; after = none_after }

-- ---- the edges of a slab, from the outermost in
module _ (g : Skeleton) (i : ℕ) (M : Point) (plane : IsPlaneSkeleton g) (slab : IsSlab g i M) where
  pub record Spanning (e : Edge) : Type 0 where
    pub is_edge : Contains g.edges e
    pub spanning : spans g i e ≡ true

  by_height : (f e : Edge) → Spanning f → Spanning e → (below f e ≡ true) ⊎ ((below e f ≡ true) ⊎ (f ≡ e))
  by_height f e p q =
      let F = p.is_edge in
      let E = q.is_edge in
      let a = through g i M f slab F p.spanning in
      let b = through g i M e slab E q.spanning in
      by_gap g f e M plane F E slab.proper a b
      (λ n. inl (below_at g f e M plane F E slab.proper a b n))
      (λ n. inr (inl (below_at g e f M plane E F slab.proper b a (let s = gap-swap f e M in omega (arith, ints)))))
      (λ h. inr (inr h))

  pub in_turn : (w : Which) (f e : Edge) → Spanning f → Spanning e → (outside_of w f e ≡ true) ⊎ ((outside_of w e f ≡ true) ⊎ (f ≡ e))
  in_turn Lower f e p q = by_height f e p q
  in_turn Upper f e p q = elim (by_height e f q p) [ inl h ↦ inl h | inr h ↦ elim h [ inl k ↦ inr (inl k) | inr k ↦ inr (inr (sym k)) ] ]

  lower_trans : (f e d : Edge) → Spanning f → Spanning e → Spanning d → below f e ≡ true → below e d ≡ true → below f d ≡ true
  lower_trans f e d p q r h k =
      let F = p.is_edge in
      let E = q.is_edge in
      let D = r.is_edge in
      let P = slab.proper in
      let a = through g i M f slab F p.spanning in
      let b = through g i M e slab E q.spanning in
      let c = through g i M d slab D r.spanning in
      below_at g f d M plane F D P a c (gap_trans f e d M (run_through g f M plane F P a) (run_through g e M plane E P b) (run_through g d M plane D P c) (gap_at g f e M plane F E P a b h) (gap_at g e d M plane E D P b c k))

  pub outside_trans : (w : Which) (f e d : Edge) → Spanning f → Spanning e → Spanning d → outside_of w f e ≡ true → outside_of w e d ≡ true → outside_of w f d ≡ true
  outside_trans Lower f e d p q r h k = lower_trans f e d p q r h k
  outside_trans Upper f e d p q r h k = lower_trans d e f r q p k h

  spans_of : (w : Which) (e : Edge) → IsOutermostIn w g i e → Spanning e
  spans_of w e h = record { is_edge = h.is_edge; spanning = h.spanning }

  -- two outermost edges of a slab are one
  pub one_outermost : (w : Which) (f e : Edge) → IsOutermostIn w g i f → IsOutermostIn w g i e → f ≡ e
  one_outermost w f e p q =
      elim (in_turn w f e (spans_of w f p) (spans_of w e q)) [
        | inl h ↦ absurd (q.none f p.is_edge p.spanning h)
        | inr k ↦ elim k [ inl h ↦ absurd (p.none e q.is_edge q.spanning h) | inr h ↦ h ]
      ]

  -- how many are further out, but for one
  depth : Which → Edge → ℕ
  depth Lower e = place g i e
  depth Upper e = width g i - place g i e

  depth_less : (w : Which) (f e : Edge) → Spanning f → Spanning e → outside_of w f e ≡ true → depth w f < depth w e
  unfolding width depth
  depth_less Lower f e p q h = place_less g i M f e plane slab p.is_edge q.is_edge p.spanning q.spanning h
  depth_less Upper f e p q h =
      let a = place_less g i M e f plane slab q.is_edge p.is_edge q.spanning p.spanning h in
      let b = fewer (λ d. spans g i d && below d f) (spans g i) g.edges (λ d D k. (and_parts (spans g i d) (below d f) k).0) in
      omega arith

-- ---- the search
module _ (w : Which) (g : Skeleton) (v : Point) (plane : IsPlaneSkeleton g) (V : Contains g.vertices v) where
  slab : IsSlab g (slab_right g v) (right_inside g v)
  slab = is_slab_right g v plane (on_own_wall g v plane V)

  reaches_spans : (e : Edge) → Contains g.edges e → spans g (slab_right g v) e ≡ reaches_right e v
  reaches_spans e E = spans_right g v e plane (on_own_wall g v plane V) E

  passed : (e : Edge) → Contains g.edges e → is_outermost w g v e ≡ true → IsOutermostIn w g (slab_right g v) e
  unfolding is_outermost
  passed e E h =
      let b = and_parts (reaches_right e v) (not (list_any (λ f. reaches_right f v && outside_of w f e) g.edges)) h in
      record {
        is_edge = E;
        spanning = reaches_spans e E ∙ b.0;
        none = λ f F s k. false≢true (sym (none_passes (λ f. reaches_right f v && outside_of w f e) g.edges (not-true _ b.1) f (in_member g.edges f F)) ∙ and_from _ _ (sym (reaches_spans f F) ∙ s) k);
      }

  passes_test : (e : Edge) → IsOutermostIn w g (slab_right g v) e → is_outermost w g v e ≡ true
  unfolding is_outermost
  passes_test e h =
      let n = none_passing (λ f. reaches_right f v && outside_of w f e) g.edges (λ f F. false_from_ne_true _ (λ k.
      let a = and_parts (reaches_right f v) (outside_of w f e) k in
      let F' = member_in g.edges f F in
      h.none f F' (reaches_spans f F' ∙ a.0) a.1)) in
      and_from _ _ (sym (reaches_spans e h.is_edge) ∙ h.spanning) (ap not n)

  some_out : (e : Edge) → outermost w g v ≡ Some e → IsOutermostIn w g (slab_right g v) e
  unfolding outermost
  some_out e h = let a = found (is_outermost w g v) g.edges e h in passed e (member_in g.edges e a.0) a.1

  some_in : (e : Edge) → IsOutermostIn w g (slab_right g v) e → outermost w g v ≡ Some e
  unfolding outermost
  some_in e h = find_one (is_outermost w g v) g.edges e (in_member g.edges e h.is_edge) (passes_test e h) (λ f F k. one_outermost g (slab_right g v) (right_inside g v) plane slab w f e (passed f (member_in g.edges f F) k) h)

  -- an edge of the slab, or one further out, is outermost
  one_step : (e : Edge) → outermost w g v ≡ None → Spanning g (slab_right g v) (right_inside g v) plane slab e → ((f : Edge) → Spanning g (slab_right g v) (right_inside g v) plane slab f → depth g (slab_right g v) (right_inside g v) plane slab w f < depth g (slab_right g v) (right_inside g v) plane slab w e → ⊥) → ⊥
  unfolding outermost is_outermost
  one_step e h p deeper =
      elim (cases_Bool (list_any (λ f. reaches_right f v && outside_of w f e) g.edges)) [
        | inl k ↦
            let a = any_out (λ f. reaches_right f v && outside_of w f e) g.edges k in
            let b = and_parts (reaches_right a.0 v) (outside_of w a.0 e) a.2 in
            let F = member_in g.edges a.0 a.1 in
            let q : Spanning g (slab_right g v) (right_inside g v) plane slab a.0 = record { is_edge = F; spanning = reaches_spans a.0 F ∙ b.0 } in
            deeper a.0 q (depth_less g (slab_right g v) (right_inside g v) plane slab w a.0 e q p b.1)
        | inr k ↦ false≢true (sym (not_found (is_outermost w g v) g.edges h e (in_member g.edges e p.is_edge)) ∙ and_from _ _ (sym (reaches_spans e p.is_edge) ∙ p.spanning) (ap not k))
      ]

  none_within : (n : ℕ) (e : Edge) → outermost w g v ≡ None → Spanning g (slab_right g v) (right_inside g v) plane slab e → depth g (slab_right g v) (right_inside g v) plane slab w e ≤ n → ⊥
  none_within zero e h p l = one_step e h p (λ f q k. absurd (omega arith))
  none_within (suc n) e h p l = one_step e h p (λ f q k. none_within n f h q (omega arith))

  none_out : outermost w g v ≡ None → IsGap g (slab_right g v)
  none_out h e E = false_from_ne_true (spans g (slab_right g v) e) (λ s. none_within (depth g (slab_right g v) (right_inside g v) plane slab w e) e h (record { is_edge = E; spanning = s }) (omega arith))

  none_in : IsGap g (slab_right g v) → outermost w g v ≡ None
  unfolding outermost is_outermost
  none_in h = find_none (is_outermost w g v) g.edges (λ e E. false_from_ne_true _ (λ k.
      let a = and_parts (reaches_right e v) (not (list_any (λ f. reaches_right f v && outside_of w f e) g.edges)) k in
      let E' = member_in g.edges e E in
      false≢true (sym (h e E') ∙ (reaches_spans e E' ∙ a.0))))

  told : (o : Option Edge) → (outermost w g v ≡ o) ↔ IsOutermostOf w g (slab_right g v) o
  told None = (none_out, none_in)
  told (Some e) = (some_out e, some_in e)

-- the search answers the outermost edge of the slab on the right of a vertex, or that there is none
abbrev pub OutermostIsTold : Type 0
OutermostIsTold =
    (w : Which) (g : Skeleton) (v : Point) (o : Option Edge) → IsPlaneSkeleton g → Contains g.vertices v → (outermost w g v ≡ o) ↔ IsOutermostOf w g (slab_right g v) o

pub outermost_is_told : OutermostIsTold
outermost_is_told w g v o plane V = told w g v plane V o

-- Which of some ends of edges are on the envelope, by their neighbours in the order of points and by what stands on their right.
use Rattle.std.proofs.Common.{◌≡◌, ℕ, ◌+◌, ◌-◌, ◌<◌, ◌≤◌, Bool, true, false, arith, refl, sym, ap, subst, ◌∙◌, ◌⊎◌, inl, inr, List, length, get_or, Ordering, Less, Equal, Greater}
use Rattle.std.specs.Prelude.{pos, ◌*ℤ◌, not, ◌&&◌, ◌||◌, ◌==◌, Option, Some, None}
use Rattle.std.specs.List.{Contains}
use Rattle.std.proofs.lemmas.Bool.{false≢true, and_parts, and_from, or_cases, cases_Bool, false_from_ne_true, not-true, eqb-true, eq-eqb, cases_eq, cases_order}
use Rattle.std.proofs.lemmas.Int.{ints}
use Rattle.std.proofs.lemmas.Cmp.{tied_itself}
use Rattle.integers.proofs.Compare.{less_out, equal_out}
use Rattle.exact_plane.specs.Point.{Point}
use Rattle.exact_plane.specs.PointOrder.{point_cmp, by_x, by_y, weight}
use Rattle.exact_plane.specs.PointOrderLaws.{point_cmp_total}
use Rattle.exact_plane.proofs.Places.{weight-is}
use Rattle.plane_graphs.specs.Ascending.{Member, IsAscending}
use Rattle.plane_graphs.specs.Graph.{Edge}
use Rattle.plane_graphs.proofs.Sorting.{member_at, rises}
use Rattle.slab_laws.specs.Skeleton.{Skeleton, HasWeight, IsPlaneSkeleton, left_of, lower_than, on_wall}
use Rattle.slab_laws.specs.Slabs.{slab_right}
use Rattle.slab_laws.specs.Subdivision.{has_dart}
use Rattle.slab_faces.proofs.Walls.{left_of-irrefl, left_of-before, left_of-after, on_wall_parts, lower_than-irrefl, run_positive}
use Rattle.slab_faces.proofs.Cells.{not_right_trans, right_few, spans_right}
use Rattle.slab_faces.proofs.Searches.{best_of}
use Rattle.slab_faces.proofs.Turns.{le_antisym, on_own_wall}
use Rattle.slab_faces.proofs.Member.{Member as Listed, member_in, in_member, none_passes}
use Rattle.envelope_laws.specs.declared.which.Which.{Which}
use Rattle.envelope_laws.specs.declared.which.Which.TheVariants.{Lower, Upper}
use Rattle.envelope_laws.specs.Envelopes.{vertex_beyond, is_extreme}
use Rattle.envelope_laws.specs.Outermost.{IsOutermostOf, hides}
use Rattle.envelope_laws.proofs.Extreme.{IsOutermostEnd, extreme_is_told}
use Rattle.envelope_laws.proofs.Outward.{beyond-irrefl, beyond-trans, same_spot, edge_out, edge_in, inward}
use Rattle.envelope_laws.proofs.Outlines.{ahead}
use Rattle.envelope_laws.proofs.Steps.{extreme_out}
use Rattle.lower_envelope.proofs.Numbers.{place_in}

split_or : (a b : Bool) → (a || not b) ≡ false → (a ≡ false) × (b ≡ true)
split_or true b h = absurd (false≢true (sym h))
split_or false true h = (refl, refl)
split_or false false h = absurd (false≢true (sym h))

-- a point that comes before another on its wall isn't above it
not_above : (p q : Point) → HasWeight p → HasWeight q → point_cmp p q ≡ Less → left_of p q ≡ false → lower_than q p ≡ false
unfolding left_of lower_than
not_above p q P Q h n = go (by_x p q) (by_y p q) refl refl
  where
    go : (o r : Ordering) → by_x p q ≡ o → by_y p q ≡ r → lower_than q p ≡ false
    go Less r e f = let l = less_out (p.x *ℤ weight q.w) (q.x *ℤ weight p.w) e in let a = weight-is p.w P in let b = weight-is q.w Q in let l' = rw (a, b) at l in absurd (omega (arith, ints))
    go Equal Less e f = let l = less_out (p.y *ℤ weight q.w) (q.y *ℤ weight p.w) f in let a = weight-is p.w P in let b = weight-is q.w Q in let l' = rw (a, b) at l in sym (omega (arith, ints))
    go Equal Equal e f = let l = equal_out (p.y *ℤ weight q.w) (q.y *ℤ weight p.w) f in let a = weight-is p.w P in let b = weight-is q.w Q in let l' = rw (a, b) at l in sym (omega (arith, ints))
    go Equal Greater e f = let k = rw (e, f) at h in absurd cc
    go Greater r e f = let k = rw e at h in absurd cc

-- ends of edges in their order
pub record AreEnds (g : Skeleton) (ps : List Point) : Type 0 where
  pub plane : IsPlaneSkeleton g
  pub ascends : IsAscending point_cmp ps
  pub are : (p : Point) → Member p ps → Contains g.vertices p × (has_dart g p ≡ true)

abbrev pub point_of : List Point → ℕ → Point
point_of ps k = get_or ps k (record { x = pos 0; y = pos 0; w = pos 0 })

-- by its neighbour
abbrev pub is_outer_point : Which → List Point → ℕ → Bool
is_outer_point Lower ps k = (k == 0) || not (on_wall (point_of ps (k - 1)) (point_of ps k))
is_outer_point Upper ps k = (k + 1 == length ps) || not (on_wall (point_of ps k) (point_of ps (k + 1)))

module _ (g : Skeleton) (ps : List Point) (h : AreEnds g ps) where
  V : (k : ℕ) → k < length ps → Contains g.vertices (point_of ps k)
  V k l = (h.are (point_of ps k) (member_at ps k (record { x = pos 0; y = pos 0; w = pos 0 }) l)).0

  D : (k : ℕ) → k < length ps → has_dart g (point_of ps k) ≡ true
  D k l = (h.are (point_of ps k) (member_at ps k (record { x = pos 0; y = pos 0; w = pos 0 }) l)).1

  W : (k : ℕ) → k < length ps → HasWeight (point_of ps k)
  W k l = h.plane.proper (point_of ps k) (V k l)

  less : (j k : ℕ) → j < k → k < length ps → point_cmp (point_of ps j) (point_of ps k) ≡ Less
  less j k a b = rises point_cmp ps h.ascends j k (record { x = pos 0; y = pos 0; w = pos 0 }) a b

  right : (j k : ℕ) → j < k → k < length ps → left_of (point_of ps k) (point_of ps j) ≡ false
  right j k a b = ahead (point_of ps j) (point_of ps k) (W j (omega arith)) (W k b) (less j k a b)

  -- not on one wall: further left
  left : (j k : ℕ) → j < k → k < length ps → on_wall (point_of ps j) (point_of ps k) ≡ false → left_of (point_of ps j) (point_of ps k) ≡ true
  left j k a b n = elim (cases_Bool (left_of (point_of ps j) (point_of ps k))) [ inl e ↦ e | inr e ↦ absurd (false≢true (sym n ∙ and_from _ _ (ap not e) (ap not (right j k a b)))) ]

  no_lower : (j k : ℕ) → j < length ps → k < length ps → on_wall (point_of ps j) (point_of ps k) ≡ true → lower_than (point_of ps j) (point_of ps k) ≡ true → j < k
  no_lower j k a b o l = elim (cases_order j k) [
    | inl e ↦ absurd (false≢true (sym (lower_than-irrefl (point_of ps k)) ∙ subst (λ i. lower_than (point_of ps i) (point_of ps k) ≡ true) e l))
    | inr r ↦ elim r [
      | inl i ↦ i
      | inr i ↦ absurd (false≢true (sym (not_above (point_of ps k) (point_of ps j) (W k b) (W j a) (less k j i a) (on_wall_parts (point_of ps j) (point_of ps k) o).1) ∙ l))
    ]
  ]

  upto : (i j : ℕ) → i ≤ j → j < length ps → left_of (point_of ps j) (point_of ps i) ≡ false
  upto i j a b = elim (cases_eq i j) [ inl e ↦ subst (λ n. left_of (point_of ps j) (point_of ps n) ≡ false) (sym e) (left_of-irrefl (point_of ps j)) | inr e ↦ right i j (omega arith) b ]

  -- the outer one of two neighbours on a wall has none of the list further out on this wall
  pub none_beyond : (w : Which) (j k : ℕ) → j < length ps → k < length ps → is_outer_point w ps k ≡ true → on_wall (point_of ps j) (point_of ps k) ≡ true → vertex_beyond w (point_of ps j) (point_of ps k) ≡ true → ⊥
  none_beyond Lower j k l b t on beyond =
      let i = no_lower j k l b on beyond in
      elim (or_cases (k == 0) (not (on_wall (point_of ps (k - 1)) (point_of ps k))) t) [
        | inl z ↦ (let e = eqb-true k 0 z in omega arith)
        | inr n ↦
            let q = left (k - 1) k (omega arith) b (not-true _ n) in
            let p = on_wall_parts (point_of ps j) (point_of ps k) on in
            let m : left_of (point_of ps (k - 1)) (point_of ps j) ≡ false = upto j (k - 1) (omega arith) (omega arith) in
            false≢true (sym p.0 ∙ left_of-after (point_of ps j) (point_of ps (k - 1)) (point_of ps k) (W j l) (W (k - 1) (omega arith)) (W k b) m q)
      ]
  none_beyond Upper j k l b t on beyond =
      let p = on_wall_parts (point_of ps j) (point_of ps k) on in
      let i = no_lower k j b l (and_from _ _ (ap not p.1) (ap not p.0)) beyond in
      elim (or_cases (k + 1 == length ps) (not (on_wall (point_of ps k) (point_of ps (k + 1)))) t) [
        | inl z ↦ (let e = eqb-true (k + 1) (length ps) z in omega arith)
        | inr n ↦
            let q = left k (k + 1) (omega arith) (omega arith) (not-true _ n) in
            let m : left_of (point_of ps j) (point_of ps (k + 1)) ≡ false = upto (k + 1) j (omega arith) l in
            false≢true (sym p.1 ∙ left_of-before (point_of ps k) (point_of ps (k + 1)) (point_of ps j) (W k b) (W (k + 1) (omega arith)) (W j l) q m)
      ]

  -- two neighbours of one wall: one of them is further out than the other
  beyond_one : (w : Which) (j k : ℕ) → j < k → k < length ps → on_wall (point_of ps j) (point_of ps k) ≡ true → (vertex_beyond w (point_of ps j) (point_of ps k) ≡ true) ⊎ (vertex_beyond w (point_of ps k) (point_of ps j) ≡ true)
  beyond_one w j k a b o =
      let p = on_wall_parts (point_of ps j) (point_of ps k) o in
      elim (cases_Bool (vertex_beyond w (point_of ps j) (point_of ps k))) [
        | inl e ↦ inl e
        | inr e ↦ elim (cases_Bool (vertex_beyond w (point_of ps k) (point_of ps j))) [
          | inl f ↦ inr f
          | inr f ↦
              let s = same_spot w g (point_of ps j) (point_of ps k) h.plane (V j (omega arith)) (V k b) p.0 p.1 e f in
              let t = tied_itself point_cmp_total (point_of ps k) in
              let l : point_cmp (point_of ps k) (point_of ps k) ≡ Less = subst (λ x. point_cmp x (point_of ps k) ≡ Less) s (less j k a b) in
              absurd cc
        ]
      ]

  not_extreme : (w : Which) (j k : ℕ) → j < length ps → k < length ps → on_wall (point_of ps j) (point_of ps k) ≡ true → vertex_beyond w (point_of ps j) (point_of ps k) ≡ true → is_extreme w g (point_of ps k) ≡ false
  not_extreme w j k a b o l =
      false_from_ne_true _ (λ x.
      let X = extreme_out w g (point_of ps k) x in
      false≢true (sym (none_passes (λ u. on_wall u (point_of ps k) && (has_dart g u && vertex_beyond w u (point_of ps k))) g.vertices X.no_end (point_of ps j) (in_member g.vertices (point_of ps j) (V j a))) ∙ and_from _ _ o (and_from _ _ (D j a) l)))

  pub inner_by : (w : Which) (k : ℕ) → k < length ps → is_outer_point w ps k ≡ false → is_extreme w g (point_of ps k) ≡ false
  inner_by Lower k b t =
      let c = split_or (k == 0) (on_wall (point_of ps (k - 1)) (point_of ps k)) t in
      let z : k ≡ 0 → ⊥ = λ e. false≢true (sym c.0 ∙ eq-eqb k 0 e) in
      let l : k - 1 < k = pred k z in
      elim (beyond_one Lower (k - 1) k l b c.1) [
        | inl e ↦ not_extreme Lower (k - 1) k (omega arith) b c.1 e
        | inr e ↦ absurd (false≢true (sym (not_above (point_of ps (k - 1)) (point_of ps k) (W (k - 1) (omega arith)) (W k b) (less (k - 1) k l b) (on_wall_parts (point_of ps (k - 1)) (point_of ps k) c.1).0) ∙ e))
      ]
    where
      pred : (k : ℕ) → (k ≡ 0 → ⊥) → k - 1 < k
      pred k z = elim (cases_eq k 0) [ inl e ↦ absurd (z e) | inr e ↦ omega arith ]
  inner_by Upper k b t =
      let c = split_or (k + 1 == length ps) (on_wall (point_of ps k) (point_of ps (k + 1))) t in
      let z : k + 1 ≡ length ps → ⊥ = λ e. false≢true (sym c.0 ∙ eq-eqb (k + 1) (length ps) e) in
      let l : k + 1 < length ps = last z in
      let o = on_wall_parts (point_of ps k) (point_of ps (k + 1)) c.1 in
      elim (beyond_one Upper k (k + 1) (omega arith) l c.1) [
        | inl e ↦ absurd (false≢true (sym (not_above (point_of ps k) (point_of ps (k + 1)) (W k b) (W (k + 1) l) (less k (k + 1) (omega arith) l) o.0) ∙ e))
        | inr e ↦ not_extreme Upper (k + 1) k l b (and_from _ _ (ap not o.1) (ap not o.0)) e
      ]
    where
      last : (k + 1 ≡ length ps → ⊥) → k + 1 < length ps
      last z = elim (cases_eq (k + 1) (length ps)) [ inl e ↦ absurd (z e) | inr e ↦ omega arith ]

-- ---- an edge that passes further out than a point does so than what is further in on its wall
module _ (w : Which) (g : Skeleton) (m p : Point) (plane : IsPlaneSkeleton g) (M : Contains g.vertices m) (P : Contains g.vertices p) (on : on_wall m p ≡ true) (beyond : vertex_beyond w m p ≡ true) where
  hides_inner : (o : Option Edge) → IsOutermostOf w g (slab_right g p) o → hides w o m ≡ true → hides w o p ≡ true
  hides_inner None out h = absurd (false≢true h)
  hides_inner (Some e) out h =
      let E = out.is_edge in
      let q = plane.proper_edge e E in
      let Q = plane.proper p P in
      let r = sym (spans_right g p e plane (on_own_wall g p plane P) E) ∙ out.spanning in
      let a = and_parts (not (left_of p e.low)) (left_of p e.high) r in
      let R = run_positive e (left_of-after e.low p e.high q.0 Q q.1 (not-true _ a.0) a.1) in
      let o = on_wall_parts m p on in
      let z = edge_out w e m h in
      edge_in w e p (inward w e m p (plane.proper m M) Q R o.0 o.1 beyond (omega (arith, ints)))

-- ---- where all that are on the envelope are in the list
module _ (w : Which) (g : Skeleton) (ps : List Point) (h : AreEnds g ps) (all : (p : Point) → Contains g.vertices p → is_extreme w g p ≡ true → Member p ps) where
  -- of those on a point's wall, ends of edges that have none further out
  pub record IsFurthest (p m : Point) : Type 0 where
    pub is_end : IsOutermostEnd w g m
    pub on : on_wall m p ≡ true
    pub not_inner : vertex_beyond w p m ≡ false

  furthest : (p : Point) → Contains g.vertices p → has_dart g p ≡ true → (m : Point) × IsFurthest p m
  furthest p P d =
      let W : (x : Point) → Listed g.vertices x → HasWeight x = λ x m. h.plane.proper x (member_in g.vertices x m) in
      let own : on_wall p p ≡ true = and_from _ _ (ap not (left_of-irrefl p)) (ap not (left_of-irrefl p)) in
      elim (best_of (λ x. on_wall x p && has_dart g x) (vertex_beyond w) g.vertices (beyond-irrefl w) (λ x y z a b c i j. beyond-trans w x y z (W x a) (W y b) (W z c) i j)) [
        | inl n ↦ absurd (false≢true (sym (n p (in_member g.vertices p P)) ∙ and_from _ _ own d))
        | inr b ↦
            let m = b.0 in
            let M = member_in g.vertices m b.1.in' in
            let c = and_parts (on_wall m p) (has_dart g m) b.1.passes in
            let o = on_wall_parts m p c.0 in (
              m,
              record {
                is_end = record {
                  is_vertex = M;
                  is_end = c.1;
                  none = λ u U v e l.
                      let i = on_wall_parts u m v in
                      let T = h.plane.proper u U in
                      let Q = h.plane.proper m M in
                      let R = h.plane.proper p P in
                      let there : on_wall u p ≡ true = and_from _ _ (ap not (not_right_trans p m u R Q T o.0 i.0)) (ap not (not_right_trans u m p T Q R i.1 o.1)) in
                      false≢true (sym (b.1.best u (in_member g.vertices u U) (and_from _ _ there e)) ∙ l);
                };
                on = c.0;
                not_inner = b.1.best p (in_member g.vertices p P) (and_from _ _ own d);
              },
            )
      ]

  -- the outermost of its wall in the list is on the envelope exactly where nothing on its right hides it
  module _ (k : ℕ) (l : k < length ps) (o : Option Edge) (out : IsOutermostOf w g (slab_right g (point_of ps k)) o) where
    P : Contains g.vertices (point_of ps k) × (has_dart g (point_of ps k) ≡ true)
    P = h.are (point_of ps k) (member_at ps k (record { x = pos 0; y = pos 0; w = pos 0 }) l)

    not_hidden : is_outer_point w ps k ≡ true → (m : Point) → IsFurthest (point_of ps k) m → not (hides w o (point_of ps k)) ≡ is_extreme w g (point_of ps k)
    not_hidden outer m f =
        let p = point_of ps k in
        let M = f.is_end.is_vertex in
        let on = on_wall_parts m p f.on in
        elim (cases_Bool (vertex_beyond w m p)) [
          | inl far ↦
              let U = h.plane.proper p P.0 in
              let Q = h.plane.proper m M in
              let same : slab_right g p ≡ slab_right g m = le_antisym _ _ (right_few g p m h.plane U Q on.0) (right_few g m p h.plane Q U on.1) in
              let t = extreme_is_told w g m o h.plane f.is_end (subst (λ i. IsOutermostOf w g i o) same out) in
              let inner : is_extreme w g p ≡ false = false_from_ne_true _ (λ x.
              let X = extreme_out w g p x in
              false≢true (sym (none_passes (λ u. on_wall u p && (has_dart g u && vertex_beyond w u p)) g.vertices X.no_end m (in_member g.vertices m M)) ∙ and_from _ _ f.on (and_from _ _ f.is_end.is_end far))) in
              elim (cases_Bool (hides w o m)) [
                | inl y ↦ ap not (hides_inner w g m p h.plane M P.0 f.on far o out y) ∙ sym inner
                | inr n ↦
                    let r = place_in ps m (record { x = pos 0; y = pos 0; w = pos 0 }) (all m M (t ∙ ap not n)) in
                    absurd (none_beyond g ps h w r.0 k r.1 l outer (subst (λ x. on_wall x p ≡ true) (sym r.2) f.on) (subst (λ x. vertex_beyond w x p ≡ true) (sym r.2) far))
              ]
          | inr near ↦
              let q : m ≡ p = same_spot w g m p h.plane M P.0 on.0 on.1 near f.not_inner in
              sym (extreme_is_told w g p o h.plane (subst (IsOutermostEnd w g) q f.is_end) out)
        ]

    pub seen_is : (is_outer_point w ps k && not (hides w o (point_of ps k))) ≡ is_extreme w g (point_of ps k)
    seen_is = elim (cases_Bool (is_outer_point w ps k)) [
      | inl e ↦ (let f = furthest (point_of ps k) P.0 P.1 in rw e (not_hidden e f.0 f.1))
      | inr e ↦ rw e (sym (inner_by g ps h w k l e))
    ]

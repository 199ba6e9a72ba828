-- The face directly below a point that isn't apart borders what is at the point.
use Rattle.std.proofs.Common.{◌≡◌, ℕ, ◌≤◌, Bool, true, false, cond, arith, refl, sym, ap, ◌∙◌, ◌⊎◌, inl, inr, subst}
use Rattle.std.specs.Prelude.{ℤ, pos, not, ◌&&◌, ◌||◌}
use Rattle.std.specs.List.{Contains}
use Rattle.std.proofs.lemmas.Int.{ints}
use Rattle.std.proofs.lemmas.Bool.{false≢true, and_parts, and_from, not-true, false_from_ne_true, cases_Bool}
use lib.Signed.{lt_z}
use Rattle.exact_plane.specs.Point.{Point}
use Rattle.plane_graphs.specs.Graph.{Edge}
use Rattle.slab_laws.specs.Cycles.{left_of_dart}
use Rattle.slab_laws.specs.Darts.{cell_by, back}
use Rattle.slab_laws.specs.Meets.{SameFace, IsOnWall}
use Rattle.slab_laws.specs.Skeleton.{Skeleton, HasWeight, left_of, lower_than, side, over, under, precedes, inside, same_point, IsPlaneSkeleton}
use Rattle.slab_laws.specs.Slabs.{place, slab_left, slab_right, left_count, right_count, left_below, right_below, left_bottom, right_bottom, left_cell, right_cell, reaches_left, reaches_right, backward_cell}
use Rattle.slab_faces.proofs.Sums.{each, sum_by-same, fewer}
use Rattle.slab_faces.proofs.Parity.{same_point_is, same_point_refl}
use Rattle.slab_faces.proofs.Walls.{left_of-irrefl, lower_than-irrefl, left_of-after, run_positive, over-lower, over-upper, side-lower, side-upper, side_rises}
use Rattle.slab_faces.proofs.Cells.{not_right_trans, right_few, left_side}
use Rattle.slab_faces.proofs.Upright.{not_inside}
use Rattle.slab_faces.proofs.Turns.{face_trans, face_sym, face_at, le_antisym, on_own_wall, below_to_last, level_at}
use Rattle.slab_faces.proofs.Nudge.{right_inside, left_inside, is_slab_left}
use Rattle.slab_faces.proofs.InnerPoints.{no_sign}
use Rattle.slab_faces.proofs.EveryFace.{some_or_none}
use Rattle.slab_faces.proofs.Corners.{IsAlong, along_right, meets_below, alike, same_after}
use Rattle.slab_faces.proofs.Points.{before_left, before_lower, before_weak, before_on_wall, not_before_left, not_before_lower, before_asym, before_irrefl}
use Rattle.slab_faces.proofs.OverUnder.{under_in, under_out, not_over, on_neither, zero_not_over, under_not_over}
use Rattle.walk_laws.proofs.Fans.{at_lowest}
use Rattle.walk_laws.proofs.Stack.{S, slab, start_of, below_cell}

-- two points are in one place: neither comes before the other
pub record IsSamePlace (p q : Point) : Type 0 where
  pub not_before : precedes p q ≡ false
  pub not_after : precedes q p ≡ false

-- q is at an end of the edge or inside it
pub data IsAtEdge (h : Edge) (q : Point) : Type 0 where
  at_low : IsSamePlace h.low q → IsAtEdge h q
  at_high : IsSamePlace h.high q → IsAtEdge h q
  within : inside h q ≡ true → IsAtEdge h q

-- what is met at q borders the face directly below it: an edge by its dart from the upper to the lower end, or a vertex without edges
pub data IsMet (g : Skeleton) (q : Point) : Type 0 where
  along : (h : Edge) → Contains g.edges h → IsAtEdge h q → SameFace g (right_bottom g q) (left_of_dart g (back h)) → IsMet g q
  alone : Contains g.vertices q → ((e : Edge) → Contains g.edges e → (e.low ≡ q) ⊎ (e.high ≡ q) → ⊥) → SameFace g (right_bottom g q) (left_cell g q) → IsMet g q

zero_of : (z : ℤ) → (not (lt_z z (pos 0)) && not (lt_z (pos 0) z)) ≡ true → z ≡ pos 0
zero_of z h =
    let a = and_parts (not (lt_z z (pos 0))) (not (lt_z (pos 0) z)) h in
    let b = not-true _ a.0 in
    let c = not-true _ a.1 in
    omega (arith, ints)

same_place : (p q : Point) → p ≡ q → IsSamePlace p q
same_place p q e = record { not_before = subst (λ z. precedes p z ≡ false) e (before_irrefl p); not_after = subst (λ z. precedes z p ≡ false) e (before_irrefl p) }

-- on_neither left nor right, on_neither lower nor higher
level_place : (p q : Point) → left_of p q ≡ false → left_of q p ≡ false → lower_than p q ≡ false → lower_than q p ≡ false → IsSamePlace p q
level_place p q a b c d = record { not_before = none (left_of p q) (left_of q p) (lower_than p q) a c; not_after = none (left_of q p) (left_of p q) (lower_than q p) b d }
  where
    none : (a b c : Bool) → a ≡ false → c ≡ false → (a || (not b && c)) ≡ false
    none a true c h k = rw h refl
    none a false c h k = rw (h, k) refl

module _ (g : Skeleton) (q : Point) (plane : IsPlaneSkeleton g) (T : HasWeight q) where
  -- an edge at q that goes to the right of q's wall: the lowest such borders the face below q
  rightward : (e : Edge) → Contains g.edges e → reaches_right e q ≡ true → side e q ≡ pos 0 → IsMet g q
  rightward e E r z =
      let w = start_of g q plane T e E r in
      let h = at_lowest g q (slab_right g q) (right_inside g w.0) (λ f. reaches_right f q) plane (S g q plane T) (slab g q plane T w.0 w.1) e E r z in
      let c : SameFace g (left_of_dart g (back h.0)) (right_bottom g q) = subst (λ n. SameFace g (left_of_dart g (back h.0)) (record { slab = slab_right g q; place = n })) h.4 (below_cell g q plane T w.0 w.1 h.0 h.1 h.2) in
      along h.0 h.1 (at h.0 h.1 h.2 h.3) (face_sym g _ _ c)
    where
      at : (h : Edge) → Contains g.edges h → reaches_right h q ≡ true → side h q ≡ pos 0 → IsAtEdge h q
      at h H r z =
          let a = and_parts (not (left_of q h.low)) (left_of q h.high) r in
          let n = not-true _ a.0 in
          let p = plane.proper_edge h H in
          let long = ((S g q plane T).passes h h H H r r).e_long in
          let to = before_left q h.high a.1 in
          elim (cases_Bool (precedes h.low q)) [
            | inl k ↦ within (and_from _ _ (and_from _ _ k to) (no_sign (side h q) z))
            | inr k ↦
                let l = not_before_left h.low q k in
                let lo : lower_than q h.low ≡ false = sym (over-lower h q p.0 long l n) ∙ zero_not_over h q z in
                at_low (level_place h.low q l n (not_before_lower h.low q k n) lo)
          ]

  -- ---- q inside an edge
  slanted_within : (e : Edge) → Contains g.edges e → left_of e.low e.high ≡ true → precedes e.low q ≡ true → precedes q e.high ≡ true → side e q ≡ pos 0 → IsMet g q
  slanted_within e E long from to z =
      let p = plane.proper_edge e E in
      let r : left_of q e.high ≡ true = elim (cases_Bool (left_of q e.high)) [
        | inl h ↦ h
        | inr h ↦ absurd (false≢true (sym (zero_not_over e q z) ∙ over-upper e q p.1 long (before_weak q e.high to) h ∙ before_on_wall q e.high to h))
      ] in
      rightward e E (and_from _ _ (ap not (before_weak e.low q from)) r) z

  -- u is on a vertical edge, over its lower end, and not over its upper one: on its right is one cell
  on_upright : (s : Edge) → Contains g.edges s → left_of s.low s.high ≡ false → precedes s.low q ≡ true → precedes s.high q ≡ false → precedes q s.high ≡ true ⊎ (s.high ≡ q) → SameFace g (right_bottom g q) (left_of_dart g (back s))
  on_upright s E up from to there =
      let p = plane.proper_edge s E in
      let back' = plane.forward s E in
      let tall = plane.upright s E (rw (up, back') refl) in
      let a = before_weak s.low q from in
      let b : left_of q s.high ≡ false = false_from_ne_true _ (λ k. absurd (false≢true (sym up ∙ far k))) in
      let c = not_before_left s.high q to in
      let d : left_of s.low q ≡ false = not_right_trans q s.high s.low T p.1 p.0 c up in
      let lo = before_on_wall s.low q from d in
      let hi : left_of s.high q ≡ false = c in
      let low_wall = on_own_wall g s.low plane (plane.lower_in s E) in
      let al : IsAlong g s s.low = record {
        plane = plane;
        S = E;
        wall = low_wall;
        upright = record { lower_1 = left_of-irrefl s.low; lower_2 = left_of-irrefl s.low; upper_1 = back'; upper_2 = up };
        from = lower_than-irrefl s.low;
        to = tall;
      } in
      let k = along_right g s s.low al in
      let x : right_count g s.low ≤ right_below g q = fewer (λ f. reaches_right f s.low && not (over f s.low)) (λ f. reaches_right f q && under f q) g.edges (λ f F h.
      let m = and_parts (reaches_right f s.low) (not (over f s.low)) h in
      let fp = plane.proper_edge f F in
      let R = run_positive f (long f F s.low p.0 m.0) in
      and_from _ _ (sym (same_reach f F s.low p.0 a d) ∙ m.0) (under_in f q (side_rises f s.low q p.0 T R d a lo (not_over f s.low (not-true _ m.1))))) in
      let y : right_below g q ≤ right_below g s.high = fewer (λ f. reaches_right f q && under f q) (λ f. reaches_right f s.high && under f s.high) g.edges (λ f F h.
      let m = and_parts (reaches_right f q) (under f q) h in
      and_from _ _ (same_reach f F s.high p.1 b c ∙ m.0) (rising f F m.0 m.1 b c)) in
      let n : right_count g s.low ≡ right_below g q = omega arith in
      let sl : slab_right g s.low ≡ slab_right g q = le_antisym _ _ (right_few g s.low q plane p.0 T a) (right_few g q s.low plane T p.0 d) in
      let cell : SameFace g (right_bottom g q) (right_cell g s.low) = face_at g _ _ (λ i. record { slab = sym sl i; place = sym n i }) in
      subst (λ l. SameFace g (right_bottom g q) (cell_by g s l false)) (sym up) cell
    where
      far : left_of q s.high ≡ true → left_of s.low s.high ≡ true
      far k = let p = plane.proper_edge s E in left_of-after s.low q s.high p.0 T p.1 (before_weak s.low q from) k

      long : (f : Edge) → Contains g.edges f → (t : Point) → HasWeight t → reaches_right f t ≡ true → left_of f.low f.high ≡ true
      long f F t W r = let fp = plane.proper_edge f F in let m = and_parts (not (left_of t f.low)) (left_of t f.high) r in left_of-after f.low t f.high fp.0 W fp.1 (not-true _ m.0) m.1

      same_reach : (f : Edge) → Contains g.edges f → (t : Point) → HasWeight t → left_of q t ≡ false → left_of t q ≡ false → reaches_right f t ≡ reaches_right f q
      same_reach f F t W a b = let fp = plane.proper_edge f F in λ i. not (same_after f.low t q fp.0 W T b a i) && same_after f.high t q fp.1 W T b a i

      rising : (f : Edge) → Contains g.edges f → reaches_right f q ≡ true → under f q ≡ true → left_of q s.high ≡ false → left_of s.high q ≡ false → under f s.high ≡ true
      rising f F r u b c = elim there [
        | inr e ↦ subst (λ z. under f z ≡ true) (sym e) u
        | inl k ↦ let p = plane.proper_edge s E in
            let o = under_out f q u in
            under_in f s.high (side_rises f q s.high T p.1 (run_positive f (long f F q T r)) b c (before_on_wall q s.high k b) (omega (arith, ints)))
      ]

  pub met_within : (e : Edge) → Contains g.edges e → inside e q ≡ true → IsMet g q
  met_within e E h =
      let a = and_parts (precedes e.low q && precedes q e.high) (not (lt_z (side e q) (pos 0)) && not (lt_z (pos 0) (side e q))) h in
      let b = and_parts (precedes e.low q) (precedes q e.high) a.0 in
      elim (cases_Bool (left_of e.low e.high)) [
        | inl l ↦ slanted_within e E l b.0 b.1 (zero_of (side e q) a.1)
        | inr l ↦ along e E (within h) (on_upright e E l b.0 (before_asym q e.high b.1) (inl b.1))
      ]

  -- ---- q is a vertex
  module _ (V : Contains g.vertices q) where
    on_q : left_of q q ≡ false
    on_q = left_of-irrefl q

    wall : IsOnWall g q
    wall = on_own_wall g q plane V

    abbrev Ends : Edge → Type 0
    Ends e = (e.low ≡ q) ⊎ (e.high ≡ q)

    up_to : (s : Edge) → Contains g.edges s → s.high ≡ q → left_of s.low s.high ≡ false → IsMet g q
    up_to s E e up =
        let p = plane.proper_edge s E in
        let back' = plane.forward s E in
        let tall = plane.upright s E (rw (up, back') refl) in
        let from = subst (λ z. precedes s.low z ≡ true) e (before_lower s.low s.high back' tall) in
        along s E (at_high (same_place s.high q e)) (on_upright s E up from (subst (λ z. precedes s.high z ≡ false) e (before_irrefl s.high)) (inr e))

    from_right : (e : Edge) → Contains g.edges e → e.low ≡ q → left_of e.low e.high ≡ true → IsMet g q
    from_right e E k long = rightward e E
        (subst (λ z. reaches_right e z ≡ true) k (and_from _ _ (ap not (left_of-irrefl e.low)) long))
        (subst (λ z. side e z ≡ pos 0) k (side-lower e))

    -- no vertical edge ends at q from below
    module _ (no_up : (s : Edge) → Contains g.edges s → s.high ≡ q → left_of s.low s.high ≡ false → ⊥) where
      below_q : SameFace g (left_bottom g q) (right_bottom g q)
      below_q = meets_below g q plane V wall (λ f F u a b.
          let p = plane.proper_edge f F in
          elim (cases_Bool (lower_than q f.high)) [
            | inl k ↦ not_inside g f q plane F V u a k
            | inr k ↦
                let s = level_place f.high q u.upper_1 u.upper_2 b k in
                let e : f.high ≡ q = plane.distinct f.high q (plane.upper_in f F) V s.not_before s.not_after in
                no_up f F e (subst (λ z. left_of f.low z ≡ false) (sym e) u.lower_1)
          ])

      to_left : (e : Edge) → Contains g.edges e → e.high ≡ q → left_of e.low e.high ≡ true → IsMet g q
      to_left e E k long =
          let r : reaches_left e q ≡ true = subst (λ z. reaches_left e z ≡ true) k (and_from _ _ long (ap not (left_of-irrefl e.high))) in
          let z : side e q ≡ pos 0 = subst (λ z. side e z ≡ pos 0) k (side-upper e) in
          let h = at_lowest g q (slab_left g q) (left_inside g q) (λ f. reaches_left f q) plane (left_side g q plane wall) (is_slab_left g q plane wall) e E r z in
          let t : h.0.high ≡ q = level_at g h.0 q plane h.1 V h.2 h.3 in
          let hl : left_of h.0.low h.0.high ≡ true = subst (λ z. left_of h.0.low z ≡ true) (sym t) (and_parts (left_of h.0.low q) (not (left_of h.0.high q)) h.2).0 in
          let c = below_to_last g h.0 plane h.1 hl in
          let d : SameFace g (backward_cell g h.0) (left_bottom g q) = subst (λ n. SameFace g (backward_cell g h.0) (record { slab = slab_left g q; place = n })) h.4 (subst (λ z. SameFace g (backward_cell g h.0) (record { slab = slab_left g z; place = place g (slab_left g z) h.0 })) t c) in
          let b : SameFace g (left_of_dart g (back h.0)) (left_bottom g q) = subst (λ l. SameFace g (cell_by g h.0 l false) (left_bottom g q)) (sym hl) d in
          along h.0 h.1 (at_high (same_place h.0.high q t)) (face_sym g _ _ (face_trans g _ _ _ b below_q))

      -- no edge goes from q to the right
      module _ (no_right : (e : Edge) → Contains g.edges e → e.low ≡ q → left_of e.low e.high ≡ true → ⊥) where
        right_same : right_count g q ≡ right_below g q
        right_same = sum_by-same (λ f. cond (reaches_right f q && not (over f q)) 1 0) (λ f. cond (reaches_right f q && under f q) 1 0) g.edges
            (each (λ f. cond {A = ℕ} (reaches_right f q && not (over f q)) 1 0 ≡ cond (reaches_right f q && under f q) 1 0) g.edges (λ f F.
            alike (reaches_right f q) (reaches_right f q) (not (over f q)) (under f q) refl (λ r. none f F r)))
          where
            none : (f : Edge) → Contains g.edges f → reaches_right f q ≡ true → not (over f q) ≡ under f q
            none f F r = elim (cases_Bool (over f q)) [
              | inl o ↦ ap not o ∙ sym (false_from_ne_true _ (λ u. false≢true (sym (under_not_over f q u) ∙ o)))
              | inr o ↦ elim (cases_Bool (under f q)) [
                | inl u ↦ ap not o ∙ sym u
                | inr u ↦ absurd (off f F r (on_neither f q o u))
              ]
            ]
              where
                off : (f : Edge) → Contains g.edges f → reaches_right f q ≡ true → side f q ≡ pos 0 → ⊥
                off f F r z =
                    let a = and_parts (not (left_of q f.low)) (left_of q f.high) r in
                    let n = not-true _ a.0 in
                    let p = plane.proper_edge f F in
                    let long = left_of-after f.low q f.high p.0 T p.1 n a.1 in
                    elim (cases_Bool (precedes f.low q)) [
                      | inl k ↦ false≢true (sym (plane.clear f q F V) ∙ and_from _ _ (and_from _ _ k (before_left q f.high a.1)) (no_sign (side f q) z))
                      | inr k ↦
                          let l = not_before_left f.low q k in
                          let lo : lower_than q f.low ≡ false = sym (over-lower f q p.0 long l n) ∙ zero_not_over f q z in
                          let s = level_place f.low q l n (not_before_lower f.low q k n) lo in
                          no_right f F (plane.distinct f.low q (plane.lower_in f F) V s.not_before s.not_after) long
                    ]

        upward : (s : Edge) → Contains g.edges s → s.low ≡ q → left_of s.low s.high ≡ false → IsMet g q
        upward s E e up =
            let c : SameFace g (right_bottom g q) (right_cell g s.low) = subst (λ z. SameFace g (right_bottom g q) (right_cell g z)) (sym e) (face_at g _ _ (λ i. record { slab = slab_right g q; place = sym right_same i })) in
            along s E (at_low (same_place s.low q e)) (subst (λ l. SameFace g (right_bottom g q) (cell_by g s l false)) (sym up) c)

      -- no edge at all ends at q
      module _ (no_edge : (e : Edge) → Contains g.edges e → Ends e → ⊥) where
        left_same : left_count g q ≡ left_below g q
        left_same = sum_by-same (λ f. cond (reaches_left f q && not (over f q)) 1 0) (λ f. cond (reaches_left f q && under f q) 1 0) g.edges
            (each (λ f. cond {A = ℕ} (reaches_left f q && not (over f q)) 1 0 ≡ cond (reaches_left f q && under f q) 1 0) g.edges (λ f F.
            alike (reaches_left f q) (reaches_left f q) (not (over f q)) (under f q) refl (λ r. none f F r)))
          where
            none : (f : Edge) → Contains g.edges f → reaches_left f q ≡ true → not (over f q) ≡ under f q
            none f F r = elim (cases_Bool (over f q)) [
              | inl o ↦ ap not o ∙ sym (false_from_ne_true _ (λ u. false≢true (sym (under_not_over f q u) ∙ o)))
              | inr o ↦ elim (cases_Bool (under f q)) [
                | inl u ↦ ap not o ∙ sym u
                | inr u ↦ absurd (no_edge f F (inr (level_at g f q plane F V r (on_neither f q o u))))
              ]
            ]

        lonely : IsMet g q
        lonely = alone V no_edge (face_trans g _ _ _ (face_sym g _ _ below_q) (face_at g _ _ (λ i. record { slab = slab_left g q; place = sym left_same i })))

    -- ---- which of them there is
    pub met_vertex : IsMet g q
    met_vertex =
        elim (some_or_none (λ s. same_point s.high q && not (left_of s.low s.high)) g.edges) [
          | inl w ↦ let a = and_parts (same_point w.0.high q) (not (left_of w.0.low w.0.high)) w.2 in up_to w.0 w.1 (same_point_is w.0.high q a.0) (not-true _ a.1)
          | inr no1 ↦
              let no_up : (s : Edge) → Contains g.edges s → s.high ≡ q → left_of s.low s.high ≡ false → ⊥ = λ s E e up. false≢true (sym (no1 s E) ∙ and_from _ _ (is_same s.high e) (ap not up)) in
              elim (some_or_none (λ s. same_point s.low q && left_of s.low s.high) g.edges) [
                | inl w ↦ let a = and_parts (same_point w.0.low q) (left_of w.0.low w.0.high) w.2 in from_right w.0 w.1 (same_point_is w.0.low q a.0) a.1
                | inr no2 ↦
                    let no_right : (s : Edge) → Contains g.edges s → s.low ≡ q → left_of s.low s.high ≡ true → ⊥ = λ s E e long. false≢true (sym (no2 s E) ∙ and_from _ _ (is_same s.low e) long) in
                    elim (some_or_none (λ s. same_point s.high q) g.edges) [
                      | inl w ↦ let e = same_point_is w.0.high q w.2 in elim (cases_Bool (left_of w.0.low w.0.high)) [
                        | inl l ↦ to_left no_up w.0 w.1 e l
                        | inr l ↦ absurd (no_up w.0 w.1 e l)
                      ]
                      | inr no3 ↦ elim (some_or_none (λ s. same_point s.low q) g.edges) [
                        | inl w ↦ let e = same_point_is w.0.low q w.2 in elim (cases_Bool (left_of w.0.low w.0.high)) [
                          | inl l ↦ absurd (no_right w.0 w.1 e l)
                          | inr l ↦ upward no_up no_right w.0 w.1 e l
                        ]
                        | inr no4 ↦ lonely no_up (λ e E x. elim x [
                          | inl k ↦ false≢true (sym (no4 e E) ∙ is_same e.low k)
                          | inr k ↦ false≢true (sym (no3 e E) ∙ is_same e.high k)
                        ])
                      ]
                    ]
              ]
        ]
      where
        is_same : (p : Point) → p ≡ q → same_point p q ≡ true
        is_same p e = subst (λ z. same_point p z ≡ true) e (same_point_refl p)

-- A list in which one element may stand several times in a row, each once; and the edges of a slab in their order: the k-th has place k.
use Rattle.std.proofs.Common.{◌≡◌, ℕ, zero, suc, ◌+◌, ◌<◌, ◌≤◌, refl, ap, sym, ◌∙◌, subst, arith, inl, inr, Bool, true, false, cond, ◌&&◌, List, [], ◌∷◌, length, get_or, Less, nat_cmp}
use Rattle.std.specs.Prelude.{◌⊎◌, ⊤}
use Rattle.std.specs.List.{Contains, count_by, dedup_from}
use Rattle.std.proofs.lemmas.Bool.{and_parts, and_from, cases_lt, lt-ltb, le-ltb}
use Rattle.std.proofs.lemmas.Int.{ints}
use lib.Dec.{ltb}
use Rattle.exact_plane.specs.Point.{Point}
use Rattle.plane_graphs.specs.Ascending.{Member, IsAscending}
use Rattle.plane_graphs.specs.Graph.{Edge}
use Rattle.plane_graphs.proofs.Ascending.{All-member}
use Rattle.plane_graphs.proofs.Lists.{both_ways, clash}
use Rattle.plane_graphs.proofs.Sorting.{all_members}
use Rattle.slab_laws.specs.Skeleton.{Skeleton, IsPlaneSkeleton, below, same_edge}
use Rattle.slab_laws.specs.Slabs.{spans, place}
use Rattle.slab_faces.proofs.Order.{gap-swap}
use Rattle.slab_faces.proofs.Slabs.{IsSlab, through, by_gap, below_at, place_less, place_same, same_edge_is, same_edge_refl}
use Rattle.slab_faces.proofs.Sums.{each, sum_by-plus, sum_by-same}
use Rattle.integers.proofs.Tests.{nat_less, less_nat}

-- ---- by a number; elements of one number stand in a row, and are the same
module _ {X : Type 0} (same : X → X → Bool) (sound : (x y : X) → same x y ≡ true → x ≡ y) (itself : (x : X) → same x x ≡ true) (number : X → ℕ) where
  abbrev pub IsWeak : List X → Type 0
  IsWeak [] = ⊤
  IsWeak (x ∷ xs) = ((z : X) → Member z xs → (x ≡ z) ⊎ (number x < number z)) × IsWeak xs

  pub of_dedup : (x : X) (ys : List X) (z : X) → Member z (dedup_from same x ys) → Member z (x ∷ ys)
  of_dedup x [] z m = m
  of_dedup x (y ∷ ys) z m = step (same y x) m (of_dedup x ys z) (of_dedup y ys z)
    where
      step : (b : Bool) → Member z (cond b (dedup_from same x ys) (x ∷ dedup_from same y ys)) → (Member z (dedup_from same x ys) → Member z (x ∷ ys)) → (Member z (dedup_from same y ys) → Member z (y ∷ ys)) → Member z (x ∷ y ∷ ys)
      step true n f g = elim (f n) [ inl e ↦ inl e | inr k ↦ inr (inr k) ]
      step false (inl e) f g = inl e
      step false (inr n) f g = inr (g n)

  pub in_dedup : (x : X) (ys : List X) (z : X) → Member z (x ∷ ys) → Member z (dedup_from same x ys)
  in_dedup x [] z m = m
  in_dedup x (y ∷ ys) z m = step (same y x) refl m (in_dedup x ys z) (in_dedup y ys z)
    where
      step : (b : Bool) → same y x ≡ b → Member z (x ∷ y ∷ ys) → (Member z (x ∷ ys) → Member z (dedup_from same x ys)) → (Member z (y ∷ ys) → Member z (dedup_from same y ys)) → Member z (cond b (dedup_from same x ys) (x ∷ dedup_from same y ys))
      step true e (inl i) f g = f (inl i)
      step true e (inr (inl i)) f g = f (inl (i ∙ sound y x e))
      step true e (inr (inr i)) f g = f (inr i)
      step false e (inl i) f g = inl i
      step false e (inr n) f g = inr (g n)

  pub rising : (x : X) (ys : List X) → IsWeak (x ∷ ys) → IsAscending (λ u v. nat_cmp (number u) (number v)) (dedup_from same x ys)
  rising x [] w = (tt, tt)
  rising x (y ∷ ys) w = step (same y x) refl (rising x ys (λ z m. w.0 z (inr m), w.1.1)) (rising y ys w.1)
    where
      apart : same y x ≡ false → y ≡ x → ⊥
      apart e i = clash (subst (λ t. same y t ≡ true) i (itself y)) e

      above_y : same y x ≡ false → number x < number y
      above_y e = elim (w.0 y (inl refl)) [ inl i ↦ absurd (apart e (sym i)) | inr h ↦ h ]

      above : same y x ≡ false → (z : X) → Member z (y ∷ ys) → number x < number z
      above e z (inl i) = subst (λ t. number x < number t) (sym i) (above_y e)
      above e z (inr n) = elim (w.1.0 z n) [
        | inl i ↦ subst (λ t. number x < number t) i (above_y e)
        | inr h ↦ (let k = above_y e in omega (arith, h, k))
      ]

      step : (b : Bool) → same y x ≡ b → IsAscending (λ u v. nat_cmp (number u) (number v)) (dedup_from same x ys) → IsAscending (λ u v. nat_cmp (number u) (number v)) (dedup_from same y ys) → IsAscending (λ u v. nat_cmp (number u) (number v)) (cond b (dedup_from same x ys) (x ∷ dedup_from same y ys))
      step true e f g = f
      step false e f g = (all_members (λ v. nat_cmp (number x) (number v) ≡ Less) (dedup_from same y ys) (λ z m. nat_less (number x) (number z) (above e z (of_dedup y ys z m))), g)

-- ---- the edges of a slab
pub record IsSpanned (g : Skeleton) (i : ℕ) (e : Edge) : Type 0 where
  pub edge : Contains g.edges e
  pub spanned : spans g i e ≡ true

module _ (g : Skeleton) (i : ℕ) (M : Point) (plane : IsPlaneSkeleton g) (slab : IsSlab g i M) where
  abbrev at : Edge → ℕ
  at e = place g i e

  module _ (f e : Edge) (hf : IsSpanned g i f) (he : IsSpanned g i e) where
    by : {X : Type 0} → (pos_case : below f e ≡ true → X) → (neg_case : below e f ≡ true → X) → (f ≡ e → X) → X
    by up down same =
        by_gap g f e M plane hf.edge he.edge slab.proper (through g i M f slab hf.edge hf.spanned) (through g i M e slab he.edge he.spanned)
        (λ h. up (below_at g f e M plane hf.edge he.edge slab.proper (through g i M f slab hf.edge hf.spanned) (through g i M e slab he.edge he.spanned) h))
        (λ h. down (below_at g e f M plane he.edge hf.edge slab.proper (through g i M e slab he.edge he.spanned) (through g i M f slab hf.edge hf.spanned) (let s = gap-swap f e M in omega (arith, ints))))
        same

    pub less_below : below f e ≡ true → at f < at e
    less_below h = place_less g i M f e plane slab hf.edge he.edge hf.spanned he.spanned h

    more_below : below e f ≡ true → at e < at f
    more_below h = place_less g i M e f plane slab he.edge hf.edge he.spanned hf.spanned h

    below_less : at f < at e → below f e ≡ true
    below_less h = by (λ k. k) (λ k. let l = more_below k in absurd (omega (arith, h, l))) (λ k. let l : at f ≡ at e = ap at k in absurd (omega (arith, h, l)))

  test_in : (m n : ℕ) → m < n → ltb m n ≡ true
  test_in m n h = lt-ltb m n h

  test_out : (m n : ℕ) → ltb m n ≡ true → m < n
  test_out m n h = elim (cases_lt m n) [ inl k ↦ k | inr k ↦ absurd (clash h (le-ltb m n k)) ]

  -- d edges are below place d, and e is there: one more edge is below the next place
  one_more : (d : ℕ) (e : Edge) → IsSpanned g i e → at e ≡ d → count_by (λ f. spans g i f && ltb (at f) d) g.edges ≡ d → count_by (λ f. spans g i f && ltb (at f) (d + 1)) g.edges ≡ d + 1
  one_more d e he k c =
      sum_by-same (λ f. cond (spans g i f && ltb (at f) (d + 1)) 1 0) (λ f. cond (spans g i f && ltb (at f) d) 1 0 + cond (same_edge e f) 1 0) g.edges (each _ g.edges (λ f F. split f F (same_edge e f) refl))
      ∙ sum_by-plus (λ f. cond (spans g i f && ltb (at f) d) 1 0) (λ f. cond (same_edge e f) 1 0) g.edges
      ∙ ap (λ n. n + count_by (same_edge e) g.edges) c
      ∙ ap (λ n. d + n) (plane.edge_once e he.edge)
    where
      here : (f : Edge) → e ≡ f → cond {A = ℕ} (spans g i f && ltb (at f) (d + 1)) 1 0 ≡ cond (spans g i f && ltb (at f) d) 1 0 + 1
      here f i' =
          let s : spans g i f ≡ true = subst (λ t. spans g i t ≡ true) i' he.spanned in
          let n : at f ≡ d = subst (λ t. at t ≡ d) i' k in
          let a : (spans g i f && ltb (at f) (d + 1)) ≡ true = and_from _ _ s (test_in (at f) (d + 1) (omega (arith, n))) in
          let b : (spans g i f && ltb (at f) d) ≡ false = ap (λ t. t && ltb (at f) d) s ∙ le-ltb (at f) d (omega (arith, n)) in
          ap (λ t. cond {A = ℕ} t 1 0) a ∙ sym (ap (λ t. cond {A = ℕ} t 1 0 + 1) b)

      elsewhere : (f : Edge) → Contains g.edges f → same_edge e f ≡ false → (spans g i f && ltb (at f) (d + 1)) ≡ (spans g i f && ltb (at f) d)
      elsewhere f F x = both_ways _ _
          (λ t. let w = and_parts _ _ t in let l = test_out (at f) (d + 1) w.1 in and_from _ _ w.0 (test_in (at f) d (elim (cases_lt (at f) d) [
            | inl m ↦ m
            | inr m ↦ absurd (clash (subst (λ z. same_edge e z ≡ true) (sym (place_same g i M f e plane slab F he.edge w.0 he.spanned (omega (arith, l, m, k)))) (same_edge_refl e)) x)
          ])))
          (λ t. let w = and_parts _ _ t in let l = test_out (at f) d w.1 in and_from _ _ w.0 (test_in (at f) (d + 1) (omega (arith, l))))

      split : (f : Edge) → Contains g.edges f → (b : Bool) → same_edge e f ≡ b → cond {A = ℕ} (spans g i f && ltb (at f) (d + 1)) 1 0 ≡ cond (spans g i f && ltb (at f) d) 1 0 + cond (same_edge e f) 1 0
      split f F true x = here f (same_edge_is e f x) ∙ sym (ap (λ t. cond {A = ℕ} (spans g i f && ltb (at f) d) 1 0 + cond {A = ℕ} t 1 0) x)
      split f F false x = ap (λ t. cond {A = ℕ} t 1 0) (elsewhere f F x) ∙ sym (ap (λ t. cond {A = ℕ} (spans g i f && ltb (at f) d) 1 0 + cond {A = ℕ} t 1 0) x ∙ omega arith)

  -- all edges from place d on, in the order of their places
  pub numbered : (d : ℕ) (es : List Edge) → IsAscending (λ u v. nat_cmp (at u) (at v)) es → ((e : Edge) → Member e es → IsSpanned g i e × (d ≤ at e)) → ((f : Edge) → IsSpanned g i f → (at f < d) ⊎ Member f es)
      → count_by (λ f. spans g i f && ltb (at f) d) g.edges ≡ d → (k : ℕ) (a : Edge) → k < length es → at (get_or es k a) ≡ d + k
  numbered d [] r from all c k a h = absurd (omega (arith, h))
  numbered d (e ∷ es) r from all c k a h = by_place (λ j l. numbered (d + 1) es r.1 from_next all_next (one_more d e he first c) j a l) k h
    where
      he : IsSpanned g i e
      he = (from e (inl refl)).0

      up : (f : Edge) → Member f es → at e < at f
      up f m = less_nat (at e) (at f) (All-member (λ v. nat_cmp (at e) (at v) ≡ Less) f es r.0 m)

      same_test : (f : Edge) → Contains g.edges f → (spans g i f && below f e) ≡ (spans g i f && ltb (at f) d)
      same_test f F = both_ways _ _
          (λ t. let w = and_parts _ _ t in let hf : IsSpanned g i f = record { edge = F; spanned = w.0 } in let l = less_below f e hf he w.1 in and_from _ _ w.0 (test_in (at f) d (elim (all f hf) [
            | inl m ↦ m
            | inr (inl j) ↦ (let n : at f ≡ at e = ap at j in absurd (omega (arith, l, n)))
            | inr (inr j) ↦ (let n = up f j in absurd (omega (arith, l, n)))
          ])))
          (λ t. let w = and_parts _ _ t in let hf : IsSpanned g i f = record { edge = F; spanned = w.0 } in let l = test_out (at f) d w.1 in let b = (from e (inl refl)).1 in and_from _ _ w.0 (below_less f e hf he (omega (arith, l, b))))

      first : at e ≡ d
      first = sum_by-same (λ f. cond (spans g i f && below f e) 1 0) (λ f. cond (spans g i f && ltb (at f) d) 1 0) g.edges (each _ g.edges (λ f F. ap (λ t. cond {A = ℕ} t 1 0) (same_test f F))) ∙ c

      from_next : (f : Edge) → Member f es → IsSpanned g i f × (d + 1 ≤ at f)
      from_next f m = ((from f (inr m)).0, (let n = up f m in let o = first in omega (arith, n, o)))

      all_next : (f : Edge) → IsSpanned g i f → (at f < d + 1) ⊎ Member f es
      all_next f hf = elim (all f hf) [
        | inl m ↦ inl (omega (arith, m))
        | inr (inl j) ↦ inl (let n : at f ≡ at e = ap at j in let o = first in omega (arith, n, o))
        | inr (inr j) ↦ inr j
      ]

      by_place : ((j : ℕ) → j < length es → at (get_or es j a) ≡ d + 1 + j) → (k : ℕ) → k < length (e ∷ es) → at (get_or (e ∷ es) k a) ≡ d + k
      by_place ih zero l = first ∙ omega arith
      by_place ih (suc k) l = ih k (omega (arith, l)) ∙ omega arith

-- All pieces by their lower ends.
use Rattle.std.proofs.Common.{◌≡◌, ℕ, zero, suc, ◌<◌, ◌≤◌, ◌+◌, refl, ap, sym, ◌∙◌, subst, arith, inl, inr, true, false, List, [], ◌∷◌, ◌++◌, length, get_or, take, Ordering, Less, Equal, Greater, nat_cmp, is_eq}
use Rattle.std.proofs.lemmas.Bool.{cases_lt, false_from_ne_true}
use Rattle.exact_plane.specs.PointOrder.{point_cmp}
use Rattle.std.specs.List.{AllByRecursion, IsDistinct}
use Rattle.std.specs.List.Sorted.{IsPermutation, IsSorted}
use Rattle.std.specs.Ordering.{ordering_then, eq_by_cmp}
use Rattle.std.specs.Cmp.{IsTotalOrder}
use Rattle.std.proofs.lemmas.Cmp.{then_total, on_total, nat_cmp_total}
use Rattle.std.proofs.lemmas.List.{take_all}
use Rattle.std.proofs.lemmas.List.Sorted.{Contains-permutation, IsPermutation-sym}
use Rattle.exact_plane.specs.PointOrderLaws.{point_cmp_total}
use Rattle.exact_plane.specs.Span.{Span, IsSpan}
use Rattle.plane_graphs.specs.Ascending.{Member}
use Rattle.plane_graphs.proofs.Ascending.{to_member, from_member}
use Rattle.plane_graphs.proofs.Loops.{take_next}
use Rattle.plane_graphs.proofs.Sorting.{any_default, sorted_ascends}
use Rattle.sweep_events.specs.declared.places.Start.{Start}
use Rattle.sweep_events.specs.Places.{nowhere, piece_at}
use Rattle.sweep_events.specs.Starts.{start_cmp, AreStarts}
use Rattle.integers.proofs.Tests.{nat_exact}

pub start_cmp_total : IsTotalOrder start_cmp
start_cmp_total = then_total (on_total (λ (s : Start). s.lower) point_cmp_total) (on_total (λ (s : Start). s.place) nat_cmp_total)

-- the lower ends, numbered from k
abbrev pub starts_from : ℕ → List Span → List Start
starts_from k [] = []
starts_from k (s ∷ ss) = record { lower = s.lower; place = k } ∷ starts_from (suc k) ss

one_more : (k : ℕ) (xs : List Span) (x : Span) → starts_from k (xs ++ x ∷ []) ≡ starts_from k xs ++ record { lower = x.lower; place = k + length xs } ∷ []
one_more k [] x = ap (λ n. record { lower = x.lower; place = n } ∷ []) (omega arith)
one_more k (y ∷ ys) x = ap (λ zs. record { lower = y.lower; place = k } ∷ zs) (one_more (suc k) ys x ∙ ap (λ n. starts_from (suc k) ys ++ record { lower = x.lower; place = n } ∷ []) (omega arith))

count_is : (k : ℕ) (xs : List Span) → length (starts_from k xs) ≡ length xs
count_is k [] = refl
count_is k (x ∷ xs) = let e = count_is (suc k) xs in omega (arith, e)

pub pushed : (xs : List Span) (i : ℕ) (x : Span) (now new : List Start) (s : Start) → i < length xs → x ≡ get_or xs i x → now ≡ starts_from 0 (take i xs) → new ≡ now ++ s ∷ [] → s ≡ record { lower = x.lower; place = length now } → new ≡ starts_from 0 (take (i + 1) xs)
pushed xs i x now new s h e f g k =
    g ∙ ap (λ t. now ++ t ∷ []) (k ∙ ap (λ n. record { lower = x.lower; place = n }) (ap length f ∙ count_is 0 (take i xs))) ∙ ap (λ ys. ys ++ record { lower = x.lower; place = length (take i xs) } ∷ []) f
    ∙ sym (ap (starts_from 0) (take_next xs i x h e) ∙ one_more 0 (take i xs) x ∙ ap (λ n. starts_from 0 (take i xs) ++ record { lower = x.lower; place = n } ∷ []) (omega arith))

pub all_pushed : (xs : List Span) (i : ℕ) (now : List Start) → length xs ≤ i → now ≡ starts_from 0 (take i xs) → now ≡ starts_from 0 xs
all_pushed xs i now h e = e ∙ ap (starts_from 0) (take_all i xs h)

-- ---- what stands in the list
found : (k : ℕ) (xs : List Span) (s : Start) → Member s (starts_from k xs) → (j : ℕ) × (j < length xs) × (s ≡ record { lower = (piece_at xs j).lower; place = k + j })
found k [] s m = absurd m
found k (x ∷ xs) s (inl e) = (0, omega arith, e ∙ ap (λ n. record { lower = x.lower; place = n }) (omega arith))
found k (x ∷ xs) s (inr m) = let w = found (suc k) xs s m in (suc w.0, omega (arith, w.1), w.2 ∙ ap (λ n. record { lower = (piece_at xs w.0).lower; place = n }) (omega arith))

stands : (k : ℕ) (xs : List Span) (j : ℕ) → j < length xs → Member (record { lower = (piece_at xs j).lower; place = k + j }) (starts_from k xs)
stands k [] j h = absurd (omega (arith, h))
stands k (x ∷ xs) zero h = inl (ap (λ n. record { lower = x.lower; place = n }) (omega arith))
stands k (x ∷ xs) (suc j) h = inr (subst (λ n. Member (record { lower = (piece_at xs j).lower; place = n }) (starts_from (suc k) xs)) (omega arith) (stands (suc k) xs j (omega (arith, h))))

tied_place : (s t : Start) → eq_by_cmp start_cmp s t ≡ true → s.place ≡ t.place
tied_place s t h = nat_exact s.place t.place (second (point_cmp s.lower t.lower) (nat_cmp s.place t.place) h)
  where
    second : (o u : Ordering) → is_eq (ordering_then o u) ≡ true → u ≡ Equal
    second Less u h = cc
    second Equal Less h = cc
    second Equal Equal h = refl
    second Equal Greater h = cc
    second Greater u h = cc

later : (k : ℕ) (xs : List Span) (s : Start) → s.place < k → AllByRecursion (λ t. eq_by_cmp start_cmp s t ≡ false) (starts_from k xs)
later k [] s h = tt
later k (x ∷ xs) s h = (false_from_ne_true (eq_by_cmp start_cmp s (record { lower = x.lower; place = k })) (λ e. let p = tied_place s (record { lower = x.lower; place = k }) e in absurd (omega (arith, h, p))), later (suc k) xs s (omega (arith, h)))

distinct : (k : ℕ) (xs : List Span) → IsDistinct (eq_by_cmp start_cmp) (starts_from k xs)
unfolding IsDistinct
distinct k [] = tt
distinct k (x ∷ xs) = (later (suc k) xs (record { lower = x.lower; place = k }) (omega arith), distinct (suc k) xs)

pub are_starts : (pieces : List Span) (us vs : List Start) → us ≡ starts_from 0 pieces → IsPermutation us vs → IsSorted start_cmp vs → AreStarts pieces vs
are_starts pieces us vs e p s = record {
  ascends = sorted_ascends start_cmp start_cmp_total (starts_from 0 pieces) vs (distinct 0 pieces) moved s;
  sound = λ t m. let w = found 0 pieces t (to_member (starts_from 0 pieces) t (Contains-permutation vs (starts_from 0 pieces) t (IsPermutation-sym (starts_from 0 pieces) vs moved) (from_member vs t m))) in
      let n : t.place ≡ w.0 = ap (λ (t : Start). t.place) w.2 ∙ omega arith in
      (subst (λ k. k < length pieces) (sym n) w.1, ap (λ (t : Start). t.lower) w.2 ∙ ap (λ k. (piece_at pieces k).lower) (sym n));
  complete = λ i h. to_member vs (record { lower = (piece_at pieces i).lower; place = i }) (Contains-permutation (starts_from 0 pieces) vs (record { lower = (piece_at pieces i).lower; place = i }) moved (from_member (starts_from 0 pieces) (record { lower = (piece_at pieces i).lower; place = i }) (subst (λ n. Member (record { lower = (piece_at pieces i).lower; place = n }) (starts_from 0 pieces)) (omega arith) (stands 0 pieces i h))));
}
  where
    moved : IsPermutation (starts_from 0 pieces) vs
    moved = subst (λ (zs : List Start). IsPermutation zs vs) e p

-- one span more is known
pub one_known : (xs : List Span) (i : ℕ) (x : Span) → i < length xs → x ≡ get_or xs i x → IsSpan x → ((j : ℕ) → j < i → IsSpan (piece_at xs j)) → (j : ℕ) → j < i + 1 → IsSpan (piece_at xs j)
one_known xs i x h e s f j k = elim (cases_lt j i) [
  | inl l ↦ f j l
  | inr l ↦ (let n : i ≡ j = omega (arith, k, l) in subst (λ m. IsSpan (piece_at xs m)) n (subst (λ (t : Span). IsSpan t) (e ∙ any_default xs i x nowhere h) s))
]

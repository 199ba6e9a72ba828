-- The status is determined by its members; and the part of it that some of the pieces make is their own status.
use Rattle.std.proofs.Common.{◌≡◌, ℕ, ◌<◌, ℤ, pos, neg_ℤ, refl, ap, sym, ◌∙◌, subst, arith, inl, inr, List, [], ◌∷◌, Ordering, Less, Equal, Greater, nat_cmp}
use Rattle.std.specs.Prelude.{◌≤◌, ◌+◌, ◌-◌, Bool, true, not, map, nat_lt, filter}
use Rattle.std.proofs.lemmas.Bool.Decides.{nat_tests}
use Rattle.plane_graphs.proofs.Lists.{in_filter, of_filter, IsAscending-filter, in_map, of_map}
use Rattle.std.specs.Ordering.{int_cmp, ordering_then}
use Rattle.std.proofs.lemmas.Cmp.{nat_cmp_total, tied_itself}
use Rattle.std.proofs.lemmas.Int.{ints}
use Rattle.exact_plane.specs.Line.{Line}
use Rattle.exact_plane.specs.Point.{Point}
use Rattle.exact_plane.specs.Span.{Span}
use Rattle.integers.proofs.Compare.{less_out, greater_in, equal_out, equal_in}
use Rattle.integers.proofs.Tests.{nat_less, less_nat}
use Rattle.plane_graphs.specs.Ascending.{Member, IsAscending}
use Rattle.plane_graphs.proofs.Ascending.{All-member, only_list}
use Rattle.plane_graphs.proofs.Sorting.{all_members}
use Rattle.sweep_events.specs.Front.{across, upward, lean, after_cmp}
use Rattle.sweep_events.specs.Status.{status_cmp, IsMet, IsStatus}
use Rattle.sweep_events.proofs.FrontOrder.{not_behind_twice, turn_ahead}
use Rattle.sweep_events.proofs.TwoNumbers.{lex_level, Lexed, lexed}
use Rattle.sweep_events.proofs.TwoNumbers.Lexed.{ahead, level, behind}

numbers : (i j : ℕ) → nat_cmp i j ≡ Less → nat_cmp j i ≡ Less → ⊥
numbers i j h k = let t = tied_itself nat_cmp_total i in let u = nat_cmp_total.trans i j i h k in cc

leaning : (a b : ℤ) → b ≡ neg_ℤ a → (o u : Ordering) → (o ≡ Less → u ≡ Less → ⊥) → ordering_then (int_cmp (pos 0) a) o ≡ Less → ordering_then (int_cmp (pos 0) b) u ≡ Less → ⊥
leaning a b e o u f h k = at (int_cmp (pos 0) a) refl h
  where
    at : (t : Ordering) → int_cmp (pos 0) a ≡ t → ordering_then t o ≡ Less → ⊥
    at Less g h = let w = less_out (pos 0) a g in let v : int_cmp (pos 0) b ≡ Greater = greater_in (pos 0) b (omega (arith, ints)) in cc
    at Equal g h = let w = equal_out (pos 0) a g in let v : int_cmp (pos 0) b ≡ Equal = equal_in (pos 0) b (omega (arith, ints)) in f h (sym (ap (λ t. ordering_then t u) v) ∙ k)
    at Greater g h = cc

-- no two pieces stand one before the other both ways
pub one_way : (piece : ℕ → Span) (p : Point) (i j : ℕ) → status_cmp piece p i j ≡ Less → status_cmp piece p j i ≡ Less → ⊥
one_way piece p i j h k = by (lexed (across l m p) (upward l m p))
  where
    l : Line
    l = (piece i).line

    m : Line
    m = (piece j).line

    by : Lexed (across l m p) (upward l m p) → ⊥
    by (ahead a) = not_behind_twice (across m l p) (upward m l p) (int_cmp (pos 0) (lean m l)) (nat_cmp j i) k (turn_ahead m l p a)
    by (behind b) = not_behind_twice (across l m p) (upward l m p) (int_cmp (pos 0) (lean l m)) (nat_cmp i j) h b
    by (level e f) =
        leaning (lean l m) (lean m l) (omega (arith, ints)) (nat_cmp i j) (nat_cmp j i) (numbers i j)
        (sym (ap (λ o. ordering_then (ordering_then o (int_cmp (pos 0) (lean l m))) (nat_cmp i j)) (lex_level (across l m p) (upward l m p) e f)) ∙ h)
        (sym (ap (λ o. ordering_then (ordering_then o (int_cmp (pos 0) (lean m l))) (nat_cmp j i)) (lex_level (across m l p) (upward m l p) (zero_x e) (zero_y f))) ∙ k)
      where
        zero_x : across l m p ≡ pos 0 → across m l p ≡ pos 0
        zero_x e = omega (arith, ints)

        zero_y : upward l m p ≡ pos 0 → upward m l p ≡ pos 0
        zero_y e = omega (arith, ints)

-- of one moment there is one status
pub status_only : (piece : ℕ → Span) (n : ℕ) (p : Point) (xs ys : List ℕ) → IsStatus piece n p xs → IsStatus piece n p ys → xs ≡ ys
status_only piece n p xs ys s t = only_list (status_cmp piece p) (one_way piece p) xs ys s.ascends t.ascends (λ i m. (t.met i).1 ((s.met i).0 m)) (λ i m. (s.met i).1 ((t.met i).0 m))

-- ---- the part that the first n pieces make, of which one layer may consist
module _ (piece : ℕ → Span) (n k : ℕ) (p : Point) (xs : List ℕ) (s : IsStatus piece (n + k) p xs) where
  abbrev is_first : ℕ → Bool
  is_first i = nat_lt i n

  abbrev is_other : ℕ → Bool
  is_other i = not (nat_lt i n)

  first_part : IsStatus piece n p (filter (λ i. nat_lt i n) xs)
  first_part = record {
    met = λ i. (
      (λ m. let w = of_filter is_first i xs m in (below i w.1, ((s.met i).0 w.0).1)),
      (λ g. in_filter is_first i xs ((s.met i).1 (omega (arith, g.0), g.1)) (grind (arith, nat_tests, g.0))),
    );
    ascends = IsAscending-filter (status_cmp piece p) is_first xs s.ascends;
  }
    where
      below : (i : ℕ) → nat_lt i n ≡ true → i < n
      below i e = grind (arith, nat_tests)

  past : (i : ℕ) → not (nat_lt i n) ≡ true → n ≤ i
  past i e = grind (arith, nat_tests)

  not_below : (i : ℕ) → n ≤ i → not (nat_lt i n) ≡ true
  not_below i h = grind (arith, nat_tests)

  -- their order is the same by their own places
  own_order : (o : Ordering) (i j : ℕ) → n ≤ i → n ≤ j → ordering_then o (nat_cmp i j) ≡ Less → ordering_then o (nat_cmp (i - n) (j - n)) ≡ Less
  own_order Less i j a b h = refl
  own_order Equal i j a b h = let l = less_nat i j h in nat_less (i - n) (j - n) (omega (arith, a, b, l))
  own_order Greater i j a b h = cc

  own_ascends : (zs : List ℕ) → ((i : ℕ) → Member i zs → n ≤ i) → IsAscending (status_cmp piece p) zs → IsAscending (status_cmp (λ i. piece (n + i)) p) (map (λ i. i - n) zs)
  own_ascends [] f a = tt
  own_ascends (z ∷ zs) f a = (
    all_members (λ y. status_cmp (λ i. piece (n + i)) p (z - n) y ≡ Less) (map (λ i. i - n) zs) (λ y m.
        let w = of_map (λ i. i - n) y zs m in
        let hz = f z (inl refl) in
        let hi = f w.0 (inr w.1) in
        subst (λ j. status_cmp (λ i. piece (n + i)) p (z - n) j ≡ Less) (sym w.2)
        (subst (λ c. ordering_then (after_cmp p (piece c).line (piece (n + (w.0 - n))).line) (nat_cmp (z - n) (w.0 - n)) ≡ Less) (back z hz)
        (subst (λ d. ordering_then (after_cmp p (piece z).line (piece d).line) (nat_cmp (z - n) (w.0 - n)) ≡ Less) (back w.0 hi)
        (own_order (after_cmp p (piece z).line (piece w.0).line) z w.0 hz hi (All-member (λ y. status_cmp piece p z y ≡ Less) w.0 zs a.0 w.1))))),
    own_ascends zs (λ i m. f i (inr m)) a.1,
  )
    where
      back : (i : ℕ) → n ≤ i → i ≡ n + (i - n)
      back i h = omega (arith, h)

  other_part : IsStatus (λ i. piece (n + i)) k p (map (λ i. i - n) (filter (λ i. not (nat_lt i n)) xs))
  other_part = record {
    met = λ j. (
      (λ m. let w = of_map (λ i. i - n) j (filter is_other xs) m in
          let u = of_filter is_other w.0 xs w.1 in
          let h = past w.0 u.1 in
          let g = (s.met w.0).0 u.0 in
          let e = w.2 in
          let at : w.0 ≡ n + j = omega (arith, h, e) in
          (omega (arith, g.0, h, e), subst (λ i. IsMet p (piece i)) at g.1)),
      (λ g. subst (λ i. Member i (map (λ i. i - n) (filter is_other xs))) (omega arith) (in_map (λ i. i - n) (n + j) (filter is_other xs) (in_filter is_other (n + j) xs ((s.met (n + j)).1 (omega (arith, g.0), g.1)) (not_below (n + j) (omega arith))))),
    );
    ascends = own_ascends (filter is_other xs) (λ i m. past i (of_filter is_other i xs m).1) (IsAscending-filter (status_cmp piece p) is_other xs s.ascends);
  }

  pub part_status : IsStatus piece n p (filter (λ i. nat_lt i n) xs) × IsStatus (λ i. piece (n + i)) k p (map (λ i. i - n) (filter (λ i. not (nat_lt i n)) xs))
  part_status = (first_part, other_part)

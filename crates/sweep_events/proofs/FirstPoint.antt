-- The first of the points that are to come, and what is left when it has passed.
use Rattle.std.proofs.Common.{◌≡◌, ℕ, zero, suc, ◌<◌, refl, ap, sym, ◌∙◌, subst, inl, inr, true, false, List, [], ◌∷◌, length, map, drop, get_or, arith, Ordering, Less, Equal, Greater, nat_cmp}
use Rattle.std.specs.Prelude.{◌⊎◌, Option, None, Some, IsSome, IfSome, slice_get}
use Rattle.std.specs.Ordering.{is_lt, is_le, is_gt}
use Rattle.std.specs.List.{All}
use Rattle.std.specs.BTreeMap.Range.{IsLeBy, IsLtBy}
use Rattle.std.proofs.lemmas.List.Elements.{All-contains}
use Rattle.std.proofs.lemmas.Option.{get_or_from_slice_get}
use Rattle.exact_plane.specs.Point.{Point}
use Rattle.exact_plane.specs.PointOrder.{point_cmp}
use Rattle.exact_plane.specs.Span.{IsAtMost}
use Rattle.exact_plane.proofs.Orders.{less_at_most, at_most_itself, at_most_chain}
use Rattle.plane_graphs.specs.Ascending.{Member, IsAscending}
use Rattle.plane_graphs.proofs.Ascending.{from_member, All-member}
use Rattle.plane_graphs.proofs.Lists.{in_left, in_right, in_either, of_map}
use Rattle.plane_graphs.proofs.Sorting.{member_at}
use Rattle.integers.proofs.Tests.{is_less, first_less}
use Rattle.sweep_events.specs.Begun.{queue_of, IsFirstOf, IsPassed}
use Rattle.sweep_events.specs.Starts.{start_cmp}
use Rattle.sweep_events.specs.declared.places.Start.{Start}
use Rattle.sweep_events.proofs.EventSteps.{in_order, not_both, less_chain, chain_less}

all_at : {X : Type 0} (P : X → Type 0) (xs : List X) → All P xs → (x : X) → Member x xs → P x
all_at P xs h x m = All-contains P xs x h (from_member xs x m)

upto : (p q : Point) → is_gt (point_cmp p q) ≡ false → IsAtMost p q
upto p q h = at (point_cmp p q) h
  where
    at : (o : Ordering) → is_gt o ≡ false → is_le o ≡ true
    at Less h = refl
    at Equal h = refl
    at Greater h = cc

-- ---- of an ordered set
pub first_key : (keys : List Point) (q : Point) → slice_get keys 0 ≡ Some q → 0 < length keys → All (IsLeBy point_cmp q) keys → IsFirstOf q keys
first_key keys q e h l = record {
  there = subst (λ (t : Point). Member t keys) (get_or_from_slice_get keys 0 q q e) (member_at keys 0 q h);
  first = λ r m. upto q r (all_at (IsLeBy point_cmp q) keys l r m);
}

pub no_key : (keys : List Point) → (0 < length keys → false ≡ true) → keys ≡ []
no_key [] n = refl
no_key (x ∷ xs) n = absurd (no (n (omega arith)))
  where
    no : false ≡ true → ⊥
    no e = cc

-- ---- of the lower ends that are left
module _ (t : Start) where
  pub first_lower : (ss : List Start) (n : ℕ) → IsAscending start_cmp ss → n < length ss → t ≡ get_or ss n t → IsFirstOf t.lower (map (λ (s : Start). s.lower) (drop n ss))
  first_lower [] n a l e = absurd (omega (arith, l))
  first_lower (s ∷ ss) zero a l e = record {
    there = inl (ap (λ (u : Start). u.lower) e);
    first = λ r m. subst (λ (u : Start). IsAtMost u.lower r) (sym e) (elim m [
      | inl f ↦ subst (λ (p : Point). IsAtMost s.lower p) (sym f) (at_most_itself s.lower)
      | inr k ↦ (let w = of_map (λ (u : Start). u.lower) r ss k in subst (λ (p : Point). IsAtMost s.lower p) (sym w.2) (weak (first_less (point_cmp s.lower w.0.lower) (nat_cmp s.place w.0.place) (All-member (λ u. start_cmp s u ≡ Less) w.0 ss a.0 w.1))))
    ]);
  }
    where
      weak : {o : Ordering} → (o ≡ Less) ⊎ (o ≡ Equal) → is_le o ≡ true
      weak (inl e) = ap is_le e
      weak (inr e) = ap is_le e
  first_lower (s ∷ ss) (suc n) a l e = first_lower ss n a.1 (omega (arith, l)) e

-- ---- of both
module _ (keys : List Point) (starts : List Start) (n : ℕ) where
  module _ (a : IsAscending start_cmp starts) (t : Start) (h : n < length starts) (e : t ≡ get_or starts n t) where
    pub lower_alone : keys ≡ [] → IsFirstOf t.lower (queue_of keys starts n)
    lower_alone f = subst (λ (ks : List Point). IsFirstOf t.lower (queue_of ks starts n)) (sym f) (first_lower t starts n a h e)

    pub key_first : (q : Point) → IsFirstOf q keys → is_lt (point_cmp q t.lower) ≡ true → IsFirstOf q (queue_of keys starts n)
    key_first q f l = record {
      there = in_left q keys (map (λ (s : Start). s.lower) (drop n starts)) f.there;
      first = λ r m. elim (in_either r keys (map (λ (s : Start). s.lower) (drop n starts)) m) [
        | inl k ↦ f.first r k
        | inr k ↦ at_most_chain q t.lower r (less_at_most q t.lower (is_less (point_cmp q t.lower) l)) ((first_lower t starts n a h e).first r k)
      ];
    }

    pub lower_first : (q : Point) → IsFirstOf q keys → is_lt (point_cmp q t.lower) ≡ false → IsFirstOf t.lower (queue_of keys starts n)
    lower_first q f l = record {
      there = in_right t.lower keys (map (λ (s : Start). s.lower) (drop n starts)) (first_lower t starts n a h e).there;
      first = λ r m. elim (in_either r keys (map (λ (s : Start). s.lower) (drop n starts)) m) [
        | inl k ↦ at_most_chain t.lower q r behind (f.first r k)
        | inr k ↦ (first_lower t starts n a h e).first r k
      ];
    }
      where
        behind : IsAtMost t.lower q
        behind = elim (in_order t.lower q) [ inl h ↦ h | inr h ↦ absurd (clash (sym l ∙ ap is_lt h)) ]
          where
            clash : false ≡ true → ⊥
            clash e = cc

-- ---- what has passed
pub passed_none : (q : Point) (old : List Point) → old ≡ [] → IsPassed q old old
passed_none q old e = record { kept = λ r m b. m; comes = λ r m. absurd (subst (λ (xs : List Point). Member r xs) e m) }

pub passed_far : (q f : Point) (old : List Point) → IsFirstOf f old → is_lt (point_cmp q f) ≡ true → IsPassed q old old
passed_far q f old h l = record { kept = λ r m b. m; comes = λ r m. (m, less_chain q f r (is_less (point_cmp q f) l) (h.first r m)) }

pub passed_first : (q f : Point) (old : List Point) → ((r : Point) → Member r old → IsAtMost q r) → IsFirstOf f old → is_lt (point_cmp q f) ≡ false → (o : Option Point) (rest : List Point) → (0 < length old → IsSome o) → IfSome o (λ k. old ≡ k ∷ rest) → IfSome o (λ k. All (IsLtBy point_cmp k) rest) → IsPassed q old rest
passed_first q f old least h l None rest v e a = absurd (no (v (some_in old h.there)))
  where
    no : false ≡ true → ⊥
    no e = cc

    some_in : (xs : List Point) → Member f xs → 0 < length xs
    some_in [] m = absurd m
    some_in (x ∷ xs) m = omega arith
passed_first q f old least h l (Some k) rest v e a = record {
  kept = λ r m b. elim (subst (λ (xs : List Point). Member r xs) e m) [ inl x ↦ absurd (not_both q r b (subst (λ (p : Point). IsAtMost p q) (sym x) (at_most_chain k f q to_first near))) | inr n ↦ n ];
  comes = λ r m. (subst (λ (xs : List Point). Member r xs) (sym e) (inr m), chain_less q k r (least k (subst (λ (xs : List Point). Member k xs) (sym e) (inl refl))) (all_at (IsLtBy point_cmp k) rest a r m));
}
  where
    near : IsAtMost f q
    near = elim (in_order f q) [ inl n ↦ n | inr n ↦ absurd (clash (sym l ∙ ap is_lt n)) ]
      where
        clash : false ≡ true → ⊥
        clash e = cc

    to_first : IsAtMost k f
    to_first = elim (subst (λ (xs : List Point). Member f xs) e h.there) [ inl x ↦ subst (λ (p : Point). IsAtMost k p) (sym x) (at_most_itself k) | inr n ↦ less_at_most k f (all_at (IsLtBy point_cmp k) rest a f n) ]

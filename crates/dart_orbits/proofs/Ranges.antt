-- The numbers below another, as a list.
use Rattle.std.proofs.Common.{◌≡◌, ℕ, zero, suc, ◌+◌, ◌<◌, ◌≤◌, inl, inr, arith, ap, ◌∙◌, List, [], ◌∷◌, ◌++◌, map, take, get_or}
use Rattle.std.specs.List.{range_with_len}
use Rattle.std.proofs.lemmas.Bool.{cases_lt}
use Rattle.std.proofs.lemmas.List.FromFn.{get_or-range_with_len, length-range_with_len}
use Rattle.plane_graphs.specs.Ascending.{Member}
use Rattle.plane_graphs.proofs.Ascending.{to_member}
use Rattle.slab_faces.proofs.Member.{Member as Listed, member_in}
use Rattle.slab_faces.proofs.Searches.{in_range as in_numbers}
use Rattle.dart_orbits.proofs.Pushed.{pushed, all_pushed}

from : (a n k : ℕ) → Member k (range_with_len a n) → (a ≤ k) × (k < a + n)
from a zero k h = absurd h
from a (suc n) k (inl p) = (omega arith, omega arith)
from a (suc n) k (inr h) = let r = from (a + 1) n k h in (omega (arith, r.0), omega (arith, r.1))

pub in_range : (n k : ℕ) → Member k (range_with_len 0 n) → k < n
in_range n k h = let r = from 0 n k h in omega (arith, r.1)

into : (a n k : ℕ) → a ≤ k → k < a + n → Member k (range_with_len a n)
into a zero k l m = absurd (omega arith)
into a (suc n) k l m = elim (cases_lt a k) [ inl h ↦ inr (into (a + 1) n k (omega arith) (omega arith)) | inr h ↦ inl (omega arith) ]

pub range_in : (n k : ℕ) → k < n → Member k (range_with_len 0 n)
range_in n k l = into 0 n k (omega arith) (omega arith)

-- the same, as the model's lists have it
pub numbers_in : (n k : ℕ) → k < n → Listed (range_with_len 0 n) k
numbers_in n k l = in_numbers 0 n k (omega arith) (omega arith)

pub numbers_out : (n k : ℕ) → Listed (range_with_len 0 n) k → k < n
numbers_out n k m = in_range n k (to_member (range_with_len 0 n) k (member_in (range_with_len 0 n) k m))

-- a list that is made number by number
module _ {Y : Type 0} (f : ℕ → Y) (n : ℕ) where
  pub pushed_at : (i : ℕ) (y : Y) (us vs : List Y) → i < n → y ≡ f i → us ≡ take i (map f (range_with_len 0 n)) → vs ≡ us ++ (y ∷ []) → vs ≡ take (i + 1) (map f (range_with_len 0 n))
  pushed_at i y us vs l e a b =
      let m = length-range_with_len 0 n in
      let k : get_or (range_with_len 0 n) i 0 ≡ 0 + i = get_or-range_with_len 0 n i 0 l in
      let j : i ≡ get_or (range_with_len 0 n) i 0 = omega arith in
      pushed f (range_with_len 0 n) i 0 y us vs (omega arith) (e ∙ ap f j) a b

  pub all_at : (i : ℕ) (us : List Y) → n ≤ i → us ≡ take i (map f (range_with_len 0 n)) → us ≡ map f (range_with_len 0 n)
  all_at i us l a = all_pushed f (range_with_len 0 n) i us (let m = length-range_with_len 0 n in omega arith) a

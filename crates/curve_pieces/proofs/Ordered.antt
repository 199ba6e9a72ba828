-- The order of all rows: its list, and that it has them all.
use Rattle.std.proofs.Common.{◌≡◌, inl, inr, ℕ, zero, suc, ◌<◌, ◌≤◌, List, [], ◌∷◌, length, map, Option, Some, None, is_some, IsSome, option_map, refl, sym, ap, subst, ◌∙◌, arith, Contains}
use Rattle.std.proofs.Math.ListN.{length-map}
use Rattle.std.specs.List.{AllByRecursion, IsDistinct}
use Rattle.plane_graphs.proofs.Lists.{some_mapped}
use Rattle.slab.specs.Slab.{Slab, get, entries, slab_len, ContainsKey}
use Rattle.slab.proofs.SlabLemmas.{Contains-entries, Contains-cons_cases, length-entries}
use Rattle.slab_laws.specs.FaceLists.{first_of}
use Rattle.slab_laws.specs.Tables.{names, NamesAscend}
use Rattle.chain_laws.specs.Links.{Node, first_or, comes_after, after_at, key_at, IsListed, AreListed}
use Rattle.chain_laws.specs.Rows.{tabled}
use Rattle.chain_laws.proofs.Changes.{key_some}
use Rattle.chain_laws.proofs.Distinct.{nowhere, IsOnce, once_from_distinct, no_more}
use Rattle.chain_laws.proofs.Linked.{head_is, trail_is, after_is}
use Rattle.chain_laws.proofs.Tabled.{ascend-tabled, listed_within}
use Rattle.curve_pieces.specs.declared.row.Row.{Row}
use Rattle.curve_pieces.specs.declared.row.Ends.{Ends}
use Rattle.curve_pieces.specs.PiecesInMemory.{order_node, order_nodes, curve_nodes, piece_in, order_from, rows_from, last_of, IsOrder}
use Rattle.curve_pieces.proofs.Named.{AreThere, names_are}

-- a node is a row
pub row_there : (s : Slab Row) (n : ℕ) → IsSome (order_nodes s n) → IsSome (get s n)
row_there s n h = sym (some_mapped order_node (get s n)) ∙ h

pub curve_there : (s : Slab Row) (n : ℕ) → IsSome (curve_nodes s n) → IsSome (get s n)
curve_there s n h = sym (some_mapped _ (get s n)) ∙ h

-- in the order all rows have one key
abbrev pub order_head : Option ℕ → ℕ → Option (Option ℕ)
order_head first zero = Some first
order_head first (suc k) = None

-- ---- the keys of a slab
above : (n : ℕ) (ns : List ℕ) → AllByRecursion (λ m. n < m) ns → ¬ Contains ns n
above n [] a c = nowhere n c
above n (m ∷ ms) a c = elim (Contains-cons_cases m n ms c) [
  | inl e ↦ let b = a.0 in absurd (omega (arith, b, e))
  | inr d ↦ above n ms a.1 d
]

keys_once : (es : List (ℕ × Row)) → NamesAscend (names es) → IsOnce (names es)
keys_once [] a = tt
keys_once (e ∷ es) a = (above e.0 (names es) a.0, keys_once es a.1)

renamed : (es : List (ℕ × Row)) → names (map (λ (e : ℕ × Row). (e.0, e.1)) es) ≡ names es
renamed [] = refl
renamed (e ∷ es) = ap (λ ns. e.0 ∷ ns) (renamed es)

entries_ascend : (s : Slab Row) → NamesAscend (names (entries s))
unfolding tabled
entries_ascend s = subst (λ (es : List ℕ). NamesAscend es) (renamed (entries s)) (ascend-tabled (λ (r : Row). r) s)

later_in : (y x : ℕ × Row) (xs : List (ℕ × Row)) → Contains xs x → Contains (y ∷ xs) x
later_in y x xs c = (suc c.0, omega (arith, c.1), c.2)

key_of : (s : Slab Row) (es : List (ℕ × Row)) → ((x : ℕ × Row) → Contains es x → Contains (entries s) x) → (n : ℕ) → Contains (names es) n → ContainsKey s n
key_of s [] h n c = absurd (nowhere n c)
key_of s (e ∷ es) h n c = elim (Contains-cons_cases e.0 n (names es) c) [
  | inl q ↦ subst (ContainsKey s) q (ap is_some ((Contains-entries s e.0 e.1).0 (h e (0, omega arith, refl))))
  | inr d ↦ key_of s es (λ x i. h x (later_in e x es i)) n d
]

module _ (s : Slab Row) where
  one_key : (n k : ℕ) → key_at (order_nodes s) n ≡ Some k → k ≡ 0
  one_key n k e = by (get s n) e
    where
      by : (o : Option Row) → option_map (λ (x : Node). x.key) (option_map order_node o) ≡ Some k → k ≡ 0
      by None q = absurd (cc)
      by (Some r) q = let w : 0 ≡ k = cc in sym w

  has_key : (n : ℕ) → ContainsKey s n → key_at (order_nodes s) n ≡ Some 0
  has_key n h = by (get s n) h
    where
      by : (o : Option Row) → IsSome o → option_map (λ (x : Node). x.key) (option_map order_node o) ≡ Some 0
      by None q = absurd (cc)
      by (Some r) q = refl

  pub all_listed : (first : Option ℕ) (xs : List ℕ) → IsListed (order_nodes s) first 0 xs → AreListed (order_head first) (order_nodes s)
  unfolding IsDistinct
  all_listed first xs l = record { lists = lists; keys = λ n k e. subst (λ z. IsSome (order_head first z)) (sym (one_key n k e)) refl }
    where
      lists : (k : ℕ) → (ys : List ℕ) × IsListed (order_nodes s) (first_or (order_head first k)) k ys
      lists zero = (xs, l)
      lists (suc k) = (
        [],
        record {
          linked = refl;
          members = λ n. (λ c. absurd (nowhere n c), λ e. let q = one_key n (suc k) e in absurd (omega arith));
          once = tt;
        },
      )

  few : (first : Option ℕ) (xs : List ℕ) → IsListed (order_nodes s) first 0 xs → length xs ≤ slab_len s
  few first xs l = listed_within s (order_nodes s) (row_there s) first 0 xs l

  pub order_is : (first : Option ℕ) (xs : List ℕ) → IsListed (order_nodes s) first 0 xs → order_from s first ≡ xs
  unfolding order_from
  order_is first xs l = trail_is (order_nodes s) (after_at (order_nodes s)) (λ n. refl) None first xs (slab_len s) l.linked (few first xs l)

  pub order_made : (ends : Ends) (xs : List ℕ) → IsListed (order_nodes s) ends.first 0 xs → ends.last ≡ last_of None xs → IsOrder s ends
  order_made ends xs l e =
      let q = order_is ends.first xs l in
      record { listed = subst (λ ys. IsListed (order_nodes s) ends.first 0 ys) (sym q) l; last = e ∙ ap (last_of None) (sym q) }

  module _ (ends : Ends) (o : IsOrder s ends) where
    abbrev pub order : List ℕ
    order = order_from s ends.first

    pub once : IsOnce order
    once = once_from_distinct order o.listed.once

    pub is_in : (n : ℕ) → ContainsKey s n → Contains order n
    is_in n h = (o.listed.members n).1 (has_key n h)

    pub in_slab : (n : ℕ) → Contains order n → ContainsKey s n
    in_slab n c = let x = key_some (order_nodes s) n 0 ((o.listed.members n).0 c) in row_there s n (ap is_some x.1)

    pub there : AreThere (piece_in s) order
    there n c = some_mapped (λ (r : Row). r.piece) (get s n) ∙ in_slab n c

    pub not_in : (n : ℕ) → get s n ≡ None → ¬ Contains order n
    not_in n e c = let z = in_slab n c in absurd (cc (e, z))

    pub names_seen : names (rows_from s ends.first) ≡ order
    names_seen = names_are (piece_in s) order there

    pub first_seen : ends.first ≡ first_of (names (rows_from s ends.first))
    first_seen = head_is (order_nodes s) None ends.first order o.listed.linked ∙ ap first_of (sym names_seen)

    pub next_seen : (n : ℕ) (x : Row) → get s n ≡ Some x → x.order.after ≡ comes_after order n
    next_seen n x e = ap (λ o. first_or (option_map (λ (z : Node). z.after) (option_map order_node o))) (sym e) ∙ after_is (order_nodes s) None ends.first order n o.listed.linked (is_in n (ap is_some e)) once

    keys_in : length (names (entries s)) ≤ length order
    keys_in = no_more (names (entries s)) order (keys_once (entries s) (entries_ascend s)) (λ n c. is_in n (key_of s (entries s) (λ x h. h) n c))

    -- the order has all rows
    pub counted : length (rows_from s ends.first) ≡ slab_len s
    counted =
        let a : length (names (rows_from s ends.first)) ≡ length (rows_from s ends.first) = length-map (rows_from s ends.first) _ in
        let b : length (names (rows_from s ends.first)) ≡ length order = ap length names_seen in
        let c : length order ≤ slab_len s = few ends.first order o.listed in
        let d : length (names (entries s)) ≡ length (entries s) = length-map (entries s) _ in
        omega (arith, keys_in, a, b, c, d, length-entries s)

-- The pieces that are still to come.
use Rattle.std.proofs.Common.{◌≡◌, ℕ, ◌≤◌, List, [], ◌∷◌, length, map, Option, Some, None, option_map, refl, sym, ap, subst, ◌∙◌, arith, Contains}
use Rattle.slab.specs.Slab.{Slab, get, slab_len, ContainsKey}
use Rattle.slab_laws.specs.declared.present.Piece.{Piece}
use Rattle.chain_laws.specs.Links.{Node, first_or, after_at, IsLinked}
use Rattle.chain_laws.proofs.Distinct.{here, there}
use Rattle.chain_laws.proofs.Linked.{trail_is}
use Rattle.curve_pieces.specs.declared.row.Row.{Row}
use Rattle.curve_pieces.specs.PiecesInMemory.{order_node, order_nodes, piece_in, order_from, with_piece, rows_of, rows_from, IsRest}

pub order_rest : (s : Slab Row) (at : Option ℕ) (r : IsRest s at) → order_from s at ≡ r.names
unfolding order_from
order_rest s at r = trail_is (order_nodes s) (after_at (order_nodes s)) (λ n. refl) r.before at r.names (slab_len s) r.linked r.few

record IsNext (s : Slab Row) (n : ℕ) (x : Row) (names : List ℕ) : Type 0 where
  rows : rows_of (piece_in s) names ≡ (n, x.piece) ∷ rows_from s x.order.after
  rest : IsRest s x.order.after

next_of : (s : Slab Row) (n : ℕ) (x : Row) → get s n ≡ Some x → (before at : Option ℕ) (names : List ℕ) → at ≡ Some n → IsLinked (order_nodes s) before at names → ((m : ℕ) → Contains names m → ContainsKey s m) → length names ≤ slab_len s → IsNext s n x names
next_of s n x was before at [] e l t f = let z : Some n ≡ None = sym e ∙ l in absurd (cc)
next_of s n x was before at (y ∷ ys) e l t f =
    let q : y ≡ n = (let z : Some y ≡ Some n = sym l.0 ∙ e in cc) in
    let a : after_at (order_nodes s) y ≡ x.order.after = ap (after_at (order_nodes s)) q ∙ ap (λ o. first_or (option_map (λ (z : Node). z.after) (option_map order_node o))) was in
    let k : IsRest s x.order.after = record { names = ys; before = Some y; linked = subst (λ o. IsLinked (order_nodes s) (Some y) o ys) a l.2; there = λ m c. t m (there y m ys c); few = omega (arith, f) } in
    record {
      rows = ap (λ m. with_piece m (piece_in s m) (rows_of (piece_in s) ys)) q ∙ ap (λ o. with_piece n (option_map (λ (z : Row). z.piece) o) (rows_of (piece_in s) ys)) was ∙ ap (λ ms. (n, x.piece) ∷ rows_of (piece_in s) ms) (sym (order_rest s x.order.after k));
      rest = k;
    }

module _ (s : Slab Row) (at : Option ℕ) (r : IsRest s at) where
  pub ended : at ≡ None → rows_from s at ≡ []
  ended e = ap (rows_of (piece_in s)) (order_rest s at r ∙ by r.names r.linked)
    where
      by : (xs : List ℕ) → IsLinked (order_nodes s) r.before at xs → xs ≡ []
      by [] l = refl
      by (x ∷ xs) l = let z : None ≡ Some x = sym e ∙ l.0 in absurd (cc)

  pub is_there : (n : ℕ) → at ≡ Some n → ContainsKey s n
  is_there n e = by r.names r.linked r.there
    where
      by : (xs : List ℕ) → IsLinked (order_nodes s) r.before at xs → ((m : ℕ) → Contains xs m → ContainsKey s m) → ContainsKey s n
      by [] l t = let z : Some n ≡ None = sym e ∙ l in absurd (cc)
      by (x ∷ xs) l t = let q : x ≡ n = (let z : Some x ≡ Some n = sym l.0 ∙ e in cc) in subst (ContainsKey s) q (t x (here x xs))

  module _ (n : ℕ) (e : at ≡ Some n) (x : Row) (was : get s n ≡ Some x) where
    next : IsNext s n x r.names
    next = next_of s n x was r.before at r.names e r.linked r.there r.few

    pub rest_after : IsRest s x.order.after
    rest_after = next.rest

    pub first_piece : map (λ (z : ℕ × Piece). z.1) (rows_from s at) ≡ x.piece ∷ map (λ (z : ℕ × Piece). z.1) (rows_from s x.order.after)
    first_piece = ap (λ ns. map (λ (z : ℕ × Piece). z.1) (rows_of (piece_in s) ns)) (order_rest s at r) ∙ ap (map (λ (z : ℕ × Piece). z.1)) next.rows

-- The pieces of a curve, taken out one by one from its first.
use Rattle.std.proofs.Common.{◌≡◌, ◌≢◌, ℕ, ◌==◌, ◌&&◌, Bool, true, false, not, cond, List, [], ◌∷◌, Option, Some, None, IsSome, option_map, refl, sym, ap, subst, ◌∙◌, Contains}
use Rattle.std.specs.Prelude.{is_none}
use Rattle.std.specs.List.{filter}
use Rattle.slab.specs.Slab.{Slab, get, ContainsKey}
use Rattle.slab_laws.specs.declared.present.Piece.{Piece}
use Rattle.chain_laws.specs.Links.{Node, first_or, before_at, key_at, IsListed, AreListed, without}
use Rattle.chain_laws.proofs.Distinct.{here, nowhere}
use Rattle.curve_pieces.specs.declared.row.Row.{Row}
use Rattle.curve_pieces.specs.PiecesInMemory.{curve_node, curve_nodes, piece_in, rows_of, with_head}
use Rattle.curve_pieces.proofs.Named.{are_rows, all_pass, pass_without}
use Rattle.integers.proofs.Tests.{other_number, same_number}

-- the row is of another curve
abbrev pub is_other : ℕ → ℕ × Piece → Bool
is_other curve r = not (r.1.curve.0 == curve)

module _ (s : Slab Row) (curve : ℕ) (at : Option ℕ) (heads : ℕ → Option (Option ℕ)) (l : AreListed (with_head curve at heads) (curve_nodes s)) where
  abbrev own : List ℕ
  own = (l.lists curve).0

  own_list : IsListed (curve_nodes s) at curve own
  own_list = subst (λ z. IsListed (curve_nodes s) z curve own) (ap (λ b. first_or (cond b (Some at) (heads curve))) (same_number curve)) (l.lists curve).1

  -- the first row of the curve is there, is its, and none is before it
  record IsFirst (n : ℕ) : Type 0 where
    key : key_at (curve_nodes s) n ≡ Some curve
    before : before_at (curve_nodes s) n ≡ None

  is_first : (n : ℕ) → at ≡ Some n → IsFirst n
  is_first n e = by own own_list
    where
      by : (xs : List ℕ) → IsListed (curve_nodes s) at curve xs → IsFirst n
      by [] i = let z : Some n ≡ None = sym e ∙ i.linked in absurd (cc)
      by (x ∷ xs) i = let q : x ≡ n = (let z : Some x ≡ Some n = sym i.linked.0 ∙ e in cc) in subst IsFirst q (record { key = (i.members x).0 (here x xs); before = i.linked.1 })

  pub first_there : (n : ℕ) → at ≡ Some n → ContainsKey s n
  first_there n e = by (get s n) (is_first n e).key
    where
      by : (o : Option Row) → option_map (λ (z : Node). z.key) (option_map curve_node o) ≡ Some curve → IsSome o
      by None q = absurd (cc)
      by (Some x) q = refl

  module _ (n : ℕ) (e : at ≡ Some n) (x : Row) (was : get s n ≡ Some x) where
    pub own_curve : x.piece.curve.0 ≡ curve
    own_curve = let z : Some x.piece.curve.0 ≡ Some curve = sym (ap (λ o. option_map (λ (z : Node). z.key) (option_map curve_node o)) was) ∙ (is_first n e).key in cc

    no_prior : x.curve.before ≡ None
    no_prior = sym (ap (λ o. first_or (option_map (λ (z : Node). z.before) (option_map curve_node o))) was) ∙ (is_first n e).before

    -- the next one is the first then
    pub headed : (k : ℕ) → with_head curve x.curve.after heads k ≡ cond ((k == x.piece.curve.0) && is_none x.curve.before) (Some x.curve.after) (with_head curve at heads k)
    headed k = by (k == curve) ∙ ap (λ b. cond ((k == curve) && is_none b) (Some x.curve.after) (with_head curve at heads k)) (sym no_prior) ∙ ap (λ c. cond ((k == c) && is_none x.curve.before) (Some x.curve.after) (with_head curve at heads k)) (sym own_curve)
      where
        by : (b : Bool) → cond b (Some x.curve.after) (heads k) ≡ cond (b && true) (Some x.curve.after) (cond b (Some at) (heads k))
        by true = refl
        by false = refl

    -- and the others' pieces are the same
    pub others_stay : (t : Slab Row) (ns ms : List ℕ) → ms ≡ without n ns → ((m : ℕ) → m ≢ n → piece_in t m ≡ piece_in s m) → filter (is_other curve) (rows_of (piece_in t) ms) ≡ filter (is_other curve) (rows_of (piece_in s) ns)
    others_stay t ns ms q agree =
        ap (λ zs. filter (is_other curve) (rows_of (piece_in t) zs)) q
        ∙ pass_without (is_other curve) (piece_in s) (piece_in t) n x.piece agree (ap (option_map (λ (r : Row). r.piece)) was) (ap (λ c. not (c == curve)) own_curve ∙ ap not (same_number curve)) ns

  -- where none is left, all are others'
  pub only_others : at ≡ None → (ns : List ℕ) → filter (is_other curve) (rows_of (piece_in s) ns) ≡ rows_of (piece_in s) ns
  only_others e ns = all_pass (is_other curve) (rows_of (piece_in s) ns) (λ r m. ap not (other_number r.1.curve.0 curve (λ q. mine r.0 r.1 (are_rows (piece_in s) ns r m) q)))
    where
      none : (xs : List ℕ) → IsListed (curve_nodes s) at curve xs → (m : ℕ) → ¬ Contains xs m
      none [] i m c = nowhere m c
      none (x ∷ xs) i m c = let z : None ≡ Some x = sym e ∙ i.linked.0 in absurd (cc)

      mine : (m : ℕ) (k : Piece) → piece_in s m ≡ Some k → k.curve.0 ≢ curve
      mine m k h q = none own own_list m ((own_list.members m).1 (by (get s m) h ∙ ap Some q))
        where
          by : (o : Option Row) → option_map (λ (r : Row). r.piece) o ≡ Some k → option_map (λ (z : Node). z.key) (option_map curve_node o) ≡ Some k.curve.0
          by None g = absurd (cc)
          by (Some x) g = let z : x.piece ≡ k = cc in ap (λ (y : Piece). Some y.curve.0) z

-- The heads of the lists by curve, in the map and beside it.
use Rattle.std.proofs.Common.{◌≡◌, ◌≢◌, inl, inr, ℕ, ◌==◌, ◌&&◌, nat_eq, Bool, true, false, cond, List, [], ◌∷◌, Option, Some, None, is_some, IsSome, Result, Ok, IfOk, refl, sym, ap, subst, ◌∙◌, Contains}
use Rattle.std.specs.HashMap.{Updates}
use Rattle.std.specs.Map.{lookup}
use Rattle.std.proofs.lemmas.Bool.{cases_eq}
use Rattle.indexmap.specs.IndexMap.{IndexMap}
use Rattle.slab_laws.specs.Tables.{row_at}
use Rattle.chain_laws.specs.Links.{Node, first_or, key_at, IsListed, AreListed}
use Rattle.chain_laws.proofs.Distinct.{nowhere}
use Rattle.chain_laws.proofs.Listed.{listed_heads}
use Rattle.linked_chains.specs.Writes.{IsHeaded}
use Rattle.linked_chains.proofs.Heads.{updated}
use Rattle.linked_chains.proofs.Reading.{row_lookup}
use Rattle.curve_pieces.specs.PiecesInMemory.{with_head}
use Rattle.integers.proofs.Tests.{other_number, same_number}

-- what a call ensures of its answer where it succeeds
pub told : {T E : Type 0} (P : T → Type 0) (r : Result T E) (x : T) → r ≡ Ok x → IfOk r P → P x
told {T} {E} P r x e h = subst (λ z. IfOk z P) e h

pub head_there : (c : ℕ) (head : Option ℕ) (heads : ℕ → Option (Option ℕ)) → with_head c head heads c ≡ Some head
head_there c head heads = ap (λ b. cond b (Some head) (heads c)) (same_number c)

pub head_else : (c : ℕ) (head : Option ℕ) (heads : ℕ → Option (Option ℕ)) (k : ℕ) → k ≢ c → with_head c head heads k ≡ heads k
head_else c head heads k h = ap (λ b. cond b (Some head) (heads k)) (other_number k c h)

module _ (node : ℕ → Option Node) (c : ℕ) where
  -- the head that a curve has, said beside the others
  pub as_head : (head : Option ℕ) (heads : ℕ → Option (Option ℕ)) → head ≡ first_or (heads c) → AreListed heads node → AreListed (with_head c head heads) node
  as_head head heads e = listed_heads heads (with_head c head heads) node same some
    where
      same : (k : ℕ) → first_or (with_head c head heads k) ≡ first_or (heads k)
      same k = elim (cases_eq k c) [
        | inl q ↦ subst (λ z. first_or (with_head c head heads z) ≡ first_or (heads z)) (sym q) (ap first_or (head_there c head heads) ∙ e)
        | inr ne ↦ ap first_or (head_else c head heads k ne)
      ]

      some : (n k : ℕ) → key_at node n ≡ Some k → IsSome (heads k) → IsSome (with_head c head heads k)
      some n k q s = elim (cases_eq k c) [
        | inl q ↦ subst (λ z. IsSome (with_head c head heads z)) (sym q) (ap is_some (head_there c head heads))
        | inr ne ↦ ap is_some (head_else c head heads k ne) ∙ s
      ]

  pub same_heads : (heads heads' : ℕ → Option (Option ℕ)) → ((k : ℕ) → heads' k ≡ heads k) → AreListed heads node → AreListed heads' node
  same_heads heads heads' e = listed_heads heads heads' node (λ k. ap first_or (e k)) (λ n k q s. ap is_some (e k) ∙ s)

  -- where it has none, none is kept
  pub no_head : (heads : ℕ → Option (Option ℕ)) → first_or (heads c) ≡ None → AreListed (with_head c None heads) node → AreListed heads node
  no_head heads e l = listed_heads (with_head c None heads) heads node same some l
    where
      same : (k : ℕ) → first_or (heads k) ≡ first_or (with_head c None heads k)
      same k = elim (cases_eq k c) [
        | inl q ↦ subst (λ z. first_or (heads z) ≡ first_or (with_head c None heads z)) (sym q) (e ∙ sym (ap first_or (head_there c None heads)))
        | inr ne ↦ sym (ap first_or (head_else c None heads k ne))
      ]

      free : (xs : List ℕ) → IsListed node (first_or (with_head c None heads c)) c xs → (n : ℕ) → ¬ Contains xs n
      free [] i n m = nowhere n m
      free (x ∷ xs) i n m = let z : None ≡ Some x = sym (ap first_or (head_there c None heads)) ∙ i.linked.0 in absurd (cc)

      some : (n k : ℕ) → key_at node n ≡ Some k → IsSome (with_head c None heads k) → IsSome (heads k)
      some n k q s = elim (cases_eq k c) [
        | inl w ↦ absurd (free (l.lists c).0 (l.lists c).1 n (((l.lists c).1.members n).1 (q ∙ ap Some w)))
        | inr ne ↦ sym (ap is_some (head_else c None heads k ne)) ∙ s
      ]

-- ---- what writes of the map make of them
module _ {S : Type 0} (old new : IndexMap ℕ (Option ℕ) S) (c : ℕ) where
  pub put_in : (n : Option ℕ) → Updates nat_eq old new c (Some n) → (k : ℕ) → row_at new.entries k ≡ with_head c n (row_at old.entries) k
  put_in n u k = updated old new c (Some n) u k

  pub taken_out : Updates nat_eq old new c None → (first_or (row_at new.entries c) ≡ None) × ((head : Option ℕ) (k : ℕ) → with_head c head (row_at new.entries) k ≡ with_head c head (row_at old.entries) k)
  taken_out u = (ap first_or (updated old new c None u c ∙ ap (λ b. cond b None (row_at old.entries c)) (same_number c)), λ head k. ap (λ r. cond (k == c) (Some head) r) (updated old new c None u k) ∙ by head k (k == c))
    where
      by : (head : Option ℕ) (k : ℕ) (b : Bool) → cond b (Some head) (cond b None (row_at old.entries k)) ≡ cond b (Some head) (row_at old.entries k)
      by head k true = refl
      by head k false = refl

  pub headed_as : (n : Option ℕ) → IsHeaded c None n old new → (k : ℕ) → row_at new.entries k ≡ with_head c n (row_at old.entries) k
  headed_as n h k = h.heads k ∙ by (k == c)
    where
      by : (b : Bool) → cond (b && true) (Some n) (row_at old.entries k) ≡ cond b (Some n) (row_at old.entries k)
      by true = refl
      by false = refl

pub found_first : {S : Type 0} (m : IndexMap ℕ (Option ℕ) S) (c : ℕ) (first : Option ℕ) (entry : Option (Option ℕ)) → first ≡ first_or entry → entry ≡ lookup (nat_eq c) m.entries → first ≡ first_or (row_at m.entries c)
found_first m c first entry e f = e ∙ ap first_or (f ∙ sym (row_lookup m.entries c))

pub found_now : {S : Type 0} (m : IndexMap ℕ (Option ℕ) S) (c : ℕ) (first : Option ℕ) → lookup (nat_eq c) m.entries ≡ Some first → first ≡ first_or (row_at m.entries c)
found_now m c first e = sym (ap first_or (row_lookup m.entries c ∙ e))

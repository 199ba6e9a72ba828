-- All curves taken from an edge, or one.
use Rattle.std.proofs.Common.{◌≡◌, ⊎_elim, inl, inr, ℕ, ◌<◌, ◌==◌, not, List, [], ◌∷◌, length, Option, Some, None, refl, sym, ap, subst, ◌∙◌}
use Rattle.std.specs.List.{filter}
use Rattle.plane_graphs.specs.Ascending.{Member}
use Rattle.plane_graphs.proofs.Ascending.{from_member}
use Rattle.slab_laws.specs.FaceLists.{first_of}
use Rattle.chain_laws.proofs.Distinct.{shorter}
use Rattle.linked_chains.specs.Chains.{Chained, IsWhole, HasNode, entry_at, chain}
use Rattle.curve_history.specs.Changed.{IsPairLess, IsOneLess, AreSidesLess, IsEmptied}
use Rattle.curve_history.specs.HistoryInMemory.{entry, item_in, Says}
use Rattle.edit_steps.specs.EditLaws.{curve_of}
use Rattle.curve_history.proofs.Walking.{at_head, IsAt, at_node, node_at, says_on}

pub empty : (c : Chained) (edge : ℕ) → IsEmptied c c edge
empty c edge = record { stays = λ k i s. s; others = λ k i s ne. s; keys = λ k h. h }

first_member : (xs : List ℕ) (o : Option ℕ) (n : ℕ) → o ≡ first_of xs → o ≡ Some n → Member n xs
first_member xs o n e f = let h : first_of xs ≡ Some n = sym e ∙ f in subst (IsAt xs) h (at_head xs)

pub first_node : (c : Chained) (k : ℕ) (o : Option ℕ) (n : ℕ) → IsWhole c k → o ≡ first_of (chain c k) → o ≡ Some n → HasNode c n
first_node c k o n w e f = at_node c k n w (first_member (chain c k) o n e f)

pub first_is : (c : Chained) (k : ℕ) (o : Option ℕ) (n : ℕ) → IsWhole c k → o ≡ first_of (chain c k) → o ≡ Some n → (t : ℕ) × (entry_at c n ≡ Some (entry k (item_in c n) t))
first_is c k o n w e f = node_at c k n w (first_member (chain c k) o n e f)

pub empty_on : (old mid new : Chained) (edge node i : ℕ) → IsEmptied old mid edge → IsPairLess mid new node edge i → IsEmptied old new edge
empty_on old mid new edge node i p m = record {
  stays = λ k j s. p.stays k j (m.stays k j s);
  others = λ k j s ne. ⊎_elim (λ x. x) (λ e. absurd (ne e.0)) (m.others k j (p.others k j s ne));
  keys = λ k h. p.keys k (m.keys k h);
}

-- ---- fewer nodes
pub fewer : (c c' : Chained) (k : ℕ) (o : Option ℕ) (n : ℕ) → o ≡ first_of (chain c k) → o ≡ Some n → chain c' k ≡ filter (λ m. not (m == n)) (chain c k) → length (chain c' k) < length (chain c k)
fewer c c' k o n e f h = rw h (shorter n (chain c k) (from_member (chain c k) n (first_member (chain c k) o n e f)))

pub none_left : (c : Chained) (k : ℕ) (o : Option ℕ) → IsWhole c k → o ≡ first_of (chain c k) → o ≡ None → (i : ℕ) → ¬ Says c k i
none_left c k o w e f i s =
    let n = says_on c k i w s in
    no_member (chain c k) n.0 (sym e ∙ f) n.1
  where
    no_member : (xs : List ℕ) (n : ℕ) → first_of xs ≡ None → Member n xs → ⊥
    no_member [] n h m = m
    no_member (x ∷ xs) n h m = absurd cc

-- ---- the sides of a curve
pub no_side_less : (c : Chained) (edge curve : ℕ) → AreSidesLess c c edge curve
no_side_less c edge curve = record { stays = λ k i s. s; others = λ k i s. inl s; keys = λ k h. h }

pub side_less : (old mid new : Chained) (edge curve node i : ℕ) → AreSidesLess old mid edge curve → IsPairLess mid new node edge i → curve_of i ≡ curve → AreSidesLess old new edge curve
side_less old mid new edge curve node i p m h = record {
  stays = λ k j s. p.stays k j (m.stays k j s);
  others = λ k j s. ⊎_elim (λ x. ⊎_elim (λ y. inl y) (λ e. inr (e.0, ap curve_of e.1 ∙ h)) (m.others k j x)) (λ x. inr x) (p.others k j s);
  keys = λ k g. p.keys k (m.keys k g);
}

pub fewer_at : (c c' : Chained) (k n i t : ℕ) → IsWhole c k → entry_at c n ≡ Some (entry k i t) → chain c' k ≡ filter (λ m. not (m == n)) (chain c k) → length (chain c' k) < length (chain c k)
fewer_at c c' k n i t w e h = rw h (shorter n (chain c k) ((w.members n).1 (entry k i t, e, refl)))

-- ---- one side
pub one_less : (old new : Chained) (node edge strand : ℕ) → IsPairLess old new node edge strand → IsOneLess old new edge strand
one_less old new node edge strand m = record { gone = m.gone; stays = m.stays; others = m.others; keys = m.keys }

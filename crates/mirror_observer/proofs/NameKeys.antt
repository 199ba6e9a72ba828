-- A set's keys as names that ascend: one more in its place, and one fewer.
use Rattle.std.proofs.Common.{◌≡◌, inl, inr, ℕ, ◌==◌, Bool, cond, List, [], ◌∷◌, refl, sym, ap, ap₂, ◌∙◌, arith, nat_cmp, Ordering}
use Rattle.std.specs.Ordering.{match_ordering}
use Rattle.std.specs.Set.{remove_key}
use Rattle.std.specs.BTreeSet.{insert_key}
use Rattle.std.specs.BTreeMap.{is_at}
use Rattle.std.proofs.lemmas.Bool.{cases_order, eq-eqb, ne_eqb}
use Rattle.arr_notes.specs.FaceWriters.{put_name, del_name}
use Rattle.integers.proofs.Tests.{nat_tied, nat_more, nat_less, nat_lt_yes, nat_lt_no}
use Rattle.mirror_observer.proofs.Entries.{key_test}

pub name_inserted : (k : ℕ) (ns : List ℕ) → insert_key nat_cmp ns k ≡ put_name k ns
unfolding put_name
name_inserted k [] = refl
name_inserted k (n ∷ ns) =
    let P : Ordering → List ℕ = λ o. match_ordering o (k ∷ n ∷ ns) (n ∷ ns) (n ∷ insert_key nat_cmp ns k) in
    let Q : Bool → Bool → List ℕ = λ b c. cond b (k ∷ n ∷ ns) (cond c (n ∷ ns) (n ∷ put_name k ns)) in
    elim (cases_order k n) [
      | inl q ↦ ap P (nat_tied k n q) ∙ sym (ap₂ Q (nat_lt_no k n (omega arith)) (eq-eqb n k (sym q)))
      | inr s ↦ elim s [
        | inl l ↦ ap P (nat_less k n l) ∙ sym (ap (λ b. Q b (n == k)) (nat_lt_yes k n l))
        | inr l ↦ ap P (nat_more k n l) ∙ ap (λ xs. n ∷ xs) (name_inserted k ns) ∙ sym (ap₂ Q (nat_lt_no k n (omega arith)) (ne_eqb n k (λ z. absurd (omega (arith, l, z)))))
      ]
    ]

pub name_removed : (k : ℕ) (ns : List ℕ) → remove_key (is_at (nat_cmp k)) ns ≡ del_name k ns
unfolding del_name
name_removed k [] = refl
name_removed k (n ∷ ns) = ap₂ (λ b xs. cond b ns (n ∷ xs)) (key_test k n) (name_removed k ns)

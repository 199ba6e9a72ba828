-- What a map of heads is after each change of a key.
use Rattle.std.proofs.Common.{◌≡◌, ◌≢◌, ◌⊎◌, ◌↔◌, inl, inr, ℕ, ◌==◌, ◌&&◌, nat_eq, Bool, true, false, cond, [], ◌∷◌, ◌++◌, Option, Some, None, is_some, IsSome, refl, sym, ap, subst, ◌∙◌}
use Rattle.std.specs.Prelude.{is_none}
use Rattle.std.specs.HashMap.{WritesThrough, Updates}
use Rattle.std.specs.Map.{lookup}
use Rattle.std.proofs.lemmas.Bool.{cases_eq}
use Rattle.indexmap.specs.IndexMap.{IndexMap, insert_entry}
use Rattle.indexmap.proofs.CallerLemmas.{insert_entry-new}
use Rattle.slab_laws.specs.Tables.{row_at}
use Rattle.chain_laws.specs.Links.{first_or}
use Rattle.linked_chains.specs.Writes.{IsHeaded}
use Rattle.linked_chains.proofs.Reading.{row_lookup}
use Rattle.integers.proofs.Tests.{other_number, same_number, turned_test}

module _ {S V : Type 0} (old new : IndexMap ℕ V S) (key : ℕ) where
  -- what an update finds
  pub updated : (o : Option V) → Updates nat_eq old new key o → (k : ℕ) → row_at new.entries k ≡ cond (k == key) o (row_at old.entries k)
  updated o u k = row_lookup new.entries k ∙ u.0 k ∙ ap (λ b. cond b o (lookup (nat_eq k) old.entries)) (turned_test key k) ∙ ap (λ r. cond (k == key) o r) (sym (row_lookup old.entries k))

  -- a new head, where no node is before
  pub head_written : (before : Option ℕ) (first : V) → is_none before ≡ true → IsSome (row_at old.entries key) → WritesThrough nat_eq (nat_eq key) old first new → IsHeaded key before first old new
  head_written before first n there w = record {
    heads = λ k. updated (Some first) (w.3 (ap is_some (sym (row_lookup old.entries key)) ∙ there)) k ∙ ap (λ b. cond b (Some first) (row_at old.entries k)) (none (k == key));
    len = w.2;
    spare = w.6;
  }
    where
      none : (b : Bool) → b ≡ b && is_none before
      none true = sym n
      none false = refl

module _ {S : Type 0} (old new : IndexMap ℕ (Option ℕ) S) (key : ℕ) where
  found : (o : Option (Option ℕ)) → Updates nat_eq old new key o → row_at new.entries key ≡ o
  found o u = updated old new key o u key ∙ ap (λ b. cond b o (row_at old.entries key)) (same_number key)

  beside : (o : Option (Option ℕ)) → Updates nat_eq old new key o → (k : ℕ) → k ≢ key → row_at new.entries k ≡ row_at old.entries k
  beside o u k h = updated old new key o u k ∙ ap (λ b. cond b o (row_at old.entries k)) (other_number k key h)

  -- all keys stay then
  pub headed_keys : (before first : Option ℕ) → IsHeaded key before first old new → IsSome (row_at old.entries key) → (k : ℕ) → is_some (row_at new.entries k) ≡ is_some (row_at old.entries k)
  headed_keys before first h there k = elim (cases_eq k key) [
    | inl q ↦ ap is_some (h.heads k) ∙ either q ((k == key) && is_none before)
    | inr ne ↦ ap is_some (h.heads k) ∙ ap (λ b. is_some (cond (b && is_none before) (Some first) (row_at old.entries k))) (other_number k key ne)
  ]
    where
      either : k ≡ key → (b : Bool) → is_some (cond b (Some first) (row_at old.entries k)) ≡ is_some (row_at old.entries k)
      either q true = sym (ap (λ z. is_some (row_at old.entries z)) q ∙ there)
      either q false = refl

  -- an empty chain more
  pub key_more : Updates nat_eq old new key (Some None) → (k : ℕ) → IsSome (row_at new.entries k) ↔ (IsSome (row_at old.entries k) ⊎ (k ≡ key))
  key_more u k = elim (cases_eq k key) [
    | inl q ↦ (λ s. inr q, λ s. subst (λ z. IsSome (row_at new.entries z)) (sym q) (ap is_some (found (Some None) u)))
    | inr ne ↦ (
      λ s. inl (sym (ap is_some (beside (Some None) u k ne)) ∙ s),
      λ s. elim s [
        | inl t ↦ ap is_some (beside (Some None) u k ne) ∙ t
        | inr q ↦ absurd (ne q)
      ],
    )
  ]

  pub first_more : Updates nat_eq old new key (Some None) → ¬ IsSome (row_at old.entries key) → (k : ℕ) → first_or (row_at new.entries k) ≡ first_or (row_at old.entries k)
  first_more u h k = elim (cases_eq k key) [
    | inl q ↦ subst (λ z. first_or (row_at new.entries z) ≡ first_or (row_at old.entries z)) (sym q) (ap first_or (found (Some None) u) ∙ sym (nothing (row_at old.entries key) h))
    | inr ne ↦ ap first_or (beside (Some None) u k ne)
  ]
    where
      nothing : (o : Option (Option ℕ)) → ¬ IsSome o → first_or o ≡ None
      nothing None h = refl
      nothing (Some x) h = absurd (h refl)

  pub entries_more : ¬ IsSome (row_at old.entries key) → new.entries ≡ insert_entry nat_eq old.entries key None → new.entries ≡ old.entries ++ (key, None) ∷ []
  entries_more h e = e ∙ insert_entry-new nat_eq old key None (sym (row_lookup old.entries key) ∙ nothing (row_at old.entries key) h)
    where
      nothing : (o : Option (Option ℕ)) → ¬ IsSome o → o ≡ None
      nothing None h = refl
      nothing (Some x) h = absurd (h refl)

  -- an empty chain fewer
  pub key_fewer : Updates nat_eq old new key None → (k : ℕ) → IsSome (row_at new.entries k) ↔ (IsSome (row_at old.entries k) × (k ≢ key))
  key_fewer u k = elim (cases_eq k key) [
    | inl q ↦ (λ s. let z : IsSome (row_at new.entries key) = subst (λ y. IsSome (row_at new.entries y)) q s in absurd (cc (z, found None u)), λ s. absurd (s.1 q))
    | inr ne ↦ (λ s. (sym (ap is_some (beside None u k ne)) ∙ s, ne), λ s. ap is_some (beside None u k ne) ∙ s.0)
  ]

  pub first_fewer : Updates nat_eq old new key None → first_or (row_at old.entries key) ≡ None → (k : ℕ) → first_or (row_at new.entries k) ≡ first_or (row_at old.entries k)
  first_fewer u h k = elim (cases_eq k key) [
    | inl q ↦ subst (λ z. first_or (row_at new.entries z) ≡ first_or (row_at old.entries z)) (sym q) (ap first_or (found None u) ∙ sym h)
    | inr ne ↦ ap first_or (beside None u k ne)
  ]

-- What a caller sees after a new key's chain starts with its first node.
use Rattle.std.proofs.Common.{◌≡◌, ◌≢◌, ◌⊎◌, inl, inr, ℕ, ◌==◌, ◌&&◌, nat_eq, Bool, true, false, cond, ◌∷◌, Option, Some, None, is_some, IsSome, refl, sym, ap, subst, ◌∙◌}
use Rattle.std.specs.HashMap.{Updates as UpdatesKey}
use Rattle.std.proofs.lemmas.Bool.{cases_eq}
use Rattle.indexmap.specs.IndexMap.{IndexMap}
use Rattle.slab.specs.Slab.{Slab, get, Updates}
use Rattle.slab_laws.specs.FaceLists.{first_of}
use Rattle.slab_laws.specs.Tables.{row_at}
use Rattle.chain_laws.specs.Rows.{IsChanged}
use Rattle.linked_chains.specs.declared.node.Entry.{Entry}
use Rattle.linked_chains.specs.declared.node.Node.{Node}
use Rattle.linked_chains.specs.Chains.{Chained, HasKey, entry_at, chain}
use Rattle.linked_chains.specs.ChainsInMemory.{chained, AreSoundChains}
use Rattle.linked_chains.specs.Writes.{row_led}
use Rattle.linked_chains.proofs.Heads.{updated}
use Rattle.linked_chains.proofs.Seen.{no_chain}
use Rattle.linked_chains.proofs.Writing.{push_entries, push_kept, push_here, push_others}
use Rattle.integers.proofs.Tests.{other_number}

module _ {S : Type 0} (hs : IndexMap ℕ (Option ℕ) S) (ns : Slab Node) (h : Chained) (is : chained hs ns ≡ h) (kept : AreSoundChains hs ns) (n : ℕ) (entry : Entry) (t : Slab Node) (vacant : get ns n ≡ None) (new : ¬ HasKey h entry.key) (nobody : Option ℕ) (is_nobody : nobody ≡ None) (put_so : Updates ns t n (Some (record { entry = entry; before = nobody; after = nobody }))) (here : Option ℕ) (is_here : here ≡ Some n) (gs : IndexMap ℕ (Option ℕ) S) (more : UpdatesKey nat_eq hs gs entry.key (Some here)) where
  first : nobody ≡ first_of (chain h entry.key)
  first = is_nobody ∙ ap first_of (sym (no_chain hs ns h is kept entry.key new))

  -- no node is there to know the new one
  unled : IsChanged (row_led here) nobody t t
  unled = subst (λ (o : Option ℕ). IsChanged (row_led here) o t t) (sym is_nobody) (record { rows = λ m. refl; len = refl; capacity = refl })

  newly : (k : ℕ) → row_at gs.entries k ≡ cond ((k == entry.key) && true) (Some here) (row_at hs.entries k)
  newly k = updated hs gs entry.key (Some here) more k ∙ ap (λ b. cond b (Some here) (row_at hs.entries k)) (by (k == entry.key))
    where
      by : (b : Bool) → b ≡ (b && true)
      by true = refl
      by false = refl

  pub start_kept : AreSoundChains gs t
  start_kept = push_kept hs ns h is kept n entry nobody t vacant first nobody is_nobody put_so t here is_here unled gs newly

  pub start_entries : (m : ℕ) → entry_at (chained gs t) m ≡ cond (m == n) (Some entry) (entry_at h m)
  start_entries = push_entries hs ns h is kept n entry nobody t vacant first nobody is_nobody put_so t here is_here unled gs

  pub start_here : chain (chained gs t) entry.key ≡ n ∷ chain h entry.key
  start_here = push_here hs ns h is kept n entry nobody t vacant first nobody is_nobody put_so t here is_here unled gs newly

  pub start_others : (k : ℕ) → k ≢ entry.key → chain (chained gs t) k ≡ chain h k
  start_others = push_others hs ns h is kept n entry nobody t vacant first nobody is_nobody put_so t here is_here unled gs newly

  pub start_keys : (k : ℕ) → IsSome (row_at gs.entries k) → HasKey h k ⊎ (k ≡ entry.key)
  start_keys k s = elim (cases_eq k entry.key) [
    | inl q ↦ inr q
    | inr ne ↦ inl (ap (λ c. is_some (row_at c.heads k)) (sym is) ∙ sym (ap is_some (updated hs gs entry.key (Some here) more k ∙ ap (λ b. cond b (Some here) (row_at hs.entries k)) (other_number k entry.key ne))) ∙ s)
  ]

  pub start_keeps : (k : ℕ) → HasKey h k → IsSome (row_at gs.entries k)
  start_keeps k s = elim (cases_eq k entry.key) [
    | inl q ↦ absurd (new (subst (λ (z : ℕ). HasKey h z) q s))
    | inr ne ↦ ap is_some (updated hs gs entry.key (Some here) more k ∙ ap (λ b. cond b (Some here) (row_at hs.entries k)) (other_number k entry.key ne)) ∙ ap (λ c. is_some (row_at c.heads k)) is ∙ s
  ]

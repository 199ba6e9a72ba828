-- What a caller sees after a node is put in, and after one is taken out.
use Rattle.std.proofs.Common.{◌≡◌, ◌≢◌, ◌↔◌, inl, inr, ℕ, ◌==◌, ◌&&◌, Bool, true, false, not, cond, ◌∷◌, Option, Some, None, is_some, IsSome, option_map, refl, sym, ap, subst, ◌∙◌}
use Rattle.std.proofs.lemmas.Bool.{cases_eq}
use Rattle.std.specs.List.{filter}
use Rattle.indexmap.specs.IndexMap.{IndexMap}
use Rattle.slab.specs.Slab.{Slab, get, with_value, Updates}
use Rattle.slab.proofs.SlabLemmas.{Updates-with_value}
use Rattle.slab_laws.specs.FaceLists.{first_of}
use Rattle.slab_laws.specs.Tables.{row_at}
use Rattle.chain_laws.specs.Links.{Node as ChainNode, first_or, after_at, before_at, key_at, followed_by, led_by, without}
use Rattle.chain_laws.specs.Rows.{IsChanged}
use Rattle.linked_chains.specs.declared.node.Entry.{Entry}
use Rattle.linked_chains.specs.declared.node.Node.{Node}
use Rattle.linked_chains.specs.Chains.{Chained, HasKey, entry_at, chain, put_after, SameChains}
use Rattle.linked_chains.specs.ChainsInMemory.{chained, node_of, nodes_of, AreSoundChains}
use Rattle.linked_chains.specs.Writes.{row_followed, row_led, twinned_with, IsHeaded}
use Rattle.linked_chains.proofs.Reading.{entry_is, chain_is, first_is}
use Rattle.chain_laws.proofs.Changes.{AreChanged}
use Rattle.chain_laws.proofs.Rows.{updated, cond_map, unwritten_row}
use Rattle.linked_chains.proofs.Rows.{node_changed, row_there}
use Rattle.chain_laws.proofs.Pushed.{first_there, list_pushed, list_beside, listed_pushed}
use Rattle.chain_laws.proofs.Removed.{head_there, before_there, after_there, list_removed, head_kept, listed_removed}
use Rattle.linked_chains.proofs.Inserted.{follower_there, place_there, list_inserted, listed_inserted}
use Rattle.linked_chains.proofs.Seen.{entry_seen, entry_found, chain_seen, nodes_kept, chains_same}
use Rattle.integers.proofs.Tests.{other_number, same_number}

module _ {S : Type 0} (hs : IndexMap ℕ (Option ℕ) S) (ns : Slab Node) (h : Chained) (is : chained hs ns ≡ h) (kept : AreSoundChains hs ns) where
  abbrev head : ℕ → Option (Option ℕ)
  head k = row_at hs.entries k

  pub heads_kept : (gs : IndexMap ℕ (Option ℕ) S) → ((k : ℕ) → is_some (row_at gs.entries k) ≡ is_some (head k)) → (k : ℕ) → HasKey h k ↔ IsSome (row_at gs.entries k)
  heads_kept gs e k = (λ s. e k ∙ ap (λ c. is_some (row_at c.heads k)) is ∙ s, λ s. ap (λ c. is_some (row_at c.heads k)) (sym is) ∙ sym (e k) ∙ s)

  -- ---- a node n more, before the old first
  module _ (n : ℕ) (entry : Entry) (first : Option ℕ) (t : Slab Node) (vacant : get ns n ≡ None) (is_first : first ≡ first_of (chain h entry.key)) (nobody : Option ℕ) (is_nobody : nobody ≡ None) (put_so : Updates ns t n (Some (record { entry = entry; before = nobody; after = first }))) where
    put_first : Updates ns t n (Some (record { entry = entry; before = None; after = first }))
    put_first = subst (λ (b : Option ℕ). Updates ns t n (Some (record { entry = entry; before = b; after = first }))) is_nobody put_so

    old_first : first ≡ first_or (head entry.key)
    old_first = is_first ∙ ap (λ c. first_of (chain c entry.key)) (sym is) ∙ sym (first_is hs ns kept entry.key)

    no_node : nodes_of ns n ≡ None
    no_node = ap (option_map node_of) vacant

    added : (m : ℕ) → nodes_of t m ≡ cond (m == n) (Some (record { key = entry.key; before = None; after = first_or (head entry.key) })) (nodes_of ns m)
    added m =
        ap (option_map node_of) (updated ns t n _ put_first m)
        ∙ cond_map node_of (m == n) (Some (record { entry = entry; before = None; after = first })) (get ns m)
        ∙ ap (λ f. cond (m == n) (Some (record { key = entry.key; before = None; after = f })) (nodes_of ns m)) old_first

    pub old_first_there : (m : ℕ) → first ≡ Some m → IsSome (get t m)
    old_first_there m e = row_there t m (first_there head (nodes_of ns) (nodes_of t) n entry.key kept no_node added m (sym old_first ∙ e))

    module _ (u : Slab Node) (here : Option ℕ) (is_here : here ≡ Some n) (told_so : IsChanged (row_led here) first t u) where
      told_first : IsChanged (row_led (Some n)) first t u
      told_first = subst (λ b. IsChanged (row_led b) first t u) is_here told_so

      led : AreChanged (led_by (Some n)) (first_or (head entry.key)) (nodes_of t) (nodes_of u)
      led = subst (λ f. AreChanged (led_by (Some n)) f (nodes_of t) (nodes_of u)) old_first (node_changed (row_led (Some n)) (led_by (Some n)) (λ x. refl) first t u told_first)

      pub push_entries : (gs : IndexMap ℕ (Option ℕ) S) (m : ℕ) → entry_at (chained gs u) m ≡ cond (m == n) (Some entry) (entry_at h m)
      push_entries gs m =
          entry_is gs u m
          ∙ unwritten_row (λ x. x.entry) (row_led (Some n)) (λ x. refl) first t u told_first m
          ∙ ap (option_map (λ x. x.entry)) (updated ns t n _ put_first m)
          ∙ cond_map (λ x. x.entry) (m == n) (Some (record { entry = entry; before = None; after = first })) (get ns m)
          ∙ ap (λ o. cond (m == n) (Some entry) o) (sym (entry_seen hs ns h is m))

      module _ (gs : IndexMap ℕ (Option ℕ) S) (newly : (k : ℕ) → row_at gs.entries k ≡ cond ((k == entry.key) && true) (Some here) (head k)) where
        headed : (k : ℕ) → row_at gs.entries k ≡ cond (k == entry.key) (Some (Some n)) (head k)
        headed k = newly k ∙ ap (λ b. cond b (Some here) (head k)) (by (k == entry.key)) ∙ ap (λ o. cond (k == entry.key) (Some o) (head k)) is_here
          where
            by : (b : Bool) → (b && true) ≡ b
            by true = refl
            by false = refl

        pub push_kept : AreSoundChains gs u
        push_kept = listed_pushed head (nodes_of ns) (nodes_of t) n entry.key kept no_node added (nodes_of u) led (row_at gs.entries) headed

        pub push_here : chain (chained gs u) entry.key ≡ n ∷ chain h entry.key
        push_here =
            let l = kept.lists entry.key in
            chain_is gs u entry.key (n ∷ l.0) (list_pushed head (nodes_of ns) (nodes_of t) n entry.key kept no_node added (nodes_of u) led (row_at gs.entries) headed l.0 l.1) ∙ ap (λ xs. n ∷ xs) (sym (chain_seen hs ns h is entry.key l.0 l.1))

        pub push_others : (k : ℕ) → k ≢ entry.key → chain (chained gs u) k ≡ chain h k
        push_others k ne =
            let l = kept.lists k in
            chain_is gs u k l.0 (list_beside head (nodes_of ns) (nodes_of t) n entry.key kept no_node added (nodes_of u) led (row_at gs.entries) headed k l.0 ne l.1) ∙ sym (chain_seen hs ns h is k l.0 l.1)

  -- ---- a node n more, directly after the node x of the name m
  module _ (m : ℕ) (x : Node) (was : get ns m ≡ Some x) (n item twin : ℕ) (t : Slab Node) (vacant : get ns n ≡ None) (place : Option ℕ) (is_place : place ≡ Some m) (put_so : Updates ns t n (Some (record { entry = record { key = x.entry.key; item = item; twin = twin }; before = place; after = x.after }))) where
    abbrev said : Entry
    said = record { key = x.entry.key; item = item; twin = twin }

    put_between : Updates ns t n (Some (record { entry = said; before = Some m; after = x.after }))
    put_between = subst (λ (b : Option ℕ). Updates ns t n (Some (record { entry = said; before = b; after = x.after }))) is_place put_so

    node_m : nodes_of ns m ≡ Some (node_of x)
    node_m = ap (option_map node_of) was

    none_n : nodes_of ns n ≡ None
    none_n = ap (option_map node_of) vacant

    between : (y : ℕ) → nodes_of t y ≡ cond (y == n) (Some (record { key = x.entry.key; before = Some m; after = x.after })) (nodes_of ns y)
    between y = ap (option_map node_of) (updated ns t n _ put_between y) ∙ cond_map node_of (y == n) (Some (record { entry = said; before = Some m; after = x.after })) (get ns y)

    pub follower_still : (y : ℕ) → x.after ≡ Some y → IsSome (get t y)
    follower_still y e = row_there t y (follower_there head (nodes_of ns) m (node_of x) kept node_m n none_n (nodes_of t) between y e)

    module _ (u : Slab Node) (here : Option ℕ) (is_here : here ≡ Some n) (led_so : IsChanged (row_led here) x.after t u) where
      led_new : IsChanged (row_led (Some n)) x.after t u
      led_new = subst (λ b. IsChanged (row_led b) x.after t u) is_here led_so

      led_nodes : AreChanged (led_by (Some n)) x.after (nodes_of t) (nodes_of u)
      led_nodes = node_changed (row_led (Some n)) (led_by (Some n)) (λ z. refl) x.after t u led_new

      pub place_still : (y : ℕ) → place ≡ Some y → IsSome (get u y)
      place_still y e = row_there u y (place_there head (nodes_of ns) m (node_of x) kept node_m n none_n (nodes_of t) between (nodes_of u) led_nodes y (sym is_place ∙ e))

      module _ (w : Slab Node) (followed_so : IsChanged (row_followed here) place u w) where
        followed : IsChanged (row_followed (Some n)) (Some m) u w
        followed = subst (λ p. IsChanged (row_followed (Some n)) p u w) is_place (subst (λ b. IsChanged (row_followed b) place u w) is_here followed_so)

        followed_nodes : AreChanged (followed_by (Some n)) (Some m) (nodes_of u) (nodes_of w)
        followed_nodes = node_changed (row_followed (Some n)) (followed_by (Some n)) (λ z. refl) (Some m) u w followed

        pub insert_entries : (e : Entry) → entry_at h m ≡ Some e → (y : ℕ) → entry_at (chained hs w) y ≡ cond (y == n) (Some (record { key = e.key; item = item; twin = twin })) (entry_at h y)
        insert_entries e q y =
            let z : Some x.entry ≡ Some e = sym (entry_found hs ns h is m x was) ∙ q in
            let same : x.entry ≡ e = cc in
            entry_is hs w y
            ∙ unwritten_row (λ k. k.entry) (row_followed (Some n)) (λ k. refl) (Some m) u w followed y
            ∙ unwritten_row (λ k. k.entry) (row_led (Some n)) (λ k. refl) x.after t u led_new y
            ∙ ap (option_map (λ k. k.entry)) (updated ns t n _ put_between y)
            ∙ cond_map (λ k. k.entry) (y == n) (Some (record { entry = said; before = Some m; after = x.after })) (get ns y)
            ∙ ap (λ o. cond (y == n) (Some said) o) (sym (entry_seen hs ns h is y))
            ∙ ap (λ (b : Entry). cond (y == n) (Some (record { key = b.key; item = item; twin = twin })) (entry_at h y)) same

        pub insert_kept : AreSoundChains hs w
        insert_kept = listed_inserted head (nodes_of ns) m (node_of x) kept node_m n none_n (nodes_of t) between (nodes_of u) led_nodes (nodes_of w) followed_nodes

        pub insert_chains : (k : ℕ) → chain (chained hs w) k ≡ put_after m n (chain h k)
        insert_chains k =
            let l = kept.lists k in
            chain_is hs w k (put_after m n l.0) (list_inserted head (nodes_of ns) m (node_of x) kept node_m n none_n (nodes_of t) between (nodes_of u) led_nodes (nodes_of w) followed_nodes k l.0 l.1) ∙ ap (put_after m n) (sym (chain_seen hs ns h is k l.0 l.1))

  -- ---- the node x of the name n fewer
  module _ (n : ℕ) (x : Node) (was : get ns n ≡ Some x) (t : Slab Node) (gone : Updates ns t n None) where
    node_n : nodes_of ns n ≡ Some (node_of x)
    node_n = ap (option_map node_of) was

    cut : (m : ℕ) → nodes_of t m ≡ cond (m == n) None (nodes_of ns m)
    cut m = ap (option_map node_of) (updated ns t n None gone m) ∙ cond_map node_of (m == n) None (get ns m)

    pub own_head : IsSome (head x.entry.key)
    own_head = head_there head (nodes_of ns) n (node_of x) kept node_n

    pub before_there_still : (m : ℕ) → x.before ≡ Some m → IsSome (get t m)
    before_there_still m e = row_there t m (before_there head (nodes_of ns) n (node_of x) kept node_n (nodes_of t) cut m e)

    module _ (u : Slab Node) (followed : IsChanged (row_followed x.after) x.before t u) where
      followed_cut : AreChanged (followed_by x.after) x.before (nodes_of t) (nodes_of u)
      followed_cut = node_changed (row_followed x.after) (followed_by x.after) (λ z. refl) x.before t u followed

      pub after_there_still : (m : ℕ) → x.after ≡ Some m → IsSome (get u m)
      after_there_still m e = row_there u m (after_there head (nodes_of ns) n (node_of x) kept node_n (nodes_of t) cut (nodes_of u) followed_cut m e)

      module _ (w : Slab Node) (led : IsChanged (row_led x.before) x.after u w) where
        led_cut : AreChanged (led_by x.before) x.after (nodes_of u) (nodes_of w)
        led_cut = node_changed (row_led x.before) (led_by x.before) (λ z. refl) x.after u w led

        pub remove_entries : (gs : IndexMap ℕ (Option ℕ) S) (m : ℕ) → entry_at (chained gs w) m ≡ cond (m == n) None (entry_at h m)
        remove_entries gs m =
            entry_is gs w m
            ∙ unwritten_row (λ z. z.entry) (row_led x.before) (λ z. refl) x.after u w led m
            ∙ unwritten_row (λ z. z.entry) (row_followed x.after) (λ z. refl) x.before t u followed m
            ∙ ap (option_map (λ z. z.entry)) (updated ns t n None gone m)
            ∙ cond_map (λ z. z.entry) (m == n) None (get ns m)
            ∙ ap (λ o. cond (m == n) None o) (sym (entry_seen hs ns h is m))

        module _ (gs : IndexMap ℕ (Option ℕ) S) (before : Option ℕ) (is_before : before ≡ x.before) (moved_so : IsHeaded x.entry.key before x.after hs gs) where
          moved : IsHeaded x.entry.key x.before x.after hs gs
          moved = subst (λ b. IsHeaded x.entry.key b x.after hs gs) is_before moved_so

          pub remove_kept : AreSoundChains gs w
          remove_kept = listed_removed head (nodes_of ns) n (node_of x) kept node_n (nodes_of t) cut (nodes_of u) followed_cut (nodes_of w) led_cut (row_at gs.entries) moved.heads

          pub remove_chains : (k : ℕ) → chain (chained gs w) k ≡ filter (λ m. not (m == n)) (chain h k)
          remove_chains k =
              let l = kept.lists k in
              chain_is gs w k (without n l.0) (list_removed head (nodes_of ns) n (node_of x) kept node_n (nodes_of t) cut (nodes_of u) followed_cut (nodes_of w) led_cut (row_at gs.entries) moved.heads k l.0 l.1) ∙ ap (without n) (sym (chain_seen hs ns h is k l.0 l.1))

          pub remove_keys : (k : ℕ) → HasKey h k ↔ IsSome (row_at gs.entries k)
          remove_keys = heads_kept gs (head_kept head (nodes_of ns) n (node_of x) kept node_n (nodes_of t) cut (nodes_of u) followed_cut (nodes_of w) led_cut (row_at gs.entries) moved.heads)

  -- ---- another twin for the node x of the name n
  module _ (n : ℕ) (x : Node) (was : get ns n ≡ Some x) (twin : ℕ) where
    abbrev told : Slab Node
    told = with_value ns n (twinned_with twin x)

    twinned : (m : ℕ) → get told m ≡ cond (m == n) (option_map (twinned_with twin) (get ns m)) (get ns m)
    twinned m = updated ns told n _ (Updates-with_value ns n (twinned_with twin x) (ap is_some was)) m ∙ elim (cases_eq m n) [
      | inl q ↦ rw (q, same_number n) (ap (option_map (twinned_with twin)) (sym was))
      | inr ne ↦ rw (other_number m n ne) refl
    ]

    nodes_stay : (m : ℕ) → nodes_of told m ≡ nodes_of ns m
    nodes_stay m = ap (option_map node_of) (twinned m) ∙ by (m == n) (get ns m)
      where
        by : (b : Bool) (o : Option Node) → option_map node_of (cond b (option_map (twinned_with twin) o) o) ≡ option_map node_of o
        by false o = refl
        by true None = refl
        by true (Some z) = refl

    afters : (m : ℕ) → after_at (nodes_of told) m ≡ after_at (nodes_of ns) m
    afters m = ap (λ o. first_or (option_map (λ (z : ChainNode). z.after) o)) (nodes_stay m)

    befores : (m : ℕ) → before_at (nodes_of told) m ≡ before_at (nodes_of ns) m
    befores m = ap (λ o. first_or (option_map (λ (z : ChainNode). z.before) o)) (nodes_stay m)

    keys_stay : (m : ℕ) → key_at (nodes_of told) m ≡ key_at (nodes_of ns) m
    keys_stay m = ap (option_map (λ (z : ChainNode). z.key)) (nodes_stay m)

    pub twin_kept : AreSoundChains hs told
    twin_kept = nodes_kept hs ns h is kept told afters befores keys_stay

    pub twin_chains : SameChains h (chained hs told)
    twin_chains = record { keys = λ k. (λ s. ap (λ c. is_some (row_at c.heads k)) is ∙ s, λ s. ap (λ c. is_some (row_at c.heads k)) (sym is) ∙ s); chains = chains_same hs ns h is kept told afters befores keys_stay }

    abbrev with_twin : Entry → Entry
    with_twin e = record { key = e.key; item = e.item; twin = twin }

    pub twin_entries : (m : ℕ) → entry_at (chained hs told) m ≡ cond (m == n) (option_map with_twin (entry_at h m)) (entry_at h m)
    twin_entries m = entry_is hs told m ∙ ap (option_map (λ z. z.entry)) (twinned m) ∙ by (m == n) (get ns m) ∙ ap (λ o. cond (m == n) (option_map with_twin o) o) (sym (entry_seen hs ns h is m))
      where
        by : (b : Bool) (o : Option Node) → option_map (λ z. z.entry) (cond b (option_map (twinned_with twin) o) o) ≡ cond b (option_map with_twin (option_map (λ z. z.entry) o)) (option_map (λ z. z.entry) o)
        by false o = refl
        by true None = refl
        by true (Some z) = refl

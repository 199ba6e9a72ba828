-- Two chains walked side by side.
use Rattle.std.proofs.Common.{◌≡◌, ◌≢◌, ℕ, Bool, true, false, not, List, [], ◌∷◌, ◌++◌, map, Option, Some, None, is_some, refl, sym, ap, subst, ◌∙◌}
use Rattle.std.proofs.lemmas.Bool.{false≢true}
use Rattle.std.proofs.lemmas.List.{append-nil, append_cancel_left}
use Rattle.slab_laws.specs.FaceLists.{first_of}
use Rattle.chain_laws.specs.Links.{comes_after}
use Rattle.linked_chains.specs.Chains.{Chained, IsWhole, entry_at, chain}
use Rattle.linked_chains.specs.declared.node.Entry.{Entry}
use Rattle.curve_history.specs.HistoryInMemory.{entry, item_in, items_along}
use Rattle.curve_history.proofs.Walking.{IsAt, apart, left, IsStepped, stepped, item_is, node_at, IsCollected, collect, collect_on, collected}

-- both walks have passed the same items
pub record IsAbreast (c : Chained) (k l : ℕ) (at beside : Option ℕ) : Type 0 where
  pub items : List ℕ
  pub one : IsCollected c k items at
  pub other : IsCollected c l items beside

pub abreast : (c : Chained) (k l : ℕ) (at beside : Option ℕ) → at ≡ first_of (chain c k) → beside ≡ first_of (chain c l) → IsAbreast c k l at beside
abreast c k l at beside e f = record { items = []; one = collect c k [] at refl e; other = collect c l [] beside refl f }

-- the item that a walk is at comes next
pub record ComesNext (xs items : List ℕ) (i : ℕ) : Type 0 where
  pub rest : List ℕ
  pub is : items ++ i ∷ rest ≡ xs

comes_next : (c : Chained) (k n : ℕ) (e : Entry) (items : List ℕ) (at : Option ℕ) → IsWhole c k → at ≡ Some n → IsCollected c k items at → entry_at c n ≡ Some e → ComesNext (items_along c k) items e.item
comes_next c k n e items at w b s h =
    let s' : IsCollected c k items (Some n) = subst (IsCollected c k items) b s in
    let g : IsStepped (chain c k) n = stepped (chain c k) n (apart (chain c k) w.once) s'.here in
    let rest : List ℕ = map (item_in c) (left (chain c k) (comes_after (chain c k) n)) in
    let q : items ++ item_in c n ∷ rest ≡ items_along c k = subst (λ xs. items ++ map (item_in c) xs ≡ items_along c k) g.left_is s'.rest in
    record { rest = rest; is = subst (λ i. items ++ i ∷ rest ≡ items_along c k) (item_is c n e h) q }

pub one_next : (xs ys items : List ℕ) (i j : ℕ) → ComesNext xs items i → ComesNext ys items j → xs ≡ ys → i ≡ j
one_next xs ys items i j a b e =
    let z : i ∷ a.rest ≡ j ∷ b.rest = append_cancel_left items (i ∷ a.rest) (j ∷ b.rest) (a.is ∙ e ∙ sym b.is) in
    cc

pub none_next : (xs ys items : List ℕ) (i : ℕ) → ComesNext xs items i → items ≡ ys → xs ≡ ys → ⊥
none_next xs ys items i a b e =
    let z : i ∷ a.rest ≡ [] = append_cancel_left items (i ∷ a.rest) [] (a.is ∙ e ∙ sym b ∙ sym (append-nil items)) in
    absurd cc

pub no_option : (o : Option ℕ) → is_some o ≡ false → o ≡ None
no_option None t = refl
no_option (Some m) t = absurd (false≢true (sym t))

an_option : (o : Option ℕ) → is_some o ≡ true → (m : ℕ) × (o ≡ Some m)
an_option None t = absurd (false≢true t)
an_option (Some m) t = (m, refl)

module _ (c : Chained) (k l : ℕ) (at beside : Option ℕ) (w : IsWhole c k) (v : IsWhole c l) (s : IsAbreast c k l at beside) where
  -- one chain ends
  pub ends_both : at ≡ None → beside ≡ None → items_along c k ≡ items_along c l
  ends_both e f = sym (collected c k s.items at e s.one) ∙ collected c l s.items beside f s.other

  ends_first : (m : ℕ) (y : Entry) → at ≡ None → beside ≡ Some m → entry_at c m ≡ Some y → items_along c k ≢ items_along c l
  ends_first m y e f h q = none_next (items_along c l) (items_along c k) s.items y.item (comes_next c l m y s.items beside v f s.other h) (collected c k s.items at e s.one) (sym q)

  pub ends_second : (n : ℕ) → at ≡ Some n → beside ≡ None → items_along c k ≢ items_along c l
  ends_second n e f q =
      let t = node_at c k n w (subst (IsAt (chain c k)) e s.one.here) in
      none_next (items_along c k) (items_along c l) s.items (item_in c n) (comes_next c k n (entry k (item_in c n) t.0) s.items at w e s.one t.1) (collected c l s.items beside f s.other) q

  -- as the code asks
  pub ends_same : (b : Bool) → at ≡ None → is_some beside ≡ not b → b ≡ true → items_along c k ≡ items_along c l
  ends_same b e h t = ends_both e (no_option beside (h ∙ ap not t))

  pub ends_differ : (b : Bool) → at ≡ None → is_some beside ≡ not b → b ≡ false → items_along c k ≢ items_along c l
  ends_differ b e h t =
      let m = an_option beside (h ∙ ap not t) in
      let y = node_at c l m.0 v (subst (IsAt (chain c l)) m.1 s.other.here) in
      ends_first m.0 (entry l (item_in c m.0) y.0) e m.1 y.1

  -- both go on
  module _ (n m : ℕ) (x y : Entry) (e : at ≡ Some n) (f : beside ≡ Some m) (h : entry_at c n ≡ Some x) (g : entry_at c m ≡ Some y) where
    pub items_differ : x.item ≢ y.item → items_along c k ≢ items_along c l
    items_differ ne q = ne (one_next (items_along c k) (items_along c l) s.items x.item y.item (comes_next c k n x s.items at w e s.one h) (comes_next c l m y s.items beside v f s.other g) q)

    pub abreast_on : (later near : Option ℕ) → x.item ≡ y.item → ((e : Entry) → entry_at c n ≡ Some e → later ≡ comes_after (chain c e.key) n) → ((e : Entry) → entry_at c m ≡ Some e → near ≡ comes_after (chain c e.key) m) → IsAbreast c k l later near
    abreast_on later near q p r = record {
      items = s.items ++ x.item ∷ [];
      one = collect_on c k n x s.items at later w e s.one h p;
      other = subst (λ i. IsCollected c l (s.items ++ i ∷ []) near) (sym q) (collect_on c l m y s.items beside near v f s.other g r);
    }

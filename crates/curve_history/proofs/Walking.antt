-- What the nodes of a chain say, and walks along it.
use Rattle.std.proofs.Common.{◌≡◌, ◌≢◌, ◌⊎◌, ⊎_elim, inl, inr, ℕ, suc, ◌+◌, ◌<◌, ◌==◌, cond, not, Bool, true, false, List, [], ◌∷◌, ◌++◌, length, map, Option, Some, None, is_some, Contains, refl, sym, ap, ap₂, subst, ◌∙◌, arith, append_assoc}
use Rattle.std.proofs.lemmas.Bool.{cases_eq, eq-eqb, false≢true}
use Rattle.std.proofs.lemmas.List.{append-nil, map-append}
use Rattle.std.specs.List.{IsDistinct}
use Rattle.plane_graphs.specs.Ascending.{Member}
use Rattle.plane_graphs.proofs.Ascending.{to_member, from_member}
use Rattle.slab_laws.specs.FaceLists.{first_of, follower, AreOnce}
use Rattle.chain_laws.specs.Links.{comes_after}
use Rattle.chain_laws.proofs.Distinct.{IsOnce, once_from_distinct}
use Rattle.linked_chains.specs.Chains.{Chained, IsWhole, HasKey, HasNode, entry_at, chain}
use Rattle.linked_chains.specs.declared.node.Entry.{Entry}
use Rattle.slab_laws.specs.declared.names.CurveId.{CurveId}
use Rattle.curve_history.specs.HistoryInMemory.{entry, item_in, item_or, Says, AreFilled}
use Rattle.edit_steps.specs.EditLaws.{curve_of}
use Rattle.curve_history.proofs.Reading.{node_of}
use Rattle.curve_history.proofs.Twins.{says_there}
use Rattle.integers.proofs.Tests.{other_number, same_number}

-- ---- the first node
pub none_first : (xs : List ℕ) → is_some (first_of xs) ≡ false → xs ≡ []
none_first [] h = refl
none_first (x ∷ xs) h = absurd cc

-- as the code asks for it
pub none_from : (xs : List ℕ) (o : Option ℕ) (b : Bool) → o ≡ first_of xs → is_some o ≡ not b → b ≡ true → xs ≡ []
none_from xs o b e h t = none_first xs (ap is_some (sym e) ∙ h ∙ ap not t)

pub some_from : (xs : List ℕ) (o : Option ℕ) (b : Bool) → o ≡ first_of xs → is_some o ≡ not b → b ≡ false → is_some (first_of xs) ≡ true
some_from xs o b e h t = ap is_some (sym e) ∙ h ∙ ap not t

some_first : (xs : List ℕ) → is_some (first_of xs) ≡ true → (x : ℕ) × Contains xs x
some_first [] h = absurd (false≢true h)
some_first (x ∷ xs) h = (x, from_member (x ∷ xs) x (inl refl))

-- a node of a chain says something of its key
pub says_in : (c : Chained) (k n : ℕ) → IsWhole c k → Contains (chain c k) n → (i : ℕ) × (t : ℕ) × (entry_at c n ≡ Some (entry k i t))
says_in c k n w m =
    let e = (w.members n).0 m in
    (e.0.item, e.0.twin, subst (λ x. entry_at c n ≡ Some (entry x e.0.item e.0.twin)) e.2 e.1)

pub says_first : (c : Chained) (k : ℕ) → IsWhole c k → is_some (first_of (chain c k)) ≡ true → (i : ℕ) × Says c k i
says_first c k w h =
    let n = some_first (chain c k) h in
    let s = says_in c k n.0 w n.1 in
    (s.0, record { node = n.0; twin = s.1; is = s.2 })

-- all keys have nodes where all but one have
pub filled_all : (c : Chained) (edge : ℕ) → ((k : ℕ) → k ≢ edge → HasKey c k → (i : ℕ) × Says c k i) → IsWhole c edge → is_some (first_of (chain c edge)) ≡ true → AreFilled c
filled_all c edge f w h = record {
  key = λ k m. elim (cases_eq k edge) [
    | inl e ↦ subst (λ x. (i : ℕ) × Says c x i) (sym e) (says_first c edge w h)
    | inr ne ↦ f k ne m
  ];
}

pub filled_others : (c c' : Chained) (edge : ℕ) → c'.nodes ≡ c.nodes → ((k : ℕ) → k ≢ edge → HasKey c k → (i : ℕ) × Says c k i) → ((k : ℕ) → HasKey c' k → HasKey c k × (k ≢ edge)) → AreFilled c'
filled_others c c' edge e f g = record { key = λ k m. let h = g k m in let s = f k h.1 h.0 in (s.0, says_there c c' k s.0 e s.1) }

-- ---- what is left of a chain, from a node on
unfoldable pub left : (xs : List ℕ) (at : Option ℕ) → List ℕ
left xs None = []
left [] (Some n) = []
left (x ∷ xs) (Some n) = cond (x == n) (x ∷ xs) (left xs (Some n))

-- a walk is at a node of the chain, or past its end
abbrev pub IsAt : List ℕ → Option ℕ → Type 0
IsAt xs None = Unit {0}
IsAt xs (Some n) = Member n xs

members_once : (xs : List ℕ) → IsOnce xs → AreOnce xs
members_once [] o = tt
members_once (x ∷ xs) o = (λ m. o.0 (from_member xs x m), members_once xs o.1)

-- no number stands twice
pub apart : (xs : List ℕ) → IsDistinct ◌==◌ xs → AreOnce xs
apart xs d = members_once xs (once_from_distinct xs d)

pub at_head : (xs : List ℕ) → IsAt xs (first_of xs)
at_head [] = tt
at_head (x ∷ xs) = inl refl

pub left_head : (xs : List ℕ) → left xs (first_of xs) ≡ xs
unfolding left
left_head [] = refl
left_head (x ∷ xs) = rw (same_number x) refl

at_later : (x : ℕ) (xs : List ℕ) (at : Option ℕ) → IsAt xs at → IsAt (x ∷ xs) at
at_later x xs None m = tt
at_later x xs (Some n) m = inr m

left_later : (x : ℕ) (xs : List ℕ) (at : Option ℕ) → (Member x xs → ⊥) → IsAt xs at → left (x ∷ xs) at ≡ left xs at
unfolding left
left_later x xs None f m = refl
left_later x xs (Some n) f m = rw (other_number x n (λ e. f (subst (λ y. Member y xs) (sym e) m))) refl

-- the step of a walk
pub record IsStepped (xs : List ℕ) (n : ℕ) : Type 0 where
  pub at : IsAt xs (comes_after xs n)
  pub left_is : left xs (Some n) ≡ n ∷ left xs (comes_after xs n)

pub stepped : (xs : List ℕ) (n : ℕ) → AreOnce xs → Member n xs → IsStepped xs n
unfolding left comes_after follower
stepped [] n a m = absurd m
stepped (x ∷ xs) n a m = elim (cases_eq x n) [
  | inl e ↦ record {
    at = rw (eq-eqb x n e) (at_later x xs (first_of xs) (at_head xs));
    left_is = rw (eq-eqb x n e) (subst (λ z. x ∷ xs ≡ z ∷ left (x ∷ xs) (first_of xs)) e (ap (λ zs. x ∷ zs) (sym (left_later x xs (first_of xs) a.0 (at_head xs) ∙ left_head xs))));
  }
  | inr ne ↦ record {
    at = rw (other_number x n ne) (at_later x xs (comes_after xs n) (stepped xs n a.1 (beyond m ne)).at);
    left_is = rw (other_number x n ne) ((stepped xs n a.1 (beyond m ne)).left_is ∙ ap (λ zs. n ∷ zs) (sym (left_later x xs (comes_after xs n) a.0 (stepped xs n a.1 (beyond m ne)).at)));
  }
]
  where
    beyond : (n ≡ x) ⊎ Member n xs → x ≢ n → Member n xs
    beyond (inl e) ne = absurd (ne (sym e))
    beyond (inr k) ne = k

-- what is left of a walk stands apart
pub left_member : (xs : List ℕ) (at : Option ℕ) (n : ℕ) → Member n (left xs at) → Member n xs
unfolding left
left_member xs None n m = absurd m
left_member [] (Some k) n m = absurd m
left_member (x ∷ xs) (Some k) n m = elim (cases_eq x k) [
  | inl e ↦ rw (eq-eqb x k e) at m
  | inr ne ↦ inr (left_member xs (Some k) n (rw (other_number x k ne) at m))
]

pub left_apart : (xs : List ℕ) (at : Option ℕ) → AreOnce xs → AreOnce (left xs at)
unfolding left
left_apart xs None a = tt
left_apart [] (Some k) a = tt
left_apart (x ∷ xs) (Some k) a = elim (cases_eq x k) [
  | inl e ↦ rw (eq-eqb x k e) a
  | inr ne ↦ rw (other_number x k ne) (left_apart xs (Some k) a.1)
]

-- a list without members
pub none_there : (xs : List ℕ) → ((n : ℕ) → Member n xs → ⊥) → xs ≡ []
none_there [] f = refl
none_there (x ∷ xs) f = absurd (f x (inl refl))

-- ---- what a node says
pub item_is : (c : Chained) (n : ℕ) (e : Entry) → entry_at c n ≡ Some e → item_in c n ≡ e.item
unfolding item_in
item_is c n e h = ap item_or h

-- the node that a walk is at
pub node_at : (c : Chained) (k n : ℕ) → IsWhole c k → Member n (chain c k) → (t : ℕ) × (entry_at c n ≡ Some (entry k (item_in c n) t))
node_at c k n w m =
    let s = says_in c k n w (from_member (chain c k) n m) in
    (s.1, subst (λ i. entry_at c n ≡ Some (entry k i s.1)) (sym (item_is c n (entry k s.0 s.1) s.2)) s.2)

-- each pair that is said along a key is said by a node of its chain
pub says_on : (c : Chained) (k i : ℕ) → IsWhole c k → Says c k i → (n : ℕ) × Member n (chain c k) × (item_in c n ≡ i)
says_on c k i w s = (s.node, to_member (chain c k) s.node ((w.members s.node).1 (entry k i s.twin, s.is, refl)), item_is c s.node (entry k i s.twin) s.is)

-- ---- the walk that looks for an item of a kind
pub record IsSought (c : Chained) (k : ℕ) (P : ℕ → Type 0) (at : Option ℕ) : Type 0 where
  pub here : IsAt (chain c k) at
  pub rest : (n : ℕ) → Member n (chain c k) → P (item_in c n) → Member n (left (chain c k) at)

pub seek : (c : Chained) (k : ℕ) (P : ℕ → Type 0) (at : Option ℕ) → at ≡ first_of (chain c k) → IsSought c k P at
seek c k P at e = subst (IsSought c k P) (sym e) (record {
  here = at_head (chain c k);
  rest = λ n m q. subst (λ xs. Member n xs) (sym (left_head (chain c k))) m;
})

-- goes on from a node that says an item of another kind
pub seek_on : (c : Chained) (k n : ℕ) (P : ℕ → Type 0) (e : Entry) (before at : Option ℕ) → IsWhole c k → before ≡ Some n → IsSought c k P before → entry_at c n ≡ Some e → (P e.item → ⊥) → ((e : Entry) → entry_at c n ≡ Some e → at ≡ comes_after (chain c e.key) n) → IsSought c k P at
seek_on c k n P e before at w b s' h ne f =
    let s : IsSought c k P (Some n) = subst (IsSought c k P) b s' in
    let t = node_at c k n w s.here in
    let g : IsStepped (chain c k) n = stepped (chain c k) n (apart (chain c k) w.once) s.here in
    subst (IsSought c k P) (sym (f (entry k (item_in c n) t.0) t.1)) (record {
      here = g.at;
      rest = λ m q r. ⊎_elim (λ x. absurd (ne (subst P (ap (item_in c) x ∙ item_is c n e h) r))) (λ x. x) (subst (λ xs. Member m xs) g.left_is (s.rest m q r));
    })

-- what is left gets less
pub less_left : (c : Chained) (k n : ℕ) (at : Option ℕ) → IsWhole c k → Member n (chain c k) → ((e : Entry) → entry_at c n ≡ Some e → at ≡ comes_after (chain c e.key) n) → length (left (chain c k) at) < length (left (chain c k) (Some n))
less_left c k n at w m f =
    let t = node_at c k n w m in
    let g : IsStepped (chain c k) n = stepped (chain c k) n (apart (chain c k) w.once) m in
    let e : at ≡ comes_after (chain c k) n = f (entry k (item_in c n) t.0) t.1 in
    let l : length (left (chain c k) (Some n)) ≡ suc (length (left (chain c k) (comes_after (chain c k) n))) = ap length g.left_is in
    rw (e, l) (omega arith)

pub less_on : (c : Chained) (k n : ℕ) (before at : Option ℕ) → IsWhole c k → before ≡ Some n → IsAt (chain c k) before → ((e : Entry) → entry_at c n ≡ Some e → at ≡ comes_after (chain c e.key) n) → length (left (chain c k) at) < length (left (chain c k) before)
less_on c k n before at w e m f = subst (λ o. length (left (chain c k) at) < length (left (chain c k) o)) (sym e) (less_left c k n at w (subst (IsAt (chain c k)) e m) f)

pub not_found : (c : Chained) (k : ℕ) (P : ℕ → Type 0) (at : Option ℕ) → IsWhole c k → IsSought c k P at → at ≡ None → (i : ℕ) → P i → ¬ Says c k i
unfolding left
not_found c k P at w s e i p h =
    let n = says_on c k i w h in
    subst (λ (o : Option ℕ). Member n.0 (left (chain c k) o) → ⊥) (sym e) (λ m. m) (s.rest n.0 n.1 (subst P (sym n.2) p))

pub found : (c : Chained) (k n : ℕ) (e : Entry) (at : Option ℕ) → IsWhole c k → at ≡ Some n → IsAt (chain c k) at → entry_at c n ≡ Some e → (t : ℕ) × (entry_at c n ≡ Some (entry k e.item t))
found c k n e at w b s h =
    let t = node_at c k n w (subst (IsAt (chain c k)) b s) in
    (t.0, subst (λ x. entry_at c n ≡ Some (entry k x t.0)) (item_is c n e h) t.1)

-- a walk is at a node
pub at_node : (c : Chained) (k n : ℕ) → IsWhole c k → Member n (chain c k) → HasNode c n
at_node c k n w m = let t = node_at c k n w m in node_of c n (entry k (item_in c n) t.0) t.1

-- ---- the walk that collects items
pub record IsCollected (c : Chained) (k : ℕ) (items : List ℕ) (at : Option ℕ) : Type 0 where
  pub here : IsAt (chain c k) at
  pub rest : items ++ map (item_in c) (left (chain c k) at) ≡ map (item_in c) (chain c k)

pub collect : (c : Chained) (k : ℕ) (items : List ℕ) (at : Option ℕ) → items ≡ [] → at ≡ first_of (chain c k) → IsCollected c k items at
collect c k items at i e = subst (λ is. IsCollected c k is at) (sym i) (subst (IsCollected c k []) (sym e) (record {
  here = at_head (chain c k);
  rest = ap (map (item_in c)) (left_head (chain c k));
}))

pub collect_on : (c : Chained) (k n : ℕ) (e : Entry) (items : List ℕ) (before at : Option ℕ) → IsWhole c k → before ≡ Some n → IsCollected c k items before → entry_at c n ≡ Some e → ((e : Entry) → entry_at c n ≡ Some e → at ≡ comes_after (chain c e.key) n) → IsCollected c k (items ++ e.item ∷ []) at
collect_on c k n e items before at w b s h f =
    let s' : IsCollected c k items (Some n) = subst (IsCollected c k items) b s in
    let t = node_at c k n w s'.here in
    let g : IsStepped (chain c k) n = stepped (chain c k) n (apart (chain c k) w.once) s'.here in
    let rest : List ℕ = map (item_in c) (left (chain c k) (comes_after (chain c k) n)) in
    let q : items ++ item_in c n ∷ rest ≡ map (item_in c) (chain c k) = subst (λ xs. items ++ map (item_in c) xs ≡ map (item_in c) (chain c k)) g.left_is s'.rest in
    subst (IsCollected c k (items ++ e.item ∷ [])) (sym (f (entry k (item_in c n) t.0) t.1)) (record {
      here = g.at;
      rest = append_assoc items (e.item ∷ []) rest ∙ subst (λ i. items ++ i ∷ rest ≡ map (item_in c) (chain c k)) (item_is c n e h) q;
    })

-- where the items are kept under a name
pub collect_named : {X : Type 0} (f : X → ℕ) (c : Chained) (k n : ℕ) (e : Entry) (vs vs' : List X) (x : X) (before at : Option ℕ) → IsWhole c k → before ≡ Some n → IsCollected c k (map f vs) before → entry_at c n ≡ Some e → vs' ≡ vs ++ x ∷ [] → f x ≡ e.item → ((e : Entry) → entry_at c n ≡ Some e → at ≡ comes_after (chain c e.key) n) → IsCollected c k (map f vs') at
collect_named f c k n e vs vs' x before at w b s h v q g =
    let m : map f vs' ≡ map f vs ++ e.item ∷ [] = ap (map f) v ∙ map-append f vs (x ∷ []) ∙ ap (λ i. map f vs ++ i ∷ []) q in
    subst (λ is. IsCollected c k is at) (sym m) (collect_on c k n e (map f vs) before at w b s h g)

pub collected : (c : Chained) (k : ℕ) (items : List ℕ) (at : Option ℕ) → at ≡ None → IsCollected c k items at → items ≡ map (item_in c) (chain c k)
unfolding left
collected c k items at e s =
    let s' : IsCollected c k items None = subst (IsCollected c k items) e s in
    sym (append-nil items) ∙ s'.rest

-- where the curves of the items are kept
pub record AreCurvesCollected (c : Chained) (k : ℕ) (ids : List ℕ) (at : Option ℕ) : Type 0 where
  pub items : List ℕ
  pub collected : IsCollected c k items at
  pub curves : ids ≡ map curve_of items

pub collect_curves : (c : Chained) (k : ℕ) (ids : List ℕ) (at : Option ℕ) → ids ≡ [] → at ≡ first_of (chain c k) → AreCurvesCollected c k ids at
collect_curves c k ids at i e = record { items = []; collected = collect c k [] at refl e; curves = i }

pub collect_curves_on : (c : Chained) (k n : ℕ) (e : Entry) (vs vs' : List CurveId) (x : CurveId) (before at : Option ℕ) → IsWhole c k → before ≡ Some n → AreCurvesCollected c k (map (λ (x : CurveId). x.0) vs) before → entry_at c n ≡ Some e → vs' ≡ vs ++ x ∷ [] → x.0 ≡ curve_of e.item → ((e : Entry) → entry_at c n ≡ Some e → at ≡ comes_after (chain c e.key) n) → AreCurvesCollected c k (map (λ (x : CurveId). x.0) vs') at
collect_curves_on c k n e vs vs' x before at w b s h v q g = record {
  items = s.items ++ e.item ∷ [];
  collected = collect_on c k n e s.items before at w b s.collected h g;
  curves = ap (map (λ (x : CurveId). x.0)) v ∙ map-append (λ (x : CurveId). x.0) vs (x ∷ []) ∙ ap₂ (λ is i. is ++ i ∷ []) s.curves q ∙ sym (map-append curve_of s.items (e.item ∷ []));
}

pub curves_collected : (c : Chained) (k : ℕ) (ids : List ℕ) (at : Option ℕ) → at ≡ None → AreCurvesCollected c k ids at → ids ≡ map curve_of (map (item_in c) (chain c k))
curves_collected c k ids at e s = s.curves ∙ ap (map curve_of) (collected c k s.items at e s.collected)

-- the item that a walk is at is said along the key
pub says_here : (c : Chained) (k n : ℕ) (e : Entry) (at : Option ℕ) → IsWhole c k → at ≡ Some n → IsAt (chain c k) at → entry_at c n ≡ Some e → Says c k e.item
says_here c k n e at w b s h =
    let t = node_at c k n w (subst (IsAt (chain c k)) b s) in
    record { node = n; twin = t.0; is = subst (λ i. entry_at c n ≡ Some (entry k i t.0)) (item_is c n e h) t.1 }

pub at_node_on : (c : Chained) (k n : ℕ) (at : Option ℕ) → IsWhole c k → at ≡ Some n → IsAt (chain c k) at → HasNode c n
at_node_on c k n at w e s = at_node c k n w (subst (IsAt (chain c k)) e s)

-- ---- the walk that counts
pub record IsCounted (c : Chained) (k count : ℕ) (at : Option ℕ) : Type 0 where
  pub here : IsAt (chain c k) at
  pub rest : count + length (left (chain c k) at) ≡ length (chain c k)

pub count_first : (c : Chained) (k : ℕ) (at : Option ℕ) → at ≡ first_of (chain c k) → IsCounted c k 0 at
count_first c k at e = subst (IsCounted c k 0) (sym e) (record { here = at_head (chain c k); rest = let q : length (left (chain c k) (first_of (chain c k))) ≡ length (chain c k) = ap length (left_head (chain c k)) in omega arith })

pub count_on : (c : Chained) (k n count more : ℕ) (before at : Option ℕ) → IsWhole c k → before ≡ Some n → IsCounted c k count before → more ≡ count + 1 → ((e : Entry) → entry_at c n ≡ Some e → at ≡ comes_after (chain c e.key) n) → IsCounted c k more at
count_on c k n count more before at w b s m f =
    let s' : IsCounted c k count (Some n) = subst (IsCounted c k count) b s in
    let t = node_at c k n w s'.here in
    let g : IsStepped (chain c k) n = stepped (chain c k) n (apart (chain c k) w.once) s'.here in
    let q : count + suc (length (left (chain c k) (comes_after (chain c k) n))) ≡ length (chain c k) = subst (λ xs. count + length xs ≡ length (chain c k)) g.left_is s'.rest in
    subst (IsCounted c k more) (sym (f (entry k (item_in c n) t.0) t.1)) (record { here = g.at; rest = omega arith })

pub count_within : (c : Chained) (k n count : ℕ) (at : Option ℕ) → IsWhole c k → at ≡ Some n → IsCounted c k count at → count < length (chain c k)
count_within c k n count at w b s =
    let s' : IsCounted c k count (Some n) = subst (IsCounted c k count) b s in
    let g : IsStepped (chain c k) n = stepped (chain c k) n (apart (chain c k) w.once) s'.here in
    let q : count + suc (length (left (chain c k) (comes_after (chain c k) n))) ≡ length (chain c k) = subst (λ xs. count + length xs ≡ length (chain c k)) g.left_is s'.rest in
    omega arith

pub all_counted : (c : Chained) (k count : ℕ) (at : Option ℕ) → at ≡ None → IsCounted c k count at → count ≡ length (chain c k)
unfolding left
all_counted c k count at e s =
    let s' : IsCounted c k count None = subst (IsCounted c k count) e s in
    let r : count + 0 ≡ length (chain c k) = s'.rest in
    omega arith

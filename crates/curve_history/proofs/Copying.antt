-- An edge's curves copied to a part of it, in their order.
use Rattle.std.proofs.Common.{◌≡◌, ◌≢◌, ◌⊎◌, ⊎_elim, inl, inr, ℕ, suc, ◌+◌, ◌≤◌, List, [], ◌∷◌, ◌++◌, length, map, Option, Some, None, refl, sym, ap, ap₂, subst, ◌∙◌, arith}
use Rattle.std.proofs.lemmas.Bool.{cases_eq}
use Rattle.std.proofs.lemmas.List.{append-nil, append_assoc, map-append}
use Rattle.plane_graphs.specs.Ascending.{Member}
use Rattle.plane_graphs.proofs.Lists.{map_same}
use Rattle.curve_history.specs.Changed.{AreSameKeys, IsPairMore, IsOfEdge, IsPutAt, IsCopied}
use Rattle.slab_laws.specs.FaceLists.{first_of, AreOnce}
use Rattle.chain_laws.specs.Links.{comes_after}
use Rattle.linked_chains.specs.Chains.{Chained, IsWhole, HasKey, HasNode, entry_at, chain}
use Rattle.linked_chains.specs.declared.node.Entry.{Entry}
use Rattle.curve_history.specs.HistoryInMemory.{entry, item_in, items_along, IsDescending, AreOrdered, Says, ArePairs}
use Rattle.curve_history.proofs.Descending.{EndsIn, end_member, put_end}
use Rattle.curve_history.proofs.Placing.{still_ordered}
use Rattle.curve_history.proofs.Reading.{node_of}
use Rattle.curve_history.proofs.Twins.{one_entry}
use Rattle.curve_history.proofs.Walking.{IsAt, at_head, left, left_head, left_apart, left_member, apart, IsStepped, stepped, node_at, says_on, item_is, none_there}

-- a walk on which all nodes passed have a copy at the part
pub record IsCopying (old new : Chained) (edge part : ℕ) (at : Option ℕ) : Type 0 where
  pub here : IsAt (chain old edge) at
  pub chains : (k : ℕ) → k ≢ part → chain new k ≡ chain old k
  pub stays : (n : ℕ) (e : Entry) → entry_at old n ≡ Some e → entry_at new n ≡ Some e
  pub others : (k i : ℕ) → Says new k i → Says old k i ⊎ ((k ≡ part) × Says old edge i × ((n : ℕ) → Member n (left (chain old edge) at) → item_in old n ≢ i))
  pub said : (n : ℕ) → Member n (chain old edge) → Member n (left (chain old edge) at) ⊎ Says new part (item_in old n)
  pub keys : (k : ℕ) → HasKey new k → HasKey old k ⊎ ((i : ℕ) × Says new k i)

pub copy : (old : Chained) (edge part : ℕ) (at : Option ℕ) → at ≡ first_of (chain old edge) → IsCopying old old edge part at
copy old edge part at e = subst (IsCopying old old edge part) (sym e) (record {
  here = at_head (chain old edge);
  chains = λ k ne. refl;
  stays = λ n x h. h;
  others = λ k i s. inl s;
  said = λ n m. inl (subst (Member n) (sym (left_head (chain old edge))) m);
  keys = λ k h. inl h;
})

-- the part's chain says what the nodes passed say, in their order, and ends in the last node that was put
pub record IsInStep (old new : Chained) (edge part : ℕ) (last at : Option ℕ) : Type 0 where
  pub ends : EndsIn (chain new part) last
  pub items : items_along new part ++ map (item_in old) (left (chain old edge) at) ≡ items_along old edge

chain_none : (c : Chained) (k : ℕ) → IsWhole c k → ((i : ℕ) → ¬ Says c k i) → chain c k ≡ []
chain_none c k w f = none_there (chain c k) (λ n m. let t = node_at c k n w m in f (item_in c n) (record { node = n; twin = t.0; is = t.1 }))

pub first_step : (old : Chained) (edge part : ℕ) (at : Option ℕ) → IsWhole old part → ((i : ℕ) → ¬ Says old part i) → at ≡ first_of (chain old edge) → IsInStep old old edge part None at
first_step old edge part at w f e =
    let none : chain old part ≡ [] = chain_none old part w f in
    record {
      ends = none;
      items =
          ap (λ xs. map (item_in old) xs ++ map (item_in old) (left (chain old edge) at)) none
          ∙ ap (λ o. map (item_in old) (left (chain old edge) o)) e
          ∙ ap (map (item_in old)) (left_head (chain old edge));
    }

pub step_of_edge : (old new : Chained) (edge part : ℕ) (last at : Option ℕ) → IsInStep old new edge part last at → IsOfEdge new part last
step_of_edge old new edge part last at s n e = end_member (chain new part) last n s.ends e

all_in_step : (old new : Chained) (edge part : ℕ) (last at : Option ℕ) → at ≡ None → IsInStep old new edge part last at → items_along new part ≡ items_along old edge
unfolding left
all_in_step old new edge part last at e s =
    let q : IsInStep old new edge part last None = subst (IsInStep old new edge part last) e s in
    sym (append-nil (items_along new part)) ∙ q.items

pub ordered_copied : (old new : Chained) (edge part : ℕ) (last at : Option ℕ) → ((k : ℕ) → IsWhole old k) → at ≡ None → IsCopying old new edge part at → IsInStep old new edge part last at → AreOrdered old → AreOrdered new
ordered_copied old new edge part last at w e p s o k = elim (cases_eq k part) [
  | inl q ↦ subst (λ x. IsDescending (items_along new x)) (sym q) (subst IsDescending (sym (all_in_step old new edge part last at e s)) (o edge))
  | inr ne ↦ still_ordered old new k (p.chains k ne) stays (o k)
]
  where
    stays : (n : ℕ) → Member n (chain old k) → item_in new n ≡ item_in old n
    stays n g = let t = node_at old k n (w k) g in item_is new n (entry k (item_in old n) t.0) (p.stays n (entry k (item_in old n) t.0) t.1)

pub says_more : (old new : Chained) (edge curve k i : ℕ) → IsPairMore old new edge curve → Says old k i → Says new k i
says_more old new edge curve k i m s = record { node = s.node; twin = s.twin; is = m.stays s.node (entry k i s.twin) s.is }

module _ (old mid new curves : Chained) (edge part n : ℕ) (w : IsWhole old edge) (t : ArePairs old curves) (ne : edge ≢ part) (p : IsCopying old mid edge part (Some n)) (m : IsPairMore mid new part (item_in old n)) where
  rest : List ℕ
  rest = left (chain old edge) (comes_after (chain old edge) n)

  step : IsStepped (chain old edge) n
  step = stepped (chain old edge) n (apart (chain old edge) w.once) p.here

  -- the nodes to come say other items
  other_item : (x : ℕ) → Member x rest → item_in old x ≢ item_in old n
  unfolding rest
  other_item x h q =
      let a = left_apart (chain old edge) (Some n) (apart (chain old edge) w.once) in
      let b = subst (λ xs. AreOnce xs) step.left_is a in
      let u = node_at old edge x w (left_member (chain old edge) (comes_after (chain old edge) n) x h) in
      let v = node_at old edge n w p.here in
      let e : x ≡ n = t.once x n edge (item_in old n) u.0 v.0 (subst (λ i. entry_at old x ≡ Some (entry edge i u.0)) q u.1) v.1 in
      b.0 (subst (λ y. Member y (left (chain old edge) (comes_after (chain old edge) n))) e h)

  later : (x : ℕ) → Member x rest → Member x (left (chain old edge) (Some n))
  unfolding rest
  later x h = subst (λ xs. Member x xs) (sym step.left_is) (inr h)

  each_other : (k i : ℕ) → Says new k i → Says old k i ⊎ ((k ≡ part) × Says old edge i × ((x : ℕ) → Member x rest → item_in old x ≢ i))
  each_other k i s = ⊎_elim before now (m.others k i s)
    where
      before : Says mid k i → Says old k i ⊎ ((k ≡ part) × Says old edge i × ((x : ℕ) → Member x rest → item_in old x ≢ i))
      before h = ⊎_elim (λ o. inl o) (λ c. inr (c.0, c.1, λ x g. c.2 x (later x g))) (p.others k i h)

      now : (k ≡ part) × (i ≡ item_in old n) → Says old k i ⊎ ((k ≡ part) × Says old edge i × ((x : ℕ) → Member x rest → item_in old x ≢ i))
      now h =
          let v = node_at old edge n w p.here in
          inr (h.0, record { node = n; twin = v.0; is = subst (λ j. entry_at old n ≡ Some (entry edge j v.0)) (sym h.1) v.1 }, λ x g q. other_item x g (q ∙ h.1))

  each_said : (x : ℕ) → Member x (chain old edge) → Member x rest ⊎ Says new part (item_in old x)
  unfolding rest
  each_said x h = ⊎_elim here (λ s. inr (says_more mid new part (item_in old n) part (item_in old x) m s)) (p.said x h)
    where
      here : Member x (left (chain old edge) (Some n)) → Member x (left (chain old edge) (comes_after (chain old edge) n)) ⊎ Says new part (item_in old x)
      here g = ⊎_elim (λ e. inr (subst (λ y. Says new part (item_in old y)) (sym e) m.said)) (λ r. inl r) (subst (λ xs. Member x xs) step.left_is g)

  pub copied_on : IsCopying old new edge part (comes_after (chain old edge) n)
  unfolding rest
  copied_on = record {
    here = step.at;
    chains = λ k q. m.chains k q ∙ p.chains k q;
    stays = λ x e h. m.stays x e (p.stays x e h);
    others = each_other;
    said = each_said;
    keys = λ k h. ⊎_elim (λ g. ⊎_elim (λ o. inl o) (λ s. inr (s.0, says_more mid new part (item_in old n) k s.0 m s.1)) (p.keys k g)) (λ e. inr (item_in old n, subst (λ j. Says new j (item_in old n)) (sym e) m.said)) (m.keys k h);
  }

-- ---- as the code has it: the walk is at a node of the edge as it was
module _ (old mid curves now : Chained) (edge part n : ℕ) (before : Option ℕ) (w : IsWhole old edge) (b : before ≡ Some n) (p : IsCopying old mid edge part before) where
  at_n : IsCopying old mid edge part (Some n)
  at_n = subst (IsCopying old mid edge part) b p

  pub mid_node : (t : ℕ) × (entry_at mid n ≡ Some (entry edge (item_in old n) t))
  mid_node = let t = node_at old edge n w at_n.here in (t.0, at_n.stays n (entry edge (item_in old n) t.0) t.1)

  pub has_node : HasNode mid n
  has_node = let t = mid_node in node_of mid n (entry edge (item_in old n) t.0) t.1

  module _ (e : Entry) (h : entry_at mid n ≡ Some e) where
    pub item_same : e.item ≡ item_in old n
    item_same = let t = mid_node in (one_entry (entry_at mid n) e.key e.item e.twin edge (item_in old n) t.0 h t.1).item

    pub is_new : ArePairs old curves → ((i : ℕ) → ¬ Says old part i) → ¬ Says mid part e.item
    is_new t none s = not_yet_at t none (subst (Says mid part) item_same s)
      where
        not_yet_at : ArePairs old curves → ((i : ℕ) → ¬ Says old part i) → ¬ Says mid part (item_in old n)
        not_yet_at t none s =
            let g : IsStepped (chain old edge) n = stepped (chain old edge) n (apart (chain old edge) w.once) at_n.here in
            ⊎_elim (none (item_in old n)) (λ c. c.2 n (subst (λ xs. Member n xs) (sym g.left_is) (inl refl)) refl) (at_n.others part (item_in old n) s)

    -- there is room for it
    pub has_room : (room now : ℕ) → length (chain old edge) ≤ room → room + length (left (chain old edge) before) ≤ now + length (chain old edge) → 1 ≤ now
    has_room room now q r =
        let g : IsStepped (chain old edge) n = stepped (chain old edge) n (apart (chain old edge) w.once) at_n.here in
        let l : length (left (chain old edge) before) ≡ suc (length (left (chain old edge) (comes_after (chain old edge) n))) = ap (λ o. length (left (chain old edge) o)) b ∙ ap length g.left_is in
        omega arith

    module _ (new : Chained) (at : Option ℕ) (t : ArePairs old curves) (ne : edge ≢ part) (m : IsPairMore mid new part e.item) (f : (x : Entry) → entry_at new n ≡ Some x → at ≡ comes_after (chain new x.key) n) where
      m' : IsPairMore mid new part (item_in old n)
      m' = subst (IsPairMore mid new part) item_same m

      after_is : at ≡ comes_after (chain old edge) n
      after_is =
          let v = mid_node in
          let c : chain new edge ≡ chain old edge = m'.chains edge ne ∙ at_n.chains edge ne in
          f (entry edge (item_in old n) v.0) (m'.stays n (entry edge (item_in old n) v.0) v.1) ∙ ap (λ xs. comes_after xs n) c

      pub goes_on : IsCopying old new edge part at
      goes_on = subst (IsCopying old new edge part) (sym after_is) (copied_on old mid new curves edge part n w t ne at_n m')

      -- what is left gets one less
      pub one_less : length (left (chain old edge) before) ≡ suc (length (left (chain old edge) at))
      one_less =
          let g : IsStepped (chain old edge) n = stepped (chain old edge) n (apart (chain old edge) w.once) at_n.here in
          ap (λ o. length (left (chain old edge) o)) b ∙ ap length g.left_is ∙ ap (λ o. suc (length (left (chain old edge) o))) (sym after_is)

      -- the node that was put comes last, and says what the next node says
      module _ (last : Option ℕ) (node : ℕ) (s : IsInStep old mid edge part last before) (q : IsPutAt mid new part e.item last node) where
        grown : chain new part ≡ chain mid part ++ node ∷ []
        grown = q.chain_is ∙ put_end (chain mid part) last node s.ends

        so_far : map (item_in new) (chain mid part) ≡ items_along mid part
        so_far = map_same (item_in new) (item_in mid) (chain mid part) q.items

        abbrev to_come : List ℕ
        to_come = map (item_in old) (left (chain old edge) at)

        next_left : left (chain old edge) before ≡ n ∷ left (chain old edge) at
        next_left =
            let g : IsStepped (chain old edge) n = stepped (chain old edge) n (apart (chain old edge) w.once) at_n.here in
            ap (left (chain old edge)) b ∙ g.left_is ∙ ap (λ o. n ∷ left (chain old edge) o) (sym after_is)

        pub keeps_step : IsInStep old new edge part (Some node) at
        keeps_step = record {
          ends = (chain mid part, grown, q.fresh);
          items =
              ap (λ xs. map (item_in new) xs ++ to_come) grown
              ∙ ap (λ xs. xs ++ to_come) (map-append (item_in new) (chain mid part) (node ∷ []))
              ∙ append_assoc (map (item_in new) (chain mid part)) (item_in new node ∷ []) to_come
              ∙ ap₂ (λ xs i. xs ++ i ∷ to_come) so_far (q.item ∙ item_same)
              ∙ subst (λ xs. items_along mid part ++ map (item_in old) xs ≡ items_along old edge) next_left s.items;
        }

pub all_copied : (old new : Chained) (edge part : ℕ) (at : Option ℕ) → IsWhole old edge → at ≡ None → edge ≢ part → IsCopying old new edge part at → IsCopied old new edge part
unfolding left
all_copied old new edge part at w e ne p =
    let q : IsCopying old new edge part None = subst (IsCopying old new edge part) e p in
    record {
      said = λ i s. let n = says_on old edge i w s in subst (Says new part) n.2 (⊎_elim (λ m. absurd m) (λ x. x) (q.said n.0 n.1));
      stays = λ k i s. record { node = s.node; twin = s.twin; is = q.stays s.node (entry k i s.twin) s.is };
      others = λ k i s. ⊎_elim (λ o. inl o) (λ c. inr (c.0, c.1)) (q.others k i s);
      keys = q.keys;
    }

-- room as it goes
pub room_first : (room : ℕ) (xs : List ℕ) (at : Option ℕ) → at ≡ first_of xs → room + length (left xs at) ≤ room + length xs
room_first room xs at e =
    let l : length (left xs at) ≡ length xs = ap (λ o. length (left xs o)) e ∙ ap length (left_head xs) in
    omega arith

pub room_on : (room before after all now next : ℕ) → room + before ≤ now + all → now ≤ next + 1 → before ≡ suc after → room + after ≤ next + all
room_on room before after all now next h g e = omega arith

pub same_keys : (c : Chained) → AreSameKeys c c
same_keys c = record { keys = λ k. (λ h. h, λ h. h); room = omega arith; capacity = refl }

pub keys_on : (a b c : Chained) → AreSameKeys a b → AreSameKeys b c → AreSameKeys a c
keys_on a b c p q = record { keys = λ k. (λ h. (q.keys k).0 ((p.keys k).0 h), λ h. (p.keys k).1 ((q.keys k).1 h)); room = let r = p.room in let s = q.room in omega arith; capacity = q.capacity ∙ p.capacity }

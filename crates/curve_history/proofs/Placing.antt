-- The place of a new node in the chain of its edge, and that the chains stay in order.
use Rattle.std.proofs.Common.{◌≡◌, ◌≢◌, inl, inr, ℕ, ◌<◌, ◌≤◌, ◌==◌, not, List, length, map, Option, Some, None, option_map, refl, sym, ap, ap₂, subst, ◌∙◌, arith, Contains}
use Rattle.std.specs.List.{filter}
use Rattle.std.proofs.lemmas.Bool.{cases_eq, eq-eqb}
use Rattle.plane_graphs.specs.Ascending.{Member}
use Rattle.plane_graphs.proofs.Ascending.{from_member}
use Rattle.plane_graphs.proofs.Lists.{of_filter, map_same, not_out, clash}
use Rattle.slab_laws.specs.Tables.{row_at}
use Rattle.slab_laws.specs.FaceLists.{first_of, AreOnce}
use Rattle.chain_laws.specs.Links.{trail, first_or, comes_after}
use Rattle.linked_chains.specs.Chains.{Chained, Link, IsWhole, HasNode, entry_at, chain, put_after, put_at}
use Rattle.linked_chains.specs.declared.node.Entry.{Entry}
use Rattle.linked_chains.proofs.PutAfter.{put_absent}
use Rattle.curve_history.specs.Changed.{IsPairMore, IsOfEdge, IsLastAbove, IsPutAt, IsRoomier, next_in}
use Rattle.curve_history.specs.HistoryInMemory.{entry, item_in, item_or, items_along, IsDescending, AreOrdered, Says}
use Rattle.curve_history.proofs.Descending.{descends_filter, descends_at}
use Rattle.curve_history.proofs.Twins.{IsNodeMore, IsNodeLess, same_entries}
use Rattle.curve_history.proofs.Walking.{IsAt, at_head, apart, stepped, node_at, at_node, item_is}

-- ---- the walk to the place
pub record IsClimbed (c : Chained) (k i : ℕ) (last at : Option ℕ) : Type 0 where
  pub above : (n : ℕ) → last ≡ Some n → Member n (chain c k) × (i < item_in c n)
  pub next : at ≡ next_in (chain c k) last

pub climb : (c : Chained) (k i : ℕ) (at : Option ℕ) → at ≡ first_of (chain c k) → IsClimbed c k i None at
climb c k i at e = record { above = λ n h. absurd cc; next = e }

next_at : (xs : List ℕ) (last : Option ℕ) → AreOnce xs → ((n : ℕ) → last ≡ Some n → Member n xs) → IsAt xs (next_in xs last)
next_at xs None a f = at_head xs
next_at xs (Some n) a f = (stepped xs n a (f n refl)).at

module _ (c : Chained) (k i : ℕ) (last at : Option ℕ) (w : IsWhole c k) (s : IsClimbed c k i last at) where
  pub climbed_at : IsAt (chain c k) at
  climbed_at = subst (IsAt (chain c k)) (sym s.next) (next_at (chain c k) last (apart (chain c k) w.once) (λ n h. (s.above n h).0))

  -- past the end, or at a node that says no greater number
  pub climbed : ((n : ℕ) → at ≡ Some n → item_in c n ≤ i) → IsLastAbove c k i last
  climbed f = record { above = s.above; below = λ n h. f n (s.next ∙ h) }

  pub climbed_all : at ≡ None → IsLastAbove c k i last
  climbed_all e = climbed (λ n h. let z : None ≡ Some n = sym e ∙ h in absurd cc)

  module _ (n : ℕ) (e : Entry) (b : at ≡ Some n) (h : entry_at c n ≡ Some e) where
    pub climbed_to : e.item ≤ i → IsLastAbove c k i last
    climbed_to l = climbed (λ m g.
        let z : Some n ≡ Some m = sym b ∙ g in
        let q : n ≡ m = cc in
        let r : item_in c m ≡ e.item = subst (λ x. item_in c x ≡ e.item) q (item_is c n e h) in
        omega arith)

    pub climb_on : i < e.item → (later : Option ℕ) → ((x : Entry) → entry_at c n ≡ Some x → later ≡ comes_after (chain c x.key) n) → IsClimbed c k i (Some n) later
    climb_on l later f =
        let here : Member n (chain c k) = subst (IsAt (chain c k)) b climbed_at in
        let t = node_at c k n w here in
        record {
          above = λ m g.
              let q : n ≡ m = cc in
              let r : item_in c n ≡ e.item = item_is c n e h in
              subst (λ x. Member x (chain c k) × (i < item_in c x)) q (here, omega arith);
          next = f (entry k (item_in c n) t.0) t.1;
        }

-- ---- the new node
-- a node is in one chain
pub one_chain : (c : Chained) (k l n : ℕ) → IsWhole c k → IsWhole c l → Contains (chain c k) n → Member n (chain c l) → k ≡ l
one_chain c k l n w v a b =
    let x = (w.members n).0 a in
    let y = (v.members n).0 (from_member (chain c l) n b) in
    let z : Some x.0 ≡ Some y.0 = sym x.1 ∙ y.1 in
    let q : x.0 ≡ y.0 = cc in
    sym x.2 ∙ ap (λ (e : Entry). e.key) q ∙ y.2

-- put after a node of one chain, all other chains stay
pub put_elsewhere : (c : Chained) (k edge m n : ℕ) → ((k : ℕ) → IsWhole c k) → Member m (chain c edge) → k ≢ edge → put_after m n (chain c k) ≡ chain c k
put_elsewhere c k edge m n w h ne = put_absent m n (chain c k) (λ g. ne (one_chain c k edge m (w k) (w edge) g h))

pub put_node : (a a' : Chained) (m n edge curve : ℕ) (last : Option ℕ) → IsWhole a edge → IsNodeMore a a' m (entry edge curve n) → chain a' edge ≡ put_at last m (chain a edge) → IsPutAt a a' edge curve last m
put_node a a' m n edge curve last w p h = record {
  fresh = λ g. p.fresh (at_node a edge m w g);
  item = item_is a' m (entry edge curve n) p.here;
  chain_is = h;
  items = λ x g. let t = node_at a edge x w g in item_is a' x (entry edge (item_in a x) t.0) (p.others x (λ e. p.fresh (subst (HasNode a) e (at_node a edge x w g))) ∙ t.1);
}

-- where the nodes stay
same_said : (a a' : Chained) (n : ℕ) → entry_at a' n ≡ entry_at a n → item_in a' n ≡ item_in a n
unfolding item_in
same_said a a' n e = ap item_or e

same_item : (a a' : Chained) → a'.nodes ≡ a.nodes → (n : ℕ) → item_in a' n ≡ item_in a n
same_item a a' e n = same_said a a' n (same_entries a a' e n)

pub above_of_edge : (c : Chained) (edge curve : ℕ) (last : Option ℕ) → IsLastAbove c edge curve last → IsOfEdge c edge last
above_of_edge c edge curve last p n e = (p.above n e).0

-- ---- chains in order
-- nodes that say what they said
items_same : (a a' : Chained) (xs : List ℕ) → ((n : ℕ) → Member n xs → item_in a' n ≡ item_in a n) → IsDescending (map (item_in a) xs) → IsDescending (map (item_in a') xs)
items_same a a' xs f d = subst IsDescending (sym (map_same (item_in a') (item_in a) xs f)) d

pub still_ordered : (a a' : Chained) (k : ℕ) → chain a' k ≡ chain a k → ((n : ℕ) → Member n (chain a k) → item_in a' n ≡ item_in a n) → IsDescending (items_along a k) → IsDescending (items_along a' k)
still_ordered a a' k h f d = subst (λ xs. IsDescending (map (item_in a') xs)) (sym h) (items_same a a' (chain a k) f d)

-- a pair more leaves what old nodes say
pub items_stay : (a a' : Chained) (edge curve k n : ℕ) → IsWhole a k → IsPairMore a a' edge curve → Member n (chain a k) → item_in a' n ≡ item_in a n
items_stay a a' edge curve k n w m g = let t = node_at a k n w g in item_is a' n (entry k (item_in a n) t.0) (m.stays n (entry k (item_in a n) t.0) t.1)

module _ (a a' : Chained) (edge curve node : ℕ) (last : Option ℕ) (w : (k : ℕ) → IsWhole a k) (new : ¬ Says a edge curve) (p : IsLastAbove a edge curve last) (m : IsPairMore a a' edge curve) (q : IsPutAt a a' edge curve last node) where
  -- no node of the edge says the curve
  other_item : (n : ℕ) → Member n (chain a edge) → item_in a n ≢ curve
  other_item n g e = let t = node_at a edge n (w edge) g in new (record { node = n; twin = t.0; is = subst (λ i. entry_at a n ≡ Some (entry edge i t.0)) e t.1 })

  in_next : (n : ℕ) → next_in (chain a edge) last ≡ Some n → Member n (chain a edge)
  in_next n h = subst (IsAt (chain a edge)) h (next_at (chain a edge) last (apart (chain a edge) (w edge).once) (λ x e. (p.above x e).0))

  own_ordered : IsDescending (items_along a edge) → IsDescending (items_along a' edge)
  own_ordered d =
      subst (λ xs. IsDescending (map (item_in a') xs)) (sym q.chain_is) (descends_at (item_in a') last node (chain a edge)
      (λ x e. let b = p.above x e in (b.0, subst (λ i. i < item_in a' x) (sym q.item) (subst (λ i. curve < i) (sym (q.items x b.0)) b.1)))
      (λ x e.
      let g = in_next x e in
      let l : item_in a x < curve = (let b = p.below x e in let z = other_item x g in less (item_in a x) b z) in
      subst (λ i. item_in a' x < i) (sym q.item) (subst (λ i. i < curve) (sym (q.items x g)) l))
      (items_same a a' (chain a edge) q.items d))
    where
      less : (i : ℕ) → i ≤ curve → i ≢ curve → i < curve
      less i b z = omega arith

  pub ordered_more : AreOrdered a → AreOrdered a'
  ordered_more o k = elim (cases_eq k edge) [
    | inl e ↦ subst (λ x. IsDescending (items_along a' x)) (sym e) (own_ordered (o edge))
    | inr ne ↦ still_ordered a a' k (m.chains k ne) (λ n g. items_stay a a' edge curve k n (w k) m g) (o k)
  ]

-- a node fewer
pub ordered_less : (a a' : Chained) (m : ℕ) (e : Entry) → IsNodeLess a a' m e → ((k : ℕ) → chain a' k ≡ filter (λ n. not (n == m)) (chain a k)) → AreOrdered a → AreOrdered a'
ordered_less a a' m e p h o k =
    subst (λ xs. IsDescending (map (item_in a') xs)) (sym (h k)) (items_same a a' (filter (λ n. not (n == m)) (chain a k)) stays (descends_filter (item_in a) (λ n. not (n == m)) (chain a k) (o k)))
  where
    stays : (n : ℕ) → Member n (filter (λ n. not (n == m)) (chain a k)) → item_in a' n ≡ item_in a n
    stays n g = same_said a a' n (p.others n (λ q. clash (eq-eqb n m q) (not_out (n == m) (of_filter (λ n. not (n == m)) n (chain a k) g).1)))

-- keys alone
pub ordered_with_key : (a a' : Chained) → a'.nodes ≡ a.nodes → ((k : ℕ) → chain a' k ≡ chain a k) → AreOrdered a → AreOrdered a'
ordered_with_key a a' e h o k = still_ordered a a' k (h k) (λ n g. same_item a a' e n) (o k)

-- room alone
chain_same : (a a' : Chained) (k : ℕ) → a'.heads ≡ a.heads → a'.nodes ≡ a.nodes → chain a' k ≡ chain a k
unfolding chain
chain_same a a' k h n = ap₂ (λ (hs : List (ℕ × Option ℕ)) (ns : List (ℕ × Link)). trail (λ m. first_or (option_map (λ (l : Link). l.after) (row_at ns m))) (length ns) (first_or (row_at hs k))) h n

pub ordered_roomier : (a a' : Chained) → IsRoomier a a' → AreOrdered a → AreOrdered a'
ordered_roomier a a' r o = ordered_with_key a a' r.nodes (λ k. chain_same a a' k r.heads r.nodes) o

-- Each key goes on having its list.
use Rattle.std.proofs.Common.{◌≡◌, ℕ, List, Option, Some, None, IsSome, sym, subst, ◌∙◌}
use Rattle.chain_laws.specs.Links.{Node, first_or, after_at, before_at, key_at, IsListed, AreListed}
use Rattle.chain_laws.proofs.Linked.{linked_same}

-- other heads, with the same first nodes
pub listed_heads : (head head' : ℕ → Option (Option ℕ)) (node : ℕ → Option Node) → ((k : ℕ) → first_or (head' k) ≡ first_or (head k)) → ((n k : ℕ) → key_at node n ≡ Some k → IsSome (head k) → IsSome (head' k)) → AreListed head node → AreListed head' node
listed_heads head head' node f s l = record {
  lists = λ k. ((l.lists k).0, subst (λ o. IsListed node o k (l.lists k).0) (sym (f k)) (l.lists k).1);
  keys = λ n k e. s n k e (l.keys n k e);
}

-- other nodes, with the same keys and neighbours
pub list_same : (node node' : ℕ → Option Node) (o : Option ℕ) (k : ℕ) (xs : List ℕ) → ((n : ℕ) → after_at node' n ≡ after_at node n) → ((n : ℕ) → before_at node' n ≡ before_at node n) → ((n : ℕ) → key_at node' n ≡ key_at node n) → IsListed node o k xs → IsListed node' o k xs
list_same node node' o k xs a b q l = record {
  linked = linked_same node node' None o xs (λ n c. (a n, b n)) l.linked;
  members = λ n. (λ c. q n ∙ (l.members n).0 c, λ e. (l.members n).1 (sym (q n) ∙ e));
  once = l.once;
}

pub listed_nodes : (head : ℕ → Option (Option ℕ)) (node node' : ℕ → Option Node) → ((n : ℕ) → after_at node' n ≡ after_at node n) → ((n : ℕ) → before_at node' n ≡ before_at node n) → ((n : ℕ) → key_at node' n ≡ key_at node n) → AreListed head node → AreListed head node'
listed_nodes head node node' a b q l = record {
  lists = λ k. ((l.lists k).0, list_same node node' (first_or (head k)) k (l.lists k).0 a b q (l.lists k).1);
  keys = λ n k e. l.keys n k (sym (q n) ∙ e);
}

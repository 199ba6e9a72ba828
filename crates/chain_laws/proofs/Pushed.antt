-- The lists after a node is put in front of one.
use Rattle.std.proofs.Common.{◌≡◌, ◌≢◌, inl, inr, ℕ, ◌==◌, cond, List, [], ◌∷◌, Option, Some, None, is_some, IsSome, option_map, refl, sym, ap, subst, ◌∙◌, Contains}
use Rattle.std.proofs.lemmas.Bool.{cases_eq}
use Rattle.slab.proofs.SlabLemmas.{Contains-cons_cases}
use Rattle.chain_laws.specs.Links.{Node, first_or, after_at, before_at, key_at, IsLinked, IsListed, AreListed, led_by}
use Rattle.chain_laws.proofs.Distinct.{here, there, IsOnce, once_from_distinct, distinct_from_once}
use Rattle.chain_laws.proofs.Linked.{linked_same}
use Rattle.chain_laws.proofs.Joined.{IsInFront, linked_push}
use Rattle.chain_laws.proofs.Changes.{AreChanged, unwritten, elsewhere, written, key_some}
use Rattle.integers.proofs.Tests.{other_number, same_number}

-- n is a new node with the old first after it
module _ (head : ℕ → Option (Option ℕ)) (node mid : ℕ → Option Node) (n : ℕ) (key : ℕ) (l : AreListed head node) (vacant : node n ≡ None)
    (added : (m : ℕ) → mid m ≡ cond (m == n) (Some (record { key = key; before = None; after = first_or (head key) })) (node m)) where
  abbrev new_node : Node
  new_node = record { key = key; before = None; after = first_or (head key) }

  mid_here : mid n ≡ Some new_node
  mid_here = added n ∙ ap (λ b. cond b (Some new_node) (node n)) (same_number n)

  mid_else : (m : ℕ) → m ≢ n → mid m ≡ node m
  mid_else m h = added m ∙ ap (λ b. cond b (Some new_node) (node m)) (other_number m n h)

  not_keyed : (k : ℕ) → key_at node n ≢ Some k
  not_keyed k e = let x = key_some node n k e in absurd (cc (vacant, x.1))

  first_keyed : (m : ℕ) → first_or (head key) ≡ Some m → key_at node m ≡ Some key
  first_keyed m e = by (l.lists key).0 (l.lists key).1
    where
      by : (xs : List ℕ) → IsListed node (first_or (head key)) key xs → key_at node m ≡ Some key
      by [] i = let z : Some m ≡ None = sym e ∙ i.linked in absurd (cc)
      by (x ∷ xs) i = let z : x ≡ m = (let w : Some x ≡ Some m = sym i.linked.0 ∙ e in cc) in subst (λ y. key_at node y ≡ Some key) z ((i.members x).0 (here x xs))

  first_other : (m : ℕ) → first_or (head key) ≡ Some m → m ≢ n
  first_other m e q = not_keyed key (subst (λ y. key_at node y ≡ Some key) q (first_keyed m e))

  not_first : first_or (head key) ≢ Some n
  not_first e = first_other n e refl

  -- the old first is still there
  pub first_there : (m : ℕ) → first_or (head key) ≡ Some m → IsSome (mid m)
  first_there m e = let x = key_some node m key (first_keyed m e) in ap is_some (mid_else m (first_other m e) ∙ x.1)

  -- the old first knows it
  module _ (node' : ℕ → Option Node) (led : AreChanged (led_by (Some n)) (first_or (head key)) mid node') where
    key_pushed : (m : ℕ) → m ≢ n → key_at node' m ≡ key_at node m
    key_pushed m ne = unwritten (λ x. x.key) (led_by (Some n)) (λ x. refl) (first_or (head key)) mid node' led m ∙ ap (option_map (λ x. x.key)) (mid_else m ne)

    after_kept : (m : ℕ) → m ≢ n → after_at node' m ≡ after_at node m
    after_kept m ne = ap first_or (unwritten (λ x. x.after) (led_by (Some n)) (λ x. refl) (first_or (head key)) mid node' led m ∙ ap (option_map (λ x. x.after)) (mid_else m ne))

    before_kept : (m : ℕ) → m ≢ n → first_or (head key) ≢ Some m → before_at node' m ≡ before_at node m
    before_kept m ne h = ap (λ o. first_or (option_map (λ x. x.before) o)) (elsewhere (led_by (Some n)) (first_or (head key)) mid node' led m h ∙ mid_else m ne)

    here_is : node' n ≡ Some new_node
    here_is = elsewhere (led_by (Some n)) (first_or (head key)) mid node' led n not_first ∙ mid_here

    key_here : key_at node' n ≡ Some key
    key_here = ap (option_map (λ x. x.key)) here_is

    in_front : IsInFront node node' n (first_or (head key))
    in_front = record {
      after = ap (λ o. first_or (option_map (λ x. x.after) o)) here_is;
      before = ap (λ o. first_or (option_map (λ x. x.before) o)) here_is;
      next = λ m e. let x = key_some node m key (first_keyed m e) in ap (λ o. first_or (option_map (λ z. z.before) o)) (written (led_by (Some n)) (first_or (head key)) mid node' led m x.0 e (mid_else m (first_other m e) ∙ x.1));
      afters = after_kept;
      befores = before_kept;
    }

    -- and it is the head of its key
    module _ (head' : ℕ → Option (Option ℕ)) (headed : (k : ℕ) → head' k ≡ cond (k == key) (Some (Some n)) (head k)) where
      head_here : first_or (head' key) ≡ Some n
      head_here = ap first_or (headed key ∙ ap (λ b. cond b (Some (Some n)) (head key)) (same_number key))

      head_else : (k : ℕ) → k ≢ key → head' k ≡ head k
      head_else k h = headed k ∙ ap (λ b. cond b (Some (Some n)) (head k)) (other_number k key h)

      pub list_pushed : (xs : List ℕ) → IsListed node (first_or (head key)) key xs → IsListed node' (first_or (head' key)) key (n ∷ xs)
      list_pushed xs i = record {
        linked = subst (λ o. IsLinked node' None o (n ∷ xs)) (sym head_here) (linked_push node node' n (first_or (head key)) xs in_front absent once i.linked);
        members = λ m. (to m, back m);
        once = distinct_from_once (n ∷ xs) (absent, once);
      }
        where
          absent : ¬ Contains xs n
          absent c = not_keyed key ((i.members n).0 c)

          once : IsOnce xs
          once = once_from_distinct xs i.once

          to : (m : ℕ) → Contains (n ∷ xs) m → key_at node' m ≡ Some key
          to m c = elim (cases_eq m n) [
            | inl q ↦ ap (key_at node') q ∙ key_here
            | inr ne ↦ elim (Contains-cons_cases n m xs c) [
              | inl e ↦ absurd (ne (sym e))
              | inr d ↦ key_pushed m ne ∙ (i.members m).0 d
            ]
          ]

          back : (m : ℕ) → key_at node' m ≡ Some key → Contains (n ∷ xs) m
          back m e = elim (cases_eq m n) [
            | inl q ↦ subst (λ z. Contains (n ∷ xs) z) (sym q) (here n xs)
            | inr ne ↦ there n m xs ((i.members m).1 (sym (key_pushed m ne) ∙ e))
          ]

      pub list_beside : (k : ℕ) (xs : List ℕ) → k ≢ key → IsListed node (first_or (head k)) k xs → IsListed node' (first_or (head' k)) k xs
      list_beside k xs h i = record {
        linked = subst (λ o. IsLinked node' None o xs) (sym (ap first_or (head_else k h))) (linked_same node node' None (first_or (head k)) xs (λ m c. (after_kept m (away m c), before_kept m (away m c) (apart m c))) i.linked);
        members = λ m. (λ c. key_pushed m (away m c) ∙ (i.members m).0 c, back m);
        once = i.once;
      }
        where
          away : (m : ℕ) → Contains xs m → m ≢ n
          away m c q = not_keyed k (subst (λ y. key_at node y ≡ Some k) q ((i.members m).0 c))

          apart : (m : ℕ) → Contains xs m → first_or (head key) ≢ Some m
          apart m c e = let z : Some k ≡ Some key = sym ((i.members m).0 c) ∙ first_keyed m e in let w : k ≡ key = cc in h w

          back : (m : ℕ) → key_at node' m ≡ Some k → Contains xs m
          back m e = elim (cases_eq m n) [
            | inl q ↦ let z : Some key ≡ Some k = sym key_here ∙ ap (key_at node') (sym q) ∙ e in let w : k ≡ key = cc in absurd (h w)
            | inr ne ↦ (i.members m).1 (sym (key_pushed m ne) ∙ e)
          ]

      pub listed_pushed : AreListed head' node'
      listed_pushed = record { lists = lists; keys = keys }
        where
          lists : (k : ℕ) → (xs : List ℕ) × IsListed node' (first_or (head' k)) k xs
          lists k = elim (cases_eq k key) [
            | inl q ↦ (n ∷ (l.lists key).0, subst (λ z. IsListed node' (first_or (head' z)) z (n ∷ (l.lists key).0)) (sym q) (list_pushed (l.lists key).0 (l.lists key).1))
            | inr ne ↦ ((l.lists k).0, list_beside k (l.lists k).0 ne (l.lists k).1)
          ]

          keys : (m k : ℕ) → key_at node' m ≡ Some k → IsSome (head' k)
          keys m k e = elim (cases_eq k key) [
            | inl q ↦ rw q (ap is_some (headed key ∙ ap (λ b. cond b (Some (Some n)) (head key)) (same_number key)))
            | inr ne ↦ elim (cases_eq m n) [
              | inl s ↦ let z : Some key ≡ Some k = sym key_here ∙ ap (key_at node') (sym s) ∙ e in let w : k ≡ key = cc in absurd (ne w)
              | inr na ↦ ap is_some (head_else k ne) ∙ l.keys m k (sym (key_pushed m na) ∙ e)
            ]
          ]

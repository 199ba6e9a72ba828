-- The lists after a node is put directly after another one.
use Rattle.std.proofs.Common.{◌≡◌, ◌≢◌, inl, inr, ℕ, ◌==◌, cond, List, Option, Some, None, is_some, IsSome, option_map, refl, sym, ap, subst, ◌∙◌, Contains}
use Rattle.std.proofs.lemmas.Bool.{cases_eq}
use Rattle.chain_laws.specs.Links.{Node, first_or, after_at, before_at, key_at, IsListed, AreListed, followed_by, led_by}
use Rattle.chain_laws.proofs.Changes.{AreChanged, unwritten, elsewhere, written, still_some, key_some}
use Rattle.chain_laws.proofs.Distinct.{IsOnce, once_from_distinct, distinct_from_once}
use Rattle.chain_laws.proofs.Linked.{linked_same}
use Rattle.chain_laws.proofs.Removed.{after_keyed, after_not}
use Rattle.linked_chains.specs.Chains.{put_after}
use Rattle.linked_chains.proofs.PutAfter.{put_absent, put_new, put_has, put_was, put_once, IsInserted, linked_put}
use Rattle.integers.proofs.Tests.{other_number, same_number}

-- the node x of the name m, and a new node n with the same key, between it and the one after it
module _ (head : ℕ → Option (Option ℕ)) (node : ℕ → Option Node) (m : ℕ) (x : Node) (l : AreListed head node) (was : node m ≡ Some x) (n : ℕ) (vacant : node n ≡ None) (put : ℕ → Option Node)
    (added : (y : ℕ) → put y ≡ cond (y == n) (Some (record { key = x.key; before = Some m; after = x.after })) (node y)) where
  abbrev new_node : Node
  new_node = record { key = x.key; before = Some m; after = x.after }

  keyed : key_at node m ≡ Some x.key
  keyed = ap (option_map (λ z. z.key)) was

  after_m : after_at node m ≡ x.after
  after_m = ap (λ o. first_or (option_map (λ z. z.after) o)) was

  not_keyed : (k : ℕ) → key_at node n ≢ Some k
  not_keyed k e = let y = key_some node n k e in absurd (cc (vacant, y.1))

  apart : m ≢ n
  apart q = let e : Some x ≡ None = sym was ∙ ap node q ∙ vacant in absurd (cc)

  put_here : put n ≡ Some new_node
  put_here = added n ∙ ap (λ b. cond b (Some new_node) (node n)) (same_number n)

  put_else : (y : ℕ) → y ≢ n → put y ≡ node y
  put_else y h = added y ∙ ap (λ b. cond b (Some new_node) (node y)) (other_number y n h)

  -- the one after it is an old node
  follower_keyed : (y : ℕ) → x.after ≡ Some y → key_at node y ≡ Some x.key
  follower_keyed = after_keyed head node m x l was

  follower_old : (y : ℕ) → x.after ≡ Some y → y ≢ n
  follower_old y e q = not_keyed x.key (subst (λ z. key_at node z ≡ Some x.key) q (follower_keyed y e))

  not_follower : x.after ≢ Some n
  not_follower e = follower_old n e refl

  not_itself : x.after ≢ Some m
  not_itself e = after_not head node m x l was m e refl

  pub follower_there : (y : ℕ) → x.after ≡ Some y → IsSome (put y)
  follower_there y e = let z = key_some node y x.key (follower_keyed y e) in ap is_some (put_else y (follower_old y e) ∙ z.1)

  -- it knows the new one
  module _ (mid : ℕ → Option Node) (led : AreChanged (led_by (Some n)) x.after put mid) where
    pub place_there : (y : ℕ) → Some m ≡ Some y → IsSome (mid y)
    place_there y e =
        let q : m ≡ y = cc in
        subst (λ z. IsSome (mid z)) q (still_some (led_by (Some n)) x.after put mid led m ∙ ap is_some (put_else m apart ∙ was))

    -- and so does the one before
    module _ (node' : ℕ → Option Node) (followed : AreChanged (followed_by (Some n)) (Some m) mid node') where
      not_place : (y : ℕ) → y ≢ m → Some m ≢ Some y
      not_place y h e = let q : m ≡ y = cc in h (sym q)

      key_put : (y : ℕ) → key_at node' y ≡ key_at put y
      key_put y = unwritten (λ z. z.key) (followed_by (Some n)) (λ z. refl) (Some m) mid node' followed y ∙ unwritten (λ z. z.key) (led_by (Some n)) (λ z. refl) x.after put mid led y

      key_here : key_at node' n ≡ Some x.key
      key_here = key_put n ∙ ap (option_map (λ z. z.key)) put_here

      key_else : (y : ℕ) → y ≢ n → key_at node' y ≡ key_at node y
      key_else y h = key_put y ∙ ap (option_map (λ z. z.key)) (put_else y h)

      here_is : node' n ≡ Some new_node
      here_is = elsewhere (followed_by (Some n)) (Some m) mid node' followed n (not_place n (λ e. apart (sym e))) ∙ elsewhere (led_by (Some n)) x.after put mid led n not_follower ∙ put_here

      place_is : node' m ≡ Some (followed_by (Some n) x)
      place_is = written (followed_by (Some n)) (Some m) mid node' followed m x refl (elsewhere (led_by (Some n)) x.after put mid led m not_itself ∙ put_else m apart ∙ was)

      afters : (y : ℕ) → y ≢ n → y ≢ m → after_at node' y ≡ after_at node y
      afters y h g =
          ap (λ o. first_or (option_map (λ z. z.after) o)) (elsewhere (followed_by (Some n)) (Some m) mid node' followed y (not_place y g))
          ∙ ap first_or (unwritten (λ z. z.after) (led_by (Some n)) (λ z. refl) x.after put mid led y ∙ ap (option_map (λ z. z.after)) (put_else y h))

      befores : (y : ℕ) → y ≢ n → x.after ≢ Some y → before_at node' y ≡ before_at node y
      befores y h g =
          ap first_or (unwritten (λ z. z.before) (followed_by (Some n)) (λ z. refl) (Some m) mid node' followed y)
          ∙ ap (λ o. first_or (option_map (λ z. z.before) o)) (elsewhere (led_by (Some n)) x.after put mid led y g ∙ put_else y h)

      next : (y : ℕ) → x.after ≡ Some y → before_at node' y ≡ Some n
      next y e =
          let z = key_some node y x.key (follower_keyed y e) in
          ap first_or (unwritten (λ z. z.before) (followed_by (Some n)) (λ z. refl) (Some m) mid node' followed y)
          ∙ ap (λ o. first_or (option_map (λ z. z.before) o)) (written (led_by (Some n)) x.after put mid led y z.0 e (put_else y (follower_old y e) ∙ z.1))

      inserted : IsInserted node node' m n
      inserted = record {
        after = ap (λ o. first_or (option_map (λ z. z.after) o)) here_is ∙ sym after_m;
        before = ap (λ o. first_or (option_map (λ z. z.before) o)) here_is;
        last = ap (λ o. first_or (option_map (λ z. z.after) o)) place_is;
        next = λ y e. next y (sym after_m ∙ e);
        afters = afters;
        befores = λ y h g. befores y h (λ e. g (after_m ∙ e));
      }

      list_own : (xs : List ℕ) → IsListed node (first_or (head x.key)) x.key xs → IsListed node' (first_or (head x.key)) x.key (put_after m n xs)
      list_own xs i = record {
        linked = linked_put node node' m n None (first_or (head x.key)) xs inserted absent once inside i.linked;
        members = λ y. (to y, back y);
        once = distinct_from_once (put_after m n xs) (put_once m n xs absent once);
      }
        where
          absent : ¬ Contains xs n
          absent c = not_keyed x.key ((i.members n).0 c)

          once : IsOnce xs
          once = once_from_distinct xs i.once

          inside : Contains xs m
          inside = (i.members m).1 keyed

          to : (y : ℕ) → Contains (put_after m n xs) y → key_at node' y ≡ Some x.key
          to y c = elim (cases_eq y n) [
            | inl q ↦ ap (key_at node') q ∙ key_here
            | inr ne ↦ elim (put_was m n y xs c) [
              | inl e ↦ absurd (ne e)
              | inr d ↦ key_else y ne ∙ (i.members y).0 d
            ]
          ]

          back : (y : ℕ) → key_at node' y ≡ Some x.key → Contains (put_after m n xs) y
          back y e = elim (cases_eq y n) [
            | inl q ↦ subst (λ z. Contains (put_after m n xs) z) (sym q) (put_new m n xs inside)
            | inr ne ↦ put_has m n y xs ((i.members y).1 (sym (key_else y ne) ∙ e))
          ]

      list_beside : (k : ℕ) (xs : List ℕ) → k ≢ x.key → IsListed node (first_or (head k)) k xs → IsListed node' (first_or (head k)) k xs
      list_beside k xs h i = record {
        linked = linked_same node node' None (first_or (head k)) xs (λ y c. (afters y (away y c) (far y c), befores y (away y c) (λ e. clash y c (follower_keyed y e)))) i.linked;
        members = λ y. (λ c. key_else y (away y c) ∙ (i.members y).0 c, back y);
        once = i.once;
      }
        where
          clash : (y : ℕ) → Contains xs y → key_at node y ≡ Some x.key → ⊥
          clash y c e = let z : Some k ≡ Some x.key = sym ((i.members y).0 c) ∙ e in let w : k ≡ x.key = cc in h w

          away : (y : ℕ) → Contains xs y → y ≢ n
          away y c q = not_keyed k (subst (λ z. key_at node z ≡ Some k) q ((i.members y).0 c))

          far : (y : ℕ) → Contains xs y → y ≢ m
          far y c q = clash y c (ap (key_at node) q ∙ keyed)

          back : (y : ℕ) → key_at node' y ≡ Some k → Contains xs y
          back y e = elim (cases_eq y n) [
            | inl q ↦ let z : Some x.key ≡ Some k = sym key_here ∙ ap (key_at node') (sym q) ∙ e in let w : k ≡ x.key = cc in absurd (h w)
            | inr ne ↦ (i.members y).1 (sym (key_else y ne) ∙ e)
          ]

      not_inside : (k : ℕ) (xs : List ℕ) → k ≢ x.key → IsListed node (first_or (head k)) k xs → ¬ Contains xs m
      not_inside k xs h i c = let z : Some k ≡ Some x.key = sym ((i.members m).0 c) ∙ keyed in let w : k ≡ x.key = cc in h w

      pub list_inserted : (k : ℕ) (xs : List ℕ) → IsListed node (first_or (head k)) k xs → IsListed node' (first_or (head k)) k (put_after m n xs)
      list_inserted k xs i = elim (cases_eq k x.key) [
        | inl q ↦ subst (λ z. IsListed node' (first_or (head z)) z (put_after m n xs)) (sym q) (list_own xs (subst (λ z. IsListed node (first_or (head z)) z xs) q i))
        | inr ne ↦ subst (λ ys. IsListed node' (first_or (head k)) k ys) (sym (put_absent m n xs (not_inside k xs ne i))) (list_beside k xs ne i)
      ]

      pub listed_inserted : AreListed head node'
      listed_inserted = record {
        lists = λ k. (put_after m n (l.lists k).0, list_inserted k (l.lists k).0 (l.lists k).1);
        keys = λ y k e. elim (cases_eq y n) [
          | inl q ↦ let z : Some x.key ≡ Some k = sym key_here ∙ ap (key_at node') (sym q) ∙ e in let w : x.key ≡ k = cc in subst (λ z. IsSome (head z)) w (l.keys m x.key keyed)
          | inr ne ↦ l.keys y k (sym (key_else y ne) ∙ e)
        ];
      }

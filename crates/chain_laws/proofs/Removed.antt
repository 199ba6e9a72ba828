-- The lists after a node is taken out.
use Rattle.std.proofs.Common.{◌≡◌, ◌≢◌, ◌↔◌, inl, inr, ℕ, ◌==◌, ◌&&◌, Bool, true, false, cond, List, Option, Some, None, is_some, IsSome, option_map, refl, sym, ap, subst, ◌∙◌, Contains}
use Rattle.std.specs.Prelude.{is_none}
use Rattle.std.proofs.lemmas.Bool.{cases_eq}
use Rattle.chain_laws.specs.Links.{Node, first_or, after_at, before_at, key_at, IsLinked, IsListed, AreListed, followed_by, led_by, without}
use Rattle.chain_laws.proofs.Distinct.{IsOnce, once_from_distinct, distinct_from_once, without_absent, left, was_there, once_without}
use Rattle.chain_laws.proofs.Linked.{after_within, before_within, after_other, before_other, linked_same}
use Rattle.chain_laws.proofs.Joined.{IsJoined, linked_without}
use Rattle.chain_laws.proofs.Changes.{AreChanged, unwritten, elsewhere, written, still_some, key_some}
use Rattle.integers.proofs.Tests.{other_number, same_number}

-- the node x of the name n, in the list of its key
module _ (head : ℕ → Option (Option ℕ)) (node : ℕ → Option Node) (n : ℕ) (x : Node) (l : AreListed head node) (was : node n ≡ Some x) where
  keyed : key_at node n ≡ Some x.key
  keyed = ap (option_map (λ z. z.key)) was

  abbrev own : List ℕ
  own = (l.lists x.key).0

  own_list : IsListed node (first_or (head x.key)) x.key own
  own_list = (l.lists x.key).1

  inside : Contains own n
  inside = (own_list.members n).1 keyed

  own_once : IsOnce own
  own_once = once_from_distinct own own_list.once

  after_n : after_at node n ≡ x.after
  after_n = ap (λ o. first_or (option_map (λ z. z.after) o)) was

  before_n : before_at node n ≡ x.before
  before_n = ap (λ o. first_or (option_map (λ z. z.before) o)) was

  -- a neighbour is another node with the same key
  pub after_keyed : (m : ℕ) → x.after ≡ Some m → key_at node m ≡ Some x.key
  after_keyed m e = (own_list.members m).0 (after_within node None _ own n m own_list.linked inside (after_n ∙ e))

  pub before_keyed : (m : ℕ) → x.before ≡ Some m → key_at node m ≡ Some x.key
  before_keyed m e = elim (before_within node None _ own n own_list.linked inside) [
    | inl b ↦ let z : None ≡ Some m = sym b ∙ before_n ∙ e in absurd (cc)
    | inr w ↦ let z : w.0 ≡ m = (let y : Some w.0 ≡ Some m = sym w.1 ∙ before_n ∙ e in cc) in subst (λ k. key_at node k ≡ Some x.key) z ((own_list.members w.0).0 w.2)
  ]

  pub after_not : (m : ℕ) → x.after ≡ Some m → m ≢ n
  after_not m e q = after_other node None _ own n own_list.linked own_once inside (after_n ∙ e ∙ ap Some q)

  pub before_not : (m : ℕ) → x.before ≡ Some m → m ≢ n
  before_not m e q = before_other node None _ own n own_list.linked own_once inside (λ (z : None ≡ Some n). absurd (cc)) (before_n ∙ e ∙ ap Some q)

  pub head_there : IsSome (head x.key)
  head_there = l.keys n x.key keyed

  -- the node goes
  module _ (cut : ℕ → Option Node) (gone : (m : ℕ) → cut m ≡ cond (m == n) None (node m)) where
    cut_else : (m : ℕ) → m ≢ n → cut m ≡ node m
    cut_else m h = gone m ∙ ap (λ b. cond b None (node m)) (other_number m n h)

    pub before_there : (m : ℕ) → x.before ≡ Some m → IsSome (cut m)
    before_there m e = let y = key_some node m x.key (before_keyed m e) in ap is_some (cut_else m (before_not m e) ∙ y.1)

    -- the one before it gets the one after it
    module _ (mid : ℕ → Option Node) (followed : AreChanged (followed_by x.after) x.before cut mid) where
      pub after_there : (m : ℕ) → x.after ≡ Some m → IsSome (mid m)
      after_there m e = let y = key_some node m x.key (after_keyed m e) in still_some (followed_by x.after) x.before cut mid followed m ∙ ap is_some (cut_else m (after_not m e) ∙ y.1)

      -- and the other way round
      module _ (node' : ℕ → Option Node) (led : AreChanged (led_by x.before) x.after mid node') where
        key_cut : (m : ℕ) → key_at node' m ≡ key_at cut m
        key_cut m = unwritten (λ z. z.key) (led_by x.before) (λ z. refl) x.after mid node' led m ∙ unwritten (λ z. z.key) (followed_by x.after) (λ z. refl) x.before cut mid followed m

        key_left : (m : ℕ) → m ≢ n → key_at node' m ≡ key_at node m
        key_left m h = key_cut m ∙ ap (option_map (λ z. z.key)) (cut_else m h)

        key_gone : key_at node' n ≡ None
        key_gone = key_cut n ∙ ap (option_map (λ z. z.key)) (gone n ∙ ap (λ b. cond b None (node n)) (same_number n))

        afters : (m : ℕ) → m ≢ n → x.before ≢ Some m → after_at node' m ≡ after_at node m
        afters m h b = ap first_or (unwritten (λ z. z.after) (led_by x.before) (λ z. refl) x.after mid node' led m) ∙ ap (λ o. first_or (option_map (λ z. z.after) o)) (elsewhere (followed_by x.after) x.before cut mid followed m b ∙ cut_else m h)

        befores : (m : ℕ) → m ≢ n → x.after ≢ Some m → before_at node' m ≡ before_at node m
        befores m h a = ap (λ o. first_or (option_map (λ z. z.before) o)) (elsewhere (led_by x.before) x.after mid node' led m a) ∙ ap first_or (unwritten (λ z. z.before) (followed_by x.after) (λ z. refl) x.before cut mid followed m ∙ ap (option_map (λ z. z.before)) (cut_else m h))

        next : (m : ℕ) → x.before ≡ Some m → after_at node' m ≡ x.after
        next m e =
            let y = key_some node m x.key (before_keyed m e) in
            ap first_or (unwritten (λ z. z.after) (led_by x.before) (λ z. refl) x.after mid node' led m) ∙ ap (λ o. first_or (option_map (λ z. z.after) o)) (written (followed_by x.after) x.before cut mid followed m y.0 e (cut_else m (before_not m e) ∙ y.1))

        last : (m : ℕ) → x.after ≡ Some m → before_at node' m ≡ x.before
        last m e = elim (mid m) as (λ o. mid m ≡ o → before_at node' m ≡ x.before) [
          | None ↦ λ q. let z = after_there m e in absurd (cc (q, z))
          | Some y ↦ λ q. ap (λ o. first_or (option_map (λ z. z.before) o)) (written (led_by x.before) x.after mid node' led m y e q)
        ] refl

        joined : IsJoined node node' n
        joined = record {
          next = λ m e. next m (sym before_n ∙ e) ∙ sym after_n;
          last = λ m e. last m (sym after_n ∙ e) ∙ sym before_n;
          afters = λ m h b. afters m h (λ e. b (before_n ∙ e));
          befores = λ m h a. befores m h (λ e. a (after_n ∙ e));
        }

        module _ (head' : ℕ → Option (Option ℕ)) (headed : (k : ℕ) → head' k ≡ cond ((k == x.key) && is_none x.before) (Some x.after) (head k)) where
          head_else : (k : ℕ) → k ≢ x.key → head' k ≡ head k
          head_else k h = headed k ∙ ap (λ b. cond (b && is_none x.before) (Some x.after) (head k)) (other_number k x.key h)

          head_own : head' x.key ≡ cond (is_none x.before) (Some x.after) (head x.key)
          head_own = headed x.key ∙ ap (λ b. cond (b && is_none x.before) (Some x.after) (head x.key)) (same_number x.key)

          head_first : x.before ≡ None → first_or (head' x.key) ≡ x.after
          head_first e = ap first_or (head_own ∙ ap (λ o. cond (is_none o) (Some x.after) (head x.key)) e)

          head_later : x.before ≢ None → first_or (head' x.key) ≡ first_or (head x.key)
          head_later h = ap first_or (head_own ∙ by x.before h)
            where
              by : (o : Option ℕ) → o ≢ None → cond (is_none o) (Some x.after) (head x.key) ≡ head x.key
              by None h = absurd (h refl)
              by (Some m) h = refl

          members : (k : ℕ) (xs : List ℕ) → ((m : ℕ) → Contains xs m ↔ (key_at node m ≡ Some k)) → (m : ℕ) → Contains (without n xs) m ↔ (key_at node' m ≡ Some k)
          members k xs i m = (
            λ c. let w = was_there n m xs c in key_left m w.0 ∙ (i m).0 w.1,
            λ e. elim (cases_eq m n) [
              | inl q ↦ let z : None ≡ Some k = sym key_gone ∙ ap (key_at node') (sym q) ∙ e in absurd (cc)
              | inr ne ↦ left n m xs ne ((i m).1 (sym (key_left m ne) ∙ e))
            ],
          )

          list_own : (xs : List ℕ) → IsListed node (first_or (head x.key)) x.key xs → IsListed node' (first_or (head' x.key)) x.key (without n xs)
          list_own xs i = record {
            linked = linked_without node node' n None (first_or (head x.key)) (first_or (head' x.key)) xs joined i.linked (once_from_distinct xs i.once) (λ m e. absurd (cc)) ((i.members n).1 keyed) (λ e. head_first (sym before_n ∙ e) ∙ sym after_n) (λ h. head_later (λ e. h (before_n ∙ e)));
            members = members x.key xs i.members;
            once = distinct_from_once (without n xs) (once_without n xs (once_from_distinct xs i.once));
          }

          list_beside : (k : ℕ) (xs : List ℕ) → k ≢ x.key → IsListed node (first_or (head k)) k xs → IsListed node' (first_or (head' k)) k (without n xs)
          list_beside k xs h i = record {
            linked = subst (λ ys. IsLinked node' None (first_or (head' k)) ys) (sym (without_absent n xs (λ c. away n c refl))) (subst (λ o. IsLinked node' None o xs) (sym (ap first_or (head_else k h))) (linked_same node node' None (first_or (head k)) xs (λ m c. (afters m (away m c) (λ e. clash m c (before_keyed m e)), befores m (away m c) (λ e. clash m c (after_keyed m e)))) i.linked));
            members = members k xs i.members;
            once = distinct_from_once (without n xs) (once_without n xs (once_from_distinct xs i.once));
          }
            where
              clash : (m : ℕ) → Contains xs m → key_at node m ≡ Some x.key → ⊥
              clash m c e = let z : Some k ≡ Some x.key = sym ((i.members m).0 c) ∙ e in let w : k ≡ x.key = cc in h w

              away : (m : ℕ) → Contains xs m → m ≢ n
              away m c q = clash m c (ap (key_at node) q ∙ keyed)

          pub list_removed : (k : ℕ) (xs : List ℕ) → IsListed node (first_or (head k)) k xs → IsListed node' (first_or (head' k)) k (without n xs)
          list_removed k xs i = elim (cases_eq k x.key) [
            | inl q ↦ subst (λ z. IsListed node' (first_or (head' z)) z (without n xs)) (sym q) (list_own xs (subst (λ z. IsListed node (first_or (head z)) z xs) q i))
            | inr ne ↦ list_beside k xs ne i
          ]

          pub head_kept : (k : ℕ) → is_some (head' k) ≡ is_some (head k)
          head_kept k = elim (cases_eq k x.key) [
            | inl q ↦ rw q (ap is_some head_own ∙ by (is_none x.before) ∙ sym head_there)
            | inr ne ↦ ap is_some (head_else k ne)
          ]
            where
              by : (b : Bool) → is_some (cond b (Some x.after) (head x.key)) ≡ true
              by true = refl
              by false = head_there

          pub listed_removed : AreListed head' node'
          listed_removed = record {
            lists = λ k. (without n (l.lists k).0, list_removed k (l.lists k).0 (l.lists k).1);
            keys = λ m k e. head_kept k ∙ elim (cases_eq m n) [
              | inl q ↦ let z : None ≡ Some k = sym key_gone ∙ ap (key_at node') (sym q) ∙ e in absurd (cc)
              | inr ne ↦ l.keys m k (sym (key_left m ne) ∙ e)
            ];
          }

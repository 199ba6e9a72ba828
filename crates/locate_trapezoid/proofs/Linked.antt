-- One more node in memory.
use Rattle.std.proofs.Common.{◌≡◌, ◌≢◌, ℕ, ◌<◌, ◌≤◌, ◌+◌, Bool, true, false, arith, refl, sym, ap, ◌∙◌, ◌⊎◌, inl, inr, subst, List, [], ◌∷◌, ◌++◌, length}
use Rattle.std.specs.Prelude.{Some, None, slice_set}
use Rattle.std.proofs.Math.ListN.{get_or-append}
use Rattle.std.proofs.Math.Seq.{get_or-append_seam}
use Rattle.std.proofs.lemmas.List.{get_or-set_same, get_or-set_other, get_or_past, length-append, length-set}
use Rattle.std.proofs.lemmas.Bool.{cases_lt, lt-ltb}
use Rattle.locate_trapezoid.specs.declared.node.Node.{Node}
use Rattle.locate_trapezoid.specs.declared.node.Slot.{Slot}
use Rattle.locate_trapezoid.specs.declared.node.Slot.TheVariants.{Root, Child}
use Rattle.locate_trapezoid.specs.declared.node.Test.{Test}
use Rattle.locate_trapezoid.specs.Nodes.{arena, bare_node, no_node, child_of, with_child, node_at, child_at, linked, IsGrown}
use Rattle.locate_trapezoid.proofs.Paths.{none_some}

-- where two numbers stand
data Stands (n i : ℕ) : Type 0 where
  before : i < n → Stands n i
  at : i ≡ n → Stands n i
  beyond : n < i → Stands n i

stands : (n i : ℕ) → Stands n i
stands n i = elim (cases_lt i n) [ inl a ↦ before a | inr a ↦ elim (cases_lt n i) [ inl b ↦ beyond b | inr b ↦ at (omega (arith)) ] ]

-- no node has a child there
no_child : (t : Test) (b : Bool) → child_of (bare_node t) b ≡ None
no_child t false = refl
no_child t true = refl

past : (ns : List Node) (i : ℕ) (b : Bool) → length ns ≤ i → child_at ns (Child i b) ≡ None
past ns i b h = ap (λ n. child_of n b) (get_or_past ns i no_node h) ∙ no_child no_node.test b

with_same : (n : Node) (b : Bool) (i : ℕ) → child_of (with_child n b i) b ≡ Some i
with_same n false i = refl
with_same n true i = refl

with_test : (n : Node) (b : Bool) (i : ℕ) → (with_child n b i).test ≡ n.test
with_test n false i = refl
with_test n true i = refl

-- its other child, or the same place
with_other : (n : Node) (b d : Bool) (i : ℕ) → (d ≡ b) ⊎ (child_of (with_child n b i) d ≡ child_of n d)
with_other n false false i = inl refl
with_other n true true i = inl refl
with_other n false true i = inr refl
with_other n true false i = inr refl

-- something hangs at the root of some nodes
root_there : (ns : List Node) → 0 < length ns → child_at ns Root ≡ Some 0
root_there ns h = rw (lt-ltb 0 (length ns) h) refl

module _ (ns : List Node) (t : Test) where
  abbrev ps : List Node
  ps = ns ++ (bare_node t ∷ [])

  longer : length ps ≡ length ns + 1
  longer = length-append ns (bare_node t ∷ [])

  old_node : (i : ℕ) → i < length ns → node_at ps i ≡ node_at ns i
  old_node i h = get_or-append ns (bare_node t ∷ []) _ i h

  new_node : node_at ps (length ns) ≡ bare_node t
  new_node = get_or-append_seam ns (bare_node t) [] _

  old_child : (i : ℕ) (b : Bool) → child_at ps (Child i b) ≡ child_at ns (Child i b)
  old_child i b = by (stands (length ns) i)
    where
      by : Stands (length ns) i → child_at ps (Child i b) ≡ child_at ns (Child i b)
      by (before h) = ap (λ n. child_of n b) (old_node i h)
      by (at h) = ap (λ j. child_of (node_at ps j) b) h ∙ ap (λ n. child_of n b) new_node ∙ no_child t b ∙ sym (past ns i b (omega (arith)))
      by (beyond h) = past ps i b (let k = longer in omega (arith)) ∙ sym (past ns i b (omega (arith)))

  grown_root : child_at ns Root ≡ None → IsGrown (arena ns) Root t (arena (ns ++ (bare_node t ∷ [])))
  grown_root h = record {
    size = longer;
    there = root_there ps (let k = longer in omega (arith)) ∙ ap Some (sym empty);
    fresh = λ b. ap (λ n. child_of n b) new_node ∙ no_child t b;
    kept = kept;
    tests = λ i k. ap (λ (n : Node). n.test) (old_node i k);
    asks = ap (λ (n : Node). n.test) new_node;
  }
    where
      empty : length ns ≡ 0
      empty = elim (cases_lt 0 (length ns)) [ inl a ↦ absurd (none_some (sym h ∙ root_there ns a)) | inr a ↦ omega (arith) ]

      kept : (u : Slot) → (u ≡ Root) ⊎ (child_at ps u ≡ child_at ns u)
      kept Root = inl refl
      kept (Child i b) = inr (old_child i b)

  -- with a child told at p
  module _ (p : ℕ) (b : Bool) (P : p < length ns) where
    abbrev x : Node
    x = with_child (node_at ps p) b (length ns)

    abbrev ms : List Node
    ms = slice_set ps p x

    size' : length ms ≡ length ns + 1
    size' = length-set ps p x ∙ longer

    elsewhere : (i : ℕ) → i ≢ p → node_at ms i ≡ node_at ps i
    elsewhere i n = get_or-set_other ps p i x _ n

    there' : node_at ms p ≡ x
    there' = get_or-set_same ps p x _ (let k = longer in omega (arith))

    new' : node_at ms (length ns) ≡ bare_node t
    new' = elsewhere (length ns) (λ e. absurd (omega (arith, P, e))) ∙ new_node

    grown_child : IsGrown (arena ns) (Child p b) t (arena (slice_set (ns ++ (bare_node t ∷ [])) p (with_child (node_at (ns ++ (bare_node t ∷ [])) p) b (length ns))))
    grown_child = record {
      size = size';
      there = ap (λ n. child_of n b) there' ∙ with_same (node_at ps p) b (length ns);
      fresh = λ d. ap (λ n. child_of n d) new' ∙ no_child t d;
      kept = kept;
      tests = λ i h. tests' i h (stands p i);
      asks = ap (λ (n : Node). n.test) new';
    }
      where
        tests' : (i : ℕ) → i < length ns → Stands p i → (node_at ms i).test ≡ (node_at ns i).test
        tests' i h (before k) = ap (λ (n : Node). n.test) (elsewhere i (λ z. absurd (omega (arith, k, z))) ∙ old_node i h)
        tests' i h (at k) = ap (λ j. (node_at ms j).test) k ∙ ap (λ (n : Node). n.test) there' ∙ with_test (node_at ps p) b (length ns) ∙ ap (λ j. (node_at ps j).test) (sym k) ∙ ap (λ (n : Node). n.test) (old_node i h)
        tests' i h (beyond k) = ap (λ (n : Node). n.test) (elsewhere i (λ z. absurd (omega (arith, k, z))) ∙ old_node i h)

        child' : (i : ℕ) (d : Bool) → Stands p i → (Child i d ≡ Child p b) ⊎ (child_at ms (Child i d) ≡ child_at ns (Child i d))
        child' i d (before k) = inr (ap (λ n. child_of n d) (elsewhere i (λ z. absurd (omega (arith, k, z)))) ∙ old_child i d)
        child' i d (at k) = elim (with_other (node_at ps p) b d (length ns)) [
          | inl e ↦ inl ((λ j. Child (k j) (e j)))
          | inr e ↦ inr (ap (λ j. child_at ms (Child j d)) k ∙ ap (λ n. child_of n d) there' ∙ e ∙ ap (λ j. child_at ps (Child j d)) (sym k) ∙ old_child i d)
        ]
        child' i d (beyond k) = inr (ap (λ n. child_of n d) (elsewhere i (λ z. absurd (omega (arith, k, z)))) ∙ old_child i d)

        kept : (u : Slot) → (u ≡ Child p b) ⊎ (child_at ms u ≡ child_at ns u)
        kept Root = inr (root_there ms (let k = size' in omega (arith)) ∙ sym (root_there ns (omega (arith, P))))
        kept (Child i d) = child' i d (stands p i)

-- ---- as the code has it: x was put behind the nodes, and then the place told its number
module _ (ns qs : List Node) (t : Test) (x : Node) (bare : x ≡ bare_node t) (e : qs ≡ ns ++ (x ∷ [])) where
  pub room : (p : ℕ) → p < length ns → p < length qs
  room p h = let k = length-append ns (x ∷ []) in let m = ap length e in omega (arith)

  pub hangs_there : (ls : List Node) (s : Slot) (n : ℕ) → ((p : ℕ) (b : Bool) → s ≡ Child p b → p < length ns) → child_at ns s ≡ None → n ≡ length ns → ls ≡ linked qs s n → IsGrown (arena ns) s t (arena ls)
  hangs_there ls s n old none f h =
      let e' : qs ≡ ns ++ (bare_node t ∷ []) = e ∙ ap (λ y. ns ++ (y ∷ [])) bare in
      subst (λ l. IsGrown (arena ns) s t (arena l)) (sym (h ∙ (λ i. linked (e' i) s (f i)))) (by s old none)
    where
      by : (s : Slot) → ((p : ℕ) (b : Bool) → s ≡ Child p b → p < length ns) → child_at ns s ≡ None → IsGrown (arena ns) s t (arena (linked (ns ++ (bare_node t ∷ [])) s (length ns)))
      by Root old none = grown_root ns t none
      by (Child p b) old none = grown_child ns t p b (old p b refl)

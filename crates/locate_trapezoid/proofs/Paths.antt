-- The ways of points through the nodes.
use Rattle.std.proofs.Common.{◌-◌, ◌≡◌, ℕ, ◌<◌, ◌≤◌, ◌+◌, Bool, true, false, arith, refl, sym, ap, ◌∙◌, subst}
use Rattle.std.specs.Prelude.{Option, Some, None}
use Rattle.std.specs.declared.cmp.Ordering.TheVariants.{Equal}
use Rattle.exact_plane.specs.Point.{Point}
use Rattle.slab_laws.specs.declared.names.DartId.{DartId}
use Rattle.slab_laws.specs.View.{View}
use Rattle.locate_trapezoid.specs.declared.node.Slot.{Slot}
use Rattle.locate_trapezoid.specs.declared.node.Slot.TheVariants.{Root, Child}
use Rattle.locate_trapezoid.specs.Nodes.{Arena, IsTree, IsDown, at_root, further}
use Rattle.locate_trapezoid.specs.Ways.{way, outcome, label, ComesBy, start, step}

-- ---- places and ways are told apart
pub same_place : {i j : ℕ} {b c : Bool} → Child i b ≡ Child j c → (i ≡ j) × (b ≡ c)
same_place {i} {j} {b} {c} h = let k : i ≡ j = cc in let m : b ≡ c = cc in (k, m)

pub same_way : (b c : Bool) → way b ≡ way c → b ≡ c
same_way false false h = refl
same_way true true h = refl
same_way false true h = absurd (cc)
same_way true false h = absurd (cc)

pub same_some : {X : Type 0} {x y : X} → Some x ≡ Some y → x ≡ y
same_some {x} {y} h = let k : x ≡ y = cc in k

pub none_some : {X : Type 0} {x : X} → None ≡ Some x → ⊥
none_some h = absurd (cc)

module _ (v : View) (a : Arena) (q : Point) where
  -- the point's way on from one place to another
  pub data From (t : Slot) : Slot → Type 0 where
    here : From t t
    on : (s : Slot) (i : ℕ) (b : Bool) → a.child s ≡ Some i → outcome v (a.test i) q ≡ way b → From t (Child i b) → From t s

  -- one step more at its end
  longer : (t : Slot) (i : ℕ) (b : Bool) → a.child t ≡ Some i → outcome v (a.test i) q ≡ way b → (s : Slot) → From t s → From (Child i b) s
  longer t i b c w s here = on t i b c w here
  longer t i b c w s (on s0 j d c' w' r) = on s0 j d c' w' (longer t i b c w (Child j d) r)

  pub from_root : (s : Slot) (o : Option DartId) → ComesBy v a q s o → From s Root
  from_root s o (start s0 o0 e f) = subst (λ t. From t Root) (sym e) here
  from_root s o (step s0 o0 t p i b r c w e f) = subst (λ u. From u Root) (sym e) (longer t i b c w Root (from_root t p r))

  -- at a leaf the way ends
  pub at_leaf : (s t : Slot) → a.child s ≡ None → From t s → t ≡ s
  at_leaf s t n here = refl
  at_leaf s t n (on s0 i b c w r) = absurd (none_some (sym n ∙ c))

  -- from a node to a leaf it takes one of the two ways
  pub goes_on : (s t : Slot) (i : ℕ) → a.child s ≡ Some i → a.child t ≡ None → From t s → (b : Bool) × (outcome v (a.test i) q ≡ way b) × From t (Child i b)
  goes_on s t i c n here = absurd (none_some (sym n ∙ c))
  goes_on s t i c n (on s0 j b c' w r) =
      let e : j ≡ i = same_some (sym c' ∙ c) in
      (b, subst (λ k. outcome v (a.test k) q ≡ way b) e w, subst (λ k. From t (Child k b)) e r)

  -- to a leaf, it goes by each place that it comes by
  pub goes_by : (s t : Slot) (o : Option DartId) → ComesBy v a q s o → a.child t ≡ None → From t Root → From t s
  goes_by s t o (start s0 o0 e f) n r = subst (From t) (sym e) r
  goes_by s t o (step s0 o0 u p i b m c w e f) n r =
      let g = goes_on u t i c n (goes_by u t p m n r) in
      subst (From t) (ap (Child i) (same_way g.0 b (sym g.1 ∙ w)) ∙ sym e) g.2

  -- a point that is met on its way comes to no leaf
  pub met_no_leaf : (s t : Slot) (o p : Option DartId) (i : ℕ) → ComesBy v a q s o → a.child s ≡ Some i → outcome v (a.test i) q ≡ Equal → ComesBy v a q t p → a.child t ≡ None → ⊥
  met_no_leaf s t o p i m c w r n =
      let g = goes_on s t i c n (goes_by s t o m n (from_root t p r)) in
      not_met g.0 (sym w ∙ g.1)
    where
      not_met : (b : Bool) → Equal ≡ way b → ⊥
      not_met false h = absurd (cc)
      not_met true h = absurd (cc)

  -- and it comes to one leaf only
  pub one_leaf : (s t : Slot) (o p : Option DartId) → ComesBy v a q s o → a.child s ≡ None → ComesBy v a q t p → a.child t ≡ None → t ≡ s
  one_leaf s t o p m n r k = at_leaf s t n (goes_by s t o m k (from_root t p r))

  -- how the point came to a place
  pub record Came (s : Slot) (i : ℕ) (b : Bool) (o : Option DartId) : Type 0 where
    pub before : Option DartId
    pub at : ComesBy v a q s before
    pub sent : outcome v (a.test i) q ≡ way b
    pub told : o ≡ label (a.test i) b before

  pub came : IsTree a → (s : Slot) (i : ℕ) (b : Bool) (o : Option DartId) → a.child s ≡ Some i → ComesBy v a q (Child i b) o → Came s i b o
  came tree s i b o c r = by (Child i b) refl r
    where
      by : (t : Slot) → t ≡ Child i b → ComesBy v a q t o → Came s i b o
      by t e (start s0 o0 f g) = absurd (cc)
      by t e (step s0 o0 u p j d r c' w f g) =
          let k = same_place (sym f ∙ e) in
          let c'' : a.child u ≡ Some i = c' ∙ ap Some k.0 in
          record {
            before = p;
            at = subst (λ z. ComesBy v a q z p) (tree.single u s i c'' c) r;
            sent = subst (λ z. outcome v (a.test z) q ≡ way b) k.0 (subst (λ z. outcome v (a.test j) q ≡ way z) k.1 w);
            told = subst (λ z. o ≡ label (a.test z) b p) k.0 (subst (λ z. o ≡ label (a.test j) z p) k.1 g);
          }

  -- at the root nothing was told yet
  pub nothing_yet : (o : Option DartId) → ComesBy v a q Root o → o ≡ None
  nothing_yet o r = by Root refl r
    where
      by : (t : Slot) → t ≡ Root → ComesBy v a q t o → o ≡ None
      by t e (start s0 o0 f g) = g
      by t e (step s0 o0 u p j d r c w f g) = absurd (cc)

-- ---- how far down a place is
-- by the numbers of nodes
abbrev pub rank : Slot → ℕ
rank Root = 0
rank (Child i b) = i + 1

module _ (a : Arena) (tree : IsTree a) where
  pub down_place : (s : Slot) (n i : ℕ) (b : Bool) → IsDown a s n → s ≡ Child i b → i < a.size
  down_place s0 n0 i b at_root e = absurd (cc)
  down_place s0 n0 i b (further s n j d r c) e = let k = same_place e in subst (λ x. x < a.size) k.0 (tree.bounded s j c)

  pub child_later : (s : Slot) (i : ℕ) → a.child s ≡ Some i → rank s ≤ i
  child_later Root i c = omega (arith)
  child_later (Child j b) i c = let k = tree.later j i b c in omega (arith)

  -- a way down falls
  pub rank_falls : (s t : Slot) (i : ℕ) (b : Bool) → a.child s ≡ Some i → t ≡ Child i b → (a.size + 1 - rank t) < (a.size + 1 - rank s)
  rank_falls s t i b c e = subst (λ u. (a.size + 1 - rank u) < (a.size + 1 - rank s)) (sym e) (let k = child_later s i c in let h = tree.bounded s i c in omega (arith))

  pub down_rank : (s : Slot) (n : ℕ) → IsDown a s n → n ≤ rank s
  down_rank s0 n0 at_root = omega (arith)
  down_rank s0 n0 (further s n i b r c) = let k = down_rank s n r in let m = child_later s i c in omega (arith)

  -- one node further
  pub down_further : (s t : Slot) (n m i : ℕ) (b : Bool) → IsDown a s n → a.child s ≡ Some i → t ≡ Child i b → m ≡ n + 1 → IsDown a t m
  down_further s t n m i b r c e f = subst (λ u. IsDown a u m) (sym e) (subst (IsDown a (Child i b)) (sym f) (further s n i b r c))

  pub down_level : (s : Slot) (n : ℕ) → IsDown a s n → n ≤ a.size
  down_level s0 n0 at_root = omega (arith)
  down_level s0 n0 (further s n i b r c) = let k = down_rank s n r in let m = child_later s i c in let h = tree.bounded s i c in omega (arith)

  -- a place has one depth
  pub one_depth : (s : Slot) (n m : ℕ) → IsDown a s n → IsDown a s m → n ≡ m
  one_depth s n m r u = by s s refl n m r u
    where
      by : (s t : Slot) → s ≡ t → (n m : ℕ) → IsDown a s n → IsDown a t m → n ≡ m
      by s0 t0 e n0 m0 at_root at_root = refl
      by s0 t0 e n0 m0 at_root (further t m j d u k) = absurd (cc)
      by s0 t0 e n0 m0 (further s n i b r c) at_root = absurd (cc)
      by s0 t0 e n0 m0 (further s n i b r c) (further t m j d u k) =
          let z = same_place e in
          let w = by s t (tree.single s t j (c ∙ ap Some z.0) k) n m r u in
          ap (λ x. x + 1) w

-- Of a list in order, two elements between which all pass: two neighbours that differ.
use Rattle.std.proofs.Common.{◌≡◌, refl, sym, ap, ◌∙◌, subst, ◌⊎◌, inl, inr, List, [], ◌∷◌, Ordering, Less}
use Rattle.plane_graphs.specs.Ascending.{Member, IsAscending}
use Rattle.plane_graphs.proofs.Ascending.{All-member}
use Rattle.sweep_events.specs.Events.{AreNeighbours}

pub record NeighboursMeet {X : Type 0} (Through : X → Type 0) (Alike : X → X → Type 0) (xs : List X) : Type 0 where
  pub one : X
  pub other : X
  pub neighbours : AreNeighbours xs one other
  pub through_one : Through one
  pub through_other : Through other
  pub differ : Alike one other → ⊥

pub neighbours_in : {X : Type 0} (xs : List X) (u v : X) → AreNeighbours xs u v → Member u xs × Member v xs
neighbours_in [] u v h = absurd h
neighbours_in (x ∷ []) u v h = absurd h
neighbours_in (x ∷ y ∷ ys) u v (inl h) = (inl (sym h.0), inr (inl (sym h.1)))
neighbours_in (x ∷ y ∷ ys) u v (inr h) = let r = neighbours_in (y ∷ ys) u v h in (inr r.0, inr r.1)

-- two elements go by one key or by two
module _ {X K : Type 0} (cmp : X → X → Ordering) (Through : X → Type 0) (key : X → K) (decide : (k l : K) → (k ≡ l) ⊎ ((k ≡ l) → ⊥)) where
  -- what stands between two that pass, passes
  abbrev pub Between : List X → Type 0
  Between xs = (x y z : X) → Member x xs → Member y xs → Member z xs → cmp x y ≡ Less → cmp y z ≡ Less → Through x → Through z → Through y

  abbrev Found : List X → Type 0
  Found xs = NeighboursMeet Through (λ x y. key x ≡ key y) xs

  later : (x y : X) (ys : List X) → Found (y ∷ ys) → Found (x ∷ y ∷ ys)
  later x y ys r = record { one = r.one; other = r.other; neighbours = inr r.neighbours; through_one = r.through_one; through_other = r.through_other; differ = r.differ }

  -- the first passes, and so does a later one with another key
  first_too : (x y : X) (ys : List X) → IsAscending cmp (x ∷ y ∷ ys) → Between (x ∷ y ∷ ys) → (t : X) → Member t (y ∷ ys) → Through x → Through t → (key x ≡ key t → ⊥) →
      ((s t : X) → Member s (y ∷ ys) → Member t (y ∷ ys) → Through s → Through t → (key s ≡ key t → ⊥) → Found (y ∷ ys)) → Found (x ∷ y ∷ ys)
  first_too x y ys a b t m hx ht d ih = elim (decide (key x) (key y)) [
    | inl e ↦ later x y ys (ih y t (inl refl) m passes ht (λ f. d (e ∙ f)))
    | inr n ↦ record { one = x; other = y; neighbours = inl (refl, refl); through_one = hx; through_other = passes; differ = n }
  ]
    where
      passes' : (t : X) → Member t (y ∷ ys) → Member t (y ∷ ys) → Through t → Through y
      passes' t (inl e) n ht = subst Through e ht
      passes' t (inr k) n ht = b x y t (inl refl) (inr (inl refl)) (inr n) a.0.0 (All-member (λ z. cmp y z ≡ Less) t ys a.1.0 k) hx ht

      passes : Through y
      passes = passes' t m m ht

  pub neighbours_meet : (xs : List X) → IsAscending cmp xs → Between xs → (s t : X) → Member s xs → Member t xs → Through s → Through t → (key s ≡ key t → ⊥) → Found xs
  neighbours_meet [] a b s t ms mt hs ht d = absurd ms
  neighbours_meet (x ∷ []) a b s t (inl e) (inl f) hs ht d = absurd (d (ap key (e ∙ sym f)))
  neighbours_meet (x ∷ []) a b s t (inl e) (inr f) hs ht d = absurd f
  neighbours_meet (x ∷ []) a b s t (inr e) mt hs ht d = absurd e
  neighbours_meet (x ∷ y ∷ ys) a b s t (inl e) (inl f) hs ht d = absurd (d (ap key (e ∙ sym f)))
  neighbours_meet (x ∷ y ∷ ys) a b s t (inl e) (inr f) hs ht d =
      first_too x y ys a b t f (subst Through e hs) ht (λ g. d (ap key e ∙ g)) (neighbours_meet (y ∷ ys) a.1 (λ u v w i j k. b u v w (inr i) (inr j) (inr k)))
  neighbours_meet (x ∷ y ∷ ys) a b s t (inr e) (inl f) hs ht d =
      first_too x y ys a b s e (subst Through f ht) hs (λ g. d (sym g ∙ ap key (sym f))) (neighbours_meet (y ∷ ys) a.1 (λ u v w i j k. b u v w (inr i) (inr j) (inr k)))
  neighbours_meet (x ∷ y ∷ ys) a b s t (inr e) (inr f) hs ht d =
      later x y ys (neighbours_meet (y ∷ ys) a.1 (λ u v w i j k. b u v w (inr i) (inr j) (inr k)) s t e f hs ht d)

-- The entries of an ordered map of points: what an insertion adds and keeps, and what a look for a point tells.
use Rattle.std.proofs.Common.{◌≡◌, Bool, true, false, cond, is_eq, is_some, Some, List, [], ◌∷◌, inl, inr, ◌⊎◌, refl, sym, ap, ◌∙◌, Ordering, Less, Equal, Greater}
use Rattle.std.specs.BTreeMap.{insert_entry}
use Rattle.std.specs.Map.{keys_of, lookup}
use Rattle.std.specs.Ordering.{match_ordering}
use Rattle.std.proofs.lemmas.Cmp.{tied_itself}
use Rattle.exact_plane.specs.Point.{Point}
use Rattle.exact_plane.specs.PointOrder.{point_cmp}
use Rattle.exact_plane.specs.PointOrderLaws.{point_cmp_total, same_point}
use Rattle.plane_graphs.specs.Ascending.{Member}
use Rattle.integers.proofs.Tests.{is_equal}

module _ {X : Type 0} where
  -- an entry's key is among the keys
  pub key_of_entry : (es : List (Point × X)) (p : Point) (x : X) → Member (p, x) es → Member p (keys_of es)
  key_of_entry [] p x m = absurd m
  key_of_entry (e ∷ es) p x (inl i) = inl (ap (λ (f : Point × X). f.0) i)
  key_of_entry (e ∷ es) p x (inr m) = inr (key_of_entry es p x m)

  -- a key has an entry
  pub entry_of_key : (es : List (Point × X)) (p : Point) → Member p (keys_of es) → (x : X) × Member (p, x) es
  entry_of_key [] p m = absurd m
  entry_of_key (e ∷ es) p (inl i) = (e.1, inl (λ j. (i j, e.1)))
  entry_of_key (e ∷ es) p (inr m) = let w = entry_of_key es p m in (w.0, inr w.1)

  module _ (k : Point) (x : X) where
    -- ---- keys stay
    kept_by : (o : Ordering) (e : Point × X) (es fs : List (Point × X)) → point_cmp k e.0 ≡ o → ((p : Point) → Member p (keys_of es) → Member p (keys_of fs)) → (p : Point) → Member p (keys_of (e ∷ es)) → Member p (keys_of (match_ordering o ((k, x) ∷ e ∷ es) ((e.0, x) ∷ es) (e ∷ fs)))
    kept_by Less e es fs i f p m = inr m
    kept_by Equal e es fs i f p m = m
    kept_by Greater e es fs i f p (inl j) = inl j
    kept_by Greater e es fs i f p (inr m) = inr (f p m)

    pub keys_kept : (es : List (Point × X)) (p : Point) → Member p (keys_of es) → Member p (keys_of (insert_entry point_cmp es k x))
    keys_kept [] p m = absurd m
    keys_kept (e ∷ es) p m = kept_by (point_cmp k e.0) e es (insert_entry point_cmp es k x) refl (keys_kept es) p m

    -- ---- the new key is there
    there_by : (o : Ordering) (e : Point × X) (es fs : List (Point × X)) → point_cmp k e.0 ≡ o → Member k (keys_of fs) → Member k (keys_of (match_ordering o ((k, x) ∷ e ∷ es) ((e.0, x) ∷ es) (e ∷ fs)))
    there_by Less e es fs i m = inl refl
    there_by Equal e es fs i m = inl (same_point k e.0 i)
    there_by Greater e es fs i m = inr m

    pub key_there : (es : List (Point × X)) → Member k (keys_of (insert_entry point_cmp es k x))
    key_there [] = inl refl
    key_there (e ∷ es) = there_by (point_cmp k e.0) e es (insert_entry point_cmp es k x) refl (key_there es)

    -- ---- an entry is the new one, or an old one
    from_by : (o : Ordering) (e : Point × X) (es fs : List (Point × X)) (p : Point) (y : X) → point_cmp k e.0 ≡ o → (Member (p, y) fs → ((p ≡ k) × (y ≡ x)) ⊎ Member (p, y) es) → Member (p, y) (match_ordering o ((k, x) ∷ e ∷ es) ((e.0, x) ∷ es) (e ∷ fs)) → ((p ≡ k) × (y ≡ x)) ⊎ Member (p, y) (e ∷ es)
    from_by Less e es fs p y i f (inl j) = inl (ap (λ (g : Point × X). g.0) j, ap (λ (g : Point × X). g.1) j)
    from_by Less e es fs p y i f (inr m) = inr m
    from_by Equal e es fs p y i f (inl j) = inl (ap (λ (g : Point × X). g.0) j ∙ sym (same_point k e.0 i), ap (λ (g : Point × X). g.1) j)
    from_by Equal e es fs p y i f (inr m) = inr (inr m)
    from_by Greater e es fs p y i f (inl j) = inr (inl j)
    from_by Greater e es fs p y i f (inr m) = elim (f m) [ inl a ↦ inl a | inr n ↦ inr (inr n) ]

    pub entry_from : (es : List (Point × X)) (p : Point) (y : X) → Member (p, y) (insert_entry point_cmp es k x) → ((p ≡ k) × (y ≡ x)) ⊎ Member (p, y) es
    entry_from [] p y (inl j) = inl (ap (λ (g : Point × X). g.0) j, ap (λ (g : Point × X). g.1) j)
    entry_from [] p y (inr m) = absurd m
    entry_from (e ∷ es) p y m = from_by (point_cmp k e.0) e es (insert_entry point_cmp es k x) p y refl (entry_from es p y) m

  -- ---- what a look for a point tells
  module _ (p : Point) where
    found_by : (b : Bool) (e : Point × X) (es : List (Point × X)) → is_eq (point_cmp p e.0) ≡ b → (is_some (lookup (λ q. is_eq (point_cmp p q)) es) ≡ true → Member p (keys_of es)) → is_some (cond b (Some e.1) (lookup (λ q. is_eq (point_cmp p q)) es)) ≡ true → Member p (keys_of (e ∷ es))
    found_by true e es i f h = inl (same_point p e.0 (is_equal (point_cmp p e.0) i))
    found_by false e es i f h = inr (f h)

    pub looked_up : (es : List (Point × X)) → is_some (lookup (λ q. is_eq (point_cmp p q)) es) ≡ true → Member p (keys_of es)
    looked_up [] h = absurd cc
    looked_up (e ∷ es) h = found_by (is_eq (point_cmp p e.0)) e es refl (looked_up es) h

    missed_by : (b : Bool) (e : Point × X) (es : List (Point × X)) → is_eq (point_cmp p e.0) ≡ b → (Member p (keys_of es) → is_some (lookup (λ q. is_eq (point_cmp p q)) es) ≡ true) → Member p (keys_of (e ∷ es)) → is_some (cond b (Some e.1) (lookup (λ q. is_eq (point_cmp p q)) es)) ≡ true
    missed_by true e es i f m = refl
    missed_by false e es i f (inl j) = absurd (no (sym i ∙ ap (λ q. is_eq (point_cmp p q)) (sym j) ∙ ap is_eq (tied_itself point_cmp_total p)))
      where
        no : false ≡ true → ⊥
        no z = cc
    missed_by false e es i f (inr m) = f m

    pub is_there : (es : List (Point × X)) → Member p (keys_of es) → is_some (lookup (λ q. is_eq (point_cmp p q)) es) ≡ true
    is_there [] m = absurd m
    is_there (e ∷ es) m = missed_by (is_eq (point_cmp p e.0)) e es refl (is_there es) m

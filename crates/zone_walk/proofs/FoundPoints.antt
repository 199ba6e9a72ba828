-- What comes to the points that a search has found, what goes, and what stays.
use Rattle.std.proofs.Common.{◌≡◌, ◌≢◌, ◌⊎◌, ⊎_elim, true, is_eq, Equal, List, ◌∷◌, Option, None, Some, sym, ap, ◌∙◌, subst, inl, inr}
use Rattle.std.proofs.lemmas.Cmp.{tied_itself}
use Rattle.std.specs.Map.{keys_of, lookup, remove_entry}
use Rattle.exact_plane.specs.Point.{Point, point_eq}
use Rattle.exact_plane.specs.PointOrder.{point_cmp}
use Rattle.exact_plane.specs.PointOrderLaws.{point_cmp_ties, point_cmp_total}
use Rattle.plane_graphs.specs.Ascending.{Member}
use Rattle.plane_graphs.specs.Line.{precedes}
use Rattle.plane_graphs.proofs.Order.{Lt, lt_in, lt_out, lt_trans}
use Rattle.dcel_records.specs.declared.spot.Spot.{Spot}
use Rattle.zone_walk.specs.FoundPoints.{entries_of, HasOthers, IsFirstOf}
use Rattle.zone_walk.specs.declared.plan.Meeting.{Meeting}
use Rattle.zone_walk.proofs.Entries.{key_of_entry}
use Rattle.zone_walk.proofs.Nexts.{none_there, others_kept, removed_from}

abbrev Entries : Type 0
Entries = List (Point × Spot)

-- ---- a point comes
-- the others become more
pub more_kept : (a : Option Meeting) (es fs : Entries) → ((p : Point) → Member p (keys_of es) → Member p (keys_of fs)) → (p : Point) → Member p (keys_of (entries_of a es)) → Member p (keys_of (entries_of a fs))
more_kept None es fs h p i = h p i
more_kept (Some m) es fs h p (inl i) = inl i
more_kept (Some m) es fs h p (inr k) = inr (h p k)

pub there_among : (a : Option Meeting) (fs : Entries) (p : Point) → Member p (keys_of fs) → Member p (keys_of (entries_of a fs))
there_among None fs p i = i
there_among (Some m) fs p i = inr i

pub more_only : (a : Option Meeting) (es fs : Entries) (q : Point) (spot : Spot) → ((p : Point) (at : Spot) → Member (p, at) fs → ((p ≡ q) × (at ≡ spot)) ⊎ Member (p, at) es) → (p : Point) (at : Spot) → Member (p, at) (entries_of a fs) → Member (p, at) (entries_of a es) ⊎ ((p ≡ q) × (at ≡ spot))
more_only None es fs q spot h p at i = ⊎_elim (λ n. inr n) (λ k. inl k) (h p at i)
more_only (Some m) es fs q spot h p at (inl i) = inl (inl i)
more_only (Some m) es fs q spot h p at (inr k) = ⊎_elim (λ n. inr n) (λ o. inl (inr o)) (h p at k)

-- ---- the first one goes
first_key : (o : Meeting) (fs : Entries) (r : Point) → Member r (keys_of ((o.point, o.spot) ∷ fs)) → r ≢ o.point → Member r (keys_of fs)
first_key o fs r (inl i) d = absurd (d i)
first_key o fs r (inr k) d = k

module _ (a : Option Meeting) (es fs : Entries) (o : Meeting) (is : es ≡ (o.point, o.spot) ∷ fs) (before : (r : Point) → Member r (keys_of fs) → precedes o.point r ≡ true) (m : Meeting) (one : a ≡ Some m) where
  all_old : (new : Entries) (n : Meeting) → IsFirstOf ((m.point, m.spot) ∷ (o.point, o.spot) ∷ fs) new n → IsFirstOf (entries_of a es) new n
  all_old new n h = subst (λ (b : Option Meeting). IsFirstOf (entries_of b es) new n) (sym one) (subst (λ (xs : Entries). IsFirstOf ((m.point, m.spot) ∷ xs) new n) (sym is) h)

  -- the one apart is the first: the other one is kept apart in its place
  pub first_apart : Lt m.point o.point → IsFirstOf (entries_of a es) (entries_of (Some o) fs) m
  first_apart l = all_old (entries_of (Some o) fs) m (record { there = inl (λ i. (m.point, m.spot)); before = later; only = λ r at k. inr k; kept = first_key m ((o.point, o.spot) ∷ fs) })
    where
      later : (r : Point) → Member r (keys_of ((o.point, o.spot) ∷ fs)) → precedes m.point r ≡ true
      later r (inl i) = lt_in (subst (λ (x : Point). Lt m.point x) (sym i) l)
      later r (inr k) = lt_in (lt_trans l (lt_out o.point r (before r k)))

  -- both are at one point
  pub first_both : m.point ≡ o.point → IsFirstOf (entries_of a es) fs o
  first_both e = all_old fs o (record { there = inr (inl (λ i. (o.point, o.spot))); before = before; only = λ r at k. inr (inr k); kept = left })
    where
      left : (r : Point) → Member r (keys_of ((m.point, m.spot) ∷ (o.point, o.spot) ∷ fs)) → r ≢ o.point → Member r (keys_of fs)
      left r (inl i) d = absurd (d (i ∙ e))
      left r (inr k) d = first_key o fs r k d

-- ---- one point goes
pub gone : (q : Point) (es fs : Entries) → fs ≡ remove_entry (λ k. is_eq (point_cmp q k)) es → lookup (λ k. is_eq (point_cmp q k)) fs ≡ None → HasOthers q es fs
gone q es fs e none = record {
  only = λ r at i. (removed_from q es r at (subst (λ (xs : Entries). Member (r, at) xs) e i), λ same. none_there q fs none (subst (λ (x : Point). Member x (keys_of fs)) same (key_of_entry fs r at i)));
  kept = λ r i d. subst (λ (xs : Entries). Member r (keys_of xs)) (sym e) (others_kept q es r d i);
}

pub are_equal : (p q : Point) → p ≡ q → point_eq p q ≡ true
are_equal p q e = point_cmp_ties p q ∙ ap is_eq (subst (λ (x : Point). point_cmp p x ≡ Equal) e (tied_itself point_cmp_total p))

module _ (q : Point) (es fs : Entries) (h : HasOthers q es fs) where
  pub none_apart : (a : Option Meeting) → a ≡ None → HasOthers q (entries_of a es) (entries_of a fs)
  none_apart a none = subst (λ (b : Option Meeting). HasOthers q (entries_of b es) (entries_of b fs)) (sym none) h

  pub apart_goes : (a : Option Meeting) (m : Meeting) → a ≡ Some m → m.point ≡ q → HasOthers q (entries_of a es) fs
  apart_goes a m one e = subst (λ (b : Option Meeting). HasOthers q (entries_of b es) fs) (sym one) (record { only = λ r at k. let w = h.only r at k in (inr w.0, w.1); kept = left })
    where
      left : (r : Point) → Member r (keys_of ((m.point, m.spot) ∷ es)) → r ≢ q → Member r (keys_of fs)
      left r (inl i) d = absurd (d (i ∙ e))
      left r (inr k) d = h.kept r k d

  pub apart_stays : (a : Option Meeting) (m : Meeting) → a ≡ Some m → m.point ≢ q → HasOthers q (entries_of a es) (entries_of a fs)
  apart_stays a m one n = subst (λ (b : Option Meeting). HasOthers q (entries_of b es) (entries_of b fs)) (sym one) (record { only = from; kept = left })
    where
      from : (r : Point) (at : Spot) → Member (r, at) ((m.point, m.spot) ∷ fs) → Member (r, at) ((m.point, m.spot) ∷ es) × (r ≢ q)
      from r at (inl i) = (inl i, λ e. n (sym (ap (λ (x : Point × Spot). x.0) i) ∙ e))
      from r at (inr k) = let w = h.only r at k in (inr w.0, w.1)

      left : (r : Point) → Member r (keys_of ((m.point, m.spot) ∷ es)) → r ≢ q → Member r (keys_of ((m.point, m.spot) ∷ fs))
      left r (inl i) d = inl i
      left r (inr k) d = inr (h.kept r k d)

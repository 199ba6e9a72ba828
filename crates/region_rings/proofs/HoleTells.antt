-- A ring is a hole exactly where it turns wide at some place of its least corner.
use Rattle.std.proofs.Common.{◌≡◌, ◌≢◌, ℕ, ◌+◌, ◌<◌, inl, inr, Bool, true, false, cond, ◌&&◌, arith, refl, sym, ap, ◌∙◌, subst, Ordering, Less, Equal, Greater, List, length, is_lt}
use Rattle.std.specs.Ordering.{ordering_reverse}
use Rattle.std.specs.Cmp.{tied_itself}
use Rattle.std.proofs.lemmas.Bool.{cases_lt}
use Rattle.integers.proofs.Tests.{is_less}
use Rattle.exact_plane.specs.Point.{Point, point_eq}
use Rattle.exact_plane.specs.PointOrder.{point_cmp}
use Rattle.exact_plane.specs.PointOrderLaws.{point_cmp_total, same_point, point_cmp_ties, and_true, one_point}
use Rattle.std.specs.Ordering.{is_eq}
use Rattle.region_rings.specs.Holes.{corner_in, turns_wide, lesser_place, is_wide_at, IsLeastAt, IsHole}

pub never : (p : Point) → point_cmp p p ≡ Less → ⊥
never p h = let t = tied_itself point_cmp_total p in cc

pub not_less : (o : Ordering) → is_lt o ≡ false → o ≢ Less
not_less o h e = let f : true ≡ false = ap is_lt (sym e) ∙ h in cc

-- the least corner of the first ones, one more of them
module _ (ps : List Point) (n m : ℕ) (least : (j : ℕ) → j < n → point_cmp (corner_in ps j) (corner_in ps m) ≢ Less) where
  by_test : (b : Bool) → is_lt (point_cmp (corner_in ps n) (corner_in ps m)) ≡ b → (j : ℕ) → j < n + 1 → point_cmp (corner_in ps j) (corner_in ps (cond b n m)) ≢ Less
  by_test true t j l h = elim (cases_lt j n) [
    | inl a ↦ least j a (point_cmp_total.trans (corner_in ps j) (corner_in ps n) (corner_in ps m) h (is_less (point_cmp (corner_in ps n) (corner_in ps m)) t))
    | inr a ↦ (let q : j ≡ n = omega arith in never (corner_in ps n) (subst (λ k. point_cmp (corner_in ps k) (corner_in ps n) ≡ Less) q h))
  ]
  by_test false t j l h = elim (cases_lt j n) [
    | inl a ↦ least j a h
    | inr a ↦ (let q : j ≡ n = omega arith in not_less (point_cmp (corner_in ps n) (corner_in ps m)) t (subst (λ k. point_cmp (corner_in ps k) (corner_in ps m) ≡ Less) q h))
  ]

  pub one_more : (j : ℕ) → j < n + 1 → point_cmp (corner_in ps j) (corner_in ps (lesser_place ps n m)) ≢ Less
  one_more = by_test (is_lt (point_cmp (corner_in ps n) (corner_in ps m))) refl

-- ---- a corner that is least
module _ (ps : List Point) (m : ℕ) (within : m < length ps) (least : IsLeastAt ps m) where
  pub both_least : (i : ℕ) → i < length ps → IsLeastAt ps i → (o : Ordering) → point_cmp (corner_in ps i) (corner_in ps m) ≡ o → corner_in ps i ≡ corner_in ps m
  both_least i l h Less e = absurd (least i l e)
  both_least i l h Equal e = same_point (corner_in ps i) (corner_in ps m) e
  both_least i l h Greater e = absurd (h m within (point_cmp_total.antisymm (corner_in ps m) (corner_in ps i) ∙ ap ordering_reverse e))

  eq_itself : (p : Point) → point_eq p p ≡ true
  eq_itself p = point_cmp_ties p p ∙ ap is_eq (tied_itself point_cmp_total p)

  pub found : (i : ℕ) → i < length ps → is_wide_at ps (corner_in ps m) i ≡ true → IsHole ps
  found i l h =
      let p = and_true (point_eq (corner_in ps i) (corner_in ps m)) (turns_wide ps i) h in
      let e = one_point (corner_in ps i) (corner_in ps m) p.0 in
      record {
        at = i;
        within = l;
        least = λ j k q. least j k (subst (λ (v : Point). point_cmp (corner_in ps j) v ≡ Less) e q);
        wide = p.1;
      }

  wide_there : (h : IsHole ps) → is_wide_at ps (corner_in ps m) h.at ≡ true
  wide_there h =
      let e = both_least h.at h.within h.least (point_cmp (corner_in ps h.at) (corner_in ps m)) refl in
      (λ i. point_eq (e i) (corner_in ps m) && h.wide i) ∙ ap (λ b. b && true) (eq_itself (corner_in ps m))

  pub none : ((j : ℕ) → j < length ps → is_wide_at ps (corner_in ps m) j ≡ false) → IsHole ps → ⊥
  none f h = let e : true ≡ false = sym (wide_there h) ∙ f h.at h.within in cc

pub clash : {A : Type 0} → false ≡ true → A
clash e = absurd cc

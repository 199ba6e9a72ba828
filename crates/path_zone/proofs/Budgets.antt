-- A number for each side, no less than the looks that its zone takes at most: they are enough in any order.
use Rattle.std.proofs.Common.{◌≡◌, ℕ, zero, suc, ◌+◌, ◌≤◌, List, [], ◌∷◌, length, drop, get_or, refl, sym, ap, ◌∙◌, subst, inl, inr, arith}
use Rattle.std.specs.Prelude.{⊤}
use Rattle.std.specs.List.{sum_by}
use Rattle.std.proofs.lemmas.List.Sorted.{Contains-permutation, IsPermutation-sym, sum_by-IsPermutation}
use Rattle.std.proofs.lemmas.List.Sums.{sum_by-cons}
use Rattle.exact_plane.specs.Segment.{Segment}
use Rattle.plane_graphs.specs.Ascending.{Member}
use Rattle.plane_graphs.proofs.Ascending.{from_member, to_member}
use Rattle.slab_laws.specs.View.{View, Faces}
use Rattle.zone_walk.specs.Zone.{meeting_points, CoversVisits}
use Rattle.path_zone.specs.declared.order.BegunSide.{BegunSide}
use Rattle.path_zone.specs.Begun.{sides_of, AreInSweepOrder, ArePlaced, Fits}
use Rattle.path_zone.specs.PathZone.{looks_along, CoverAllVisits}

abbrev total : List ℕ → ℕ
total [] = 0
total (k ∷ ks) = k + total ks

-- the number at the side's place
abbrev at_place : List ℕ → BegunSide → ℕ
at_place ks b = get_or ks b.place 0

at_drop : (all : List ℕ) (j k : ℕ) (ks : List ℕ) → drop j all ≡ k ∷ ks → (get_or all j 0 ≡ k) × (drop (suc j) all ≡ ks)
at_drop [] zero k ks e = absurd (omega (arith, ap length e))
at_drop [] (suc j) k ks e = absurd (omega (arith, ap length e))
at_drop (x ∷ xs) zero k ks e = (ap (λ l. get_or l 0 0) e, ap (drop 1) e)
at_drop (x ∷ xs) (suc j) k ks e = at_drop xs j k ks e

module _ (v : View) (f : Faces) where
  abbrev AreBudgets : List Segment → List ℕ → Type 0
  AreBudgets [] [] = ⊤
  AreBudgets (s ∷ ss) (k ∷ ks) = ((m : ℕ) × CoversVisits v f s (meeting_points v s) m × (m + looks_along v s ≤ k)) × AreBudgets ss ks
  AreBudgets ss ks = ⊥

  budgets : (ss : List Segment) (n : ℕ) → CoverAllVisits v f ss n → (ks : List ℕ) × AreBudgets ss ks × (total ks ≤ n + sum_by (looks_along v) ss)
  budgets [] n c = ([], tt, omega arith)
  budgets (s ∷ ss) n (k, m, here, later, fits) =
      let r = budgets ss m later in
      let l = r.2 in
      let e = sum_by-cons (looks_along v) s ss in
      ((k + looks_along v s) ∷ r.0, ((k, here, omega arith), r.1), omega (arith, l, e, fits))

  in_places : (all : List ℕ) (j : ℕ) (bs : List BegunSide) (ks : List ℕ) → ArePlaced j bs → drop j all ≡ ks → AreBudgets (sides_of bs) ks → (sum_by (at_place all) bs ≡ total ks) × ((b : BegunSide) → Member b bs → Fits v f (at_place all) b)
  in_places all j [] [] p e a = (refl, λ b m. absurd m)
  in_places all j [] (k ∷ ks) p e a = absurd a
  in_places all j (c ∷ bs) [] p e a = absurd a
  in_places all j (c ∷ bs) (k ∷ ks) p e a =
      let d = at_drop all j k ks e in
      let r = in_places all (suc j) bs ks p.1 d.1 a.1 in
      let here : at_place all c ≡ k = ap (λ n. get_or all n 0) p.0 ∙ d.0 in
      let sum = sum_by-cons (at_place all) c bs in
      let rest = r.0 in
      (omega (arith, here, sum, rest), each here r.1)
    where
      each : at_place all c ≡ k → ((b : BegunSide) → Member b bs → Fits v f (at_place all) b) → (b : BegunSide) → Member b (c ∷ bs) → Fits v f (at_place all) b
      each here later b (inl q) = subst (Fits v f (at_place all)) (sym q) (record { visits = a.0.0; covers = a.0.1; enough = subst (λ n. a.0.0 + looks_along v c.side ≤ n) (sym here) a.0.2 })
      each here later b (inr m) = later b m

  pub affordable : (ss : List Segment) (bs : List BegunSide) → AreInSweepOrder v f ss bs → (n : ℕ) → CoverAllVisits v f ss n → (g : BegunSide → ℕ) × ((b : BegunSide) → Member b bs → Fits v f g b) × (sum_by g bs ≤ n + sum_by (looks_along v) ss)
  affordable ss bs w n c =
      let r = budgets ss n c in
      let p = in_places r.0 0 w.unsorted r.0 w.begun.places refl (subst (λ rs. AreBudgets rs r.0) (sym w.begun.sides) r.1) in
      let moved = sum_by-IsPermutation (at_place r.0) w.unsorted bs w.moved in
      let sum = p.0 in
      let l = r.2 in
      (at_place r.0, λ b m. p.1 b (to_member w.unsorted b (Contains-permutation bs w.unsorted b (IsPermutation-sym w.unsorted bs w.moved) (from_member bs b m))), omega (arith, moved, sum, l))

-- The first end of a vertex, end by end.
use Rattle.std.proofs.Common.{◌≡◌, ◌≢◌, ℕ, ◌+◌, ◌-◌, ◌<◌, inl, inr, Bool, true, false, not, arith, refl, sym, ap, ◌∙◌, subst, List, length, get_or}
use Rattle.std.specs.Prelude.{slice_set}
use Rattle.std.proofs.lemmas.Bool.{cases_lt}
use Rattle.std.proofs.lemmas.List.{get_or-set_same, get_or-set_other}
use Rattle.exact_plane.specs.Point.{Point, point_eq}
use Rattle.exact_plane.specs.PointOrder.{point_cmp}
use Rattle.exact_plane.specs.PointOrderLaws.{one_point}
use Rattle.region_rings.specs.declared.spokes.Spoke.{Spoke}
use Rattle.region_rings.specs.Spokes.{spoke_in, AreSpokes}
use Rattle.region_rings.specs.Nexts.{vertex_at, IsFirstAt, IsLinkFrom}
use Rattle.region_rings.proofs.Links.{in_at, one_in}

pub goes_on : (ss : List Spoke) (i f : ℕ) → 0 < i → IsFirstAt ss (i - 1) f → vertex_at ss (i - 1) ≡ vertex_at ss i → IsFirstAt ss i f
goes_on ss i f l h e = record {
  upto = let u = h.upto in omega arith;
  same = λ k m n. elim (cases_lt k i) [
    | inl a ↦ h.same k m (omega arith) ∙ e
    | inr a ↦ (let q : k ≡ i = omega arith in ap (vertex_at ss) q)
  ];
  first = h.first;
}

-- one dart more that comes in and is followed
module _ (ds : List (Point × Point)) (ss : List Spoke) (s : AreSpokes ds ss) (n : ℕ) (l : n < length ss) (now : List ℕ) (counted : length now ≡ length ds) (each : (i : ℕ) → i < n → (spoke_in ss i).is_out ≡ false → IsLinkFrom ss i (get_or now (spoke_in ss i).dart 0)) where
  pub out_kept : (spoke_in ss n).is_out ≡ true → (i : ℕ) → i < n + 1 → (spoke_in ss i).is_out ≡ false → IsLinkFrom ss i (get_or now (spoke_in ss i).dart 0)
  out_kept o i m p = elim (cases_lt i n) [
    | inl a ↦ each i a p
    | inr a ↦ (let q : i ≡ n = omega arith in absurd (clash (sym p ∙ ap (λ k. (spoke_in ss k).is_out) q ∙ o)))
  ]
    where
      clash : false ≡ true → ⊥
      clash e = cc

  pub dart_in : (spoke_in ss n).is_out ≡ false → (spoke_in ss n).dart < length now
  dart_in o = subst (λ (m : ℕ). (spoke_in ss n).dart < m) (sym counted) (in_at ds ss s n l o).0

  module _ (o : (spoke_in ss n).is_out ≡ false) (k : ℕ) (link : IsLinkFrom ss n k) (new : List ℕ) (e : new ≡ slice_set now (spoke_in ss n).dart k) where
    pub one_linked : (i : ℕ) → i < n + 1 → (spoke_in ss i).is_out ≡ false → IsLinkFrom ss i (get_or new (spoke_in ss i).dart 0)
    one_linked i m p = elim (cases_lt i n) [
      | inl a ↦ (
          let other : (spoke_in ss i).dart ≢ (spoke_in ss n).dart = λ q. (let w = one_in ds ss s i n (omega arith) l p o q in absurd (omega arith)) in
          subst (IsLinkFrom ss i) (sym (ap (λ xs. get_or xs (spoke_in ss i).dart 0) e ∙ get_or-set_other now (spoke_in ss n).dart (spoke_in ss i).dart k 0 other)) (each i a p))
      | inr a ↦ (
          let q : n ≡ i = omega arith in
          subst (λ j. IsLinkFrom ss j (get_or new (spoke_in ss j).dart 0)) q (subst (IsLinkFrom ss n) (sym (ap (λ xs. get_or xs (spoke_in ss n).dart 0) e ∙ get_or-set_same now (spoke_in ss n).dart k 0 (dart_in o))) link))
    ]

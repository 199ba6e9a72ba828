-- The darts of each face, one dart more.
use Rattle.std.proofs.Common.{◌≡◌, ℕ, ◌+◌, ◌<◌, arith, sym, ap, ◌∙◌, subst, inl, inr, List, [], ◌∷◌, ◌++◌, length, get_or}
use Rattle.std.specs.Prelude.{Option, None, Some, slice_set}
use Rattle.std.proofs.lemmas.Bool.{cases_lt, cases_eq}
use Rattle.std.proofs.lemmas.List.{get_or-set_same, get_or-set_other, length-set, get_or_append_left, get_or_push, length-append}
use Rattle.polygon_sets.specs.declared.chains.Chains.{Chains}
use Rattle.polygon_sets.specs.declared.crossings.Crossing.{Crossing}
use Rattle.polygon_sets.specs.Crossings.{crossing_at}
use Rattle.polygon_sets.specs.Chains.{IsLastOf, AreChains}

-- of the first n darts
pub record AreChainsUpto (cs : List Crossing) (faces n : ℕ) (last before : List (Option ℕ)) : Type 0 where
  pub of_faces : length last ≡ faces
  pub of_darts : length before ≡ n
  pub ends : (f : ℕ) → f < faces → IsLastOf cs f n (get_or last f None)
  pub each : (k : ℕ) → k < n → IsLastOf cs (crossing_at cs k).left k (get_or before k None)

module _ (cs : List Crossing) (faces : ℕ) where
  pub no_chains : (last before : List (Option ℕ)) → length last ≡ faces → ((f : ℕ) → f < faces → get_or last f None ≡ None) → length before ≡ 0 → AreChainsUpto cs faces 0 last before
  no_chains last before l e m = record {
    of_faces = l;
    of_darts = m;
    ends = λ f h. subst (IsLastOf cs f 0) (sym (e f h)) (λ j k. absurd (omega arith));
    each = λ k h. absurd (omega arith);
  }

  pub all_chains : (n : ℕ) (chains : Chains) → n ≡ length cs → AreChainsUpto cs faces n chains.last.items chains.before.items → AreChains cs faces chains
  all_chains n chains e t = record {
    of_faces = t.of_faces;
    of_darts = t.of_darts ∙ e;
    last = λ f h. subst (λ m. IsLastOf cs f m (get_or chains.last.items f None)) e (t.ends f h);
    before = λ k h. t.each k (omega arith);
  }

  -- a dart of another face changes nothing
  kept : (f n : ℕ) (o : Option ℕ) → ((crossing_at cs n).left ≡ f → ⊥) → IsLastOf cs f n o → IsLastOf cs f (n + 1) o
  kept f n None other h = λ j l q. elim (cases_lt j n) [
    | inl a ↦ h j a q
    | inr a ↦ (let e : j ≡ n = omega arith in other (subst (λ i. (crossing_at cs i).left ≡ f) e q))
  ]
  kept f n (Some k) other h = (
    let a = h.0 in omega arith,
    h.1,
    λ j a l q. elim (cases_lt j n) [
      | inl b ↦ h.2 j a b q
      | inr b ↦ (let e : j ≡ n = omega arith in other (subst (λ i. (crossing_at cs i).left ≡ f) e q))
    ],
  )

  pub one_chained : (n f : ℕ) (o : Option ℕ) (last before new more : List (Option ℕ)) → f ≡ (crossing_at cs n).left → f < faces → o ≡ get_or last f None → more ≡ before ++ o ∷ [] → new ≡ slice_set last f (Some n) → AreChainsUpto cs faces n last before → AreChainsUpto cs faces (n + 1) new more
  one_chained n f o last before new more at within read grown put t = record {
    of_faces = ap length put ∙ length-set last f (Some n) ∙ t.of_faces;
    of_darts = ap length grown ∙ length-append before (o ∷ []) ∙ ap (λ k. k + 1) t.of_darts;
    ends = λ g l. elim (cases_eq g f) [
      | inl e ↦
          let x : get_or new g None ≡ Some n = ap (λ xs. get_or xs g None) put ∙ ap (λ k. get_or (slice_set last f (Some n)) k None) e ∙ get_or-set_same last f (Some n) None (let y = t.of_faces in omega arith) in
          subst (IsLastOf cs g (n + 1)) (sym x) (omega arith, sym at ∙ sym e, λ j a b. absurd (omega arith))
      | inr e ↦
          let x : get_or new g None ≡ get_or last g None = ap (λ xs. get_or xs g None) put ∙ get_or-set_other last f g (Some n) None e in
          subst (IsLastOf cs g (n + 1)) (sym x) (kept g n (get_or last g None) (λ q. e (sym q ∙ sym at)) (t.ends g l))
    ];
    each = λ k l. elim (cases_lt k n) [
      | inl a ↦
          let x : get_or more k None ≡ get_or before k None = ap (λ xs. get_or xs k None) grown ∙ get_or_append_left before (o ∷ []) None k (let y = t.of_darts in omega arith) in
          subst (IsLastOf cs (crossing_at cs k).left k) (sym x) (t.each k a)
      | inr a ↦
          let e : n ≡ k = omega arith in
          let x : get_or more n None ≡ get_or last f None = ap (λ xs. get_or xs n None) grown ∙ get_or_push before o None n t.of_darts ∙ read in
          subst (λ i. IsLastOf cs (crossing_at cs i).left i (get_or more i None)) e
          (subst (IsLastOf cs (crossing_at cs n).left n) (sym x) (subst (λ g. IsLastOf cs g n (get_or last f None)) at (t.ends f within)))
    ];
  }

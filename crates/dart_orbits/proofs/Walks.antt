-- A cycle is walked: until the walk comes back, the numbers that have a lead are whole but for where it stands.
use Rattle.std.proofs.Common.{◌≡◌, ◌≢◌, ℕ, ◌<◌, cond, arith, refl, sym, ap, ◌∙◌, subst, ◌⊎◌, inl, inr, List, length, get_or}
use Rattle.std.specs.Prelude.{slice_set, ◌==◌}
use Rattle.std.specs.List.{count_by}
use Rattle.std.proofs.lemmas.Bool.{cases_eq}
use Rattle.std.proofs.lemmas.List.{length-set, get_or-set_same, get_or-set_other}
use Rattle.std.proofs.lemmas.List.Sums.{sum_by-set}
use Rattle.integers.proofs.Tests.{same_number, other_number}
use Rattle.dart_orbits.specs.Walks.{ArePermuted, IsMet, AreWhole, IsOnCycle, IsLedBy, IsMarked}

-- how many numbers have no lead
abbrev pub count_unmet : ℕ → List ℕ → ℕ
count_unmet n leads = count_by (λ x. x == n) leads

pub fewer : (n : ℕ) (now new : List ℕ) (d a : ℕ) → d < length now → get_or now d 0 ≡ n → a < n → new ≡ slice_set now d a → count_unmet n new < count_unmet n now
fewer n now new d a l e b s =
    let f : ℕ → ℕ = λ x. cond (x == n) 1 0 in
    let t = sum_by-set f now d a 0 l in
    let p : f (get_or now d 0) ≡ 1 = ap f e ∙ ap (λ c. cond c 1 0) (same_number n) in
    let q : f a ≡ 0 = ap (λ c. cond c 1 0) (other_number a n (λ h. omega arith)) in
    let r = ap (count_unmet n) s in
    omega arith

module _ (nexts : List ℕ) (first : ℕ) (old : List ℕ) where
  pub record IsWalking (now : List ℕ) (d : ℕ) : Type 0 where
    pub counted : length now ≡ length nexts
    pub within : d < length nexts
    pub kept : (k : ℕ) → k < length nexts → IsMet nexts old k → get_or now k 0 ≡ get_or old k 0
    pub marked : (k : ℕ) → k < length nexts → IsMet nexts now k → IsMet nexts old k ⊎ IsLedBy nexts first old now k
    pub on : IsOnCycle nexts first d
    pub forth : (k : ℕ) → k < length nexts → IsMet nexts now k → get_or nexts k 0 ≢ d → IsMet nexts now (get_or nexts k 0)
    pub back : (k : ℕ) → k < length nexts → IsMet nexts now (get_or nexts k 0) → get_or nexts k 0 ≢ first → IsMet nexts now k
    pub begun : (d ≡ first) ⊎ (IsMet nexts now first × (IsMet nexts old first → ⊥))
    pub ended : IsMet nexts now d → d ≡ first
    pub before : IsMet nexts now first → (k : ℕ) → k < length nexts → get_or nexts k 0 ≡ d → IsMet nexts now k

module _ (nexts : List ℕ) (perm : ArePermuted nexts) (first : ℕ) (inside : first < length nexts) (old : List ℕ) where
  pub begin : length old ≡ length nexts → AreWhole nexts old → IsWalking nexts first old old first
  begin c whole = record {
    counted = c;
    within = inside;
    kept = λ k l m. refl;
    marked = λ k l m. inl m;
    on = λ f h. refl;
    forth = λ k l m ne. (whole k l).0 m;
    back = λ k l m ne. (whole k l).1 m;
    begun = inl refl;
    ended = λ m. refl;
    before = λ m k l e. (whole k l).1 (subst (IsMet nexts old) (sym e) m);
  }

  module _ (now new : List ℕ) (d : ℕ) (h : IsWalking nexts first old now d) (unmet : get_or now d 0 ≡ length nexts) (s : new ≡ slice_set now d first) where
    there : d < length now
    there = let a = h.within in let b = h.counted in omega arith

    at_d : get_or new d 0 ≡ first
    at_d = ap (λ xs. get_or xs d 0) s ∙ get_or-set_same now d first 0 there

    other : (k : ℕ) → k ≢ d → get_or new k 0 ≡ get_or now k 0
    other k ne = ap (λ xs. get_or xs k 0) s ∙ get_or-set_other now d k first 0 ne

    met_d : IsMet nexts new d
    met_d e = let q = at_d in absurd (omega arith)

    met_on : (k : ℕ) → IsMet nexts now k → IsMet nexts new k
    met_on k m = elim (cases_eq k d) [
      | inl e ↦ absurd (m (ap (λ j. get_or now j 0) e ∙ unmet))
      | inr ne ↦ (λ q. m (sym (other k ne) ∙ q))
    ]

    met_from : (k : ℕ) → k ≢ d → IsMet nexts new k → IsMet nexts now k
    met_from k ne m q = m (other k ne ∙ q)

    -- the numbers that had a lead before are others
    not_old : (k : ℕ) → k < length nexts → IsMet nexts old k → k ≢ d
    not_old k l m e = m (sym (h.kept k l m) ∙ ap (λ j. get_or now j 0) e ∙ unmet)

    first_new : IsMet nexts old first → ⊥
    first_new m = elim h.begun [ inl e ↦ not_old first inside m (sym e) | inr b ↦ b.1 m ]

    first_met : IsMet nexts new first
    first_met = elim h.begun [ inl e ↦ subst (IsMet nexts new) e met_d | inr b ↦ met_on first b.0 ]

    one_before : (k : ℕ) → k < length nexts → get_or nexts k 0 ≡ get_or nexts d 0 → k ≡ d
    one_before k l e = perm.one k d l h.within e

    -- what d follows has a lead, unless d is the first
    follows : (k : ℕ) → k < length nexts → get_or nexts k 0 ≡ d → d ≢ first → IsMet nexts now k
    follows k l e ne = elim h.begun [ inl q ↦ absurd (ne q) | inr b ↦ h.before b.0 k l e ]

    none : IsMet nexts now d → ⊥
    none m = m unmet

    led : (k : ℕ) → k ≢ d → IsLedBy nexts first old now k → IsLedBy nexts first old new k
    led k ne b = record { unmet = b.unmet; lead = other k ne ∙ b.lead; on = b.on }

    pub step : IsWalking nexts first old new (get_or nexts d 0)
    step = record {
      counted = ap length s ∙ length-set now d first ∙ h.counted;
      within = perm.within d h.within;
      kept = λ k l m. other k (not_old k l m) ∙ h.kept k l m;
      marked = λ k l m. elim (cases_eq k d) [
        | inl e ↦ inr (subst (IsLedBy nexts first old new) (sym e) (record { unmet = first_new; lead = at_d; on = h.on }))
        | inr ne ↦ elim (h.marked k l (met_from k ne m)) [ inl a ↦ inl a | inr b ↦ inr (led k ne b) ]
      ];
      on = λ f g. g d h.within ∙ h.on f g;
      forth = λ k l m ne. elim (cases_eq k d) [
        | inl e ↦ absurd (ne (ap (λ j. get_or nexts j 0) e))
        | inr other_k ↦ elim (cases_eq (get_or nexts k 0) d) [
          | inl e ↦ subst (IsMet nexts new) (sym e) met_d
          | inr u ↦ met_on (get_or nexts k 0) (h.forth k l (met_from k other_k m) u)
        ]
      ];
      back = λ k l m ne. elim (cases_eq (get_or nexts k 0) d) [
        | inl e ↦ met_on k (follows k l e (λ q. ne (e ∙ q)))
        | inr u ↦ met_on k (h.back k l (met_from (get_or nexts k 0) u m) ne)
      ];
      begun = inr (first_met, first_new);
      ended = λ m. elim (cases_eq (get_or nexts d 0) first) [
        | inl e ↦ e
        | inr ne ↦ elim (cases_eq (get_or nexts d 0) d) [
          | inl e ↦ absurd (none (follows d h.within e (λ q. ne (e ∙ q))))
          | inr u ↦ absurd (none (h.back d h.within (met_from (get_or nexts d 0) u m) ne))
        ]
      ];
      before = λ m k l e. subst (IsMet nexts new) (sym (one_before k l e)) met_d;
    }

  pub finish : (now : List ℕ) (d : ℕ) → IsWalking nexts first old now d → get_or now d 0 ≢ length nexts → IsMarked nexts first old now
  finish now d h m =
      let e = h.ended m in
      let f : IsMet nexts now first = subst (IsMet nexts now) e m in
      record {
        counted = h.counted;
        whole = λ k l. (
          (λ u. elim (cases_eq (get_or nexts k 0) d) [ inl q ↦ subst (IsMet nexts now) (sym q) m | inr ne ↦ h.forth k l u ne ]),
          (λ u. elim (cases_eq (get_or nexts k 0) first) [ inl q ↦ h.before f k l (q ∙ sym e) | inr ne ↦ h.back k l u ne ]),
        );
        met = f;
        kept = h.kept;
        marked = h.marked;
      }

-- In a ring each dart has one successor and one predecessor, and going round a vertex nears the end.
use Rattle.std.proofs.Common.{◌≡◌, ◌≢◌, ◌⊎◌, inl, inr, ℕ, Bool, true, List, sym, ◌∙◌, subst, not, ◌&&◌, ◌||◌, eqb, arith}
use Rattle.std.proofs.lemmas.Bool.{cases_eq}
use Rattle.std.proofs.lemmas.Bool.Decides.{nat_tests}
use Rattle.rotation_order.specs.RingOrder.{IsRoundOn}
use Rattle.rotation_order.specs.Ring.{Turns, Out, IsListOut, IsApart, IsAfter}
use Rattle.rotation_order.proofs.RingBest.{In, in_contains, contains_in, pick, picked}

module _ {W : Type 0} (sooner : W → W → W → Bool) (P : W → Type 0) (round : IsRoundOn sooner P) (g : Turns W) (v : ℕ) (apart : IsApart P g v) where
  -- one successor
  pub one_after : (d e f : ℕ) → Out g v d → IsAfter sooner g v d e → IsAfter sooner g v d f → e ≡ f
  one_after d e f o h k =
      elim (cases_eq e f) [
        | inl q ↦ q
        | inr ne ↦ absurd (round.apart (g.way d) (g.way e) (g.way f) (apart.inside d o) (apart.inside e h.out) (apart.inside f k.out) (h.first f k.out (λ q. ne (sym q))) (k.first e h.out ne))
      ]

  -- what follows itself is alone
  pub alone : (d c : ℕ) → Out g v c → IsAfter sooner g v d d → c ≡ d
  alone d c o h =
      let D = apart.inside d h.out in
      let C = apart.inside c o in
      elim (cases_eq c d) [ inl q ↦ q | inr ne ↦ absurd (round.apart (g.way d) (g.way d) (g.way c) D D C (h.first c o ne) (round.last (g.way d) (g.way c) D C (apart.differ c d o h.out ne))) ]

  -- one predecessor
  pub one_before : (c d e : ℕ) → Out g v c → Out g v d → IsAfter sooner g v c e → IsAfter sooner g v d e → c ≡ d
  one_before c d e oc od h k =
      elim (cases_eq c d) [
        | inl q ↦ q
        | inr ne ↦ elim (cases_eq e c) [
          | inl q ↦ sym (alone c d od (subst (λ z. IsAfter sooner g v c z) q h))
          | inr nc ↦ elim (cases_eq e d) [
            | inl q ↦ alone d c oc (subst (λ z. IsAfter sooner g v d z) q k)
            | inr nd ↦
                let C = apart.inside c oc in
                let D = apart.inside d od in
                let E = apart.inside e h.out in
                let u = h.first d od (λ q. nd (sym q)) in
                let w = k.first c oc (λ q. nc (sym q)) in
                absurd (round.apart (g.way e) (g.way d) (g.way c) E D C
                (round.turned (g.way c) (g.way e) (g.way d) C E D u (λ q. apart.differ c d oc od ne (sym q)))
                (round.turned (g.way d) (g.way e) (g.way c) D E C w (apart.differ c d oc od ne)))
          ]
        ]
      ]

  decided : (d a b : ℕ) → Out g v d → Out g v a → Out g v b → a ≢ b → (sooner (g.way d) (g.way a) (g.way b) ≡ true) ⊎ (sooner (g.way d) (g.way b) (g.way a) ≡ true)
  decided d a b od oa ob ne = round.either (g.way d) (g.way a) (g.way b) (apart.inside d od) (apart.inside a oa) (apart.inside b ob) (apart.differ a b oa ob ne)

  passed : (d a b c : ℕ) → Out g v d → Out g v a → Out g v b → Out g v c → sooner (g.way d) (g.way a) (g.way b) ≡ true → sooner (g.way d) (g.way b) (g.way c) ≡ true → sooner (g.way d) (g.way a) (g.way c) ≡ true
  passed d a b c od oa ob oc h k = round.through (g.way d) (g.way a) (g.way b) (g.way c) (apart.inside d od) (apart.inside a oa) (apart.inside b ob) (apart.inside c oc) h k

  -- the darts out of v in any order
  module _ (ds : List ℕ) (listed : IsListOut g v ds) where
    all : (c : ℕ) → In c ds → Out g v c
    all c m = (listed c).0 (in_contains ds c m)

    each : (c : ℕ) → Out g v c → In c ds
    each c o = contains_in ds c ((listed c).1 o)

    -- there is a predecessor: of all that are not e the one met last clockwise from e, or e itself, where it is alone
    later : ℕ → ℕ → ℕ → Bool
    later e a b = not (eqb a e) && (eqb b e || sooner (g.way e) (g.way b) (g.way a))

    later_in : (e a b : ℕ) → a ≢ e → (b ≢ e → sooner (g.way e) (g.way b) (g.way a) ≡ true) → later e a b ≡ true
    unfolding later
    later_in e a b ne f = elim (cases_eq b e) [ inl q ↦ grind (arith, nat_tests) | inr nb ↦ let s = f nb in grind (arith, nat_tests, s) ]

    later_out : (e a b : ℕ) → later e a b ≡ true → (a ≢ e) × (b ≢ e → sooner (g.way e) (g.way b) (g.way a) ≡ true)
    unfolding later
    later_out e a b h = (grind (arith, nat_tests), λ nb. grind (arith, nat_tests))

    later_either : (e a b : ℕ) → Out g v e → Out g v a → Out g v b → a ≢ b → (later e a b ≡ true) ⊎ (later e b a ≡ true)
    later_either e a b oe oa ob ne =
        elim (cases_eq a e) [
          | inl q ↦ inr (later_in e b a (λ s. ne (q ∙ sym s)) (λ n. absurd (n q)))
          | inr na ↦ elim (cases_eq b e) [
            | inl q ↦ inl (later_in e a b na (λ n. absurd (n q)))
            | inr nb ↦ elim (decided e b a oe ob oa (λ s. ne (sym s))) [ inl s ↦ inl (later_in e a b na (λ _. s)) | inr s ↦ inr (later_in e b a nb (λ _. s)) ]
          ]
        ]

    later_through : (e a b c : ℕ) → Out g v e → Out g v a → Out g v b → Out g v c → later e a b ≡ true → later e b c ≡ true → later e a c ≡ true
    later_through e a b c oe oa ob oc h k =
        let p = later_out e a b h in
        let q = later_out e b c k in
        later_in e a c p.0 (λ n. passed e c b a oe oc ob oa (q.1 n) (p.1 q.0))

    pub some_before : (e : ℕ) → Out g v e → (c : ℕ) × Out g v c × IsAfter sooner g v c e
    some_before e o =
        let p = picked (later e) (λ c. Out g v c) (λ a b c oa ob oc h k. later_through e a b c o oa ob oc h k) (λ a b oa ob ne. later_either e a b o oa ob ne) e ds o all in
        let r : ℕ = pick (later e) e ds in
        let R = apart.inside r p.0 in
        let E = apart.inside e o in (
          r,
          p.0,
          record {
            out = o;
            first = λ c oc ne. elim (cases_eq c r) [
              | inl q ↦ subst (λ z. sooner (g.way r) (g.way e) (g.way z) ≡ true) (sym q) (round.last (g.way r) (g.way e) R E (apart.differ e r o p.0 (λ s. ne (q ∙ sym s))))
              | inr nr ↦
                  let C = apart.inside c oc in
                  let l = later_out e r c (p.1 c (inr (each c oc)) oc nr) in
                  let a = l.1 ne in
                  let b = round.turned (g.way e) (g.way c) (g.way r) E C R a (apart.differ r e p.0 o l.0) in
                  round.turned (g.way c) (g.way r) (g.way e) C R E b (apart.differ e c o oc (λ s. ne (sym s)))
            ];
          },
        )

-- ---- a walk round a vertex nears its end: x has not the place before w, so its follower is further from w clockwise
module _ {W : Type 0} (sooner : W → W → W → Bool) (P : W → Type 0) (round : IsRoundOn sooner P) where
  pub further : (w x y : W) → P w → P x → P y → w ≢ x → w ≢ y → sooner x w y ≢ true → sooner w x y ≡ true
  further w x y pw px py nx ny miss =
      elim (round.either x w y px pw py ny) [
        | inl s ↦ absurd (miss s)
        | inr s ↦
            round.turned y w x py pw px (round.turned x y w px py pw s nx)
            (λ q. round.apart x x w px px pw (subst (λ z. sooner x z w ≡ true) (sym q) s) (round.last x w px pw nx))
      ]

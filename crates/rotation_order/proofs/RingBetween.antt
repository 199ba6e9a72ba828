-- The follower, said by the order alone: the next by it, or the first of all after the last.
use Rattle.std.proofs.Common.{◌≡◌, ◌≢◌, inl, inr, ℕ, Bool, true, false, cond, refl, sym, not, ◌&&◌, ◌||◌}
use Rattle.std.proofs.lemmas.Bool.{cases_Bool, false≢true}
use Rattle.rotation_order.specs.RingOrder.{IsStrictOn, sooner_by}
use Rattle.rotation_order.specs.Ring.{Turns, Out, IsApart, IsAfter, IsNextOrFirst, is_next, is_first}
use Rattle.integers.proofs.Tests.{not_true}

pub when_later : (p q r s : Bool) → p ≡ true → (q ≡ true → r ≡ true) → cond p (not q || r) s ≡ true
when_later true true r s a f = f refl
when_later true false r s a f = refl
when_later false q r s a f = absurd (false≢true a)

pub when_last : (p q r s : Bool) → p ≡ false → q ≡ false → r ≡ true → cond p s (not q && r) ≡ true
when_last false false r s a b c = c
when_last false true r s a b c = absurd (false≢true (sym b))
when_last true q r s a b c = absurd (false≢true (sym a))

module _ {W : Type 0} (lt : W → W → Bool) (P : W → Type 0) (strict : IsStrictOn lt P) (g : Turns W) (v : ℕ) (apart : IsApart P g v) where
  -- of two darts one comes before the other
  other : (a b : ℕ) → Out g v a → Out g v b → a ≢ b → (lt (g.way a) (g.way b) ≡ true → ⊥) → lt (g.way b) (g.way a) ≡ true
  other a b oa ob ne f =
      elim (cases_Bool (lt (g.way b) (g.way a))) [
        | inl y ↦ y
        | inr n ↦ absurd (apart.differ a b oa ob ne (strict.total (g.way a) (g.way b) (apart.inside a oa) (apart.inside b ob) (not_true _ f) n))
      ]

  pub after_of : (d e : ℕ) → Out g v e → IsNextOrFirst lt g v d e → IsAfter (sooner_by lt) g v d e
  after_of d e oe (is_next y none) = record {
    out = oe;
    first = λ c oc ne. when_later _ _ _ _ y (λ p. other c e oc oe ne (none c oc p));
  }
  after_of d e oe (is_first last none) = record {
    out = oe;
    first = λ c oc ne. when_last _ _ _ _ (not_true _ (last e oe)) (not_true _ (last c oc)) (other c e oc oe ne (none c oc));
  }

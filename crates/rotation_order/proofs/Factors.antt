-- Signs of numbers that are equal up to positive factors.
use Rattle.std.proofs.Common.{◌≡◌, false, arith, sym, ◌∙◌, [], ◌∷◌}
use Rattle.std.specs.Prelude.{ℤ, pos, ◌+ℤ◌, ◌-ℤ◌, ◌*ℤ◌, ◌<ℤ◌, ◌≤ℤ◌}
use Rattle.std.proofs.lemmas.Int.{ints, by_lt_z}
use lib.IntN.{*ℤ-zero}
use lib.Signed.{lt_z}
use Rattle.integers.proofs.Reify.{ring, sides}
use Rattle.integers.proofs.Tests.{lt_yes}
use Rattle.integers.proofs.Signs.{mul_pos'}
use Rattle.slab_faces.proofs.Ints.{times_less, less_back, lt_z-scale}

-- ---- tests of integers

pub lt_no : (a b : ℤ) → b ≤ℤ a → lt_z a b ≡ false
lt_no a b h = let e : false ≡ lt_z a b = omega (arith, ints) in sym e

pub zero_between : (a : ℤ) → lt_z a (pos 0) ≡ false → lt_z (pos 0) a ≡ false → a ≡ pos 0
zero_between a h k = omega (arith, ints)

-- a number and its opposite
pub lt_turned : (s t : ℤ) → t ≡ pos 0 -ℤ s → lt_z s (pos 0) ≡ lt_z (pos 0) t
lt_turned s t e =
    by_lt_z s (pos 0)
    (λ h. let k : pos 0 <ℤ t = omega (arith, ints) in lt_yes s (pos 0) h ∙ sym (lt_yes (pos 0) t k))
    (λ h. let k : t ≤ℤ pos 0 = omega (arith, ints) in lt_no s (pos 0) h ∙ sym (lt_no (pos 0) t k))

pub opposite_below : (s t : ℤ) → t ≡ pos 0 -ℤ s → pos 0 <ℤ t → s <ℤ pos 0
opposite_below s t e h = omega (arith, ints)

-- two numbers that are equal but for positive factors are above 0 together
pub same_above : (a s b t : ℤ) → pos 0 <ℤ a → pos 0 <ℤ b → a *ℤ s ≡ b *ℤ t → lt_z (pos 0) s ≡ lt_z (pos 0) t
same_above a s b t p q e =
    let z : a *ℤ pos 0 ≡ b *ℤ pos 0 = *ℤ-zero a ∙ sym (*ℤ-zero b) in
    sym (lt_z-scale a (pos 0) s p) ∙ (λ i. lt_z (z i) (e i)) ∙ lt_z-scale b (pos 0) t q

-- ---- a gap and the side that makes it
pub falls_out : (r s g : ℤ) → pos 0 <ℤ r → g ≡ pos 0 -ℤ r *ℤ s → pos 0 <ℤ g → s <ℤ pos 0
falls_out r s g R e h = let z = *ℤ-zero r in less_back r s (pos 0) R (omega (arith, ints))

pub falls_in : (r s g : ℤ) → pos 0 <ℤ r → g ≡ pos 0 -ℤ r *ℤ s → s <ℤ pos 0 → pos 0 <ℤ g
falls_in r s g R e h = let z = *ℤ-zero r in let k = times_less r s (pos 0) R h in omega (arith, ints)

pub climbs_out : (r s g : ℤ) → pos 0 <ℤ r → g ≡ r *ℤ s → pos 0 <ℤ g → pos 0 <ℤ s
climbs_out r s g R e h = let z = *ℤ-zero r in less_back r (pos 0) s R (omega (arith, ints))

pub climbs_in : (r s g : ℤ) → pos 0 <ℤ r → g ≡ r *ℤ s → pos 0 <ℤ s → pos 0 <ℤ g
climbs_in r s g R e h = let k = mul_pos' r s R h in omega (arith, ints)

-- ---- sums with a part that is 0
pub less_nothing : (a b z : ℤ) → z ≡ pos 0 → a -ℤ z *ℤ b ≡ a
less_nothing a b z e = (λ i. a -ℤ e i *ℤ b) ∙ ring (a ∷ b ∷ []) (search sides depth 40 fits 20000) tt

pub more_nothing : (a b z : ℤ) → z ≡ pos 0 → a +ℤ z *ℤ b ≡ a
more_nothing a b z e = (λ i. a +ℤ e i *ℤ b) ∙ ring (a ∷ b ∷ []) (search sides depth 40 fits 20000) tt

-- Signed arithmetic in a machine's words: what an expression comes to, how large it can be, and that no step leaves the word.
-- A goal of the check shows each number x as `to_z w (of_z w x)`. `search machine` reads such an expression, and `tt` shows that it fits.
use Rattle.std.proofs.Common.{◌≡◌, ℕ, ◌+◌, ◌*◌, ◌≤◌, ◌<◌, ◌^◌, Bool, true, false, ◌&&◌, T, ltb, ltb→lt, ℤ, pos, ◌+ℤ◌, ◌-ℤ◌, ◌*ℤ◌, neg_ℤ, unsigned_abs, FitsSigned, to_z, of_z, refl, ap, ap₂, sym, ◌∙◌, subst, arith, lt_of_le_of_lt}
use mir.Syntax.{Width}
use mir.Val.{hbits}
use Rattle.std.proofs.lemmas.Int.{ints, to_z-of_z, fits_signed_from_abs}
use Rattle.integers.proofs.Sizes.{size_sum, size_minus, size_product}

-- a number with a bound that is a numeral
pub record Sized (x : ℤ) : Type 0 where
  pub bound : ℕ
  pub small : unsigned_abs x ≤ bound

-- a number that is a product of two others
abbrev pub sized_product : (r a b : ℤ) (m n : ℕ) → r ≡ a *ℤ b → unsigned_abs a ≤ m → unsigned_abs b ≤ n → Sized r
sized_product r a b m n e p q = record { bound = m * n; small = subst (λ z. unsigned_abs z ≤ m * n) (sym e) (size_product a b m n p q) }

-- the expression r of words of width w is `value`, of at most `size`, if its steps fit
pub record Computes (w : Width) (r : ℤ) : Type 0 where
  pub value : ℤ
  pub size : ℕ
  pub ok : Bool
  pub is : T ok → (r ≡ value) × (unsigned_abs value ≤ size)

pub both : (a b : Bool) → T (a && b) → T a × T b
both true b h = (tt, h)
both false b h = absurd h

abbrev pub computes_atom : (w : Width) (x : ℤ) → Sized x → Computes w x
computes_atom w x s = record { value = x; size = s.bound; ok = true; is = λ t. (refl, s.small) }

abbrev pub computes_number : (w : Width) (n : ℕ) → Computes w (pos n)
computes_number w n = record { value = pos n; size = n; ok = true; is = λ t. (refl, omega arith) }

pub is_add : (a b va vb : ℤ) (m n : ℕ) (p q : Bool) → (T p → (a ≡ va) × (unsigned_abs va ≤ m)) → (T q → (b ≡ vb) × (unsigned_abs vb ≤ n)) → T (p && q) → (a +ℤ b ≡ va +ℤ vb) × (unsigned_abs (va +ℤ vb) ≤ m + n)
is_add a b va vb m n p q f g t = let h = both p q t in let x = f h.0 in let y = g h.1 in (ap₂ ◌+ℤ◌ x.0 y.0, size_sum va vb m n x.1 y.1)

pub is_sub : (a b va vb : ℤ) (m n : ℕ) (p q : Bool) → (T p → (a ≡ va) × (unsigned_abs va ≤ m)) → (T q → (b ≡ vb) × (unsigned_abs vb ≤ n)) → T (p && q) → (a -ℤ b ≡ va -ℤ vb) × (unsigned_abs (va -ℤ vb) ≤ m + n)
is_sub a b va vb m n p q f g t = let h = both p q t in let x = f h.0 in let y = g h.1 in (ap₂ ◌-ℤ◌ x.0 y.0, size_minus va vb m n x.1 y.1)

pub is_mul : (a b va vb : ℤ) (m n : ℕ) (p q : Bool) → (T p → (a ≡ va) × (unsigned_abs va ≤ m)) → (T q → (b ≡ vb) × (unsigned_abs vb ≤ n)) → T (p && q) → (a *ℤ b ≡ va *ℤ vb) × (unsigned_abs (va *ℤ vb) ≤ m * n)
is_mul a b va vb m n p q f g t = let h = both p q t in let x = f h.0 in let y = g h.1 in (ap₂ ◌*ℤ◌ x.0 y.0, size_product va vb m n x.1 y.1)

in_word : (w : Width) (r v : ℤ) (n : ℕ) (p : Bool) → (T p → (r ≡ v) × (unsigned_abs v ≤ n)) → T (p && ltb n (2 ^ hbits w)) → FitsSigned w r
in_word w r v n p f t =
    let h = both p (ltb n (2 ^ hbits w)) t in
    let x = f h.0 in
    fits_signed_from_abs w r (subst (λ z. unsigned_abs z < 2 ^ hbits w) (sym x.0) (lt_of_le_of_lt x.1 (ltb→lt n (2 ^ hbits w) h.1)))

pub is_cast : (w : Width) (r v : ℤ) (n : ℕ) (p : Bool) → (T p → (r ≡ v) × (unsigned_abs v ≤ n)) → T (p && ltb n (2 ^ hbits w)) → (to_z w (of_z w r) ≡ v) × (unsigned_abs v ≤ n)
is_cast w r v n p f t =
    let h = both p (ltb n (2 ^ hbits w)) t in
    let x = f h.0 in
    (to_z-of_z w r (in_word w r v n p f t) ∙ x.0, x.1)

abbrev pub computes_add : (w : Width) (a b : ℤ) → Computes w a → Computes w b → Computes w (a +ℤ b)
computes_add w a b p q = record { value = p.value +ℤ q.value; size = p.size + q.size; ok = p.ok && q.ok; is = is_add a b p.value q.value p.size q.size p.ok q.ok p.is q.is }

abbrev pub computes_sub : (w : Width) (a b : ℤ) → Computes w a → Computes w b → Computes w (a -ℤ b)
computes_sub w a b p q = record { value = p.value -ℤ q.value; size = p.size + q.size; ok = p.ok && q.ok; is = is_sub a b p.value q.value p.size q.size p.ok q.ok p.is q.is }

abbrev pub computes_mul : (w : Width) (a b : ℤ) → Computes w a → Computes w b → Computes w (a *ℤ b)
computes_mul w a b p q = record { value = p.value *ℤ q.value; size = p.size * q.size; ok = p.ok && q.ok; is = is_mul a b p.value q.value p.size q.size p.ok q.ok p.is q.is }

abbrev pub computes_cast : (w : Width) (r : ℤ) → Computes w r → Computes w (to_z w (of_z w r))
computes_cast w r p = record { value = p.value; size = p.size; ok = p.ok && ltb p.size (2 ^ hbits w); is = is_cast w r p.value p.size p.ok p.is }

pub is_neg : (a va : ℤ) (m : ℕ) (p : Bool) → (T p → (a ≡ va) × (unsigned_abs va ≤ m)) → T p → (neg_ℤ a ≡ neg_ℤ va) × (unsigned_abs (neg_ℤ va) ≤ m)
is_neg a va m p f t = let x = f t in (ap neg_ℤ x.0, let h = x.1 in omega (arith, ints))

abbrev pub computes_neg : (w : Width) (a : ℤ) → Computes w a → Computes w (neg_ℤ a)
computes_neg w a p = record { value = neg_ℤ p.value; size = p.size; ok = p.ok; is = is_neg a p.value p.size p.ok p.is }

pub ruleset machine = (computes_cast, computes_sub, computes_add, computes_mul, computes_neg, computes_atom, computes_number)

-- `fits (search (machine, s, t) depth 20) tt`, with the sizes of the variables listed
pub fits : {w : Width} {r : ℤ} (p : Computes w r) → T (p.ok && ltb p.size (2 ^ hbits w)) → FitsSigned w r
fits {w} {r} p t = in_word w r p.value p.size p.ok p.is t

pub comes_to : (w : Width) {r : ℤ} (p : Computes w r) → T p.ok → r ≡ p.value
comes_to w p t = (p.is t).0

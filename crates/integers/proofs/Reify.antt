-- Reads the two sides of an equation as terms, by `search`, so that a call of `ring` shows only the variables.
use Rattle.std.proofs.Common.{◌≡◌, ℕ, zero, suc, T, List, ◌∷◌, ℤ, pos, negsuc, ◌+ℤ◌, ◌*ℤ◌, neg_ℤ, refl, ap, ap₂, sym, ◌∙◌}
use Rattle.integers.proofs.Solver.{solve, Term, eval, nth, is_zero, normal}
use Rattle.integers.proofs.Solver.Term.{var, con, add, sub, mul, neg}

-- the place of z in the list
pub record Place (ρ : List ℤ) (z : ℤ) : Type 0 where
  pub index : ℕ
  pub found : nth ρ index ≡ z

abbrev pub here : (x : ℤ) (ρ : List ℤ) → Place (x ∷ ρ) x
here x ρ = record { index = zero; found = refl }

abbrev pub there : (x y : ℤ) (ρ : List ℤ) → Place ρ y → Place (x ∷ ρ) y
there x y ρ p = record { index = suc p.index; found = p.found }

-- a term that reads z over the list
pub record Shape (ρ : List ℤ) (z : ℤ) : Type 0 where
  pub term : Term
  pub is : eval ρ term ≡ z

abbrev pub shape_add : (ρ : List ℤ) (a b : ℤ) → Shape ρ a → Shape ρ b → Shape ρ (a +ℤ b)
shape_add ρ a b p q = record { term = add p.term q.term; is = ap₂ ◌+ℤ◌ p.is q.is }

abbrev pub shape_neg : (ρ : List ℤ) (a : ℤ) → Shape ρ a → Shape ρ (neg_ℤ a)
shape_neg ρ a p = record { term = neg p.term; is = ap neg_ℤ p.is }

abbrev pub shape_mul : (ρ : List ℤ) (a b : ℤ) → Shape ρ a → Shape ρ b → Shape ρ (a *ℤ b)
shape_mul ρ a b p q = record { term = mul p.term q.term; is = ap₂ ◌*ℤ◌ p.is q.is }

abbrev pub shape_var : (ρ : List ℤ) (a : ℤ) → Place ρ a → Shape ρ a
shape_var ρ a p = record { term = var p.index; is = p.found }

abbrev pub shape_pos : (ρ : List ℤ) (n : ℕ) → Shape ρ (pos n)
shape_pos ρ n = record { term = con (pos n); is = refl }

abbrev pub shape_negsuc : (ρ : List ℤ) (n : ℕ) → Shape ρ (negsuc n)
shape_negsuc ρ n = record { term = con (negsuc n); is = refl }

pub record Sides (ρ : List ℤ) (a b : ℤ) : Type 0 where
  pub left : Shape ρ a
  pub right : Shape ρ b

abbrev pub both_sides : (ρ : List ℤ) (a b : ℤ) → Shape ρ a → Shape ρ b → Sides ρ a b
both_sides ρ a b p q = record { left = p; right = q }

pub ruleset sides = (both_sides, here, there, shape_add, shape_neg, shape_mul, shape_var, shape_pos, shape_negsuc)

-- `ring (a ∷ b ∷ []) (search sides depth 40 fits 20000) tt`
pub ring : (ρ : List ℤ) {a b : ℤ} (s : Sides ρ a b) → T (is_zero (normal (sub s.left.term s.right.term))) → a ≡ b
ring ρ s h = sym s.left.is ∙ solve ρ s.left.term s.right.term h ∙ s.right.is

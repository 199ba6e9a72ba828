-- Two darts in either order, and which of them is inner.
use Rattle.std.proofs.Common.{◌≡◌, ◌⊎◌, inl, inr, Bool, true, false, sym, ap, ◌∙◌, subst, refl}
use Rattle.std.specs.Prelude.{not}
use Rattle.std.proofs.lemmas.Bool.{false≢true}
use Rattle.slab_laws.specs.declared.names.DartId.{DartId}

-- x and y are a and b, or b and a
abbrev pub AreBoth : DartId → DartId → DartId → DartId → Type 0
AreBoth x y a b = ((x ≡ a) × (y ≡ b)) ⊎ ((x ≡ b) × (y ≡ a))

pub turned : (x y a b : DartId) → AreBoth x y a b → AreBoth y x a b
turned x y a b both = elim both [ inl r ↦ inr (r.1, r.0) | inr r ↦ inl (r.1, r.0) ]

-- what is true of both is true of each
pub of_first : (P : DartId → Type 0) (x y a b : DartId) → AreBoth x y a b → P a → P b → P x
of_first P x y a b both pa pb = elim both [ inl r ↦ subst P (sym r.0) pa | inr r ↦ subst P (sym r.0) pb ]

-- where just one is outer, and the one is, the other isn't
pub other_is_inner : (is_outer : DartId → Bool) (x y a b : DartId) → AreBoth x y a b → is_outer b ≡ not (is_outer a) → is_outer x ≡ true → is_outer y ≡ false
other_is_inner is_outer x y a b both one q = elim both [
  | inl r ↦ ap is_outer r.1 ∙ one ∙ ap not (sym (ap is_outer r.0) ∙ q)
  | inr r ↦ ap is_outer r.1 ∙ backward (is_outer a) (sym one ∙ sym (ap is_outer r.0) ∙ q)
]
  where
    backward : (c : Bool) → not c ≡ true → c ≡ false
    backward false e = refl
    backward true e = absurd (false≢true e)

-- Elements of no link.
use Rattle.std.proofs.Common.{◌≡◌, Bool, refl, sym, subst, List, ◌⊎◌, inl, inr}
use Rattle.slab_laws.specs.declared.classes.Link.{Link}
use Rattle.slab_laws.specs.Classes.{class_of, classes}
use Rattle.slab_faces.proofs.Member.{Member}
use Rattle.slab_faces.proofs.ClassesLemmas.{IsExact, IsEquivalence, connected}

-- an element of no link is alone in its class
pub unlinked : {X : Type 0} (same below : X → X → Bool) → IsExact same → (ms : List (Link X)) (x : X) → ((m : Link X) → Member ms m → ((m.one ≡ x) ⊎ (m.other ≡ x)) → ⊥) → class_of same (classes same below ms) x ≡ x
unlinked {X} same below exact ms x none = from (connected same below exact Apart apart ms (λ m i. inr (λ e. none m i (inl e), λ e. none m i (inr e))) x)
  where
    Apart : X → X → Type 0
    Apart y z = (y ≡ z) ⊎ ((y ≡ x → ⊥) × (z ≡ x → ⊥))

    apart : IsEquivalence Apart
    apart = record { itself = λ y. inl refl; back = λ y z r. back y z r; on = λ y z w r s. on y z w r s }
      where
        back : (y z : X) → Apart y z → Apart z y
        back y z (inl e) = inl (sym e)
        back y z (inr (a, b)) = inr (b, a)

        on : (y z w : X) → Apart y z → Apart z w → Apart y w
        on y z w (inl e) s = subst (λ v. Apart v w) (sym e) s
        on y z w (inr r) (inl e) = inr (r.0, subst (λ v. v ≡ x → ⊥) e r.1)
        on y z w (inr r) (inr s) = inr (r.0, s.1)

    from : Apart x (class_of same (classes same below ms) x) → class_of same (classes same below ms) x ≡ x
    from (inl e) = sym e
    from (inr (a, b)) = absurd (a refl)

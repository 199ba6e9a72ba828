-- In a plane graph the next dart is the first clockwise after the twin, and that tells it.
use Rattle.std.proofs.Common.{◌≡◌, ◌≢◌, ◌⊎◌, inl, inr, true, not, refl, sym, ap, ◌∙◌, subst}
use Rattle.std.proofs.lemmas.Bool.{cases_Bool, false≢true}
use Rattle.exact_plane.specs.Point.{Point}
use Rattle.rotation_order.specs.RingOrder.{IsStrictOn, IsRoundOn, sooner_by}
use Rattle.rotation_order.proofs.RingOrders.{round_by}
use Rattle.slab_laws.specs.Darts.{Dart, source, target, darts, IsTurn, on, round}
use Rattle.slab_laws.specs.Rotation.{same_dart, twin, earlier, next, OutOf}
use Rattle.slab_laws.specs.Skeleton.{Skeleton, IsPlaneSkeleton}
use Rattle.slab_faces.proofs.NextLemmas.{darts_exact, start_in, next_follows, next_from, turn_of}
use Rattle.slab_faces.proofs.RotationLemmas.{earlier_out, earlier_in}
use Rattle.rotation_order.proofs.RingTurned.{strict_at}
use Rattle.rotation_order.proofs.RingBetween.{when_later, when_last}
use Rattle.sound_changes.specs.NextLaws.{IsDartOf}
use Rattle.integers.proofs.Tests.{not_true}
use Rattle.sound_views.proofs.RoundTurned.{twin_twice}

pub dart_cases : (d e : Dart) → (d ≡ e) ⊎ (d ≢ e)
dart_cases d e =
    elim (cases_Bool (same_dart d e)) [
      | inl y ↦ inl (darts_exact.path d e y)
      | inr n ↦ inr (λ q. false≢true (sym n ∙ subst (λ z. same_dart d z ≡ true) q (darts_exact.itself d)))
    ]

-- ---- whether b comes after a, where d comes before them or not

-- e is the first dart out of p clockwise after d; d itself where it is alone
pub record IsFirst (g : Skeleton) (p : Point) (d e : Dart) : Type 0 where
  pub out : OutOf g p e
  pub first : (c : Dart) → OutOf g p c → c ≢ e → sooner_by earlier d e c ≡ true

module _ (g : Skeleton) (p : Point) (plane : IsPlaneSkeleton g) (d : Dart) (o : OutOf g p d) where
  strict : IsStrictOn earlier (OutOf g p)
  strict = strict_at g p d plane o

  pub clockwise : IsRoundOn (sooner_by earlier) (OutOf g p)
  clockwise = round_by earlier (OutOf g p) strict

  -- of two darts one comes before the other
  other : (a b : Dart) → OutOf g p a → OutOf g p b → a ≢ b → (earlier a b ≡ true → ⊥) → earlier b a ≡ true
  other a b oa ob ne f =
      elim (cases_Bool (earlier b a)) [
        | inl y ↦ y
        | inr n ↦ absurd (ne (strict.total a b oa ob (not_true (earlier a b) f) n))
      ]

  pub by_turn : (e : Dart) → OutOf g p e → IsTurn g p d.edge e.edge d.forward e.forward → IsFirst g p d e
  by_turn e oe (on a none) = record {
    out = oe;
    first = λ c oc ne. when_later _ _ _ _ (earlier_in d e a) (λ y. other c e oc oe ne (λ z. none c.edge c.forward oc (earlier_out d c y) (earlier_out c e z)));
  }
  by_turn e oe (round last none) = record {
    out = oe;
    first = λ c oc ne. when_last _ _ _ _
        (not_true _ (λ y. last e.edge e.forward oe (earlier_out d e y)))
        (not_true _ (λ y. last c.edge c.forward oc (earlier_out d c y)))
        (other c e oc oe ne (λ z. none c.edge c.forward oc (earlier_out c e z)));
  }

  pub one_first : (e f : Dart) → IsFirst g p d e → IsFirst g p d f → e ≡ f
  one_first e f a b =
      elim (dart_cases e f) [
        | inl q ↦ q
        | inr ne ↦ absurd (clockwise.apart d e f o a.out b.out (a.first f b.out (λ q. ne (sym q))) (b.first e a.out ne))
      ]

  -- a dart after which it comes first itself is alone
  pub first_alone : IsFirst g p d d → (c : Dart) → OutOf g p c → c ≡ d
  first_alone a c oc =
      elim (dart_cases c d) [
        | inl q ↦ q
        | inr ne ↦ absurd (clockwise.apart d d c o o oc (a.first c oc ne) (clockwise.last d c o oc ne))
      ]

module _ (g : Skeleton) (plane : IsPlaneSkeleton g) where
  pub twin_out : (d : Dart) → IsDartOf g d → OutOf g (target d) (twin d)
  twin_out d has = record { in' = has; at = refl }

  -- ---- after a dart's twin
  pub next_first : (d : Dart) → IsDartOf g d → IsFirst g (target d) (twin d) (next (darts g) d)
  next_first d has =
      by_turn g (target d) plane (twin d) (twin_out d has) (next (darts g) d) (next_from g d plane has)
      (turn_of g (target d) plane (start_in g d.edge (not d.forward) plane has) (twin d) (next (darts g) d) (next_follows g d plane has))

  pub first_next : (d e : Dart) → IsDartOf g d → IsFirst g (target d) (twin d) e → next (darts g) d ≡ e
  first_next d e has f = one_first g (target d) plane (twin d) (twin_out d has) (next (darts g) d) e (next_first d has) f

  -- ---- after a dart out of p, by what follows its twin
  pub first_after : (x e : Dart) (p : Point) → source x ≡ p → IsDartOf g x → next (darts g) (twin x) ≡ e → IsFirst g p x e
  first_after x e p at has q =
      subst (IsFirst g p x) q (subst (λ z. IsFirst g z x (next (darts g) (twin x))) (ap source (twin_twice x) ∙ at) (subst (λ z. IsFirst g (target (twin x)) z (next (darts g) (twin x))) (twin_twice x) (next_first (twin x) has)))

  pub after_first : (x e : Dart) (p : Point) → source x ≡ p → IsDartOf g x → IsFirst g p x e → next (darts g) (twin x) ≡ e
  after_first x e p at has f =
      first_next (twin x) e has (subst (λ z. IsFirst g (target (twin x)) z e) (sym (twin_twice x)) (subst (λ z. IsFirst g z x e) (sym (ap source (twin_twice x) ∙ at)) f))

-- The dart that follows one in the round is the one that is met first from just after it.
use Rattle.std.proofs.Common.{◌≡◌, Bool, true, false, cond, refl, sym, ap, ◌∙◌}
use Rattle.std.specs.List.{Contains}
use Rattle.std.proofs.lemmas.Bool.{false≢true}
use Rattle.integers.proofs.Tests.{not_true}
use Rattle.exact_plane.specs.Point.{Point}
use Rattle.slab_laws.specs.Skeleton.{Skeleton, IsPlaneSkeleton}
use Rattle.slab_laws.specs.Darts.{Dart}
use Rattle.slab_laws.specs.Rotation.{earlier, OutOf}
use Rattle.slab_faces.proofs.RingLemmas.{IsRound}
use Rattle.slab_faces.proofs.RotationLemmas.{round_at}
use Rattle.slab_faces.proofs.NextLemmas.{Follows, ring_in, follower_out}
use Rattle.slab_faces.proofs.NextLemmas.Follows.{later, first}
use Rattle.dart_orbits.specs.Turns.{comes_first}

-- comes_first, by where both are met after the first
sooner_by : (a b c : Bool) → Bool
sooner_by a b c = cond a (cond b c true) (cond b false c)

is_by : (d x y : Dart) → comes_first d x y ≡ sooner_by (earlier d x) (earlier d y) (earlier x y)
unfolding comes_first sooner_by
is_by d x y = refl

-- ---- an order of the darts of a round
module _ (P : Dart → Type 0) (o : IsRound earlier P) (d : Dart) where
  pub never_itself : (x : Dart) → P x → comes_first d x x ≡ true → ⊥
  unfolding sooner_by
  never_itself x p h = go (earlier d x) (sym (is_by d x x) ∙ h)
    where
      go : (a : Bool) → sooner_by a a (earlier x x) ≡ true → ⊥
      go true e = o.itself x p e
      go false e = o.itself x p e

  pub sooner_on : (x y z : Dart) → P x → P y → P z → comes_first d x y ≡ true → comes_first d y z ≡ true → comes_first d x z ≡ true
  unfolding sooner_by
  sooner_on x y z p q r h k = is_by d x z ∙ go (earlier d x) (earlier d y) (earlier d z) (sym (is_by d x y) ∙ h) (sym (is_by d y z) ∙ k)
    where
      go : (a b c : Bool) → sooner_by a b (earlier x y) ≡ true → sooner_by b c (earlier y z) ≡ true → sooner_by a c (earlier x z) ≡ true
      go true true true e f = o.on x y z p q r e f
      go true true false e f = refl
      go true false true e f = absurd (false≢true f)
      go true false false e f = refl
      go false true c e f = absurd (false≢true e)
      go false false true e f = absurd (false≢true f)
      go false false false e f = o.on x y z p q r e f

  pub sooner_total : (x y : Dart) → P x → P y → comes_first d x y ≡ false → comes_first d y x ≡ false → x ≡ y
  unfolding sooner_by
  sooner_total x y p q h k = go (earlier d x) (earlier d y) (sym (is_by d x y) ∙ h) (sym (is_by d y x) ∙ k)
    where
      go : (a b : Bool) → sooner_by a b (earlier x y) ≡ false → sooner_by b a (earlier y x) ≡ false → x ≡ y
      go true true e f = o.total x y p q e f
      go true false e f = absurd (false≢true (sym e))
      go false true e f = absurd (false≢true (sym f))
      go false false e f = o.total x y p q e f

-- ---- what follows a dart
module _ (g : Skeleton) (v : Point) (plane : IsPlaneSkeleton g) (in' : Contains g.vertices v) where
  -- no dart out of the vertex is met before the one that follows
  none_sooner : (d e c : Dart) → Follows g v plane in' d e → OutOf g v c → comes_first d c e ≡ false
  unfolding sooner_by
  none_sooner d e c (later n) out = is_by d c e ∙ ap (λ b. sooner_by (earlier d c) b (earlier c e)) n.later ∙ go (earlier d c) refl
    where
      go : (a : Bool) → earlier d c ≡ a → sooner_by a true (earlier c e) ≡ false
      go true t = not_true (earlier c e) (λ u. n.none c (ring_in g v plane in' c.edge c.forward out) t u)
      go false t = refl
  none_sooner d e c (first l m f) out =
      let R = ring_in g v plane in' c.edge c.forward out in
      let a : earlier d c ≡ false = not_true (earlier d c) (λ u. l c R u) in
      let b : earlier d e ≡ false = not_true (earlier d e) (λ u. l e m u) in
      let k : earlier c e ≡ false = not_true (earlier c e) (λ u. f c R u) in
      is_by d c e ∙ (λ i. sooner_by (a i) (b i) (k i))

  -- so that one is the dart that no other is met before
  pub first_follows : (d e f : Dart) → Follows g v plane in' d e → OutOf g v f → ((c : Dart) → OutOf g v c → comes_first d c f ≡ false) → f ≡ e
  first_follows d e f h out none = sooner_total (OutOf g v) (round_at g v plane in') d f e out (follower_out g v plane in' d e h) (none_sooner d e f h out) (none e (follower_out g v plane in' d e h))

-- Going round a vertex from its dart with the least target meets its rotation.
use Rattle.std.proofs.Common.{◌≡◌, ℕ, ◌≤◌, Bool, true, false, not, List, [], ◌∷◌, ◌++◌, length, take, drop, Ordering, Less, Equal, Greater, refl, sym, ap, ap₂, ◌∙◌, subst, arith, inl, inr}
use Rattle.std.specs.List.{Contains, list_any, position_or_len}
use Rattle.std.specs.Ordering.{is_lt, ordering_reverse}
use Rattle.std.proofs.lemmas.Bool.{false≢true, false_from_ne_true}
use Rattle.std.proofs.Math.Seq.{drop-append_seam, take-append_seam}
use Rattle.exact_plane.specs.Point.{Point}
use Rattle.exact_plane.specs.PointOrder.{point_cmp}
use Rattle.exact_plane.specs.PointOrderLaws.{point_cmp_total, same_point as one_point}
use Rattle.slab_laws.specs.Skeleton.{Skeleton, IsPlaneSkeleton}
use Rattle.slab_laws.specs.Darts.{Dart, source, target, darts}
use Rattle.slab_laws.specs.Rotation.{twin, after, ring, next, rotation, OutOf}
use Rattle.slab_faces.proofs.Member.{Member, member_in, in_member, append_left, none_passes, none_passing}
use Rattle.slab_faces.proofs.NextLemmas.{dart_out, dart_in, start_in, ring_in}
use Rattle.slab_faces.proofs.DartOrder.{one_dart}
use Rattle.sound_views.specs.VertexRoundLaws.{HasLeastTarget, RoundIsRotation, NoneRound}
use Rattle.sound_views.specs.VertexRounds.{round}
use Rattle.sound_views.proofs.RoundFollowing.{Apart, apart_before, parted, round_turns}
use Rattle.sound_views.proofs.RoundRings.{ring_within, ring_out, ring_apart, none_ring}
use Rattle.integers.proofs.Tests.{not_not}

-- ---- the first that passes
first_at : {X : Type 0} (t : X → Bool) (us vs : List X) (x : X) → ((u : X) → Member us u → t u ≡ false) → t x ≡ true → position_or_len t (us ++ (x ∷ vs)) ≡ length us
first_at t [] vs x f h = grind (arith, h)
first_at t (u ∷ us) vs x f h = let a = f u (inl refl) in let b = first_at t us vs x (λ z m. f z (inr m)) h in grind (arith, a, b)

-- ---- one step round a vertex

pub twin_twice : (e : Dart) → twin (twin e) ≡ e
twin_twice e = λ i. record { edge = e.edge; forward = not_not e.forward i }

-- what follows the twin is the next dart of the ring
pub next_of_twin : (ds : List Dart) (e : Dart) → next ds (twin e) ≡ after e (ring ds (source e))
unfolding next
next_of_twin ds e = ap (λ d. after d (ring ds (source d))) (twin_twice e)

-- ---- the rotation, as the ring turned
rotation_test : List Dart → Dart → Bool
rotation_test r d = not (list_any (λ e. is_lt (point_cmp (target e) (target d))) r)

turned : List Dart → ℕ → List Dart
turned r k = drop k r ++ take k r

rotation_is : (ds : List Dart) (p : Point) → rotation ds p ≡ turned (ring ds p) (position_or_len (rotation_test (ring ds p)) (ring ds p))
unfolding rotation turned rotation_test
rotation_is ds p = refl

turned_at : (us vs : List Dart) (d : Dart) → turned (us ++ (d ∷ vs)) (length us) ≡ (d ∷ vs) ++ us
unfolding turned
turned_at us vs d = ap₂ ◌++◌ (drop-append_seam us (d ∷ vs)) (take-append_seam us (d ∷ vs))

-- points neither of which comes before the other are one
neither : (p q : Point) → is_lt (point_cmp p q) ≡ false → is_lt (point_cmp q p) ≡ false → p ≡ q
neither p q h k = one_point p q (go (point_cmp p q) h (sym (ap is_lt (point_cmp_total.antisymm q p)) ∙ k))
  where
    go : (o : Ordering) → is_lt o ≡ false → is_lt (ordering_reverse o) ≡ false → o ≡ Equal
    go Less h k = absurd cc
    go Equal h k = refl
    go Greater h k = absurd cc

-- ---- the round of a vertex
module _ (g : Skeleton) (d : Dart) (plane : IsPlaneSkeleton g) (there : Contains (darts g) d) where
  edge_there : Contains g.edges d.edge
  edge_there = dart_out g d (in_member (darts g) d there)

  vertex_there : Contains g.vertices (source d)
  vertex_there = start_in g d.edge d.forward plane edge_there

  around : List Dart
  around = ring (darts g) (source d)

  out : (e : Dart) → Member around e → OutOf g (source d) e
  unfolding around
  out = ring_out g (source d) plane vertex_there

  apart : Apart around
  unfolding around
  apart = ring_apart g (source d) plane vertex_there

  inside : Member around d
  unfolding around
  inside = ring_in g (source d) plane vertex_there d.edge d.forward (record { in' = edge_there; at = refl })

  follow : (e : Dart) → Member around e → next (darts g) (twin e) ≡ after e around
  unfolding around
  follow e m = next_of_twin (darts g) e ∙ ap (λ p. after e (ring (darts g) p)) (out e m).at

  listed : (e : Dart) → Member around e → Contains (darts g) e
  listed e m = member_in (darts g) e (dart_in g e.edge e.forward (out e m).in')

  least_passes : HasLeastTarget g d → rotation_test around d ≡ true
  unfolding rotation_test
  least_passes least = ap not (none_passing (λ e. is_lt (point_cmp (target e) (target d))) around (λ e m. least e (listed e m) (out e m).at))

  -- a dart of the ring that no target comes before has the same target, and so it is the same dart
  only : HasLeastTarget g d → (e : Dart) → Member around e → rotation_test around e ≡ true → e ≡ d
  unfolding rotation_test
  only least e m t =
      let n = none_passes (λ x. is_lt (point_cmp (target x) (target e))) around (not_true _ t) d inside in
      one_dart g plane e d (out e m).in' edge_there (out e m).at (neither (target e) (target d) (least e (listed e m) (out e m).at) n)
    where
      not_true : (b : Bool) → not b ≡ true → b ≡ false
      not_true true h = absurd (false≢true h)
      not_true false h = refl

  begun : HasLeastTarget g d → (us vs : List Dart) → around ≡ us ++ (d ∷ vs) → rotation (darts g) (source d) ≡ (d ∷ vs) ++ us
  unfolding around
  begun least us vs p =
      let k : position_or_len (rotation_test around) around ≡ length us =
      ap (position_or_len (rotation_test around)) p
      ∙ first_at (rotation_test around) us vs d
      (λ u m. false_from_ne_true (rotation_test around u) (λ t. apart_before us vs d (subst Apart p apart) u m (only least u (subst (λ zs. Member zs u) (sym p) (append_left us (d ∷ vs) u m)) t)))
      (least_passes least) in
      rotation_is (darts g) (source d) ∙ ap₂ turned p k ∙ turned_at us vs d

  rounded : HasLeastTarget g d → (n : ℕ) → length (darts g) ≤ n → round (darts g) n d d ≡ rotation (darts g) (source d)
  unfolding around
  rounded least n l =
      let w = parted around d inside in
      let s : length around ≤ length (darts g) = ring_within (darts g) (source d) in
      round_turns (darts g) around apart follow w.0 w.1 d n w.2 (omega arith) ∙ sym (begun least w.0 w.1 w.2)

pub round_is_rotation : RoundIsRotation
round_is_rotation g d n plane there least l = rounded g d plane there least n l

-- ---- where no edge ends
pub none_round : NoneRound
unfolding turned
none_round g p plane h = rotation_is (darts g) p ∙ ap (λ r. turned r (position_or_len (rotation_test r) r)) (none_ring g p h)

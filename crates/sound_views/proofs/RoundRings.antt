-- The darts out of a vertex in their ring: each once, and no more than there are in all.
use Rattle.std.proofs.Common.{◌≡◌, suc, ◌≤◌, Bool, true, false, List, [], ◌∷◌, length, Ordering, Less, Equal, Greater, refl, sym, ap, ◌∙◌, subst, arith, inl, inr}
use Rattle.std.specs.Prelude.{filter, ◌||◌}
use Rattle.std.specs.List.{Contains}
use Rattle.std.specs.Ordering.{match_ordering}
use Rattle.std.proofs.lemmas.Bool.{false≢true, or_left, or_right}
use Rattle.std.proofs.lemmas.List.Sums.{length-filter, count_by-le-length}
use Rattle.exact_plane.specs.Point.{Point}
use Rattle.plane_graphs.specs.Ascending.{place, ascending}
use Rattle.plane_graphs.specs.Graph.{Edge}
use Rattle.slab_laws.specs.Skeleton.{Skeleton, same_point, IsPlaneSkeleton}
use Rattle.slab_laws.specs.Darts.{Dart, start, source, darts}
use Rattle.slab_laws.specs.Rotation.{earlier, turn_cmp, ring, OutOf}
use Rattle.slab_laws.specs.Subdivision.{has_dart}
use Rattle.slab_faces.proofs.Member.{Member, in_member, filter_out, none_passes}
use Rattle.slab_faces.proofs.RingLemmas.{IsRound, AllIn, Sorted, sorted_out, is_sorted}
use Rattle.slab_faces.proofs.RotationLemmas.{round_at}
use Rattle.slab_faces.proofs.NextLemmas.{dart_out}
use Rattle.slab_faces.proofs.Parity.{same_point_is}
use Rattle.sound_views.proofs.RoundFollowing.{Apart}

-- ---- no more than there are in all
module _ {X : Type 0} (cmp : X → X → Ordering) where
  placed : (t : Ordering) (x y : X) (ys zs : List X) → length zs ≤ suc (length ys) → length (match_ordering t (x ∷ y ∷ ys) (y ∷ ys) (y ∷ zs)) ≤ suc (suc (length ys))
  placed Less x y ys zs l = omega arith
  placed Equal x y ys zs l = omega arith
  placed Greater x y ys zs l = omega arith

  length-place : (x : X) (ys : List X) → length (place cmp x ys) ≤ suc (length ys)
  unfolding place
  length-place x [] = omega arith
  length-place x (y ∷ ys) = placed (cmp x y) x y ys (place cmp x ys) (length-place x ys)

  pub length-ascending : (xs : List X) → length (ascending cmp xs) ≤ length xs
  unfolding ascending
  length-ascending [] = omega arith
  length-ascending (x ∷ xs) = let a = length-place x (ascending cmp xs) in let b = length-ascending xs in omega arith

pub ring_within : (ds : List Dart) (p : Point) → length (ring ds p) ≤ length ds
unfolding ring
ring_within ds p =
    let t : Dart → Bool = λ d. same_point (source d) p in
    let a = length-ascending turn_cmp (filter t ds) in
    let b = length-filter t ds in
    let c = count_by-le-length t ds in
    omega arith

-- ---- each once
module _ {X : Type 0} (early : X → X → Bool) (P : X → Type 0) (o : IsRound early P) where
  sorted_apart : (xs : List X) → AllIn early P o xs → Sorted early P o xs → Apart xs
  sorted_apart [] q s = tt
  sorted_apart (x ∷ xs) q s =
      (λ y m e. o.itself x (q x (inl refl)) (subst (λ z. early x z ≡ true) (sym e) (s.0 y m)), sorted_apart xs (λ z m. q z (inr m)) s.1)

module _ (g : Skeleton) (p : Point) (plane : IsPlaneSkeleton g) (in' : Contains g.vertices p) where
  outs : List Dart
  outs = filter (λ d. same_point (source d) p) (darts g)

  outs_all : AllIn earlier (OutOf g p) (round_at g p plane in') outs
  unfolding outs
  outs_all d h = let r = filter_out (λ d. same_point (source d) p) (darts g) d h in record { in' = dart_out g d r.0; at = same_point_is (source d) p r.1 }

  -- what stands in a vertex's ring goes out of it
  pub ring_out : (d : Dart) → Member (ring (darts g) p) d → OutOf g p d
  unfolding ring turn_cmp outs
  ring_out d h = outs_all d (sorted_out earlier (OutOf g p) (round_at g p plane in') outs outs_all d h)

  -- and each dart stands there once
  pub ring_apart : Apart (ring (darts g) p)
  unfolding ring turn_cmp outs
  ring_apart = sorted_apart earlier (OutOf g p) (round_at g p plane in') (ring (darts g) p) ring_out (is_sorted earlier (OutOf g p) (round_at g p plane in') outs outs_all)

-- ---- where no edge ends
nothing : {X : Type 0} (xs : List X) → ((x : X) → Member xs x → ⊥) → xs ≡ []
nothing [] h = refl
nothing (x ∷ xs) h = absurd (h x (inl refl))

-- a dart's source is an end of its edge
is_end : (e : Edge) (f : Bool) (p : Point) → same_point (start e f) p ≡ true → (same_point e.low p || same_point e.high p) ≡ true
is_end e true p h = or_left _ _ h
is_end e false p h = or_right (same_point e.low p) _ h

-- no dart goes out
none_out : (g : Skeleton) (p : Point) → has_dart g p ≡ false → filter (λ d. same_point (source d) p) (darts g) ≡ []
unfolding has_dart
none_out g p h = nothing _ (λ d m.
    let r = filter_out (λ d. same_point (source d) p) (darts g) d m in
    let n = none_passes (λ e. same_point e.low p || same_point e.high p) g.edges h d.edge (in_member g.edges d.edge (dart_out g d r.0)) in
    false≢true (sym n ∙ is_end d.edge d.forward p r.1))

pub none_ring : (g : Skeleton) (p : Point) → has_dart g p ≡ false → ring (darts g) p ≡ []
unfolding ring ascending
none_ring g p h = ap (ascending turn_cmp) (none_out g p h)

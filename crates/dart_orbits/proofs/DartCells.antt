-- The darts of a plane graph in their order: all of them, each once, each with its place.
use Rattle.std.proofs.Common.{◌≡◌, ℕ, ◌<◌, length, Contains}
use Rattle.std.specs.Prelude.{◌==◌}
use Rattle.std.proofs.lemmas.List.Elements.{Contains-get_or}
use Rattle.plane_graphs.proofs.Ascending.{to_member, from_member}
use Rattle.slab_laws.specs.Skeleton.{Skeleton, IsPlaneSkeleton}
use Rattle.slab_laws.specs.Darts.{Dart, darts}
use Rattle.slab_laws.specs.Rotation.{same_dart}
use Rattle.slab_laws.specs.Rows.{dart_list, dart_at, no_dart, dart_place, least_dart_of}
use Rattle.slab_faces.proofs.Member.{member_in, in_member}
use Rattle.slab_faces.proofs.NextLemmas.{darts_exact, dart_out}
use Rattle.slab_faces.proofs.CyclesLemmas.{one_to_one}
use Rattle.slab_faces.proofs.ClassesLemmas.{IsEquivalence}
use Rattle.slab_faces.proofs.DartOrder.{listed_out as out_of_list, listed_in as into_list, along}
use Rattle.slab_faces.proofs.Places.{same_place}

module _ (g : Skeleton) (plane : IsPlaneSkeleton g) where
  -- ---- the list
  pub listed_out : (d : Dart) → Contains (dart_list g) d → Contains (darts g) d
  listed_out d h = from_member (darts g) d (out_of_list g plane d (to_member (dart_list g) d h))

  pub listed_in : (d : Dart) → Contains (darts g) d → Contains (dart_list g) d
  listed_in d h = from_member (dart_list g) d (into_list g plane d (to_member (darts g) d h))

  -- a listed dart is on an edge of the graph
  pub edge_there : (d : Dart) → Contains (dart_list g) d → Contains g.edges d.edge
  edge_there d h = dart_out g d (in_member (darts g) d (listed_out d h))

  -- the least dart of a listed dart's cycle is listed
  pub lead_there : (d : Dart) → Contains (dart_list g) d → Contains (dart_list g) (least_dart_of g d)
  lead_there d h = listed_in _ ((along g R equal (λ x m. (λ k. (one_to_one g plane).inside x k, λ _. member_in (darts g) x m)) d).0 (listed_out d h))
    where
      R : Dart → Dart → Type 0
      R x y = (Contains (darts g) x → Contains (darts g) y) × (Contains (darts g) y → Contains (darts g) x)

      equal : IsEquivalence R
      equal = record { itself = λ x. (λ k. k, λ k. k); back = λ x y k. (k.1, k.0); on = λ x y z k l. (λ m. l.0 (k.0 m), λ m. k.1 (l.1 m)) }

  -- ---- places
  pub dart_there : (k : ℕ) → k < length (dart_list g) → Contains (dart_list g) (dart_at g k)
  dart_there k h = Contains-get_or (dart_list g) k no_dart h

  pub same_dart_place : (d e : Dart) → Contains (dart_list g) d → Contains (dart_list g) e → (dart_place g d == dart_place g e) ≡ same_dart d e
  same_dart_place d e D E = same_place same_dart darts_exact (dart_list g) d e D E

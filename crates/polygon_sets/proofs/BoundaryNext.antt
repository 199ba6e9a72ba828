-- In a plane graph across each of whose edges a set of faces changes, the next dart after one that bounds the set bounds it, and is the next side of the border, and the only one.
use Rattle.std.proofs.Common.{◌≡◌, Bool, true, false, not, refl, sym, ap, ◌∙◌, subst, map}
use Rattle.std.specs.List.{Contains, filter}
use Rattle.plane_graphs.specs.Graph.{Edge}
use Rattle.slab_laws.specs.declared.slab_cell.SlabCell.{SlabCell}
use Rattle.slab_laws.specs.Cycles.{left_of_dart}
use Rattle.slab_laws.specs.Darts.{Dart, darts, target, cell_of}
use Rattle.slab_laws.specs.Meets.{SameFace}
use Rattle.slab_laws.specs.Rotation.{twin, earlier, ring, after, next, OutOf}
use Rattle.slab_laws.specs.Rows.{dart_list}
use Rattle.slab_laws.specs.Skeleton.{Skeleton, IsPlaneSkeleton}
use Rattle.slab_laws.specs.Slabs.{top_cell}
use Rattle.slab_laws.specs.Weights.{Even, IsEvenAtVertices}
use Rattle.slab_faces.proofs.EveryFace.{first_width}
use Rattle.slab_faces.proofs.NextLemmas.{next_from, next_keeps_face, next_is}
use Rattle.rotation_order.specs.RingOrder.{sooner_by}
use Rattle.set_laws.proofs.Insides.{of_faces}
use Rattle.polygon_sets.specs.Boundaries.{is_inside}
use Rattle.polygon_sets.specs.ClosedBorders.{IsNextSide}
use Rattle.polygon_sets.specs.Regions.{dart_ends}
use Rattle.polygon_sets.proofs.BorderSets.{is_side}
use Rattle.polygon_sets.proofs.ClosedRegions.{IsBound, next_side, only_next as only_onward}
use Rattle.polygon_sets.proofs.Onward.{IsOnward, follower_first}

module _ (g : Skeleton) (inn : SlabCell → Bool) (plane : IsPlaneSkeleton g) (one_face : (c d : SlabCell) → SameFace g c d → inn c ≡ inn d) (differs : (d : Dart) → Contains g.edges d.edge → inn (left_of_dart g (twin d)) ≡ not (inn (left_of_dart g d))) where
  pub by_left : (d : Dart) → Contains g.edges d.edge → inn (left_of_dart g d) ≡ true → IsBound g inn plane one_face d
  by_left d E h = (E, h, differs d E ∙ ap not h)

  pub next_bound : (d : Dart) → IsBound g inn plane one_face d → IsBound g inn plane one_face (next (darts g) d)
  next_bound d B =
      by_left (next (darts g) d) (next_from g d plane B.0).in' (sym (one_face (left_of_dart g d) (left_of_dart g (next (darts g) d)) (next_keeps_face g d plane B.0)) ∙ B.1)

  pub next_onward : (d : Dart) → IsBound g inn plane one_face d → IsOnward g inn (target d) (twin d) (next (darts g) d)
  next_onward d B =
      let N = next_bound d B in
      let O : OutOf g (target d) (twin d) = record { in' = B.0; at = refl } in
      record {
        out = next_from g d plane B.0;
        left = N.1;
        right = N.2;
        first = λ b out h ne. subst (λ e. sooner_by earlier (twin d) e b ≡ true) (sym (next_is g d)) (follower_first g plane (target d) (twin d) O b out (λ q. ne (q ∙ sym (next_is g d))));
      }

  pub goes_on : (d : Dart) → IsBound g inn plane one_face d → IsNextSide (map dart_ends (filter (is_side inn g) (dart_list g))) (dart_ends d) (dart_ends (next (darts g) d))
  goes_on d B = next_side g inn plane one_face d (next (darts g) d) B (next_onward d B)

  pub only_next : (d e : Dart) → IsBound g inn plane one_face d → IsBound g inn plane one_face e → IsNextSide (map dart_ends (filter (is_side inn g) (dart_list g))) (dart_ends d) (dart_ends e) → e ≡ next (darts g) d
  only_next d e D E h = only_onward g inn plane one_face d e (next (darts g) d) D (next_onward d D) E h

-- ---- of a plane graph's even-odd set
module _ (g : Skeleton) (plane : IsPlaneSkeleton g) (even : IsEvenAtVertices g (λ e. 1)) where
  pub one_face : (c d : SlabCell) → SameFace g c d → is_inside g c ≡ is_inside g d
  one_face = (of_faces g (λ e. 1) plane even).one_face

  other : (x y : Bool) → (x ≡ y → ⊥) → y ≡ not x
  other true true h = absurd (h refl)
  other true false h = refl
  other false true h = refl
  other false false h = absurd (h refl)

  odd_one : Even 1 → ⊥
  odd_one h = cc

  pub differs : (e : Edge) (f : Bool) → Contains g.edges e → is_inside g (cell_of g e (not f)) ≡ not (is_inside g (cell_of g e f))
  differs e true E = other (is_inside g (cell_of g e true)) (is_inside g (cell_of g e false)) (λ s. odd_one (((of_faces g (λ e. 1) plane even).across e E).1 s))
  differs e false E = other (is_inside g (cell_of g e false)) (is_inside g (cell_of g e true)) (λ s. odd_one (((of_faces g (λ e. 1) plane even).across e E).1 (sym s)))

  pub sides_differ : (d : Dart) → Contains g.edges d.edge → is_inside g (left_of_dart g (twin d)) ≡ not (is_inside g (left_of_dart g d))
  sides_differ d E = differs d.edge d.forward E

  top_is : top_cell g 0 ≡ record { slab = 0; place = 0 }
  unfolding top_cell
  top_is = λ i. record { slab = 0; place = first_width g plane i }

  pub nothing_outside : is_inside g (record { slab = 0; place = 0 }) ≡ false
  nothing_outside = ap (is_inside g) (sym top_is) ∙ (of_faces g (λ e. 1) plane even).outside

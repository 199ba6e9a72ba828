-- A cycle's darts are even in number at each vertex, so its weight above tells faces apart.
use Rattle.std.proofs.Common.{◌≡◌, ℕ, ◌+◌, Bool, true, false, arith, refl, sym, ap, ◌∙◌, List, map}
use Rattle.std.specs.Prelude.{◌&&◌}
use Rattle.std.specs.List.{Contains, count_by, sum_by}
use Rattle.std.proofs.lemmas.List.Sums.{sum_by-append}
use Rattle.plane_graphs.specs.Graph.{Edge}
use Rattle.slab_laws.specs.Skeleton.{Skeleton, same_edge, IsPlaneSkeleton}
use Rattle.slab_laws.specs.Darts.{Dart, ahead, back, darts}
use Rattle.slab_laws.specs.Weights.{IsEvenAtVertices, Even, weight_above}
use Rattle.slab_laws.specs.Meets.{SameFace}
use Rattle.slab_laws.specs.declared.slab_cell.SlabCell.{SlabCell}
use Rattle.slab_faces.proofs.Sums.{sum_by-none}
use Rattle.slab_faces.proofs.Shift.{IsSetBy, IsOneToOne, sum_by-map, tally, handshake}
use Rattle.slab_faces.proofs.Cells.{parity_face}
use Rattle.slab_laws.specs.Classes.{class_of}
use Rattle.slab_laws.specs.Rotation.{same_way, same_dart, dart_below, next}
use Rattle.slab_laws.specs.Cycles.{dart_labels, darts_on}
use Rattle.slab_faces.proofs.Member.{Member, member_in, in_member, map_in}
use Rattle.slab_faces.proofs.ClassesLemmas.{along_link}
use Rattle.slab_faces.proofs.NextLemmas.{darts_exact, dart_out, dart_in, next_from, next_one}

-- ---- each dart is listed once
once : (g : Skeleton) (d : Dart) → IsPlaneSkeleton g → Contains g.edges d.edge → count_by (same_dart d) (darts g) ≡ 1
unfolding same_dart
once g d plane E =
    let F : Dart → ℕ = λ x. tally (same_dart d x) in
    let a = sum_by-append F (map ahead g.edges) (map back g.edges) in
    let b = sum_by-map F ahead g.edges in
    let c = sum_by-map F back g.edges in
    let n = plane.edge_once d.edge E in
    a ∙ (λ i. b i + c i) ∙ go d.forward n
  where
    both : (b : Bool) → (b && true) ≡ b
    both true = refl
    both false = refl

    neither : (b : Bool) → (b && false) ≡ false
    neither true = refl
    neither false = refl

    yes_sum : (xs : List Edge) → sum_by (λ e. tally (same_edge d.edge e && true)) xs ≡ count_by (same_edge d.edge) xs
    yes_sum xs = λ i. sum_by (λ e. tally (both (same_edge d.edge e) i)) xs

    no_sum : (xs : List Edge) → sum_by (λ e. tally (same_edge d.edge e && false)) xs ≡ 0
    no_sum xs = (λ i. sum_by (λ (e : Edge). tally (neither (same_edge d.edge e) i)) xs) ∙ sum_by-none xs

    go : (f : Bool) → count_by (same_edge d.edge) g.edges ≡ 1 → sum_by (λ e. tally (same_edge d.edge e && same_way f true)) g.edges + sum_by (λ e. tally (same_edge d.edge e && same_way f false)) g.edges ≡ 1
    go true n = let a = yes_sum g.edges in let b = no_sum g.edges in omega arith
    go false n = let a = no_sum g.edges in let b = yes_sum g.edges in omega arith

pub is_set : (g : Skeleton) → IsPlaneSkeleton g → IsSetBy same_dart (darts g)
is_set g plane = record { sound = darts_exact.path; self = darts_exact.itself; once = λ d h. once g d plane (dart_out g d (in_member (darts g) d h)) }

pub one_to_one : (g : Skeleton) → IsPlaneSkeleton g → IsOneToOne (next (darts g)) (darts g)
one_to_one g plane = record {
  inside = λ d h. let E = dart_out g d (in_member (darts g) d h) in let f = next_from g d plane E in member_in (darts g) _ (dart_in g (next (darts g) d).edge (next (darts g) d).forward f.in');
  one = λ d d' h h' e. next_one g d d' plane (dart_out g d (in_member (darts g) d h)) (dart_out g d' (in_member (darts g) d' h')) e;
}

-- a dart and its next have one label
pub one_cycle : (g : Skeleton) (d : Dart) → Member (darts g) d → class_of same_dart (dart_labels (darts g)) d ≡ class_of same_dart (dart_labels (darts g)) (next (darts g) d)
unfolding dart_labels
one_cycle g d h = along_link same_dart dart_below darts_exact (map (λ d. record { one = d; other = next (darts g) d }) (darts g)) (record { one = d; other = next (darts g) d }) (map_in (λ d. record { one = d; other = next (darts g) d }) (darts g) d h)

pub cycle_even : (g : Skeleton) (lead : Dart) → IsPlaneSkeleton g → IsEvenAtVertices g (darts_on (dart_labels (darts g)) lead)
unfolding darts_on
cycle_even g lead plane =
    let o : Dart → Bool = λ d. same_dart (class_of same_dart (dart_labels (darts g)) d) lead in
    handshake g same_dart (next (darts g)) o (is_set g plane) (one_to_one g plane)
    (λ d h. ((next_from g d plane (dart_out g d (in_member (darts g) d h))).at, ap (λ l. same_dart l lead) (sym (one_cycle g d (in_member (darts g) d h)))))

-- the parity of a cycle is the same on a whole face
pub cycle_parity : (g : Skeleton) (lead : Dart) (c d : SlabCell) → IsPlaneSkeleton g → SameFace g c d → Even (weight_above g (darts_on (dart_labels (darts g)) lead) c.slab c.place + weight_above g (darts_on (dart_labels (darts g)) lead) d.slab d.place)
cycle_parity g lead c d plane h = parity_face g (darts_on (dart_labels (darts g)) lead) c d plane (cycle_even g lead plane) h

-- Whether a cycle is outer, by a count over the darts in their order.
use Rattle.std.proofs.Common.{◌≡◌, ℕ, ◌+◌, ◌<◌, Bool, cond, sym, ap, ◌∙◌, List, length, take, get_or, Contains, true, false}
use Rattle.std.specs.Prelude.{◌&&◌, ◌==◌, ◌%◌, not}
use Rattle.std.specs.List.{sum_by, count_by}
use Rattle.std.proofs.lemmas.List.Sums.{count_by_more_yes, count_by_more_no}
use Rattle.plane_graphs.specs.Graph.{Edge}
use Rattle.plane_graphs.proofs.Ascending.{to_member}
use Rattle.slab_laws.specs.Skeleton.{Skeleton, IsPlaneSkeleton}
use Rattle.slab_laws.specs.Darts.{Dart, darts}
use Rattle.slab_laws.specs.Rotation.{same_dart, dart_cmp}
use Rattle.slab_laws.specs.Cycles.{dart_labels, darts_on, odd, left_of_dart}
use Rattle.slab_laws.specs.Rows.{dart_list, least_dart_of}
use Rattle.slab_faces.proofs.Sums.{each, sum_by-same}
use Rattle.slab_faces.proofs.Shift.{same_sum}
use Rattle.slab_faces.proofs.NextLemmas.{darts_exact}
use Rattle.slab_faces.proofs.CyclesLemmas.{is_set}
use Rattle.slab_faces.proofs.PlaneGraphs.{once}
use Rattle.slab_faces.proofs.DartOrder.{dart_cmp_total, list_ascends}
use Rattle.edge_predicates.specs.CellsAbove.{is_above}
use Rattle.edge_predicates.proofs.CellsBeside.{weight_is}
use Rattle.edge_predicates.proofs.DartsAbove.{on_and_above, by_darts, cond_both, flips}
use Rattle.dart_orbits.proofs.DartCells.{listed_in, listed_out, edge_there}

-- ---- the darts above the left cell of a cycle's least dart
-- the dart is on the cycle, and its edge is above
abbrev pub counts : (g : Skeleton) (l d : Dart) → Bool
counts g l d = same_dart (least_dart_of g d) l && is_above l.edge l.forward d.edge

-- what is read of two darts and tested
pub counts_by : (g : Skeleton) (l d : Dart) (e f : Edge) (forward r : Bool) → e ≡ l.edge → forward ≡ l.forward → f ≡ d.edge → same_dart (least_dart_of g d) l ≡ true → r ≡ is_above e forward f → counts g l d ≡ r
counts_by g l d e f forward r a b c s t =
    ap (λ q. q && is_above l.edge l.forward d.edge) s ∙ sym (t ∙ (λ i. is_above (a i) (b i) (c i)))

pub counts_not : (g : Skeleton) (l d : Dart) → same_dart (least_dart_of g d) l ≡ false → counts g l d ≡ false
counts_not g l d s = ap (λ q. q && is_above l.edge l.forward d.edge) s

module _ (g : Skeleton) (plane : IsPlaneSkeleton g) where
  pub listed_sum : (F : Dart → ℕ) → sum_by F (darts g) ≡ sum_by F (dart_list g)
  listed_sum F =
      same_sum same_dart F (darts g) (dart_list g) (is_set g plane)
      (record {
        sound = darts_exact.path;
        self = darts_exact.itself;
        once = λ d h. once dart_cmp dart_cmp_total (same_dart d) d (dart_list g) (list_ascends g plane) (to_member (dart_list g) d h) (darts_exact.itself d) (λ z e. sym (darts_exact.path d z e));
      })
      (listed_in g plane) (listed_out g plane)

  module _ (l : Dart) where
    abbrev told : Dart → ℕ
    told = on_and_above g l (is_above l.edge l.forward)

    by_count : sum_by told (dart_list g) ≡ count_by (counts g l) (dart_list g)
    by_count = sum_by-same told (λ d. cond (counts g l d) 1 0) (dart_list g) (each (λ d. told d ≡ cond (counts g l d) 1 0) (dart_list g) (λ d _. cond_both (is_above l.edge l.forward d.edge) (same_dart (least_dart_of g d) l)))

    pub odd_is : Contains (dart_list g) l → odd g (dart_labels (darts g)) l (left_of_dart g l) ≡ (count_by (counts g l) (dart_list g) % 2 == 1)
    unfolding odd darts_on
    odd_is m =
        ap (λ n. n % 2 == 1) (weight_is g plane l.edge (edge_there g plane l m) (darts_on (dart_labels (darts g)) l) l.forward ∙ by_darts g l (is_above l.edge l.forward) ∙ listed_sum told ∙ by_count)

-- ---- one more dart
module _ (p : Dart → Bool) (ds : List Dart) (i : ℕ) (d : Dart) where
  pub one_counts : i < length ds → p (get_or ds i d) ≡ true → (b : Bool) → b ≡ (count_by p (take i ds) % 2 == 1) → not b ≡ (count_by p (take (i + 1) ds) % 2 == 1)
  one_counts h e b f = ap not f ∙ sym (flips (count_by p (take i ds))) ∙ ap (λ n. n % 2 == 1) (sym (count_by_more_yes p ds i d h e))

  pub one_passes : i < length ds → p (get_or ds i d) ≡ false → (b : Bool) → b ≡ (count_by p (take i ds) % 2 == 1) → b ≡ (count_by p (take (i + 1) ds) % 2 == 1)
  one_passes h e b f = f ∙ ap (λ n. n % 2 == 1) (sym (count_by_more_no p ds i d h e))

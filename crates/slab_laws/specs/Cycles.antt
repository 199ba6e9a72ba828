-- Cycles: the orbits of `next`, and which of them bound a face from outside.
use Rattle.std.specs.Prelude.{ℕ, zero, suc, ◌+◌, ◌%◌, List, [], ◌∷◌, map, Bool, true, false, cond, filter, ◌==◌}
use Rattle.plane_graphs.specs.Graph.{Edge}
use Rattle.slab_laws.specs.Skeleton.{Skeleton}
use Rattle.slab_laws.specs.Weights.{weight_above}
use Rattle.slab_laws.specs.Darts.{cell_of, Dart}
use Rattle.slab_laws.specs.declared.slab_cell.SlabCell.{SlabCell}
use Rattle.slab_laws.specs.Classes.{Label, classes, class_of}
use Rattle.plane_graphs.specs.Ascending.{ascending}
use Rattle.slab_laws.specs.Rotation.{dart_cmp, dart_below, same_dart, next}

-- from e on by `next`, until d comes again, at most n darts
unfoldable pub trail : List Dart → ℕ → Dart → Dart → List Dart
trail ds zero d e = []
trail ds (suc n) d e = let f : Dart = next ds e in e ∷ elim (same_dart f d) [ true ↦ [] | false ↦ trail ds n d f ]

-- each dart with the least dart of its orbit
unfoldable pub dart_labels : List Dart → List (Label Dart)
dart_labels ds = classes same_dart dart_below (map (λ d. record { one = d; other = next ds d }) ds)

-- the least darts of the orbits, ascending
unfoldable pub leads : List Dart → List (Label Dart) → List Dart
leads ds ls = ascending dart_cmp (filter (λ d. same_dart d (class_of same_dart ls d)) ds)

-- how many darts of the edge are in the orbit of the lead
unfoldable pub darts_on : List (Label Dart) → Dart → Edge → ℕ
darts_on ls lead e = one (record { edge = e; forward = true }) + one (record { edge = e; forward = false })
  where
    one : Dart → ℕ
    one d = cond (same_dart (class_of same_dart ls d) lead) 1 0

-- the edges above the cell, each counted once for each dart of the cycle on it, are odd in number (Fogel, Halperin and Wein: ray shooting; this project)
unfoldable pub odd : Skeleton → List (Label Dart) → Dart → SlabCell → Bool
odd g ls lead c = weight_above g (darts_on ls lead) c.slab c.place % 2 == 1

-- the cell on the left of a dart
abbrev pub left_of_dart : Skeleton → Dart → SlabCell
left_of_dart g d = cell_of g d.edge d.forward

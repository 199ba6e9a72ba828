-- The border of what two sets of faces make is that of a plane graph of its own, and such a border is closed.
use Rattle.std.proofs.Common.{◌≡◌, ℕ, false, refl, ap, ◌∙◌, subst, sym, List, map}
use Rattle.std.specs.Prelude.{◌%◌, ◌==◌}
use Rattle.std.specs.List.{filter}
use Rattle.exact_plane.specs.Point.{Point}
use Rattle.plane_graphs.specs.Graph.{Edge}
use Rattle.slab_laws.specs.declared.slab_cell.SlabCell.{SlabCell}
use Rattle.slab_laws.specs.Meets.{SameFace}
use Rattle.slab_laws.specs.Rows.{dart_list}
use Rattle.slab_laws.specs.Skeleton.{Skeleton, IsPlaneSkeleton}
use Rattle.slab_laws.specs.Slabs.{width}
use Rattle.set_laws.specs.declared.op.Op.{Op}
use Rattle.set_laws.specs.EvenOdd.{by_op, odd_above, op_in, turns_at, border}
use Rattle.set_laws.specs.EvenOddLaws.{IsOfFaces}
use Rattle.set_laws.proofs.Insides.{of_faces, top_weight}
use Rattle.set_laws.proofs.OpRegions.{border_is_listed, nothing}
use Rattle.polygon_sets.specs.Boundaries.{IsBoundary, is_inside}
use Rattle.polygon_sets.specs.ClosedBorders.{IsClosedBorder}
use Rattle.polygon_sets.specs.Regions.{dart_ends}
use Rattle.polygon_sets.proofs.BorderGraphs.{one}
use Rattle.polygon_sets.proofs.BorderSets.{is_side, border_graph, flat, even, same_darts}
use Rattle.polygon_sets.proofs.ClosedRegions.{closed_border}

module _ (op : Op) (g : Skeleton) (red blue : Edge → ℕ) (plane : IsPlaneSkeleton g) (r : IsOfFaces g red) (b : IsOfFaces g blue) where
  one_face : (c d : SlabCell) → SameFace g c d → op_in op g red blue c ≡ op_in op g red blue d
  unfolding op_in
  one_face c d h = λ i. by_op op (r.one_face c d h i) (b.one_face c d h i)

  none : (m : Edge → ℕ) (i : ℕ) → odd_above g m (record { slab = i; place = width g i }) ≡ false
  unfolding odd_above
  none m i = ap (λ n. n % 2 == 1) (top_weight g m i plane)

  top : (i : ℕ) → op_in op g red blue (record { slab = i; place = width g i }) ≡ false
  unfolding op_in
  top i = (λ j. by_op op (none red i j) (none blue i j)) ∙ nothing op

  listed : border op g red blue ≡ filter (is_side (op_in op g red blue) g) (dart_list g)
  unfolding dart_list turns_at
  listed = border_is_listed op g red blue plane

  pub boundary : IsBoundary (map dart_ends (border op g red blue))
  boundary = record {
    graph = border_graph g (op_in op g red blue);
    plane = flat g (op_in op g red blue) plane one_face top;
    even = even g (op_in op g red blue) plane one_face top;
    darts = ap (map dart_ends) (listed ∙ same_darts g (op_in op g red blue) plane one_face top);
  }

-- ---- closed
pub closed_by : (ds : List (Point × Point)) → IsBoundary ds → IsClosedBorder ds
closed_by ds b = subst IsClosedBorder (sym b.darts) (closed_border b.graph (is_inside b.graph) b.plane (of_faces b.graph one b.plane b.even).one_face)

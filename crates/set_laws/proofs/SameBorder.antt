-- The border is told by the weights of edges, as far as they are edges.
use Rattle.std.proofs.Common.{◌≡◌, ℕ, cond, refl, ap, ap₂, List, [], ◌∷◌}
use Rattle.std.specs.Prelude.{not, ◌&&◌, ◌%◌, ◌==◌}
use Rattle.std.specs.List.{Contains, filter}
use lib.Dec.{leb}
use Rattle.plane_graphs.specs.Ascending.{ascending}
use Rattle.plane_graphs.specs.Graph.{Edge}
use Rattle.slab_laws.specs.declared.slab_cell.SlabCell.{SlabCell}
use Rattle.slab_laws.specs.Skeleton.{Skeleton}
use Rattle.slab_laws.specs.Slabs.{spans, place}
use Rattle.slab_laws.specs.Darts.{Dart, darts}
use Rattle.slab_laws.specs.Rotation.{dart_cmp, twin}
use Rattle.slab_laws.specs.Cycles.{left_of_dart}
use Rattle.slab_faces.proofs.Sums.{each, sum_by-same}
use Rattle.set_laws.specs.declared.op.Op.{Op}
use Rattle.set_laws.specs.EvenOdd.{odd_above, by_op, op_in, turns_at, border}

pub same_odd_above : (g : Skeleton) (m n : Edge → ℕ) → ((e : Edge) → Contains g.edges e → m e ≡ n e) → (c : SlabCell) → odd_above g m c ≡ odd_above g n c
unfolding odd_above
same_odd_above g m n same c = ap (λ k. k % 2 == 1) (sum_by-same _ _ g.edges (each (λ e. cond (spans g c.slab e && leb c.place (place g c.slab e)) (m e) 0 ≡ cond (spans g c.slab e && leb c.place (place g c.slab e)) (n e) 0) g.edges (λ e E. ap (λ k. cond (spans g c.slab e && leb c.place (place g c.slab e)) k 0) (same e E))))

module _ (op : Op) (g : Skeleton) (r b r' b' : Edge → ℕ) (red : (e : Edge) → Contains g.edges e → r e ≡ r' e) (blue : (e : Edge) → Contains g.edges e → b e ≡ b' e) where
  pub same_op_in : (c : SlabCell) → op_in op g r b c ≡ op_in op g r' b' c
  unfolding op_in
  same_op_in c = ap₂ (by_op op) (same_odd_above g r r' red c) (same_odd_above g b b' blue c)

  pub same_turns : (d : Dart) → turns_at op g r b d ≡ turns_at op g r' b' d
  unfolding turns_at
  same_turns d = ap₂ (λ x y. x && not y) (same_op_in (left_of_dart g d)) (same_op_in (left_of_dart g (twin d)))

  same_filter : (ds : List Dart) → filter (turns_at op g r b) ds ≡ filter (turns_at op g r' b') ds
  same_filter [] = refl
  same_filter (d ∷ ds) = (λ i. cond (same_turns d i) (d ∷ same_filter ds i) (same_filter ds i))

  pub same_border : border op g r b ≡ border op g r' b'
  unfolding border
  same_border = ap (ascending dart_cmp) (same_filter (darts g))

-- A plane graph in which an edge is split at a point inside it: faces, cycles and kinds are as they were.
use Rattle.std.specs.Prelude.{◌≡◌, ◌≢◌, ◌↔◌, ◌⊎◌, ℕ, ◌+◌, Bool, true, cond, List, ◌||◌}
use Rattle.std.specs.List.{Contains, count_by, sum_by}
use Rattle.exact_plane.specs.Point.{Point}
use Rattle.plane_graphs.specs.Graph.{Edge}
use Rattle.plane_graphs.specs.Line.{IsProper}
use Rattle.rotation_order.specs.EdgeParts.{lower_part, upper_part}
use Rattle.slab_laws.specs.declared.slab_cell.SlabCell.{SlabCell}
use Rattle.slab_laws.specs.Skeleton.{Skeleton, HasWeight, IsPlaneSkeleton, inside, same_edge}
use Rattle.slab_laws.specs.Slabs.{left_cell}
use Rattle.slab_laws.specs.Darts.{Dart, darts, ahead, back}
use Rattle.slab_laws.specs.Meets.{SameFace}
use Rattle.slab_laws.specs.Cycles.{left_of_dart}
use Rattle.slab_laws.specs.Faces.{cells}
use Rattle.slab_laws.specs.Rotation.{next}
use Rattle.slab_laws.specs.Rows.{least_dart_of}
use Rattle.sound_changes.specs.NextLaws.{IsDartOf}
use Rattle.face_changes.specs.Kinds.{is_outer}
use Rattle.face_changes.specs.OneMoreVertex.{widened}

-- g has the edge e and the edges of rest, h has the vertex p, the two parts of e at p, and the edges of rest
pub record HasEdgeSplit (g h : Skeleton) (e : Edge) (p : Point) (rest : List Edge) : Type 0 where
  pub plane : IsPlaneSkeleton g
  pub plane_more : IsPlaneSkeleton h
  pub inside_it : inside e p ≡ true
  pub proper_low : IsProper e.low
  pub proper_high : IsProper e.high
  pub proper : IsProper p
  pub vertices : (u : Point) → Contains h.vertices u ↔ (Contains g.vertices u ⊎ (u ≡ p))
  pub counts : (q : Point → Bool) → count_by q h.vertices ≡ cond (q p) 1 0 + count_by q g.vertices
  pub edges : (z : Edge) → Contains g.edges z ↔ (Contains rest z ⊎ (z ≡ e))
  pub edges_more : (z : Edge) → Contains h.edges z ↔ (Contains rest z ⊎ (z ≡ lower_part e p) ⊎ (z ≡ upper_part e p))
  pub sums : (F : Edge → ℕ) → sum_by F g.edges ≡ F e + sum_by F rest
  pub sums_more : (F : Edge → ℕ) → sum_by F h.edges ≡ F (lower_part e p) + F (upper_part e p) + sum_by F rest

-- a dart of h as one of g: those of both parts as those of e
unfoldable pub whole_dart : Edge → Point → Dart → Dart
whole_dart e p d = cond (same_edge d.edge (lower_part e p) || same_edge d.edge (upper_part e p)) (record { edge = e; forward = d.forward }) d

-- the parts follow each other at p, and each other dart is followed as in g
pub record FollowsSplit (g h : Skeleton) (e : Edge) (p : Point) : Type 0 where
  pub onward : next (darts h) (ahead (lower_part e p)) ≡ ahead (upper_part e p)
  pub backward : next (darts h) (back (upper_part e p)) ≡ back (lower_part e p)
  pub others : (d : Dart) → IsDartOf h d → d ≢ ahead (lower_part e p) → d ≢ back (upper_part e p) → whole_dart e p (next (darts h) d) ≡ next (darts g) (whole_dart e p d)

-- where an edge is split, faces, cycles and kinds are as they were (CGAL manual, `split_edge`)
pub record EdgeSplitInTwo : Type 0 where
  pub left : (g h : Skeleton) (e : Edge) (p : Point) (rest : List Edge) (t : Point) → HasEdgeSplit g h e p rest → HasWeight t → widened g p (left_cell h t) ≡ left_cell g t
  pub faces : (g h : Skeleton) (e : Edge) (p : Point) (rest : List Edge) (c d : SlabCell) → HasEdgeSplit g h e p rest → Contains (cells h) c → Contains (cells h) d → SameFace h c d ↔ SameFace g (widened g p c) (widened g p d)
  pub leads : (g h : Skeleton) (e : Edge) (p : Point) (rest : List Edge) (d k : Dart) → HasEdgeSplit g h e p rest → FollowsSplit g h e p → IsDartOf h d → IsDartOf h k → (least_dart_of h d ≡ least_dart_of h k) ↔ (least_dart_of g (whole_dart e p d) ≡ least_dart_of g (whole_dart e p k))
  pub dart : (g h : Skeleton) (e : Edge) (p : Point) (rest : List Edge) (d : Dart) → HasEdgeSplit g h e p rest → FollowsSplit g h e p → IsDartOf h d → SameFace g (widened g p (left_of_dart h d)) (left_of_dart g (whole_dart e p d))
  pub kinds : (g h : Skeleton) (e : Edge) (p : Point) (rest : List Edge) (d : Dart) → HasEdgeSplit g h e p rest → FollowsSplit g h e p → IsDartOf h d → is_outer h d ≡ is_outer g (whole_dart e p d)

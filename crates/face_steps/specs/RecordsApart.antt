-- The views before and after each change of the records are apart as the laws of tables ask; where the new darts come is known by name.
use Rattle.std.specs.Prelude.{◌≡◌, ◌⊎◌, Bool, Option, Some}
use Rattle.exact_plane.specs.Line.{Line}
use Rattle.exact_plane.specs.Point.{Point}
use Rattle.slab_laws.specs.declared.names.DartId.{DartId}
use Rattle.slab_laws.specs.declared.names.VertexId.{VertexId}
use Rattle.slab_laws.specs.Skeleton.{IsPlaneSkeleton}
use Rattle.slab_laws.specs.Sound.{skeleton_of, IsGraphSound}
use Rattle.slab_laws.specs.View.{View, HasVertex, HasDart, point_in, source_in, target_in, twin_in, next_in, line_in}
use Rattle.arr_notes.specs.Step.{add_edge, remove_edge, split_edge, merge_edge}
use Rattle.arr_notes.specs.ViewChanges.{with_vertex, without_vertex, with_pin}
use Rattle.rotation_order.specs.VertexRings.{IsBare}
use Rattle.sound_changes.specs.ChangeFits.{IsNewVertex, FitsSplit, FitsMerge}
use Rattle.sound_changes.specs.EdgePlaces.{FitsAddedEdge}
use Rattle.face_steps.specs.EdgePairs.{IsEdgeApart}
use Rattle.face_steps.specs.SameGraph.{IsSameGraph}
use Rattle.face_steps.specs.SplitSteps.{IsSplitApart}
use Rattle.face_steps.specs.VertexSteps.{IsVertexApart}

-- each change of the records, by what it makes of the view (this project)
pub record RecordsApart : Type 0 where
  -- an edge that comes, and the darts that it comes after: the twins of those that the places name
  pub added : (v : View) (d m : DartId) (u w : VertexId) (at_u at_w : Option DartId) (l : Line) → IsGraphSound v → FitsAddedEdge v d m u w at_u at_w l → IsPlaneSkeleton (skeleton_of (add_edge v d m u w at_u at_w l)) → IsEdgeApart v (add_edge v d m u w at_u at_w l) d m u w l
  pub after_first : (v : View) (d m : DartId) (u w : VertexId) (a : DartId) (at_w : Option DartId) (l : Line) → IsGraphSound v → FitsAddedEdge v d m u w (Some a) at_w l → IsPlaneSkeleton (skeleton_of (add_edge v d m u w (Some a) at_w l)) → HasDart v (twin_in v a) × (next_in (add_edge v d m u w (Some a) at_w l) (twin_in v a) ≡ d)
  pub after_second : (v : View) (d m : DartId) (u w : VertexId) (at_u : Option DartId) (b : DartId) (l : Line) → IsGraphSound v → FitsAddedEdge v d m u w at_u (Some b) l → IsPlaneSkeleton (skeleton_of (add_edge v d m u w at_u (Some b) l)) → HasDart v (twin_in v b) × (next_in (add_edge v d m u w at_u (Some b) l) (twin_in v b) ≡ m)
  -- an edge that goes
  pub removed : (v : View) (d : DartId) → IsGraphSound v → HasDart v d → IsEdgeApart (remove_edge v d (twin_in v d)) v d (twin_in v d) (source_in v d) (target_in v d) (line_in v d)
  -- with the edge, the dart before one of its darts is the other one, and then that end is bare without it, or it is there without it
  pub before_first : (v w : View) (x y : DartId) (p q : VertexId) (l : Line) (k : DartId) → IsEdgeApart v w x y p q l → HasDart w k → next_in w k ≡ x → ((k ≡ y) × IsBare v p) ⊎ HasDart v k
  pub before_second : (v w : View) (x y : DartId) (p q : VertexId) (l : Line) (k : DartId) → IsEdgeApart v w x y p q l → HasDart w k → next_in w k ≡ y → ((k ≡ x) × IsBare v q) ⊎ HasDart v k
  -- vertices and pins
  pub vertex_added : (v : View) (u : VertexId) (p : Point) → IsGraphSound v → IsNewVertex v u p → IsPlaneSkeleton (skeleton_of (with_vertex v u p)) → IsVertexApart v (with_vertex v u p) u p
  pub vertex_removed : (v : View) (u : VertexId) → IsGraphSound v → HasVertex v u → IsBare v u → IsVertexApart (without_vertex v u) v u (point_in v u)
  pub pinned : (v : View) (u : VertexId) (b : Bool) → IsGraphSound v → IsSameGraph v (with_pin v u b)
  -- an edge in two, and two in one
  pub split : (v : View) (d : DartId) (u : VertexId) (p : Point) (n m : DartId) → IsGraphSound v → FitsSplit v d u p n m → IsSplitApart v (split_edge v d u p n m) d (twin_in v d) n m u p
  pub merged : (v : View) (u : VertexId) (d n : DartId) → IsGraphSound v → FitsMerge v u d n → IsSplitApart (merge_edge v u d n) v d (twin_in v d) n (twin_in v n) u (point_in v u)

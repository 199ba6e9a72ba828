-- What stays of vertices and darts from one view to another, and vertices inside edges.
use Rattle.std.proofs.Common.{◌≡◌, Bool, true, ap, ap₂, ◌∙◌}
use Rattle.std.specs.List.{Contains}
use Rattle.plane_graphs.specs.Graph.{Edge}
use Rattle.plane_graphs.proofs.Lists.{clash}
use Rattle.slab_laws.specs.declared.names.DartId.{DartId}
use Rattle.slab_laws.specs.declared.names.VertexId.{VertexId}
use Rattle.slab_laws.specs.Skeleton.{inside}
use Rattle.slab_laws.specs.Sound.{dart_in, edge_in, skeleton_of, IsTwinned, IsGraphSound}
use Rattle.slab_laws.specs.View.{View, HasVertex, HasDart, point_in, source_in, twin_in}
use Rattle.sound_changes.proofs.KnownNames.{point_known}
use Rattle.sound_views.proofs.NamedDarts.{by_points}
use Rattle.arr_notes.specs.Reads.{IsSameDart}
use Rattle.arr_notes.specs.ViewChanges.{with_pin}
use Rattle.arr_notes.proofs.VertexReads.{pin_is_set}
use Rattle.sound_changes.proofs.StepCases.{IsSameWay}

-- the vertex is in the second view, at the point that it has in the first
pub record IsSamePlace (v w : View) (u : VertexId) : Type 0 where
  pub has : HasVertex w u
  pub point : point_in w u ≡ point_in v u

-- a vertex of the view stands inside the edge
pub record IsDivided (v : View) (e : Edge) : Type 0 where
  pub vertex : VertexId
  pub has : HasVertex v vertex
  pub within : inside e (point_in v vertex) ≡ true

-- no edge of a sound view is divided
pub not_divided : (v : View) (e : Edge) → IsGraphSound v → Contains (skeleton_of v).edges e → IsDivided v e → ⊥
not_divided v e s m x = clash x.within (s.plane.clear e (point_in v x.vertex) m (point_known v s.named x.vertex x.has))

-- ---- darts that go the same way
pub way_on : (v g w : View) (d : DartId) → IsSameWay v g d → IsSameWay g w d → IsSameWay v w d
way_on v g w d a b = record { before = a.before; after = b.after; start = b.start ∙ a.start; end = b.end ∙ a.end }

pub way_dart : (v w : View) (d : DartId) → IsSameWay v w d → dart_in w d ≡ dart_in v d
way_dart v w d a = ap₂ by_points a.start a.end

pub way_edge : (v w : View) (d : DartId) → IsSameWay v w d → edge_in w d ≡ edge_in v d
way_edge v w d a = ap (λ x. x.edge) (way_dart v w d a)

-- views with the same darts, whose ends have the same points
module _ (v g : View) (t : IsTwinned v) (darts : (d : DartId) → IsSameDart v g d) (at : (d : DartId) → HasDart v d → point_in g (source_in v d) ≡ point_in v (source_in v d)) where
  start : (d : DartId) → HasDart v d → point_in g (source_in g d) ≡ point_in v (source_in v d)
  start d o = ap (point_in g) (darts d).source ∙ at d o

  pub same_way : (d : DartId) → HasDart v d → IsSameWay v g d
  same_way d o = record { before = o; after = (darts d).has o; start = start d o; end = ap (λ z. point_in g (source_in g z)) (darts d).twin ∙ start (twin_in v d) (t.has d o) }

-- a pin leaves every dart its way
pub pin_way : (v : View) (w : VertexId) (b : Bool) → IsTwinned v → (d : DartId) → HasDart v d → IsSameWay v (with_pin v w b) d
pin_way v w b t = let k = pin_is_set v w b in same_way v (with_pin v w b) t k.darts (λ d o. k.point (source_in v d))

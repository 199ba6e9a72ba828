-- What the names of a sound view say of the graph that it draws.
use Rattle.std.specs.Prelude.{◌≡◌, ◌↔◌, false, map, filter}
use Rattle.std.specs.List.{Contains}
use Rattle.slab_laws.specs.declared.names.DartId.{DartId}
use Rattle.slab_laws.specs.declared.names.VertexId.{VertexId}
use Rattle.slab_laws.specs.Darts.{Dart, source, target, darts}
use Rattle.slab_laws.specs.Rotation.{twin, next}
use Rattle.slab_laws.specs.Rows.{dart_list}
use Rattle.slab_laws.specs.Subdivision.{has_dart}
use Rattle.slab_laws.specs.View.{View, HasVertex, HasDart, IsOutOf, point_in, source_in, twin_in, next_in, target_in}
use Rattle.slab_laws.specs.Sound.{skeleton_of, dart_in, IsGraphSound}
use Rattle.sound_views.specs.Orders.{vertex_order, dart_order}

-- the vertices in point order have the graph's points in their order
abbrev pub VerticesInOrder : Type 0
VerticesInOrder = (v : View) → IsGraphSound v → map (point_in v) (vertex_order v) ≡ (skeleton_of v).vertices

-- the names in vertex order are those that have a record
abbrev pub VerticesAreOrdered : Type 0
VerticesAreOrdered = (v : View) (w : VertexId) → IsGraphSound v → HasVertex v w ↔ Contains (vertex_order v) w

-- the darts in their order are the graph's darts in theirs
abbrev pub DartsInOrder : Type 0
DartsInOrder = (v : View) → IsGraphSound v → map (dart_in v) (dart_order v) ≡ dart_list (skeleton_of v)

-- the names in dart order are those that have a record
abbrev pub DartsAreOrdered : Type 0
DartsAreOrdered = (v : View) (d : DartId) → IsGraphSound v → HasDart v d ↔ Contains (dart_order v) d

-- the darts that go from the lesser end, in their order, have the graph's edges in their order
abbrev pub EdgesInOrder : Type 0
EdgesInOrder = (v : View) → IsGraphSound v → map (λ d. (dart_in v d).edge) (filter (λ d. (dart_in v d).forward) (dart_order v)) ≡ (skeleton_of v).edges

-- names and darts: `known`, what a name names is a dart of the graph; `there`, each of these has a name; where it begins and ends; its twin, and the dart that follows
pub record NamesAreDarts : Type 0 where
  pub known : (v : View) (d : DartId) → IsGraphSound v → HasDart v d → Contains (darts (skeleton_of v)) (dart_in v d)
  pub there : (v : View) (h : Dart) → IsGraphSound v → Contains (darts (skeleton_of v)) h → (d : DartId) × HasDart v d × (dart_in v d ≡ h)
  pub source : (v : View) (d : DartId) → IsGraphSound v → HasDart v d → source (dart_in v d) ≡ point_in v (source_in v d)
  pub target : (v : View) (d : DartId) → IsGraphSound v → HasDart v d → target (dart_in v d) ≡ point_in v (target_in v d)
  pub twin : (v : View) (d : DartId) → IsGraphSound v → HasDart v d → dart_in v (twin_in v d) ≡ twin (dart_in v d)
  pub next : (v : View) (d : DartId) → IsGraphSound v → HasDart v d → dart_in v (next_in v d) ≡ next (darts (skeleton_of v)) (dart_in v d)

-- a vertex has no dart in the graph exactly where no name's dart leaves it
abbrev pub BareIsBare : Type 0
BareIsBare = (v : View) (w : VertexId) → IsGraphSound v → HasVertex v w → (has_dart (skeleton_of v) (point_in v w) ≡ false) ↔ ((d : DartId) → ¬ IsOutOf v w d)

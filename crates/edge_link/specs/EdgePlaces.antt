-- What the place of a direction says of an edge that leaves in it.
use Rattle.std.specs.Prelude.{◌≡◌, Some, None}
use Rattle.exact_plane.specs.Line.{Line}
use Rattle.slab_laws.specs.declared.names.DartId.{DartId}
use Rattle.slab_laws.specs.declared.names.VertexId.{VertexId}
use Rattle.slab_laws.specs.Darts.{Dart}
use Rattle.slab_laws.specs.Sound.{dart_in}
use Rattle.slab_laws.specs.View.{View, line_in, IsOutOf}
use Rattle.rotation_order.specs.declared.places.Place.{Place}
use Rattle.rotation_order.specs.declared.places.Place.TheVariants.{Between, Along, Bare}
use Rattle.sound_changes.specs.EdgePlaces.{IsPlaceFor}

-- the dart a leaves u along the line l, the way in which x goes (Fogel, Halperin and Wein: overlapping curves)
pub record IsAlongEdge (v : View) (u : VertexId) (l : Line) (x : Dart) (a : DartId) : Type 0 where
  pub out : IsOutOf v u a
  pub line : line_in v a ≡ l
  pub way : (dart_in v a).forward ≡ x.forward

-- the new dart x on the line l comes directly after a clockwise, or runs along a, or is the first out of u (CGAL manual, `insert_at_vertices`)
abbrev pub IsPlaceOfEdge : View → VertexId → Line → Dart → Place → Type 0
IsPlaceOfEdge v u l x Bare = IsPlaceFor v u None x
IsPlaceOfEdge v u l x (Between a b) = IsPlaceFor v u (Some a) x
IsPlaceOfEdge v u l x (Along a) = IsAlongEdge v u l x a

-- Where a direction stands among the darts out of a vertex.
use Rattle.std.specs.Prelude.{◌≡◌, Bool, true}
use Rattle.exact_plane.specs.Direction.{Direction, IsOneDirection}
use Rattle.rotation_order.specs.RingOrder.{sooner_by}
use Rattle.slab_laws.specs.declared.names.DartId.{DartId}
use Rattle.slab_laws.specs.declared.names.VertexId.{VertexId}
use Rattle.slab_laws.specs.Sound.{dart_in}
use Rattle.slab_laws.specs.View.{View, line_in, IsOutOf}
use Rattle.rotation_order.specs.Directions.{direction_before, dart_direction}
use Rattle.arr_notes.specs.AfterAround.{after_in}
use Rattle.rotation_order.specs.VertexRings.{IsBare}
use Rattle.rotation_order.specs.declared.places.Place.{Place}
use Rattle.rotation_order.specs.declared.places.Place.TheVariants.{Between, Along, Bare}

-- the direction in which a dart leaves its vertex (Fogel, Halperin and Wein: halfedges around a vertex)
abbrev pub direction_in : View → DartId → Direction
direction_in v d = dart_direction (line_in v d) (dart_in v d).forward

-- clockwise from just after d, a is met before b; d itself is met last (CGAL manual, circulator around a vertex)
abbrev pub sooner_way : Direction → Direction → Direction → Bool
sooner_way d a b = sooner_by direction_before d a b

-- d leaves w in the direction x (this project)
pub record IsAlongDart (v : View) (w : VertexId) (x : Direction) (d : DartId) : Type 0 where
  pub out : IsOutOf v w d
  pub way : IsOneDirection (direction_in v d) x

-- clockwise from the dart a out of w, x is met before the next dart b, and no dart leaves w in the direction x (Fogel, Halperin and Wein: inserting a halfedge between two around a vertex)
pub record IsBetween (v : View) (w : VertexId) (x : Direction) (a b : DartId) : Type 0 where
  pub out : IsOutOf v w a
  pub neighbours : b ≡ after_in v a
  pub met : sooner_way (direction_in v a) x (direction_in v b) ≡ true
  pub free : (d : DartId) → IsOutOf v w d → ¬ IsOneDirection (direction_in v d) x

-- the place is where the direction x stands among the darts out of w (this project)
abbrev pub IsPlaceOf : View → VertexId → Direction → Place → Type 0
IsPlaceOf v w x Bare = IsBare v w
IsPlaceOf v w x (Along d) = IsAlongDart v w x d
IsPlaceOf v w x (Between a b) = IsBetween v w x a b

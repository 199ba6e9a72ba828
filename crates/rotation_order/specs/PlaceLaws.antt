-- What callers rely on when they know a direction's place.
use Rattle.std.specs.Prelude.{◌≡◌, ◌≢◌, true}
use Rattle.exact_plane.specs.Direction.{Direction}
use Rattle.slab_laws.specs.declared.names.DartId.{DartId}
use Rattle.slab_laws.specs.declared.names.VertexId.{VertexId}
use Rattle.slab_laws.specs.Sound.{IsGraphSound}
use Rattle.slab_laws.specs.View.{View, HasVertex, IsOutOf}
use Rattle.rotation_order.specs.declared.places.Place.{Place}
use Rattle.rotation_order.specs.Place.{direction_in, sooner_way, IsBetween, IsPlaceOf}

-- clockwise from a, a direction between a and its neighbour b is met before every other dart out of the vertex (this project)
abbrev pub NeighboursHaveNoDartBetween : Type 0
NeighboursHaveNoDartBetween =
    (v : View) (w : VertexId) (x : Direction) (a b c : DartId) → IsGraphSound v → HasVertex v w → IsBetween v w x a b → IsOutOf v w c → c ≢ b → sooner_way (direction_in v a) x (direction_in v c) ≡ true

-- a direction has one place at a vertex (this project)
abbrev pub OnePlace : Type 0
OnePlace = (v : View) (w : VertexId) (x : Direction) (p q : Place) → IsGraphSound v → HasVertex v w → IsPlaceOf v w x p → IsPlaceOf v w x q → p ≡ q

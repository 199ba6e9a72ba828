-- Vertices by their numbers, and darts by the numbers of their ends.
use Rattle.std.specs.Prelude.{◌≡◌, ◌≤◌, ◌==◌, ⊤, ℕ, ◌+◌, List, [], ◌∷◌, map, find, Option, Some, slice_get}
use Rattle.std.specs.List.{AllByRecursion, slice_index_or}
use Rattle.std.specs.Option.{option_map}
use Rattle.slab_laws.specs.declared.names.DartId.{DartId}
use Rattle.slab_laws.specs.declared.names.VertexId.{VertexId}
use Rattle.slab_laws.specs.Sound.{skeleton_of}
use Rattle.slab_laws.specs.Text.{index}
use Rattle.slab_laws.specs.View.{View, HasVertex, point_in, source_in, target_in}
use Rattle.sound_views.specs.Orders.{dart_order}
use Rattle.record_orders.specs.declared.vertices.VertexKey.{VertexKey}
use Rattle.arr_text.specs.declared.darts.NumberedDart.{NumberedDart}

-- ---- vertices
-- no two vertices of the list have one name
abbrev pub AreApart : List VertexKey → Type 0
AreApart ks = (i j : ℕ) (k m : VertexKey) → slice_get ks i ≡ Some k → slice_get ks j ≡ Some m → k.name.0 ≡ m.name.0 → i ≡ j

-- at each vertex's name stands its place in the list, from 1 on
abbrev pub TellPlaces : List ℕ → List VertexKey → Type 0
TellPlaces ns ks = (i : ℕ) (k : VertexKey) → slice_get ks i ≡ Some k → slice_index_or ns k.name.0 0 ≡ i + 1

-- the number of a vertex of the view
abbrev pub number_in : View → VertexId → ℕ
number_in v w = index (skeleton_of v) (point_in v w)

-- at the name of each vertex stands its number
abbrev pub AreNumbers : View → List ℕ → Type 0
AreNumbers v ns = (w : VertexId) → HasVertex v w → slice_get ns w.0 ≡ Some (number_in v w)

-- ---- darts
-- a dart with the numbers of its ends
abbrev pub numbered_dart : View → DartId → NumberedDart
numbered_dart v d = record { source = number_in v (source_in v d); target = number_in v (target_in v d); name = d }

-- the darts by source, then by target
abbrev pub numbered_darts : View → List NumberedDart
numbered_darts v = map (numbered_dart v) (dart_order v)

-- the first of the darts that goes out of the vertex of a number
abbrev pub first_out : List NumberedDart → ℕ → Option DartId
first_out ks n = option_map (λ k. k.name) (find (λ k. k.source == n) ks)

-- no dart comes before one of a lesser source
abbrev pub AreBySource : List NumberedDart → Type 0
AreBySource [] = ⊤
AreBySource (k ∷ ks) = AllByRecursion (λ m. k.source ≤ m.source) ks × AreBySource ks

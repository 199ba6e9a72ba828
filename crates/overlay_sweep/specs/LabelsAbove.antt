-- Labels of faces that are known above some edges, and are the same on both sides of all others.
use Rattle.std.specs.Prelude.{◌≡◌, ◌<◌, ◌≤◌, ℕ, true, List, length, slice_index_or, Option, Some, None}
use Rattle.std.specs.List.{Contains}
use Rattle.std.specs.Option.{option_map}
use Rattle.plane_graphs.specs.Graph.{Edge}
use Rattle.slab_laws.specs.declared.slab_cell.SlabCell.{SlabCell}
use Rattle.slab_laws.specs.Cycles.{left_of_dart}
use Rattle.slab_laws.specs.Darts.{source, ahead, back}
use Rattle.slab_laws.specs.Meets.{SameFace}
use Rattle.slab_laws.specs.Rows.{dart_list, dart_at, edge_place, vertex_place}
use Rattle.slab_laws.specs.Skeleton.{Skeleton}
use Rattle.slab_laws.specs.Subdivision.{first_cell}
use Rattle.edge_predicates.specs.FaceLaws.{cell_over}
use Rattle.sweep_graphs.specs.declared.edges.EdgeEnds.{EdgeEnds}
use Rattle.sweep_graphs.specs.Edges.{edge_between}
use Rattle.dart_orbits.specs.Around.{dart_placed}

-- the known label of the edge at a place, if there is one
abbrev pub known_at : List (Option ℕ) → ℕ → Option ℕ
known_at known k = slice_index_or known k None

-- the label above an edge, by the known one, if there is one, and by that below
abbrev pub label_over : Option ℕ → ℕ → ℕ
label_over None below = below
label_over (Some label) below = label

-- a face has one label, the unbounded one 0; above an edge is the known one, and where none is known it is the same on both sides (CGAL manual, overlay traits)
pub record IsLabelling (g : Skeleton) (known : List (Option ℕ)) (label : SlabCell → ℕ) : Type 0 where
  pub constant : (c d : SlabCell) → SameFace g c d → label c ≡ label d
  pub first : label first_cell ≡ 0
  pub own : (e : Edge) (n : ℕ) → Contains g.edges e → known_at known (edge_place g e) ≡ Some n → label (left_of_dart g (ahead e)) ≡ n
  pub other : (e : Edge) → Contains g.edges e → known_at known (edge_place g e) ≡ None → label (left_of_dart g (ahead e)) ≡ label (left_of_dart g (back e))

-- the label of the face on the left of the dart at k stands at k, where it goes forward
abbrev pub IsToldAt : Skeleton → (SlabCell → ℕ) → List ℕ → ℕ → Type 0
IsToldAt g label labels k = (dart_at g k).forward ≡ true → slice_index_or labels k 0 ≡ label (left_of_dart g (dart_at g k))

-- of each dart that goes forward the label of the face above, whatever labels are meant (this project)
pub record AreLabelsAbove (g : Skeleton) (known : List (Option ℕ)) (labels : List ℕ) : Type 0 where
  pub counted : length labels ≡ length (dart_list g)
  pub each : (label : SlabCell → ℕ) → IsLabelling g known label → (k : ℕ) → k < length (dart_list g) → IsToldAt g label labels k

-- of those out of the vertices before v
pub record AreLabelsBefore (g : Skeleton) (known : List (Option ℕ)) (v : ℕ) (labels : List ℕ) : Type 0 where
  pub counted : length labels ≡ length (dart_list g)
  pub each : (label : SlabCell → ℕ) → IsLabelling g known label → (k : ℕ) → k < length (dart_list g) → vertex_place g (source (dart_at g k)) < v → IsToldAt g label labels k

-- the darts out of the vertex v stand from `from` on, before `to`
pub record IsRoundOf (g : Skeleton) (ps : List ℕ) (v from to : ℕ) : Type 0 where
  pub start : from ≤ to
  pub end : to ≤ length ps
  pub before : (i : ℕ) → i < from → vertex_place g (source (dart_placed g ps i)) < v
  pub at : (i : ℕ) → from ≤ i → i < to → vertex_place g (source (dart_placed g ps i)) ≡ v
  pub after : (i : ℕ) → to ≤ i → i < length ps → v < vertex_place g (source (dart_placed g ps i))

-- what is directly below the vertex at v has this label, whatever labels are meant
abbrev pub IsLabelUnder : Skeleton → List (Option ℕ) → List (Option EdgeEnds) → ℕ → ℕ → Type 0
IsLabelUnder g known es v n = (label : SlabCell → ℕ) → IsLabelling g known label → n ≡ label (cell_over g (option_map (edge_between g.vertices) (slice_index_or es v None)))

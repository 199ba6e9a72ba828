-- Which dart follows which in a plane graph with one more edge, by the graph without it, and the other way round.
use Rattle.std.specs.Prelude.{◌≡◌, ◌≢◌, ◌⊎◌, ◌↔◌, true}
use Rattle.std.specs.List.{Contains}
use Rattle.plane_graphs.specs.Graph.{Edge}
use Rattle.rotation_order.specs.RingOrder.{sooner_by}
use Rattle.slab_laws.specs.Darts.{Dart, source, target, darts}
use Rattle.slab_laws.specs.Rotation.{twin, earlier, next}
use Rattle.slab_laws.specs.Skeleton.{Skeleton}

-- h has the vertices and edges of g, and the edge e, which g doesn't have (CGAL manual, `insert_at_vertices`)
pub record HasEdgeMore (g h : Skeleton) (e : Edge) : Type 0 where
  pub vertices : h.vertices ≡ g.vertices
  pub fresh : ¬ Contains g.edges e
  pub edges : (x : Edge) → Contains h.edges x ↔ (Contains g.edges x ⊎ (x ≡ e))

-- d is one of the two darts of an edge of g (CGAL manual, halfedge)
abbrev pub IsDartOf : Skeleton → Dart → Type 0
IsDartOf g d = Contains g.edges d.edge

-- no dart of g goes out of where x does (this project)
abbrev pub IsBareEnd : Skeleton → Dart → Type 0
IsBareEnd g x = (d : Dart) → IsDartOf g d → source d ≢ source x

-- x goes out of where d ends, and clockwise from the twin of d it is met before what follows d in g (Fogel, Halperin and Wein: inserting a halfedge between two around a vertex)
pub record ComesBetween (g : Skeleton) (d x : Dart) : Type 0 where
  pub leaves : source x ≡ target d
  pub met : sooner_by earlier (twin d) x (next (darts g) d) ≡ true

-- what follows each dart in h, which has the edges of g and e; x is either dart of e (this project)
pub record IsNextWithMore (g h : Skeleton) (e : Edge) : Type 0 where
  -- a new dart follows the dart that it comes after
  pub between : (d x : Dart) → IsDartOf g d → x.edge ≡ e → ComesBetween g d x → next (darts h) d ≡ x
  -- and the twin of the new dart is followed by what followed that dart
  pub onward : (d x : Dart) → IsDartOf g d → x.edge ≡ e → ComesBetween g d x → next (darts h) (twin x) ≡ next (darts g) d
  -- every other dart is followed by what followed it
  pub elsewhere : (d : Dart) → IsDartOf g d → ((x : Dart) → x.edge ≡ e → ¬ ComesBetween g d x) → next (darts h) d ≡ next (darts g) d
  -- at a bare end the new dart follows its twin
  pub bare : (x : Dart) → x.edge ≡ e → IsBareEnd g x → next (darts h) (twin x) ≡ x
  -- at an end that isn't bare the new dart comes after some dart
  pub somewhere : (x : Dart) → x.edge ≡ e → IsBareEnd g x ⊎ ((d : Dart) × IsDartOf g d × ComesBetween g d x)

-- what follows each dart in g, which has the edges of h but e; x is either dart of e (this project)
pub record IsNextWithLess (g h : Skeleton) (e : Edge) : Type 0 where
  -- a dart that x followed is followed by what followed the twin of x
  pub onward : (d x : Dart) → IsDartOf g d → x.edge ≡ e → next (darts h) d ≡ x → next (darts g) d ≡ next (darts h) (twin x)
  -- every other dart is followed by what followed it
  pub elsewhere : (d : Dart) → IsDartOf g d → (next (darts h) d).edge ≢ e → next (darts g) d ≡ next (darts h) d

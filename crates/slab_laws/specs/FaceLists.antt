-- The lists that a face keeps of its own cycles and isolated vertices, and what a change moves from one face to another.
use Rattle.std.specs.Prelude.{◌≡◌, ◌↔◌, ℕ, ◌==◌, cond, Bool, List, [], ◌∷◌, Option, Some, None, ⊤}
use Rattle.plane_graphs.specs.Ascending.{Member}
use Rattle.slab_laws.specs.declared.names.CycleId.{CycleId}
use Rattle.slab_laws.specs.declared.names.DartId.{DartId}
use Rattle.slab_laws.specs.declared.names.FaceId.{FaceId}
use Rattle.slab_laws.specs.declared.names.VertexId.{VertexId}
use Rattle.slab_laws.specs.View.{View, Faces, HasDart, HasCycle, HasBareFace, cycle_in, face_in, bare_face_in}

-- the cycles that bound each face, the vertices without darts in it, each in the order in which they are read, and a dart for each cycle (this project)
pub record Lists : Type 0 where
  pub cycles : FaceId → List CycleId
  pub bare : FaceId → List VertexId
  pub dart_on : CycleId → DartId

abbrev pub first_of : {X : Type 0} → List X → Option X
first_of [] = None
first_of (x ∷ xs) = Some x

-- what stands after the first that passes; none after the last
unfoldable pub follower : {X : Type 0} → (X → Bool) → List X → Option X
follower p [] = None
follower p (x ∷ xs) = cond (p x) (first_of xs) (follower p xs)

-- the cycle after c; none after the last
abbrev pub cycle_follower : CycleId → List CycleId → Option CycleId
cycle_follower c xs = follower (λ x. x.0 == c.0) xs

-- the vertex after w; none after the last
abbrev pub vertex_follower : VertexId → List VertexId → Option VertexId
vertex_follower w xs = follower (λ x. x.0 == w.0) xs

-- each stands once
abbrev pub AreOnce : {X : Type 0} → List X → Type 0
AreOnce [] = ⊤
AreOnce (x ∷ xs) = (Member x xs → ⊥) × AreOnce xs

-- each face lists the cycles that bound it, and the vertices without darts that lie in it, each once (CGAL manual: outer and inner boundaries and isolated vertices of a face)
pub record AreFacesListed (f : Faces) (l : Lists) : Type 0 where
  pub cycles : (a : FaceId) (c : CycleId) → Member c (l.cycles a) ↔ (HasCycle f c × (face_in f c ≡ a))
  pub bare : (a : FaceId) (w : VertexId) → Member w (l.bare a) ↔ (HasBareFace f w × (bare_face_in f w ≡ a))
  pub cycles_once : (a : FaceId) → AreOnce (l.cycles a)
  pub bare_once : (a : FaceId) → AreOnce (l.bare a)

-- of each cycle a dart on it is kept (CGAL manual, a boundary is known by one of its halfedges)
abbrev pub AreDartsOn : View → Faces → Lists → Type 0
AreDartsOn v f l = (c : CycleId) → HasCycle f c → HasDart v (l.dart_on c) × (cycle_in f (l.dart_on c) ≡ c)

-- the lists are those of the faces, and of each cycle a dart on it is kept
pub record AreLists (v : View) (f : Faces) (l : Lists) : Type 0 where
  pub listed : AreFacesListed f l
  pub darts : AreDartsOn v f l

-- the cycles and the vertices that move, in order, and how many of each the lists have room for in all
pub record MovedView : Type 0 where
  pub cycles : List CycleId
  pub vertices : List VertexId
  pub room_of_cycles : ℕ
  pub room_of_vertices : ℕ

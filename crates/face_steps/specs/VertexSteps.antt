-- A vertex without darts, which is in one of two views: the tables beside both.
-- f stands beside the view v without the vertex u, s beside w with it.
use Rattle.std.specs.Prelude.{◌≡◌, ◌≢◌, ◌↔◌}
use Rattle.exact_plane.specs.Point.{Point}
use Rattle.slab_laws.specs.declared.names.DartId.{DartId}
use Rattle.slab_laws.specs.declared.names.FaceId.{FaceId}
use Rattle.slab_laws.specs.declared.names.VertexId.{VertexId}
use Rattle.slab_laws.specs.FacesSound.{IsCycled}
use Rattle.slab_laws.specs.Meets.{SameFace}
use Rattle.slab_laws.specs.Skeleton.{HasWeight}
use Rattle.slab_laws.specs.Slabs.{left_cell}
use Rattle.slab_laws.specs.Sound.{skeleton_of, IsGraphSound}
use Rattle.slab_laws.specs.View.{View, Faces, HasVertex, HasDart, point_in, cycle_in, kind_in, face_in, bare_face_in}
use Rattle.arr_notes.specs.Reads.{IsSameDart}
use Rattle.face_changes.specs.FacesByPairs.{Item, HasItem, cell_at, name_at, AreFacesTold}

-- w has the vertex u at p, which v hasn't; all else is alike (CGAL manual, isolated vertices)
pub record IsVertexApart (v w : View) (u : VertexId) (p : Point) : Type 0 where
  pub sound : IsGraphSound v
  pub sound_more : IsGraphSound w
  pub new : ¬ HasVertex v u
  pub has : HasVertex w u
  pub point : point_in w u ≡ p
  pub up : (z : VertexId) → HasVertex v z → HasVertex w z × (point_in w z ≡ point_in v z)
  pub down : (z : VertexId) → HasVertex w z → z ≢ u → HasVertex v z
  pub darts : (k : DartId) → IsSameDart v w k

-- cycles are the same, and u is in the face named (CGAL manual, isolated vertices)
pub record IsBareApart (v : View) (f s : Faces) (u : VertexId) (face : FaceId) : Type 0 where
  pub faces : s.faces ≡ f.faces
  pub darts : (k : DartId) → HasDart v k → cycle_in s k ≡ cycle_in f k
  pub kinds : (k : DartId) → HasDart v k → kind_in s (cycle_in f k) ≡ kind_in f (cycle_in f k)
  pub beside : (k : DartId) → HasDart v k → face_in s (cycle_in f k) ≡ face_in f (cycle_in f k)
  pub round : (z : VertexId) → HasVertex v z → bare_face_in s z ≡ bare_face_in f z
  pub new : bare_face_in s u ≡ face

-- the face named is that of the point: something that has it lies in one face with the cell left of the point, which is what point location finds (CGAL manual, point location)
abbrev pub IsFaceRound : View → Faces → FaceId → Point → Type 0
IsFaceRound v f face p = (i : Item) × HasItem v i × (name_at f i ≡ face) × SameFace (skeleton_of v) (cell_at v i) (left_cell (skeleton_of v) p)

-- cycles and faces are told with the vertex exactly where they are without it; where it comes, its face has to be known; and the face named for a point stays that of the point (this project)
pub record VertexSteps : Type 0 where
  pub cycled : (v w : View) (f s : Faces) (u : VertexId) (p : Point) (face : FaceId) → IsVertexApart v w u p → IsBareApart v f s u face → IsCycled v f ↔ IsCycled w s
  pub comes : (v w : View) (f s : Faces) (u : VertexId) (p : Point) (face : FaceId) → IsVertexApart v w u p → IsBareApart v f s u face → IsFaceRound v f face p → AreFacesTold v f → AreFacesTold w s
  pub goes : (v w : View) (f s : Faces) (u : VertexId) (p : Point) (face : FaceId) → IsVertexApart v w u p → IsBareApart v f s u face → AreFacesTold w s → AreFacesTold v f
  pub stays : (v w : View) (f s : Faces) (u : VertexId) (p : Point) (face : FaceId) → IsVertexApart v w u p → IsBareApart v f s u face → (a : FaceId) (q : Point) → HasWeight q → IsFaceRound v f a q → IsFaceRound w s a q

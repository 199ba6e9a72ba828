-- An edge of one view that is two edges of another: the tables beside both.
-- f stands beside the view v with the whole edge, of d and its twin t, s beside w with its parts: that of d and t, and that of n and m, which meet at the vertex u.
use Rattle.std.specs.Prelude.{◌≡◌, ◌≢◌, ◌↔◌, ◌==◌, cond, true}
use Rattle.exact_plane.specs.Point.{Point}
use Rattle.plane_graphs.specs.Line.{precedes}
use Rattle.slab_laws.specs.declared.names.DartId.{DartId}
use Rattle.slab_laws.specs.declared.names.FaceId.{FaceId}
use Rattle.slab_laws.specs.declared.names.VertexId.{VertexId}
use Rattle.slab_laws.specs.FacesSound.{IsCycled}
use Rattle.slab_laws.specs.Skeleton.{HasWeight, inside}
use Rattle.slab_laws.specs.Sound.{edge_in, IsGraphSound}
use Rattle.slab_laws.specs.View.{View, Faces, HasVertex, HasDart, point_in, source_in, next_in, cycle_in, kind_in, face_in, bare_face_in}
use Rattle.sound_changes.specs.SplitHalves.{IsHalved}
use Rattle.face_changes.specs.FacesByPairs.{AreFacesTold}
use Rattle.face_steps.specs.VertexSteps.{IsFaceRound}

-- the dart of the whole edge that a dart of a part goes along; any other is itself (this project)
abbrev pub whole_name : DartId → DartId → DartId → DartId → DartId → DartId
whole_name d t n m k = cond (k.0 == n.0) d (cond (k.0 == m.0) t k)

-- with u at p inside the edge, and who follows whom (CGAL manual, `split_edge` and `merge_edge`)
pub record IsSplitApart (v w : View) (d t n m : DartId) (u : VertexId) (p : Point) : Type 0 where
  pub sound : IsGraphSound v
  pub sound_more : IsGraphSound w
  pub halves : IsHalved v w d t n m u
  pub point : point_in w u ≡ p
  pub before : precedes (point_in v (source_in v d)) p ≡ true
  pub behind : precedes p (point_in v (source_in v t)) ≡ true
  pub inside_it : inside (edge_in v d) p ≡ true
  pub onward : next_in w d ≡ n
  pub backward : next_in w m ≡ t
  pub follows : (k : DartId) → HasDart w k → k ≢ d → k ≢ m → whole_name d t n m (next_in w k) ≡ next_in v (whole_name d t n m k)

-- n and m are on the cycles of d and of t, and all else is alike (CGAL manual, `split_edge` and `merge_edge`)
pub record AreHalvesTabled (v : View) (f s : Faces) (d t n m : DartId) : Type 0 where
  pub faces : s.faces ≡ f.faces
  pub first : cycle_in s n ≡ cycle_in f d
  pub second : cycle_in s m ≡ cycle_in f t
  pub darts : (k : DartId) → HasDart v k → cycle_in s k ≡ cycle_in f k
  pub kinds : (k : DartId) → HasDart v k → kind_in s (cycle_in f k) ≡ kind_in f (cycle_in f k)
  pub beside : (k : DartId) → HasDart v k → face_in s (cycle_in f k) ≡ face_in f (cycle_in f k)
  pub round : (z : VertexId) → HasVertex v z → bare_face_in s z ≡ bare_face_in f z

-- cycles and faces are told of an edge in two exactly where they are of the whole edge, and the face named for a point stays that of the point (this project)
pub record SplitSteps : Type 0 where
  pub cycled : (v w : View) (f s : Faces) (d t n m : DartId) (u : VertexId) (p : Point) → IsSplitApart v w d t n m u p → AreHalvesTabled v f s d t n m → IsCycled v f ↔ IsCycled w s
  pub told : (v w : View) (f s : Faces) (d t n m : DartId) (u : VertexId) (p : Point) → IsSplitApart v w d t n m u p → AreHalvesTabled v f s d t n m → AreFacesTold v f ↔ AreFacesTold w s
  pub stays : (v w : View) (f s : Faces) (d t n m : DartId) (u : VertexId) (p : Point) → IsSplitApart v w d t n m u p → AreHalvesTabled v f s d t n m → (a : FaceId) (q : Point) → HasWeight q → IsFaceRound v f a q → IsFaceRound w s a q

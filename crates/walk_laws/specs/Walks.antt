-- A walk from the unbounded face up to the face of a point, over edges that the point sees below it.
-- Each definition has the forward dart of the edge that was passed last, or none at first.
use Rattle.std.specs.Prelude.{◌≡◌, ◌≢◌, ℕ, ◌<◌, ◌==◌, ◌&&◌, ◌||◌, Bool, false, cond, leb, Option, Some, None}
use Rattle.std.specs.List.{list_any, sum_by}
use Rattle.exact_plane.specs.Point.{Point}
use Rattle.slab_laws.specs.declared.names.DartId.{DartId}
use Rattle.slab_laws.specs.declared.names.FaceId.{FaceId}
use Rattle.slab_laws.specs.declared.names.VertexId.{VertexId}
use Rattle.slab_laws.specs.Skeleton.{under, inside, precedes}
use Rattle.slab_laws.specs.Sound.{skeleton_of, dart_in, edge_in}
use Rattle.slab_laws.specs.View.{View, Faces, HasDart, HasBareFace, dart_id, face_id, point_in, source_in, target_in, cycle_in, face_in, bare_face_in}
use Rattle.face_changes.specs.FacesByPairs.{first_or}
use Rattle.edge_predicates.specs.Levels.{IsSeen, level, levels_to}
use Rattle.face_location.specs.Below.{edge_along}

-- the face over that edge; at first the unbounded one, whose name is the first (CGAL manual, walk along a line)
abbrev pub face_above : Faces → Option DartId → FaceId
face_above f None = first_or f.faces
face_above f (Some d) = face_in f (cycle_in f d)

-- how many edges in the slab of the point are at most as high as it
abbrev pub height : View → Point → Option DartId → ℕ
height v q o = levels_to (skeleton_of v) q (edge_along v o)

-- the point is at no end of the dart and not inside its edge, and doesn't see this higher than what was passed (this project)
pub record IsDartPassed (v : View) (q : Point) (o : Option DartId) (d : DartId) : Type 0 where
  pub off_source : point_in v (source_in v d) ≢ q
  pub off_target : point_in v (target_in v d) ≢ q
  pub off_edge : inside (edge_in v d) q ≡ false
  pub no_higher : IsSeen (skeleton_of v) q (edge_in v d) → level (skeleton_of v) q (edge_in v d) < height v q o

-- so it is with each dart on the boundary of the face, and the point is at no vertex without darts in it (this project)
pub record IsBoundaryPassed (v : View) (f : Faces) (q : Point) (o : Option DartId) (a : FaceId) : Type 0 where
  pub darts : (d : DartId) → HasDart v d → face_in f (cycle_in f d) ≡ a → IsDartPassed v q o d
  pub bare : (w : VertexId) → HasBareFace f w → bare_face_in f w ≡ a → point_in v w ≢ q

-- ---- which faces are ahead
-- whether a dart goes forward along an edge that the point sees below it (Fogel, Halperin and Wein: vertical ray shooting)
abbrev pub is_seen : View → Point → DartId → Bool
is_seen v q d = (dart_in v d).forward && (precedes (edge_in v d).low q && precedes q (edge_in v d).high && under (edge_in v d) q)

-- and whether it is higher than what was passed, with the face on its left
abbrev pub leads_to : View → Faces → Point → Option DartId → FaceId → DartId → Bool
leads_to v f q o a d = is_seen v q d && (leb (height v q o) (level (skeleton_of v) q (edge_in v d)) && (face_in f (cycle_in f d)).0 == a.0)

-- whether the face is over what was passed, or over a higher edge that the point sees below it: at first, whether the leant vertical below the point passes it (CGAL manual, walk along a line)
abbrev pub is_ahead : View → Faces → Point → Option DartId → FaceId → Bool
is_ahead v f q o a = (a.0 == (face_above f o).0) || list_any (λ r. leads_to v f q o a (dart_id r.0)) v.darts

-- the sizes of all these faces together
abbrev pub size_ahead : (FaceId → ℕ) → View → Faces → Point → Option DartId → ℕ
size_ahead size v f q o = sum_by (λ n. cond (is_ahead v f q o (face_id n)) (size (face_id n)) 0) f.faces

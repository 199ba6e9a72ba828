-- Changes that part no face and unite none: what the tables have in common before and after, where an edge has one face on both sides.
-- f stands beside the view v without the edge, s beside w with it; each law holds both ways, for the edge that comes and for the one that goes.
use Rattle.std.specs.Prelude.{◌≡◌, ◌≢◌, ◌↔◌, ◌⊎◌, false}
use Rattle.exact_plane.specs.Line.{Line}
use Rattle.slab_laws.specs.declared.names.CycleId.{CycleId}
use Rattle.slab_laws.specs.declared.names.CycleKind.TheVariants.{Inner}
use Rattle.slab_laws.specs.declared.names.DartId.{DartId}
use Rattle.slab_laws.specs.declared.names.VertexId.{VertexId}
use Rattle.slab_laws.specs.FacesSound.{lead_in, IsCycled}
use Rattle.slab_laws.specs.Sound.{skeleton_of, dart_in}
use Rattle.slab_laws.specs.View.{View, Faces, HasVertex, HasDart, cycle_in, kind_in, face_in, bare_face_in, next_in}
use Rattle.rotation_order.specs.VertexRings.{IsBare}
use Rattle.face_changes.specs.FacesByPairs.{AreFacesTold}
use Rattle.face_changes.specs.Kinds.{is_outer}
use Rattle.face_steps.specs.EdgePairs.{IsEdgeApart}

-- ---- faces: no record comes or goes, and what has a face keeps it; at an end that is bare without the edge, the edge is in the face of the vertex (this project)
pub record AreFacesKept (v w : View) (f s : Faces) (x y : DartId) (p q : VertexId) : Type 0 where
  pub faces : s.faces ≡ f.faces
  pub beside : (k : DartId) → HasDart v k → face_in s (cycle_in s k) ≡ face_in f (cycle_in f k)
  pub round : (u : VertexId) → HasVertex w u → IsBare w u → bare_face_in s u ≡ bare_face_in f u
  pub start : IsBare v p → face_in s (cycle_in s x) ≡ bare_face_in f p
  pub end : IsBare v q → face_in s (cycle_in s y) ≡ bare_face_in f q

-- where the edge has one cycle on both sides, names tell faces with it exactly where they do without it (CGAL manual, `insert_at_vertices`; the law: this project)
abbrev pub OneFaceOnBothSides : Type 0
OneFaceOnBothSides =
    (v w : View) (f s : Faces) (x y : DartId) (p q : VertexId) (l : Line) → IsEdgeApart v w x y p q l → lead_in w x ≡ lead_in w y → IsCycled w s → AreFacesKept v w f s x y p q → AreFacesTold v f ↔ AreFacesTold w s

-- ---- cycles
-- the darts that were there keep their cycles, and the cycles their kinds
pub record AreCyclesKept (v : View) (f s : Faces) : Type 0 where
  pub darts : (k : DartId) → HasDart v k → cycle_in s k ≡ cycle_in f k
  pub kinds : (k : DartId) → HasDart v k → kind_in s (cycle_in f k) ≡ kind_in f (cycle_in f k)

-- the darts of the edge alone are on the inner cycle c: a new hole, or one that vanishes (CGAL manual, `insert_in_face_interior`)
pub record IsHoleApart (v : View) (f s : Faces) (x y : DartId) (c : CycleId) : Type 0 where
  pub kept : AreCyclesKept v f s
  pub fresh : (k : DartId) → HasDart v k → cycle_in f k ≢ c
  pub first : cycle_in s x ≡ c
  pub second : cycle_in s y ≡ c
  pub kind : kind_in s c ≡ Inner

-- they are on the cycle of a, which grows, or shrinks (CGAL manual, `insert_from_left_vertex`)
pub record IsGrowthApart (v : View) (f s : Faces) (x y a : DartId) : Type 0 where
  pub kept : AreCyclesKept v f s
  pub first : cycle_in s x ≡ cycle_in f a
  pub second : cycle_in s y ≡ cycle_in f a

-- with the edge the darts of gone are on kept, and so are those of the edge; gone is inner: two cycles are joined, or one breaks (CGAL manual, `insert_at_vertices`)
pub record IsJoinApart (v : View) (f s : Faces) (x y a b : DartId) (kept gone : CycleId) : Type 0 where
  pub two : kept ≢ gone
  pub ends : ((cycle_in f a ≡ kept) × (cycle_in f b ≡ gone)) ⊎ ((cycle_in f a ≡ gone) × (cycle_in f b ≡ kept))
  pub first : cycle_in s x ≡ kept
  pub second : cycle_in s y ≡ kept
  pub moved : (k : DartId) → HasDart v k → cycle_in f k ≡ gone → cycle_in s k ≡ kept
  pub others : (k : DartId) → HasDart v k → cycle_in f k ≢ gone → cycle_in s k ≡ cycle_in f k
  pub kind : kind_in f gone ≡ Inner
  pub kinds : (k : DartId) → HasDart v k → cycle_in f k ≢ gone → kind_in s (cycle_in f k) ≡ kind_in f (cycle_in f k)

-- the darts of gone are the orbit of c, which is inner: what a break has to see to, and what a join finds so (this project)
pub record IsInnerOrbit (v : View) (f : Faces) (gone : CycleId) (c : DartId) : Type 0 where
  pub dart : HasDart v c
  pub orbit : (k : DartId) → HasDart v k → (cycle_in f k ≡ gone) ↔ (lead_in v k ≡ lead_in v c)
  pub inner : is_outer (skeleton_of v) (dart_in v c) ≡ false

-- cycles are told with the edge exactly where they are without it; a break has to see to the orbit of the fresh one (this project)
pub record CyclesApart : Type 0 where
  pub hole : (v w : View) (f s : Faces) (x y : DartId) (p q : VertexId) (l : Line) (c : CycleId) → IsEdgeApart v w x y p q l → IsBare v p → IsBare v q → IsHoleApart v f s x y c → IsCycled v f ↔ IsCycled w s
  pub growth : (v w : View) (f s : Faces) (x y : DartId) (p q : VertexId) (l : Line) (a : DartId) → IsEdgeApart v w x y p q l → HasDart v a → next_in w a ≡ x → IsBare v q → IsGrowthApart v f s x y a → IsCycled v f ↔ IsCycled w s
  pub join : (v w : View) (f s : Faces) (x y : DartId) (p q : VertexId) (l : Line) (a b : DartId) (kept gone : CycleId) → IsEdgeApart v w x y p q l → HasDart v a → HasDart v b → next_in w a ≡ x → next_in w b ≡ y → IsJoinApart v f s x y a b kept gone → IsCycled v f → IsCycled w s
  pub break : (v w : View) (f s : Faces) (x y : DartId) (p q : VertexId) (l : Line) (a b c : DartId) (kept gone : CycleId) → IsEdgeApart v w x y p q l → HasDart v a → HasDart v b → next_in w a ≡ x → next_in w b ≡ y → IsJoinApart v f s x y a b kept gone → IsInnerOrbit v f gone c → IsCycled w s → IsCycled v f

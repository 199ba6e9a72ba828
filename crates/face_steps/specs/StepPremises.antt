-- What each change asks of the views before and after it, and of the tables before it.
use Rattle.std.specs.Prelude.{◌≡◌, ◌≢◌, ◌↔◌, ◌⊎◌, ◌<◌, true, false, List}
use Rattle.exact_plane.specs.Line.{Line}
use Rattle.exact_plane.specs.Point.{Point}
use Rattle.slab_laws.specs.declared.names.CycleId.{CycleId}
use Rattle.slab_laws.specs.declared.names.CycleKind.TheVariants.{Inner, Outer}
use Rattle.slab_laws.specs.declared.names.DartId.{DartId}
use Rattle.slab_laws.specs.declared.names.FaceId.{FaceId}
use Rattle.slab_laws.specs.declared.names.VertexId.{VertexId}
use Rattle.slab_laws.specs.Sound.{skeleton_of, dart_in}
use Rattle.slab_laws.specs.View.{View, Faces, HasDart, HasCycle, HasFace, HasBareFace, next_in, cycle_in, kind_in, face_in, bare_face_in}
use Rattle.arr_notes.specs.FaceSteps.{FaceChange, comes_bare, goes_bare, in_two, in_one, new_hole, grows, joins, splits, vanishes, shrinks, breaks, unites, cleared, as_it_was}
use Rattle.arr_notes.specs.FaceWriters.{lists_cycle, lists_vertex}
use Rattle.arr_notes.specs.ViewChanges.{no_rows}
use Rattle.rotation_order.specs.VertexRings.{IsBare}
use Rattle.face_changes.specs.FacesByPairs.{beside, round, first_or}
use Rattle.face_changes.specs.Kinds.{is_outer}
use Rattle.face_changes.specs.RecordsAfterSplits.{IsWithin}
use Rattle.face_steps.specs.EdgePairs.{IsEdgeApart}
use Rattle.face_steps.specs.SameGraph.{IsSameGraph}
use Rattle.face_steps.specs.SplitSteps.{IsSplitApart}
use Rattle.face_steps.specs.VertexSteps.{IsVertexApart, IsFaceRound}

-- ---- where the edge is put in, or was: before_d and before_m are the darts that d and its twin m come after (CGAL manual, `insert_at_vertices`)
pub record IsBetween (v w : View) (d m : DartId) (p q : VertexId) (before_d before_m : DartId) : Type 0 where
  pub line : Line
  pub edge : IsEdgeApart v w d m p q line
  pub first : HasDart v before_d
  pub second : HasDart v before_m
  pub after_first : next_in w before_d ≡ d
  pub after_second : next_in w before_m ≡ m

-- one end is bare without the edge, the target of d; before_d is the dart before d at the other (CGAL manual, `insert_from_left_vertex`)
pub record IsAtEnd (v w : View) (d m : DartId) (p q : VertexId) (before_d : DartId) : Type 0 where
  pub line : Line
  pub edge : IsEdgeApart v w d m p q line
  pub place : HasDart v before_d
  pub after : next_in w before_d ≡ d
  pub bare : IsBare v q

-- ---- what a join asks: the two places, after a and after b, are on two cycles, of which the one that goes is inner
pub record FitsJoin (f : Faces) (a b : DartId) (kept gone : CycleId) : Type 0 where
  pub two : kept ≢ gone
  pub ends : ((cycle_in f a ≡ kept) × (cycle_in f b ≡ gone)) ⊎ ((cycle_in f a ≡ gone) × (cycle_in f b ≡ kept))
  pub inner : kind_in f gone ≡ Inner

-- ---- what a break asks, of the view v without the edge and the tables s with it: both darts, x and y, are on the cycle that stays,
-- and the fresh one is that of the dart before one of them, after a or after b, and inner
pub record FitsBreak (v : View) (s : Faces) (x y a b : DartId) (kept fresh : CycleId) (fresh_dart : DartId) : Type 0 where
  pub first : cycle_in s x ≡ kept
  pub second : cycle_in s y ≡ kept
  pub new : ¬ HasCycle s fresh
  pub ends : (fresh_dart ≡ a) ⊎ (fresh_dart ≡ b)
  pub inner : is_outer (skeleton_of v) (dart_in v fresh_dart) ≡ false

-- ---- what a split asks: both places are on kept, the names are fresh, and the face's comes after the first; x is the outer half's dart;
-- listed are the cycles and isolated vertices that had the face and lie within that half
pub record FitsSplitting (v w : View) (f : Faces) (x a b : DartId) (kept fresh : CycleId) (fresh_face : FaceId) (holes : List CycleId) (isolated : List VertexId) : Type 0 where
  pub first : cycle_in f a ≡ kept
  pub second : cycle_in f b ≡ kept
  pub new_cycle : ¬ HasCycle f fresh
  pub new_face : ¬ HasFace f fresh_face
  pub later : (first_or f.faces).0 < fresh_face.0
  pub outer : is_outer (skeleton_of w) (dart_in w x) ≡ true
  pub cycles : (e : CycleId) → HasCycle f e → lists_cycle holes e.0 ≡ true → (e ≢ kept) × (face_in f e ≡ face_in f kept)
  pub within : (k : DartId) → HasDart v k → cycle_in f k ≢ kept → face_in f (cycle_in f k) ≡ face_in f kept → (lists_cycle holes (cycle_in f k).0 ≡ true) ↔ IsWithin w x (beside k)
  pub vertices : (u : VertexId) → HasBareFace f u → lists_vertex isolated u.0 ≡ true → bare_face_in f u ≡ face_in f kept
  pub within_bare : (u : VertexId) → HasBareFace f u → bare_face_in f u ≡ face_in f kept → (lists_vertex isolated u.0 ≡ true) ↔ IsWithin w x (round u)

-- ---- what it asks that two faces become one, of the tables with the edge: x is on gone, which is outer, y on kept; listed is all else that gone's face had
pub record FitsUnite (s : Faces) (x y : DartId) (kept gone : CycleId) (gone_face : FaceId) (holes : List CycleId) (isolated : List VertexId) : Type 0 where
  pub first : cycle_in s x ≡ gone
  pub second : cycle_in s y ≡ kept
  pub two : kept ≢ gone
  pub outer : kind_in s gone ≡ Outer
  pub face : face_in s gone ≡ gone_face
  pub cycles : (e : CycleId) → HasCycle s e → e ≢ gone → (lists_cycle holes e.0 ≡ true) ↔ (face_in s e ≡ gone_face)
  pub vertices : (u : VertexId) → HasBareFace s u → (lists_vertex isolated u.0 ≡ true) ↔ (bare_face_in s u ≡ gone_face)

-- ---- each change: v is the view before it, w the view after it, f the tables before it (this project)
abbrev pub FitsFaces : View → View → Faces → FaceChange → Type 0
FitsFaces v w f (comes_bare u face) = (p : Point) × IsVertexApart v w u p × IsFaceRound v f face p
FitsFaces v w f (goes_bare u) = (p : Point) × IsVertexApart w v u p
FitsFaces v w f (in_two d t n m) = (u : VertexId) × (p : Point) × IsSplitApart v w d t n m u p
FitsFaces v w f (in_one n m) = (d : DartId) × (t : DartId) × (u : VertexId) × (p : Point) × IsSplitApart w v d t n m u p
FitsFaces v w f (new_hole d m p q cycle face) =
    (l : Line) × IsEdgeApart v w d m p q l × IsBare v p × IsBare v q × (¬ HasCycle f cycle) × (face ≡ bare_face_in f p)
FitsFaces v w f (grows d m u cycle) = (z : VertexId) × (a : DartId) × (IsAtEnd v w d m z u a ⊎ IsAtEnd v w m d z u a) × (cycle_in f a ≡ cycle)
FitsFaces v w f (joins d m kept gone) = (p : VertexId) × (q : VertexId) × (a : DartId) × (b : DartId) × IsBetween v w d m p q a b × FitsJoin f a b kept gone
FitsFaces v w f (splits d m kept fresh x fresh_face holes isolated) =
    (p : VertexId) × (q : VertexId) × (a : DartId) × (b : DartId) × IsBetween v w d m p q a b × (((x ≡ d) × FitsSplitting v w f d a b kept fresh fresh_face holes isolated) ⊎ ((x ≡ m) × FitsSplitting v w f m b a kept fresh fresh_face holes isolated))
FitsFaces v w f (vanishes d m p q cycle face) =
    (l : Line) × IsEdgeApart w v d m p q l × IsBare w p × IsBare w q × (cycle_in f d ≡ cycle) × (face ≡ face_in f cycle)
FitsFaces v w f (shrinks d m u cycle face) =
    (z : VertexId) × (a : DartId) × (IsAtEnd w v d m z u a ⊎ IsAtEnd w v m d z u a) × (cycle_in f d ≡ cycle) × (face ≡ face_in f cycle)
FitsFaces v w f (breaks d m kept fresh x) = (p : VertexId) × (q : VertexId) × (a : DartId) × (b : DartId) × IsBetween w v d m p q a b × FitsBreak w f d m a b kept fresh x
FitsFaces v w f (unites d m kept gone gone_face holes isolated) =
    (p : VertexId) × (q : VertexId) × (a : DartId) × (b : DartId) × IsBetween w v d m p q a b × (FitsUnite f d m kept gone gone_face holes isolated ⊎ FitsUnite f m d kept gone gone_face holes isolated)
FitsFaces v w f (cleared face) = (w ≡ no_rows) × (face ≡ first_or f.faces)
FitsFaces v w f as_it_was = IsSameGraph v w
